-- The references of the loops of a unit.
use Rattle.std.proofs.Common.{◌≡◌, ◌∙◌, subst, map, true}
use Rattle.std.specs.List.{flat_map}
use Rattle.species_ast.specs.Scope.Loops.{no_loops, outermost_in}
use Rattle.species_ast.specs.Scope.WellMade.{made, list_keeps}
use Rattle.species_names.specs.Kept.{kept}
use Rattle.species_scope.specs.Referenced.{large_in}
use Rattle.species_scope.proofs.LargeLemmas.{all_large}
use Rattle.species_scope.proofs.references.note_references.Goals as goal

pub returns : goal.returns
returns c k =
    subst (λ b. list_keeps (map made b) no_loops ≡ true → c.note_list.new.found ≡ kept c.args.found.now (large_in (flat_map outermost_in b))) c.as_slice.ensures c.in_ok-note_list.ensures k
    ∙ all_large c.args.unit.now c.args.found.now
