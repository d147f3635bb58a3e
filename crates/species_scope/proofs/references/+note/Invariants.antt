-- What is found before a place in a list of statements.
use Rattle.std.proofs.Common.{◌≡◌, true, map, take}
use Rattle.std.specs.List.{flat_map}
use Rattle.species_ast.specs.Scope.Loops.{no_loops, outermost_in}
use Rattle.species_ast.specs.Scope.WellMade.{made, list_keeps}
use Rattle.species_names.specs.Kept.{kept}
use Rattle.species_scope.specs.Referenced.{large_in}
use Rattle.species_scope.proofs.references.+note.Given as goal

abbrev pub invariant-note_list-loop-stmt : goal.invariant-note_list-loop-stmt
invariant-note_list-loop-stmt l =
    list_keeps (map made (take l.stmt-index l.all)) no_loops ≡ true → l.found ≡ kept l.initial.found (large_in (flat_map outermost_in (take l.stmt-index l.all)))
