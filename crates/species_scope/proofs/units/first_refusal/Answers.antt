-- The refusal of names, or of what follows.
use Rattle.std.proofs.Common.{◌∙◌, sym, ap}
use Rattle.std.specs.Option.{option_map}
use Rattle.species_ast.specs.Scope.Programs.{program_of}
use Rattle.species_names.specs.Refused.{finding_seen}
use Rattle.species_scope.specs.declared.units.Built.{Built}
use Rattle.species_scope.proofs.WholeLaws.{of_names, by_names, behind_names}
use Rattle.species_scope.proofs.units.first_refusal.Goals as goal

pub returns-in-Some : goal.returns-in-Some
returns-in-Some c u h =
    by_names (program_of u) (finding_seen c.in-Some.first)
    (sym (of_names u) ∙ ap (λ (b : Built). b.found) (sym h) ∙ sym c.first.ensures ∙ ap (option_map finding_seen) c.in-Some.is)

pub returns-in_ok-found-in-None : goal.returns-in_ok-found-in-None
returns-in_ok-found-in-None c u h =
    behind_names (program_of u) (option_map finding_seen c.in_ok-found-in-None.found)
    (sym (of_names u) ∙ ap (λ (b : Built). b.found) (sym h) ∙ sym c.first.ensures ∙ ap (option_map finding_seen) c.in-None.is)
    (c.in_ok-found-in-None.ensures u h)
