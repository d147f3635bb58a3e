-- The refusal of limits and marks, or of references.
use Rattle.std.proofs.Common.{◌≡◌, ◌∙◌, sym, ap, None}
use Rattle.std.specs.Option.{option_map}
use Rattle.species_ast.specs.Scope.Conditions.{refused_limits, refused_references}
use Rattle.species_ast.specs.Scope.Programs.{program_of}
use Rattle.species_ast.specs.Scope.Refusals.{first_in}
use Rattle.species_names.specs.Refused.{finding_seen}
use Rattle.species_scope.specs.declared.units.Built.{Built}
use Rattle.species_scope.proofs.WholeLaws.{built_of, built_keeps, by_limits, by_references}
use Rattle.species_scope.proofs.units.refusal_of_unit.Goals as goal

pub returns-in-Some : goal.returns-in-Some
returns-in-Some c u h =
    let built = built_of u c.args.built.now c.as_slice.result.now h c.as_slice.ensures in
    by_limits (program_of u) (finding_seen c.in-Some.first) (sym (c.in_ok-first.ensures (program_of u) built) ∙ ap (option_map finding_seen) c.in-Some.is)

pub returns-in_ok-found-in-None : goal.returns-in_ok-found-in-None
returns-in_ok-found-in-None c u h =
    let built = built_of u c.args.built.now c.as_slice.result.now h c.as_slice.ensures in
    let none : first_in (refused_limits (program_of u)) ≡ None = sym (c.in_ok-first.ensures (program_of u) built) ∙ ap (option_map finding_seen) c.in-None.is in
    by_references (program_of u) (option_map finding_seen c.in_ok-found-in-None.found) none
    (c.in_ok-found-in-None.ensures (built_keeps u c.args.built.now h none) ∙ ap (λ (b : Built). first_in (refused_references b.unit)) h)
