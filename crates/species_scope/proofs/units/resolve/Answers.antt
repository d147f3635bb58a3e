-- What is answered, by the refusal that is reported.
use Rattle.std.proofs.Common.{◌≡◌, ◌∙◌, sym, ap, subst, Some, None}
use Rattle.std.specs.Option.{option_map}
use Rattle.species_ast.specs.Scope.Conditions.{refusal_of, resolved}
use Rattle.species_ast.specs.Scope.Programs.{program_of}
use Rattle.species_lawful.specs.Walks.{taken_in}
use Rattle.species_names.specs.Refused.{finding_seen}
use Rattle.species_scope.specs.Answers.{IsRefused}
use Rattle.species_scope.specs.Whole.{whole_of}
use Rattle.species_scope.proofs.WholeLaws.{answers_refused, answers_lawful, made_well, made_small}
use Rattle.species_scope.proofs.units.resolve.Goals as goal

pub returns-in-Some-clause-answers : goal.returns-in-Some-clause-answers
returns-in-Some-clause-answers c =
    let u = c.args.raw.now in
    let whole : c.in_ok-built.built ≡ whole_of u (taken_in u) = c.in_ok-built.ensures ∙ ap (whole_of u) (c.as_slice.ensures ∙ c.in_ok-taken.ensures) in
    let refused : Some (finding_seen c.in-Some.finding) ≡ refusal_of (program_of u) = ap (option_map finding_seen) (sym c.in-Some.is) ∙ c.in_ok-finding.ensures u whole in
    subst (λ o. IsRefused o (resolved u)) (sym c.refusal_of.ensures) (answers_refused u (finding_seen c.in-Some.finding) refused)

pub returns-clause-answers : goal.returns-clause-answers
returns-clause-answers c =
    let u = c.args.raw.now in
    let whole : c.in_ok-built.built ≡ whole_of u (taken_in u) = c.in_ok-built.ensures ∙ ap (whole_of u) (c.as_slice.ensures ∙ c.in_ok-taken.ensures) in
    let none : None ≡ refusal_of (program_of u) = ap (option_map finding_seen) (sym c.in-None.is) ∙ c.in_ok-finding.ensures u whole in
    answers_lawful u c.in_ok-built.built whole none

pub returns-clause-made : goal.returns-clause-made
returns-clause-made c =
    let u = c.args.raw.now in
    let whole : c.in_ok-built.built ≡ whole_of u (taken_in u) = c.in_ok-built.ensures ∙ ap (whole_of u) (c.as_slice.ensures ∙ c.in_ok-taken.ensures) in
    let none : None ≡ refusal_of (program_of u) = ap (option_map finding_seen) (sym c.in-None.is) ∙ c.in_ok-finding.ensures u whole in
    made_well u c.in_ok-built.built c.requires whole none

pub returns-clause-size : goal.returns-clause-size
returns-clause-size c =
    let u = c.args.raw.now in
    let whole : c.in_ok-built.built ≡ whole_of u (taken_in u) = c.in_ok-built.ensures ∙ ap (whole_of u) (c.as_slice.ensures ∙ c.in_ok-taken.ensures) in
    let none : None ≡ refusal_of (program_of u) = ap (option_map finding_seen) (sym c.in-None.is) ∙ c.in_ok-finding.ensures u whole in
    made_small u c.in_ok-built.built whole none
