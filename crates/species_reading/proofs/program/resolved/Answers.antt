-- What is answered of a tree holds of each text that has it.
use Rattle.std.proofs.Common.{sym, subst, Err}
use Rattle.species_reading.specs.Answers.{Answers}
use Rattle.species_reading.proofs.ReadLemmas.{scope_refused}
use Rattle.species_reading.proofs.program.resolved.Goals as goal

pub returns-in-Ok-clause-answers : goal.returns-in-Ok-clause-answers
returns-in-Ok-clause-answers c text a = (c.args.raw.now, a, c.in-Ok.ensures.answers)

pub returns-in-Err-clause-answers : goal.returns-in-Err-clause-answers
returns-in-Err-clause-answers c text a =
    subst (λ r. Answers text (Err r)) (sym c.of_scope.ensures) (scope_refused text c.args.raw.now c.in-Err.refusal a c.in-Err.ensures.answers)
