-- What is answered of a text, by its tree or its refusal.
use Rattle.std.proofs.Common.{sym, subst, Err}
use Rattle.species_reading.specs.Answers.{Answers}
use Rattle.species_reading.proofs.ReadLemmas.{is_written, text_refused}
use Rattle.species_reading.proofs.program.read.Goals as goal

pub resolved-requires : goal.resolved-requires
resolved-requires c = is_written c.args.bytes.now c.in-Ok.raw c.requires c.in-Ok.ensures.answers

pub returns-in-Ok-clause-answers : goal.returns-in-Ok-clause-answers
returns-in-Ok-clause-answers c = c.resolved.ensures.answers c.args.bytes.now c.in-Ok.ensures.answers

pub returns-in-Err-clause-answers : goal.returns-in-Err-clause-answers
returns-in-Err-clause-answers c =
    subst (λ r. Answers c.args.bytes.now (Err r)) (sym c.of_text.ensures) (text_refused c.args.bytes.now c.in-Err.refusal c.in-Err.ensures.answers)
