-- What is answered of a table, by its tree or its refusal.
use Rattle.std.proofs.Common.{sym, subst, Err}
use Rattle.species_parser.specs.Tabled as tabled
use Rattle.species_reading.specs.Answers.{Answers}
use Rattle.species_reading.proofs.ReadLemmas.{is_written, text_refused}
use Rattle.species_reading.proofs.input.read_table.Goals as goal

pub resolved-requires : goal.resolved-requires
resolved-requires c =
    let text = c.requires in
    is_written text.0 c.in-Ok.raw text.2 (c.in-Ok.ensures.answers text.0 text.1)

pub returns-in-Ok-clause-answers : goal.returns-in-Ok-clause-answers
returns-in-Ok-clause-answers c bytes is = c.resolved.ensures.answers bytes (c.in-Ok.ensures.answers bytes is)

pub returns-in-Err-clause-answers : goal.returns-in-Err-clause-answers
returns-in-Err-clause-answers c bytes is =
    subst (λ r. Answers bytes (Err r)) (sym c.of_table.ensures) (text_refused bytes (tabled.of_text c.in-Err.refusal) (c.in-Err.ensures.answers bytes is))
