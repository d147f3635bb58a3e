-- What is answered of a text that was fed, by its table or its refusal.
use Rattle.std.proofs.Common.{sym, subst, Err}
use Rattle.species_reading.specs.Answers.{Answers}
use Rattle.species_reading.proofs.ReadLemmas.{cut_refused}
use Rattle.species_reading.proofs.input.read_fed.Goals as goal

pub read_table-requires : goal.read_table-requires
read_table-requires c =
    let text = c.requires in
    (text.0, c.in-Ok.ensures text.0 text.1, text.2)

pub returns-in-Ok-clause-answers : goal.returns-in-Ok-clause-answers
returns-in-Ok-clause-answers c bytes fed = c.read_table.ensures.answers bytes (c.in-Ok.ensures bytes fed)

pub returns-in-Err-clause-answers : goal.returns-in-Err-clause-answers
returns-in-Err-clause-answers c bytes fed =
    subst (λ r. Answers bytes (Err r)) (sym c.of_cut.ensures) (cut_refused bytes c.in-Err.refusal (c.in-Err.ensures bytes fed))
