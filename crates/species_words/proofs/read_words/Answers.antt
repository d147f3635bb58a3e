use Rattle.species_words.proofs.CommandLaws.{answer, no_answer}
use Rattle.species_words.proofs.read_words.Goals as goal

pub returns-clause-command : goal.returns-clause-command
returns-clause-command c =
    answer c.args.words.now c.in-Some.words.now _ c.ok_or.result c.command_of.result _ c.in-Some.ensures.cases.0 c.ok_or.ensures.value c.command_of.ensures

pub returns-clause-usage : goal.returns-clause-usage
returns-clause-usage c = no_answer _ c.ok_or.result (returns-clause-command c)
