use Rattle.std.proofs.Common.{refl}
use Rattle.species_cli.proofs.CommandLemmas.{asks_line, asks, asks_nothing}
use Rattle.species_cli.proofs.command.asked.Goals as goal

pub returns-in-Ok-clause-line : goal.returns-in-Ok-clause-line
returns-in-Ok-clause-line c = asks_line c.args.words.now _ c.in-Ok.command c.built.result c.in-Ok.ensures.command refl c.built.ensures

pub returns-in-Ok-clause-lawful : goal.returns-in-Ok-clause-lawful
returns-in-Ok-clause-lawful c = asks c.args.words.now _ c.in-Ok.command c.built.result c.in-Ok.ensures.command refl c.built.ensures

pub returns-in-Err-clause-lawful : goal.returns-in-Err-clause-lawful
returns-in-Err-clause-lawful c = asks_nothing c.args.words.now _ _ c.in-Err.ensures.command refl
