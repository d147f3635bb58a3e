use Rattle.std.proofs.Common.{sym, subst}
use Rattle.species_cli.proofs.CommandLemmas.{IsNotBuilt, not_built_compile, not_built_check, not_built_run, not_built_drill}
use Rattle.species_cli.proofs.command.built.Goals as goal

pub returns-in-Compile : goal.returns-in-Compile
returns-in-Compile c = subst IsNotBuilt (sym c.in-Compile.is) not_built_compile

pub returns-in-Check : goal.returns-in-Check
returns-in-Check c = subst IsNotBuilt (sym c.in-Check.is) not_built_check

pub returns-in-Run : goal.returns-in-Run
returns-in-Run c = subst IsNotBuilt (sym c.in-Run.is) (not_built_run _)

pub returns-in-Drill : goal.returns-in-Drill
returns-in-Drill c = subst IsNotBuilt (sym c.in-Drill.is) (not_built_drill _ _)
