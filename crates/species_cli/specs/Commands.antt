-- The command lines of the commands that are built.
use Rattle.std.specs.Prelude.{List, String}
use Rattle.std.specs.declared.alloc.Global.{Global}
use Rattle.species_words.specs.CommandLines.{IsCommandLine}
use Rattle.species_words.specs.declared.Command.{Command}
use Rattle.species_words.specs.declared.Command.TheVariants as command
use Rattle.species_cli.specs.declared.command.ProgramCommand.{ProgramCommand}
use Rattle.species_cli.specs.declared.command.ProgramCommand.TheVariants as built

abbrev pub command_for : ProgramCommand → Command
command_for built.Arcs = command.Arcs
command_for built.Annotate = command.Annotate

-- The words are a lawful command line of this command.
abbrev pub IsLineOf : List (String Global) → ProgramCommand → Type 0
IsLineOf words c = IsCommandLine words (command_for c)

-- They are one of some command that is built.
abbrev pub IsLawful : List (String Global) → Type 0
IsLawful words = (c : ProgramCommand) × IsLineOf words c
