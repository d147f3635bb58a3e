-- The commands that are built.
use Rattle.std.proofs.Common.{◌≡◌, ◌∙◌, ap, sym, ℕ, Bool, Option, Some, None, Result, Ok, Err, String, Global, List}
use Rattle.std.specs.Prelude.{◌↔◌, IfSome, MatchOption}
use Rattle.species_words.specs.declared.Command.{Command}
use Rattle.species_words.specs.declared.Command.TheVariants as command
use Rattle.species_words.specs.declared.Usage.{Usage}
use Rattle.species_words.specs.CommandLines.{IsCommandLine}
use Rattle.species_cli.specs.declared.command.ProgramCommand.{ProgramCommand}
use Rattle.species_cli.specs.declared.command.ProgramCommand.TheVariants as built
use Rattle.species_cli.specs.Commands.{command_for, IsLineOf, IsLawful}

-- ---- commands that are not built

abbrev pub IsNotBuilt : Command → Type 0
IsNotBuilt m = (c : ProgramCommand) → m ≡ command_for c → ⊥

pub not_built_compile : IsNotBuilt command.Compile
not_built_compile built.Arcs h = cc
not_built_compile built.Annotate h = cc

pub not_built_check : IsNotBuilt command.Check
not_built_check built.Arcs h = cc
not_built_check built.Annotate h = cc

pub not_built_run : (trace : Bool) → IsNotBuilt (command.Run trace)
not_built_run trace built.Arcs h = cc
not_built_run trace built.Annotate h = cc

pub not_built_drill : (nests from : ℕ) → IsNotBuilt (command.Drill nests from)
not_built_drill nests from built.Arcs h = cc
not_built_drill nests from built.Annotate h = cc

-- ---- words

-- the words are read as this, and as nothing else
abbrev pub IsReadAsWords : List (String Global) → Result Command Usage → Type 0
IsReadAsWords words r = (m : Command) → (r ≡ Ok m) ↔ IsCommandLine words m

-- this is the built command, if it is any
abbrev pub IsBuiltAs : Command → Option ProgramCommand → Type 0
IsBuiltAs m found = MatchOption found (IsNotBuilt m) (λ c. m ≡ command_for c)

abbrev pub ok : Command → Result Command Usage
ok m = Ok m

abbrev pub error : Usage → Result Command Usage
error e = Err e

same_command : (a b : Command) → ok a ≡ ok b → a ≡ b
same_command a b h = cc

error_is_no_command : (e : Usage) (m : Command) → error e ≡ ok m → ⊥
error_is_no_command e m h = cc

-- words that are a command line are one of its command
pub asks_line : (words : List (String Global)) (r : Result Command Usage) (m : Command) (found : Option ProgramCommand) → IsReadAsWords words r → r ≡ ok m → IsBuiltAs m found
    → IfSome found (IsLineOf words)
asks_line words r m None read is b = tt
asks_line words r m (Some c) read is b = (read (command_for c)).0 (is ∙ ap ok b)

-- they are lawful where that is built
pub asks : (words : List (String Global)) (r : Result Command Usage) (m : Command) (found : Option ProgramCommand) → IsReadAsWords words r → r ≡ ok m → IsBuiltAs m found
    → MatchOption found (IsLawful words → ⊥) (λ c. IsLawful words)
asks words r m None read is b = λ lawful. b lawful.0 (same_command m (command_for lawful.0) (sym is ∙ (read (command_for lawful.0)).1 lawful.1))
asks words r m (Some c) read is b = (c, (read (command_for c)).0 (is ∙ ap ok b))

-- words that are no command line are not lawful
pub asks_nothing : (words : List (String Global)) (r : Result Command Usage) (e : Usage) → IsReadAsWords words r → r ≡ error e → IsLawful words → ⊥
asks_nothing words r e read is lawful = error_is_no_command e (command_for lawful.0) (sym is ∙ (read (command_for lawful.0)).1 lawful.1)
