-- What the words ask for, read one after the other.
use Rattle.std.specs.Prelude.{ℕ, suc, true, false, ◌&&◌, if◌then◌else◌, List, [], ◌∷◌, codes, bytes_eq, Option, Some, None}
use Rattle.species_decimal.specs.Number.{number_of}
use Rattle.species_words.specs.declared.Command.{Command}
use Rattle.species_words.specs.declared.Command.TheVariants as command

-- the command, if no word is left
abbrev pub last : Command → List (List ℕ) → Option Command
last c [] = Some c
last c (word ∷ words) = None

abbrev pub run : List (List ℕ) → Option Command
run [] = Some (command.Run false)
run (word ∷ words) = if bytes_eq word (codes "--trace") then last (command.Run true) words else None

abbrev pub counted : Option ℕ → Option ℕ → Option Command
counted (Some (suc n)) (Some from) = Some (command.Drill (suc n) from)
counted _ _ = None

abbrev pub numbered : List ℕ → List ℕ → Option Command
numbered nests from = counted (number_of 10000 nests) (number_of 4294967295 from)

-- the two names, each with the word behind it
abbrev pub settings : List ℕ → List ℕ → List ℕ → List ℕ → Option Command
settings first a second b =
    if bytes_eq first (codes "--nests") && bytes_eq second (codes "--from") then numbered a b
    else if bytes_eq first (codes "--from") && bytes_eq second (codes "--nests") then numbered b a
    else None

abbrev pub drill : List (List ℕ) → Option Command
drill (first ∷ a ∷ second ∷ b ∷ []) = settings first a second b
drill _ = None

abbrev pub command_of : List (List ℕ) → Option Command
command_of [] = None
command_of (word ∷ words) =
    if bytes_eq word (codes "arcs") then last command.Arcs words
    else if bytes_eq word (codes "annotate") then last command.Annotate words
    else if bytes_eq word (codes "compile") then last command.Compile words
    else if bytes_eq word (codes "check") then last command.Check words
    else if bytes_eq word (codes "run") then run words
    else if bytes_eq word (codes "drill") then drill words
    else None
