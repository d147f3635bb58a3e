-- The lawful command lines.
use Rattle.std.specs.Prelude.{◌≤◌, ◌<◌, ◌^◌, ℕ, true, false, List, [], ◌∷◌, map, codes, decimal, String, string_bytes}
use Rattle.std.specs.declared.alloc.Global.{Global}
use Rattle.species_words.specs.declared.Command.{Command}
use Rattle.species_words.specs.declared.Command.TheVariants as command

-- how many nests `drill` makes
abbrev pub IsNests : ℕ → Type 0
IsNests n = (1 ≤ n) × (n ≤ 10000)

-- the number from which `drill` makes them
abbrev pub IsStart : ℕ → Type 0
IsStart n = n < 2 ^ 32

-- The words behind the program's name, as they stand on a lawful command line, and the command that they ask for.
pub data Asks : List (List ℕ) → Command → Type 0 where
  arcs : Asks (codes "arcs" ∷ []) command.Arcs
  annotate : Asks (codes "annotate" ∷ []) command.Annotate
  compile : Asks (codes "compile" ∷ []) command.Compile
  check : Asks (codes "check" ∷ []) command.Check
  run : Asks (codes "run" ∷ []) (command.Run false)
  traced_run : Asks (codes "run" ∷ codes "--trace" ∷ []) (command.Run true)
  drill : (nests from : ℕ) → IsNests nests → IsStart from
      → Asks (codes "drill" ∷ codes "--nests" ∷ decimal nests ∷ codes "--from" ∷ decimal from ∷ []) (command.Drill nests from)
  drill_from : (nests from : ℕ) → IsNests nests → IsStart from
      → Asks (codes "drill" ∷ codes "--from" ∷ decimal from ∷ codes "--nests" ∷ decimal nests ∷ []) (command.Drill nests from)

-- the bytes of each word
abbrev pub texts : List (String Global) → List (List ℕ)
texts words = map string_bytes words

-- the first word is the program's name, whatever it is
abbrev pub IsCommandLine : List (String Global) → Command → Type 0
IsCommandLine [] c = ⊥
IsCommandLine (program ∷ words) c = Asks (texts words) c
