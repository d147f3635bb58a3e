-- What the program answers: for its words, the bytes that its input gave and its faults, a status, the text on its output and the
-- line on its notes.
use Rattle.std.specs.Prelude.{◌≡◌, ℕ, ◌≤◌, ◌<◌, List, [], Option, Some, Err, length, codes, String}
use Rattle.std.specs.declared.alloc.Global.{Global}
use Rattle.species_ast.specs.Limits.{most_bytes}
use Rattle.species_ast.specs.declared.tree.Unit.{Unit as Program}
use Rattle.species_io.specs.Told.{before, then_bytes, TookPart}
use Rattle.species_reading.specs.Answers.{Answers}
use Rattle.species_reading.specs.declared.refusal.ProgramRefusal.{ProgramRefusal}
use Rattle.species_reading.specs.declared.refusal.InputRefusal.{InputRefusal}
use Rattle.species_reading.specs.declared.refusal.InputRefusal.TheVariants as input
use Rattle.species_cli.specs.declared.command.ProgramCommand.{ProgramCommand}
use Rattle.species_cli.specs.Commands.{IsLineOf, IsLawful}
use Rattle.species_cli.specs.Statuses.{status_answered, status_refused, status_usage, status_read_fault}
use Rattle.species_cli.specs.Refusals.{refusal_line, too_long_line}
use Rattle.species_cli.specs.Texts.{IsProgram, IsTextOf}

-- ---- lines

abbrev pub usage_line : List ℕ
usage_line = codes "usage: species arcs|annotate|compile|check|run [--trace]|drill --nests N --from F\n"

abbrev pub read_fault_line : List ℕ
read_fault_line = codes "read fault\n"

-- ---- the bytes

-- They are refused, with this line.
pub record IsRefused (bytes line : List ℕ) : Type 0 where
  pub short : length bytes ≤ most_bytes
  pub refusal : ProgramRefusal
  pub holds : Answers bytes (Err refusal)
  pub said : refusal_line refusal ≡ Some line

-- ---- the answer

-- With these words and input bytes this status has this text on the output and this line on the notes; `rose` says that the
-- input's count of faults rose.
pub data IsAnswer (words : List (String Global)) (rose : Type 0) (bytes : List ℕ) : ℕ → List ℕ → List ℕ → Type 0 where
  usage : (IsLawful words → ⊥) → IsAnswer words rose bytes status_usage [] usage_line
  read_fault : IsLawful words → rose → IsAnswer words rose bytes status_read_fault [] read_fault_line
  too_long : IsLawful words → most_bytes < length bytes → IsAnswer words rose bytes status_refused [] too_long_line
  refused : IsLawful words → (line : List ℕ) → IsRefused bytes line → IsAnswer words rose bytes status_refused [] line
  answered : (c : ProgramCommand) → IsLineOf words c → (program : Program) (text : List ℕ) → IsProgram bytes program → IsTextOf c program text
      → IsAnswer words rose bytes status_answered text []

-- ---- what came and went

-- These bytes came from an input that had and has what it tells.
abbrev pub Gave : List ℕ → Option (List ℕ) → Option (List ℕ) → Type 0
Gave bytes had left = had ≡ before bytes left

-- what the output and the notes have taken, where they tell it
pub record Sunk : Type 0 where
  pub output : Option (List ℕ)
  pub notes : Option (List ℕ)

abbrev pub sunk : Option (List ℕ) → Option (List ℕ) → Sunk
sunk output notes = record { output = output; notes = notes }

-- The sinks took exactly the text and the line of the status.
pub record IsAnswered (words : List (String Global)) (rose : Type 0) (bytes : List ℕ) (status : ℕ) (old new : Sunk) : Type 0 where
  pub text : List ℕ
  pub line : List ℕ
  pub answer : IsAnswer words rose bytes status text line
  pub output : new.output ≡ then_bytes old.output text
  pub notes : new.notes ≡ then_bytes old.notes line

-- The output took the first bytes of the text of an answer, and not all.
pub record IsCutText (words : List (String Global)) (rose : Type 0) (bytes : List ℕ) (old new : Option (List ℕ)) : Type 0 where
  pub status : ℕ
  pub text : List ℕ
  pub line : List ℕ
  pub answer : IsAnswer words rose bytes status text line
  pub part : TookPart old new text

-- So did the notes of the line of an answer.
pub record IsCutLine (words : List (String Global)) (rose : Type 0) (bytes : List ℕ) (old new : Option (List ℕ)) : Type 0 where
  pub status : ℕ
  pub text : List ℕ
  pub line : List ℕ
  pub answer : IsAnswer words rose bytes status text line
  pub part : TookPart old new line

-- The status and the line of an input that is not read. Want of memory has none.
pub data IsSaid : InputRefusal → ℕ → List ℕ → Type 0 where
  too_long : IsSaid input.TooLong status_refused too_long_line
  read_fault : IsSaid input.ReadFault status_read_fault read_fault_line
  program : (refusal : ProgramRefusal) (line : List ℕ) → refusal_line refusal ≡ Some line → IsSaid (input.Program refusal) status_refused line
