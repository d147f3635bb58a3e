-- What is answered of a source.
use Rattle.std.specs.Prelude.{◌≡◌, ◌≤◌, ◌<◌, ◌⊎◌, ℕ, List, length, Option, Result, Ok, Err}
use Rattle.species_ast.specs.Limits.{most_bytes}
use Rattle.species_ast.specs.declared.tree.Unit.{Unit as Program}
use Rattle.species_io.specs.Told.{before, AtEnd}
use Rattle.species_lexer.specs.Cut.{IsTableOf}
use Rattle.species_lexer.specs.Entries.{Table}
use Rattle.species_lexer.specs.Fed.{Fed, IsFed}
use Rattle.species_reading.specs.Answers.{Answers}
use Rattle.species_reading.specs.declared.refusal.ProgramRefusal.{ProgramRefusal}
use Rattle.species_reading.specs.declared.refusal.ProgramRefusal.TheVariants as program
use Rattle.species_reading.specs.declared.refusal.InputRefusal.{InputRefusal}
use Rattle.species_reading.specs.declared.refusal.InputRefusal.TheVariants as input

-- the table of a text that is not too long
abbrev pub IsOfText : Table → Type 0
IsOfText table = (bytes : List ℕ) × IsTableOf table bytes × (length bytes ≤ most_bytes)

-- a text that is not too long was fed
abbrev pub IsFedText : Fed → Type 0
IsFedText fed = (bytes : List ℕ) × IsFed fed bytes × (length bytes ≤ most_bytes)

-- what is answered of a program, as an answer of a source
abbrev pub refusal_in_input : ProgramRefusal → InputRefusal
refusal_in_input (program.Read r) = input.Program (program.Read r)
refusal_in_input (program.Scope r) = input.Program (program.Scope r)
refusal_in_input program.Memory = input.Memory

abbrev pub in_input : Result Program ProgramRefusal → Result Program InputRefusal
in_input (Ok unit) = Ok unit
in_input (Err r) = Err (refusal_in_input r)

-- the answer speaks of a program
abbrev pub IsOfProgram : Result Program InputRefusal → Type 0
IsOfProgram (Ok unit) = Unit {0}
IsOfProgram (Err (input.Program r)) = Unit {0}
IsOfProgram (Err input.TooLong) = ⊥
IsOfProgram (Err input.ReadFault) = ⊥
IsOfProgram (Err input.Memory) = ⊥

-- A source that had and has these bytes gave all of them, no more than a program may have, and this is the answer of them.
pub record WasRead (had left : Option (List ℕ)) (result : Result Program InputRefusal) : Type 0 where
  pub bytes : List ℕ
  pub given : had ≡ before bytes left
  pub whole : AtEnd left
  pub short : length bytes ≤ most_bytes
  pub answer : Result Program ProgramRefusal
  pub holds : Answers bytes answer
  pub said : result ≡ in_input answer

-- each answer is true of these bytes
abbrev pub InputAnswers : List ℕ → Result Program InputRefusal → Type 0
InputAnswers bytes (Ok unit) = (length bytes ≤ most_bytes) × Answers bytes (Ok unit)
InputAnswers bytes (Err (input.Program program.Memory)) = ⊥
InputAnswers bytes (Err (input.Program (program.Read r))) = (length bytes ≤ most_bytes) × Answers bytes (Err (program.Read r))
InputAnswers bytes (Err (input.Program (program.Scope r))) = (length bytes ≤ most_bytes) × Answers bytes (Err (program.Scope r))
InputAnswers bytes (Err input.TooLong) = most_bytes < length bytes
InputAnswers bytes (Err input.ReadFault) = Unit {0}
InputAnswers bytes (Err input.Memory) = Unit {0}

abbrev pub IsStopped : Result Program InputRefusal → Type 0
IsStopped result = (result ≡ Err input.ReadFault) ⊎ (result ≡ Err input.Memory)

-- What is answered of the program is this, unless a read failed or memory ran out.
abbrev pub IsUnlessStopped : Result Program InputRefusal → Result Program ProgramRefusal → Type 0
IsUnlessStopped result (Ok unit) = (result ≡ Ok unit) ⊎ IsStopped result
IsUnlessStopped result (Err (program.Read r)) = (result ≡ Err (input.Program (program.Read r))) ⊎ IsStopped result
IsUnlessStopped result (Err (program.Scope r)) = (result ≡ Err (input.Program (program.Scope r))) ⊎ IsStopped result
IsUnlessStopped result (Err program.Memory) = Unit {0}
