-- What `parse` answers.
use Rattle.std.specs.Prelude.{◌≡◌, ◌⊎◌, ℕ, List, Result, Ok, Err}
use Rattle.species_ast.specs.Reading.{IsAccepted, IsRefusedByText, IsRefusedByLoad, IsRefusedByGrammar}
use Rattle.species_ast.specs.declared.raw.RawUnit.{RawUnit}
use Rattle.species_parser.specs.declared.refusal.ReadRefusal.{ReadRefusal}
use Rattle.species_parser.specs.declared.refusal.ReadRefusal.TheVariants.{Lex, Load, Syntax, Memory}

-- The tree of a text that is accepted, a refusal that holds of it, or, of any text, that memory ran out.
abbrev pub Answers : List ℕ → Result RawUnit ReadRefusal → Type 0
Answers text (Ok unit) = IsAccepted text unit
Answers text (Err (Lex refusal)) = IsRefusedByText text refusal
Answers text (Err (Load place)) = IsRefusedByLoad text place
Answers text (Err (Syntax place)) = IsRefusedByGrammar text place
Answers text (Err Memory) = Unit {0}

-- this is the answer, unless memory ran out
abbrev pub IsUnlessMemory : Result RawUnit ReadRefusal → Result RawUnit ReadRefusal → Type 0
IsUnlessMemory result answer = (result ≡ answer) ⊎ (result ≡ Err Memory)
