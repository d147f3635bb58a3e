-- What `read_program` answers.
use Rattle.std.specs.Prelude.{◌≡◌, ◌⊎◌, ℕ, List, Option, Some, None, Result, Ok, Err}
use Rattle.species_ast.specs.declared.tree.Unit.{Unit as Program}
use Rattle.species_ast.specs.declared.raw.RawUnit.{RawUnit}
use Rattle.species_ast.specs.Reading.{IsAccepted, IsRefusedByText, IsRefusedByLoad, IsRefusedByGrammar}
use Rattle.species_ast.specs.Scope.Refusals.{Finding}
use Rattle.species_ast.specs.Scope.Conditions.{resolved}
use Rattle.species_parser.specs.declared.refusal.ReadRefusal.{ReadRefusal}
use Rattle.species_parser.specs.declared.refusal.ReadRefusal.TheVariants as read
use Rattle.species_scope.specs.declared.refusal.ScopeRefusal.{ScopeRefusal}
use Rattle.species_scope.specs.Answers.{finding_of}
use Rattle.species_reading.specs.declared.refusal.ProgramRefusal.{ProgramRefusal}
use Rattle.species_reading.specs.declared.refusal.ProgramRefusal.TheVariants.{Read, Scope, Memory}

-- the text is refused, before any name is looked at
abbrev pub IsUnread : List ℕ → ReadRefusal → Type 0
IsUnread text (read.Lex refusal) = IsRefusedByText text refusal
IsUnread text (read.Load place) = IsRefusedByLoad text place
IsUnread text (read.Syntax place) = IsRefusedByGrammar text place
IsUnread text read.Memory = ⊥

-- the text has a tree, and this is the answer of that
abbrev pub IsResolved : List ℕ → Result Program Finding → Type 0
IsResolved text answer = (u : RawUnit) × IsAccepted text u × (resolved u ≡ answer)

-- the tree of the text is refused so
abbrev pub IsOutOfScope : List ℕ → Option Finding → Type 0
IsOutOfScope text (Some f) = IsResolved text (Err f)
IsOutOfScope text None = ⊥

-- The unit of a lawful program, a refusal that holds of the text, or, of any text, that memory ran out.
abbrev pub Answers : List ℕ → Result Program ProgramRefusal → Type 0
Answers text (Ok unit) = IsResolved text (Ok unit)
Answers text (Err (Read refusal)) = IsUnread text refusal
Answers text (Err (Scope refusal)) = IsOutOfScope text (finding_of refusal)
Answers text (Err Memory) = Unit {0}

-- This is the answer, unless memory ran out, which is said of any text.
abbrev pub IsUnlessMemory : Result Program ProgramRefusal → Result Program ProgramRefusal → Type 0
IsUnlessMemory result (Ok unit) = (result ≡ Ok unit) ⊎ (result ≡ Err Memory)
IsUnlessMemory result (Err (Read refusal)) = (result ≡ Err (Read refusal)) ⊎ (result ≡ Err Memory)
IsUnlessMemory result (Err (Scope refusal)) = (result ≡ Err (Scope refusal)) ⊎ (result ≡ Err Memory)
IsUnlessMemory result (Err Memory) = Unit {0}
