-- What the functions that cut a text in pieces answer.
use Rattle.std.specs.Prelude.{◌≡◌, ◌≤◌, ◌<◌, ℕ, ◌+◌, List, length, Some, None, Result, Ok, Err}
use Rattle.std.specs.Global.{Vec}
use Rattle.species_ast.specs.declared.tree.Value.{Value}
use Rattle.species_ast.specs.Text.Pieces.{Piece}
use Rattle.species_ast.specs.Text.Stream.{Definition, finished, stream_of}
use Rattle.species_lexer.specs.declared.refusal.CutRefusal.{CutRefusal}
use Rattle.species_lexer.specs.declared.refusal.CutRefusal.TheVariants.{Lex, Memory}
use Rattle.species_lexer.specs.Entries.{Table}
use Rattle.species_lexer.specs.Fed.{CutPart, cut_size, refusal_at, past, put_all, with_rest}

-- the definition that an entry of the table of names is
abbrev pub definition_of : Vec ℕ × Value → Definition
definition_of e = record { name = e.0.items; literal = e.1 }

-- the piece was cut, and has this many bytes; or it is a refusal, or memory ran out, and nothing changed
abbrev pub Adds : Result ℕ CutRefusal → CutPart → CutPart → List ℕ → Piece → Type 0
Adds (Ok n) old new bytes p = (0 < n) × (n ≤ length bytes) × (n ≡ cut_size p) × (new ≡ past old bytes p)
Adds (Err (Lex r)) old new bytes p = (refusal_at old.place p ≡ Some r) × (new ≡ old)
Adds (Err Memory) old new bytes p = new ≡ old

-- all bytes were cut, or the refusal among them was found, or memory ran out
abbrev pub CutsAll : Result (Unit {0}) CutRefusal → CutPart → CutPart → List ℕ → Type 0
CutsAll (Ok _) old new bytes = (with_rest old bytes ≡ put_all new.tokens finished) × (new.place ≡ old.place + length bytes)
CutsAll (Err (Lex r)) old new bytes = (with_rest old bytes).refusal ≡ Some r
CutsAll (Err Memory) old new bytes = Unit {0}

-- the text has no refusal, and the table has its tokens and its length
abbrev pub IsTableOf : Table → List ℕ → Type 0
IsTableOf table text = (stream_of text ≡ record { tokens = table.tokens; refusal = None }) × (table.length ≡ length text)

-- The table of a text that has no refusal, and else that refusal; unless memory ran out.
abbrev pub GivesTable : Result Table CutRefusal → List ℕ → Type 0
GivesTable (Ok table) text = IsTableOf table text
GivesTable (Err (Lex r)) text = (stream_of text).refusal ≡ Some r
GivesTable (Err Memory) text = Unit {0}
