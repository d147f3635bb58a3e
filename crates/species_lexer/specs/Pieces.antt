-- Pieces as the definitions of the text have them.
use Rattle.std.specs.Prelude.{◌≤◌, ◌<◌, ℕ, Bool, List, [], ◌∷◌, length, Option, Some, None, Result, Ok, Err}
use Rattle.species_ast.specs.Text.Pieces as text
use Rattle.species_ast.specs.declared.tree.Value.{Value}
use Rattle.species_ast.specs.declared.token.LexRefusal.{LexRefusal}
use Rattle.species_lexer.specs.declared.fault.Fault.{Fault}
use Rattle.species_lexer.specs.declared.piece.Piece.{Piece}
use Rattle.species_lexer.specs.declared.piece.Piece.TheVariants as piece

abbrev pub seen_value : Result Value Fault → Result Value LexRefusal
seen_value (Ok v) = Ok v
seen_value (Err fault) = Err fault.refusal

abbrev pub seen_piece : Piece → text.Piece
seen_piece (piece.Space n) = text.Space n
seen_piece (piece.Lexeme n bytes kind) = text.Lexeme n bytes.now kind
seen_piece (piece.Define n name value) = text.Define n name.now (seen_value value)
seen_piece (piece.Refused fault) = text.Refused fault.refusal

-- the piece at the front, if there are any bytes
abbrev pub piece_at : Bool → List ℕ → Option text.Piece
piece_at is_head [] = None
piece_at is_head (b ∷ bytes) = Some (text.piece_of is_head b bytes)

-- a piece has a byte at least, and no more than there are
abbrev pub Fits : Piece → List ℕ → Type 0
Fits (piece.Space n) bytes = (0 < n) × (n ≤ length bytes)
Fits (piece.Lexeme n text kind) bytes = (0 < n) × (n ≤ length bytes)
Fits (piece.Define n name value) bytes = (0 < n) × (n ≤ length bytes)
Fits (piece.Refused fault) bytes = Unit {0}
