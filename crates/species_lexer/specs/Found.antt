-- Where the scan of a text stops, and what it answers there.
use Rattle.std.specs.Prelude.{◌≡◌, ◌≤◌, ℕ, Bool, false, bytes_eq, if◌then◌else◌, List, length, drop, option_map, Option, Some, None, IfSome, Result, Ok, Err}
use Rattle.species_ast.specs.Text.Stream.{put, finished, refused, head_behind, named}
use Rattle.species_ast.specs.declared.tree.Value.{Value}
use Rattle.species_ast.specs.declared.token.TokenKind.{TokenKind}
use Rattle.species_ast.specs.declared.token.TokenKind.TheVariants as kind
use Rattle.species_ast.specs.declared.token.LexRefusal.{LexRefusal}
use Rattle.species_lexer.specs.declared.piece.Piece.{Piece}
use Rattle.species_lexer.specs.declared.piece.Piece.TheVariants as piece
use Rattle.species_lexer.specs.declared.scan.Stop.{Stop}
use Rattle.species_lexer.specs.declared.scan.Step.{Step}
use Rattle.species_lexer.specs.Pieces.{seen_piece, piece_at, Fits}
use Rattle.species_lexer.specs.Cursor.{before_at, stream_at, IsAt, DefinedBefore}
use Rattle.species_lexer.specs.Tokens.{seen_token}

abbrev pub space_in : Option Piece → ℕ
space_in (Some (piece.Space n)) = n
space_in _ = 0

abbrev pub length_in : Option Piece → ℕ
length_in (Some (piece.Space n)) = n
length_in (Some (piece.Lexeme n text kind)) = n
length_in (Some (piece.Define n name value)) = n
length_in _ = 0

-- the literal that a piece gives a name
abbrev pub definition_in : Option Piece → List ℕ → Option Value
definition_in (Some (piece.Define n defined (Ok value))) name = if bytes_eq defined.now name then Some value else None
definition_in _ name = None

abbrev pub head_after : Option Piece → Bool → List ℕ → Bool
head_after (Some (piece.Space n)) is_head bytes = head_behind is_head bytes
head_after _ is_head bytes = false

-- the kind of a token, where its text has this literal
abbrev pub kind_of : Option Value → TokenKind → TokenKind
kind_of literal kind.Name = named literal
kind_of literal k = k

-- no blank, comment or skipped directive
abbrev pub IsSolid : Option Piece → Type 0
IsSolid (Some (piece.Space n)) = ⊥
IsSolid _ = Unit {0}

-- a place behind some blanks and comments, which change nothing of the definitions and the tokens to come
pub record Passes (text : List ℕ) (start : ℕ) (at : ℕ) (is_head : Bool) : Type 0 where
  pub forward : start ≤ at
  pub within : at ≤ length text
  pub reached : IsAt text at is_head
  pub definitions : (before_at text at).definitions ≡ (before_at text start).definitions
  pub same : stream_at text at ≡ stream_at text start

-- a stop behind some blanks and comments
pub record StopsAt (text : List ℕ) (start : ℕ) (stop : Stop) : Type 0 where
  pub passes : Passes text start stop.at stop.is_head
  pub piece : option_map seen_piece stop.piece ≡ piece_at stop.is_head (drop stop.at text)
  pub fits : IfSome stop.piece (λ p. Fits p (drop stop.at text))
  pub solid : IsSolid stop.piece

-- the next token and the places behind it and behind the last definition, or the end, or the refusal
abbrev pub AnswersAt : List ℕ → ℕ → Result (Option Step) LexRefusal → Type 0
AnswersAt text at (Ok (Some x)) = (x.at ≤ length text) × IsAt text x.at false × DefinedBefore text x.defined x.at × (stream_at text at ≡ put (seen_token x.token) (stream_at text x.at))
AnswersAt text at (Ok None) = stream_at text at ≡ finished
AnswersAt text at (Err r) = stream_at text at ≡ refused r
