-- A text that comes in pieces: what of it was cut, and the bytes that are left.
use Rattle.std.specs.Prelude.{◌≡◌, ℕ, ◌+◌, ◌-◌, Bool, false, List, [], ◌∷◌, ◌++◌, length, take, Option, Some, None}
use Rattle.species_ast.specs.Limits.{most_bytes}
use Rattle.species_ast.specs.Token.{Token}
use Rattle.species_ast.specs.Text.Pieces.{Piece, Space, Lexeme, Refused}
use Rattle.species_ast.specs.Text.Stream.{TokenStream, Definition, defined_by, moved, head_behind, cut_at, stream_of}
use Rattle.species_ast.specs.declared.token.LexRefusal.{LexRefusal}

-- The tokens and the definitions of the bytes that were cut, how many bytes these are, and whether only blanks and
-- comments stand on the line behind the last line feed among them.
pub record CutPart : Type 0 where
  pub tokens : List Token
  pub definitions : List Definition
  pub place : ℕ
  pub is_head : Bool

-- how many bytes a piece has, and 0 for what is cut no further
abbrev pub cut_size : Piece → ℕ
cut_size (Space n) = n
cut_size (Lexeme n text k) = n
cut_size _ = 0

-- the refusal that a piece is at this place
abbrev pub refusal_at : ℕ → Piece → Option LexRefusal
refusal_at place (Refused r) = Some (moved place r)
refusal_at place _ = None

-- one piece more was cut, which stands at the front of these bytes
abbrev pub past : CutPart → List ℕ → Piece → CutPart
past c bytes (Space n) = record c { place = c.place + n; is_head = head_behind c.is_head (take n bytes) }
past c bytes (Lexeme n text k) =
    record {
      tokens = c.tokens ++ (record { place = c.place; text = text; kind = k } ∷ []);
      definitions = defined_by text k c.definitions;
      place = c.place + n;
      is_head = false;
    }
past c bytes _ = c

-- these tokens before those of a stream
abbrev pub put_all : List Token → TokenStream → TokenStream
put_all ts s = record { tokens = ts ++ s.tokens; refusal = s.refusal }

-- the tokens of a whole text, of which this was cut and these bytes are left
abbrev pub with_rest : CutPart → List ℕ → TokenStream
with_rest c bytes = put_all c.tokens (cut_at (length bytes) c.place c.is_head c.definitions bytes)

-- what was cut, and the bytes behind it
pub record Fed : Type 0 where
  pub cut : CutPart
  pub left : List ℕ

-- These are the bytes that came: whatever comes behind them, the tokens of the whole are those that were cut, and those
-- of the bytes that are left and of what comes.
pub record IsFed (fed : Fed) (bytes : List ℕ) : Type 0 where
  pub counted : length bytes ≡ fed.cut.place + length fed.left
  pub same : (more : List ℕ) → stream_of (bytes ++ more) ≡ with_rest fed.cut (fed.left ++ more)

-- how many bytes more may come
abbrev pub room : Fed → ℕ
room fed = most_bytes - (fed.cut.place + length fed.left)
