-- A cursor in a text.
use Rattle.std.specs.Prelude.{◌≡◌, ℕ, zero, suc, ◌-◌, ◌≤◌, Bool, true, false, List, [], ◌∷◌, length, take, drop, Option, Some, None, unwrap_or, Ok, Err}
use Rattle.species_ast.specs.Limits.{most_bytes}
use Rattle.species_ast.specs.Text.Pieces.{Piece, Space, Lexeme, Define, Refused, piece_of}
use Rattle.species_ast.specs.Text.Stream.{TokenStream, Definition, head_behind, cut_at}

-- what lies before a place: whether only blanks and comments stand before it on its line, and the definitions
pub record Before : Type 0 where
  pub is_head : Bool
  pub definitions : List Definition

abbrev pub with_definition : Definition → Option Before → Option Before
with_definition d None = None
with_definition d (Some b) = Some (record b { definitions = d ∷ b.definitions })

-- what lies before a place behind a piece: `more` goes on over the bytes behind the first
abbrev pub over_piece : (ℕ → Bool → Option Before) → Bool → List ℕ → Piece → Option Before
over_piece more is_head bytes (Space n) = more (n - 1) (head_behind is_head (take n bytes))
over_piece more is_head bytes (Lexeme n text kind) = more (n - 1) false
over_piece more is_head bytes (Define n name (Ok value)) = with_definition (record { name = name; literal = value }) (more (n - 1) false)
over_piece more is_head bytes (Define n name (Err r)) = None
over_piece more is_head bytes (Refused r) = None

abbrev pub reached : ℕ → ℕ → Bool → Option Before
reached zero zero is_head = Some (record { is_head = is_head; definitions = [] })
reached _ _ is_head = None

-- What lies before the byte `n` of these, if a piece ends there: the first `skip` bytes are the rest
-- of a piece, and behind them pieces stand one after the other.
abbrev pub over : List ℕ → ℕ → ℕ → Bool → Option Before
over [] skip n is_head = reached skip n is_head
over (b ∷ bytes) skip zero is_head = reached skip zero is_head
over (b ∷ bytes) (suc skip) (suc n) is_head = over bytes skip n is_head
over (b ∷ bytes) zero (suc n) is_head = over_piece (λ skip head. over bytes skip n head) is_head (b ∷ bytes) (piece_of is_head b bytes)

abbrev pub before_at : List ℕ → ℕ → Before
before_at text at = unwrap_or (over text 0 at true) (record { is_head = false; definitions = [] })

-- the tokens from a place on
abbrev pub stream_at : List ℕ → ℕ → TokenStream
stream_at text at =
    let before = before_at text at in
    cut_at (length (drop at text)) at before.is_head before.definitions (drop at text)

-- a piece ends at the place, and this is whether only blanks and comments stand before it on its line
pub record IsAt (text : List ℕ) (at : ℕ) (is_head : Bool) : Type 0 where
  pub ends : over text 0 at true ≡ Some (before_at text at)
  pub head : (before_at text at).is_head ≡ is_head

-- a piece ends at `defined`, and before it stand all definitions that stand before `at`
pub record DefinedBefore (text : List ℕ) (defined : ℕ) (at : ℕ) : Type 0 where
  pub within : defined ≤ at
  pub ends : over text 0 defined true ≡ Some (before_at text defined)
  pub same : (before_at text defined).definitions ≡ (before_at text at).definitions

-- what holds of a cursor
pub record IsCursor (text : List ℕ) (at : ℕ) (is_head : Bool) (defined : ℕ) : Type 0 where
  pub short : length text ≤ most_bytes
  pub within : at ≤ length text
  pub reached : IsAt text at is_head
  pub definitions : DefinedBefore text defined at
