-- The lines of a text, and what parts the words of a line.
use Rattle.std.specs.Prelude.{ℕ, ◌+◌, Bool, not, ◌||◌, ◌==◌, if◌then◌else◌, List, [], ◌∷◌}
use Rattle.species_ast.specs.Text.Characters.{is_line_feed}

-- space, tab and carriage return
abbrev pub is_gap : ℕ → Bool
is_gap b = b == 32 || b == 9 || b == 13

-- a byte of a line
abbrev pub is_in_line : ℕ → Bool
is_in_line b = not (is_line_feed b)

-- a line without its line feed, and the place of its first byte
pub record Line : Type 0 where
  pub place : ℕ
  pub text : List ℕ

-- a byte put before the first of the lines behind it
abbrev pub begun_by : ℕ → ℕ → List Line → List Line
begun_by place b [] = record { place = place; text = b ∷ [] } ∷ []
begun_by place b (l ∷ ls) = record { place = place; text = b ∷ l.text } ∷ ls

-- the lines of the bytes that begin at this place
abbrev pub lines_at : ℕ → List ℕ → List Line
lines_at place [] = []
lines_at place (b ∷ bytes) =
    if is_line_feed b then record { place = place; text = [] } ∷ lines_at (place + 1) bytes
    else begun_by place b (lines_at (place + 1) bytes)
