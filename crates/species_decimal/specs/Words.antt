-- The words of a text: its longest runs of bytes that are no blanks, where a test says which bytes are blanks.
use Rattle.std.specs.Prelude.{ℕ, ◌+◌, Bool, false, not, if◌then◌else◌, List, [], ◌∷◌}

-- a word, and the place of its first byte
pub record Word : Type 0 where
  pub place : ℕ
  pub text : List ℕ

-- a byte of a word
abbrev pub is_solid : (ℕ → Bool) → ℕ → Bool
is_solid is_blank b = not (is_blank b)

abbrev pub begins_solid : (ℕ → Bool) → List ℕ → Bool
begins_solid is_blank [] = false
begins_solid is_blank (b ∷ bytes) = is_solid is_blank b

-- a byte of a word put before the words behind it: before the first of them, where that goes on with it
abbrev pub led_by : ℕ → ℕ → Bool → List Word → List Word
led_by place b goes_on [] = record { place = place; text = b ∷ [] } ∷ []
led_by place b goes_on (w ∷ ws) =
    if goes_on then record { place = place; text = b ∷ w.text } ∷ ws
    else record { place = place; text = b ∷ [] } ∷ w ∷ ws

-- the words of the bytes that begin at this place
abbrev pub words_at : (ℕ → Bool) → ℕ → List ℕ → List Word
words_at is_blank place [] = []
words_at is_blank place (b ∷ bytes) =
    if is_blank b then words_at is_blank (place + 1) bytes
    else led_by place b (begins_solid is_blank bytes) (words_at is_blank (place + 1) bytes)
