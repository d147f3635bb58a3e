-- Species texts that are written, and not taken from a program: what suffices for them to be taken from the line that is printed
-- with them.
use Rattle.std.specs.Prelude.{◌≡◌, ℕ, Bool, true, false, not, ◌&&◌, nat_eq, List, [], ◌∷◌, codes, drop}
use Rattle.std.specs.List.{list_all}
use Rattle.species_ast.specs.Text.Characters.{is_blank, is_word, begins}
use Rattle.species_readback.specs.Spelt.{is_no_line_feed, is_species_text}

-- neither `/` nor a backslash nor a line feed
abbrev pub is_text_byte : ℕ → Bool
is_text_byte b = not (nat_eq 47 b) && (not (nat_eq 92 b) && is_no_line_feed b)

abbrev pub begins_full : List ℕ → Bool
begins_full [] = false
begins_full (b ∷ bytes) = not (is_blank b)

abbrev pub ends_full : List ℕ → Bool
ends_full [] = false
ends_full (b ∷ []) = not (is_blank b)
ends_full (b ∷ c ∷ bytes) = ends_full (c ∷ bytes)

-- a word ends here, and no `[` follows it
abbrev pub stops : List ℕ → Bool
stops [] = true
stops (b ∷ bytes) = not (is_word b) && not (nat_eq 91 b)

-- the first word is `endkernel`, and no `[` follows it
abbrev pub ends_kernel : List ℕ → Bool
ends_kernel text = begins (codes "endkernel") text && stops (drop 9 text)

-- A text without comments, backslashes and line feeds, with no blank at its ends, whose first word is not `endkernel`, or is
-- followed by `[`.
pub record IsLineText (text : List ℕ) : Type 0 where
  pub bytes : list_all is_text_byte text ≡ true
  pub first : begins_full text ≡ true
  pub last : ends_full text ≡ true
  pub goes_on : ends_kernel text ≡ false

-- such a text can be written
abbrev pub TakesTexts : Type 0
TakesTexts = (text : List ℕ) → IsLineText text → is_species_text text ≡ true
