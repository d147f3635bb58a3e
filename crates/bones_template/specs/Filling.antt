-- What stands in a template, and what its text becomes when the holes are filled.
use Rattle.std.specs.Prelude.{◌≡◌, ℕ, zero, suc, ◌+◌, ◌-◌, Bool, nat_le, ◌==◌, if◌then◌else◌, List, [], ◌∷◌, ◌++◌, length, find, not, Option, Some, None}
use Rattle.species_ast.specs.Text.Characters.{begins}
use Rattle.bones_template.specs.Holes.{Contents, hole_text, every_hole, text_for}
use Rattle.bones_template.specs.declared.hole.Hole.{Hole}
use Rattle.bones_template.specs.declared.hole.Hole.TheVariants as hole

-- ---- how often a hole stands in a text

abbrev pub count_in : Hole → List ℕ → ℕ
count_in h [] = 0
count_in h (b ∷ text) = (if begins (hole_text h) (b ∷ text) then 1 else 0) + count_in h text

-- the indentation at least once, and each other hole once
abbrev pub is_as_often : Hole → ℕ → Bool
is_as_often hole.Indent n = nat_le 1 n
is_as_often _ n = n == 1

-- the first hole that does not stand there as often as it has to
abbrev pub lacking : List ℕ → Option Hole
lacking text = find (λ h. not (is_as_often h (count_in h text))) every_hole

-- ---- what a text becomes

-- the hole at the front
abbrev pub hole_at : List ℕ → Option Hole
hole_at text = find (λ h. begins (hole_text h) text) every_hole

-- A text, and what it becomes: each hole is replaced by its bytes, from the front on, and every other byte stays.
pub data Becomes (f : Contents) : List ℕ → List ℕ → Type 0 where
  at_end : Becomes f [] []
  at_hole : (h : Hole) (text filled : List ℕ) → Becomes f text filled → Becomes f (hole_text h ++ text) (text_for f h ++ filled)
  at_byte : (b : ℕ) (text filled : List ℕ) → hole_at (b ∷ text) ≡ None → Becomes f text filled → Becomes f (b ∷ text) (b ∷ filled)

-- ---- the same as a function

abbrev pub left_of : Option Hole → ℕ
left_of None = 0
left_of (Some h) = length (hole_text h) - 1

abbrev pub in_place_of : Contents → Option Hole → ℕ → List ℕ
in_place_of f None b = b ∷ []
in_place_of f (Some h) b = text_for f h

-- the text filled, where the first bytes are the rest of a hole that stands before them
abbrev pub filled_behind : Contents → ℕ → List ℕ → List ℕ
filled_behind f left [] = []
filled_behind f (suc left) (b ∷ text) = filled_behind f left text
filled_behind f zero (b ∷ text) = in_place_of f (hole_at (b ∷ text)) b ++ filled_behind f (left_of (hole_at (b ∷ text))) text

abbrev pub filled_of : Contents → List ℕ → List ℕ
filled_of f text = filled_behind f 0 text
