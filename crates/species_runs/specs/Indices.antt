-- Indices of an element.
use Rattle.std.specs.Prelude.{◌<◌, ℕ, List, [], ◌∷◌}

-- an index for each size, and below it
abbrev pub AreIndices : List ℕ → List ℕ → Type 0
AreIndices [] [] = Unit {0}
AreIndices [] (i ∷ is) = ⊥
AreIndices (size ∷ sizes) [] = ⊥
AreIndices (size ∷ sizes) (i ∷ is) = (i < size) × AreIndices sizes is
