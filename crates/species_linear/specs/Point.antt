-- Points of the iteration space.
use Rattle.std.specs.Prelude.{ℕ, ◌≤◌, ◌^◌, ℤ, pos, List, length, slice_index_or, All}
use Rattle.std.specs.Int.RustNames.{unsigned_abs}

-- A value for the iterator of each level.
abbrev pub Point : Type 0
Point = ℕ → ℤ

-- The iterators of the levels 0, 1, and so on; 0 at each level beyond.
abbrev pub point_of : List ℤ → Point
point_of iters k = slice_index_or iters k (pos 0)

-- There are at most 16 levels.
abbrev pub IsShort : {X : Type 0} → List X → Type 0
IsShort xs = length xs ≤ 16

-- Each iterator is at most 2^40 in size.
abbrev pub HasSmallIters : List ℤ → Type 0
HasSmallIters iters = All (λ x. unsigned_abs x ≤ 2 ^ 40) iters
