-- The values that iterators take: numbers of the kind `int`, in the ranges of their loops, by whole steps from constant starts.
use Rattle.std.specs.Prelude.{◌≡◌, ℕ, List, [], ◌∷◌, ◌++◌, ℤ, pos, negsuc, ◌+ℤ◌, ◌*ℤ◌, ◌≤ℤ◌, Option, Some, None}
use Rattle.species_ast.specs.declared.tree.Loop.{Loop, out-Loop}
use Rattle.species_ast.specs.Scope.Hulls.{Range, range_of}

-- a number of the kind `int` (C17 6.2.5p5)
abbrev pub IsInt : ℤ → Type 0
IsInt n = (negsuc 2147483647 ≤ℤ n) × (n ≤ℤ pos 2147483647)

abbrev pub AreInts : List ℤ → Type 0
AreInts [] = Unit {0}
AreInts (i ∷ is) = IsInt i × AreInts is

-- where the first value is a constant: that of some turn, where the turns are counted from 0
abbrev pub IsCounted : Option ℤ → ℤ → ℤ → Type 0
IsCounted (Some first) step i = (turn : ℕ) × (i ≡ first +ℤ pos turn *ℤ step)
IsCounted None step i = Unit {0}

-- the iterator of a loop with this range may take this value
abbrev pub MayTake : Range → ℤ → Type 0
MayTake r i = (r.low ≤ℤ i) × (i ≤ℤ r.high) × IsCounted r.start r.step i

-- the iterators of loops, one in the other, may take these values
abbrev pub AreTaken : List Range → List ℤ → Type 0
AreTaken [] [] = Unit {0}
AreTaken [] (i ∷ is) = ⊥
AreTaken (r ∷ path) [] = ⊥
AreTaken (r ∷ path) (i ∷ is) = MayTake r i × AreTaken path is

-- the ranges of loops, one in the other, in loops with these ranges
abbrev pub ranges_of : List Range → List Loop → List Range
ranges_of path [] = path
ranges_of path (l ∷ ls) = ranges_of (path ++ range_of path (out-Loop l) ∷ []) ls

-- these are values that the iterators of these loops take, one in the other, and numbers of the kind `int`
abbrev pub AreTheirs : List Loop → List ℤ → Type 0
AreTheirs around iters = AreTaken (ranges_of [] around) iters × AreInts iters
