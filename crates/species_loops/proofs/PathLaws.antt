-- The first ranges of a path.
use Rattle.std.proofs.Common.{◌≡◌, refl, ap, ℕ, zero, suc, List, [], ◌∷◌, ◌++◌, take, length}
use Rattle.species_linear.specs.declared.loops.LoopRange.{LoopRange}
use Rattle.species_loops.specs.Ranges.{range_seen, ranges_seen}

pub seen_first : (n : ℕ) (path : List LoopRange) → ranges_seen (take n path) ≡ take n (ranges_seen path)
seen_first zero path = refl
seen_first (suc n) [] = refl
seen_first (suc n) (r ∷ path) = ap (λ rs. range_seen r ∷ rs) (seen_first n path)

pub before_more : (path more : List LoopRange) → take (length (ranges_seen path)) (ranges_seen (path ++ more)) ≡ ranges_seen path
before_more [] more = refl
before_more (r ∷ path) more = ap (λ rs. range_seen r ∷ rs) (before_more path more)

pub all_of : (path : List LoopRange) → take (length (ranges_seen path)) (ranges_seen path) ≡ ranges_seen path
all_of [] = refl
all_of (r ∷ path) = ap (λ rs. range_seen r ∷ rs) (all_of path)
