-- The two loops of one level.
use Rattle.std.specs.Prelude.{ℕ, ℤ, ◌-ℤ◌, ◌*ℤ◌, ◌≤ℤ◌, List}
use Rattle.species_linear.specs.declared.loops.Direction.{Direction}
use Rattle.species_linear.specs.declared.loops.LoopRange.{LoopRange}
use Rattle.species_linear.specs.Box.{range_at, HasSmallEnds}
use Rattle.species_region.specs.Coordinate.{iterator_at, IsCoordinate}
use Rattle.species_banerjee.specs.declared.pairs.LoopPair.{LoopPair}
use Rattle.species_banerjee.specs.Span.{Moves}
use Rattle.species_banerjee.specs.Entry.{entry_at, Relates, SharesLoop}

-- The loops of a level, with the direction's entry there.
abbrev pub loop_pair_at : Direction → List LoopRange → List LoopRange → ℕ → LoopPair
loop_pair_at at ps qs k = record { entry = entry_at at k; first = range_at ps k; second = range_at qs k }

-- A pair of coordinates of the two loops, as the entry asks.
abbrev pub Allows : LoopPair → ℤ × ℤ → Type 0
Allows l z = IsCoordinate l.first z.0 × IsCoordinate l.second z.1 × Relates l.entry z.0 z.1

-- There is such a pair.
abbrev pub IsOpen : LoopPair → Type 0
IsOpen l = (z : ℤ × ℤ) × Allows l z

-- What the level adds to the difference: the coefficients times the iterators there.
abbrev pub gap_of : LoopPair → ℤ → ℤ → ℤ × ℤ → ℤ
gap_of l a b z = (a *ℤ iterator_at l.first z.0) -ℤ (b *ℤ iterator_at l.second z.1)

-- The loops can be counted: one loop where the entry asks something, no step 0, small ends.
pub record IsUsable (l : LoopPair) : Type 0 where
  pub same : SharesLoop l.entry l.first l.second
  pub first_moves : Moves l.first
  pub second_moves : Moves l.second
  pub first_small : HasSmallEnds l.first
  pub second_small : HasSmallEnds l.second

-- Four pairs that the entry allows, such that what is at most the gap at these four is at most the gap at each pair that it
-- allows, whatever the coefficients. (With the signs turned, what is at least the gap at the four is at least each.)
pub record AreCorners (l : LoopPair) (w x y z : ℤ × ℤ) : Type 0 where
  pub allowed : Allows l w × Allows l x × Allows l y × Allows l z
  pub below : (a b m : ℤ) → m ≤ℤ gap_of l a b w → m ≤ℤ gap_of l a b x → m ≤ℤ gap_of l a b y → m ≤ℤ gap_of l a b z →
      (v : ℤ × ℤ) → Allows l v → m ≤ℤ gap_of l a b v
