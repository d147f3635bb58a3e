-- Coordinates in the iteration space of a nest.
--
-- A loop whose start is a constant is counted. Its counter numbers the turns from 0, and the iterator is
-- start + step * counter. A loop whose start is no constant has no counter, and the iterator's own value
-- stands for it. A coordinate is the one or the other.
use Rattle.std.specs.Prelude.{if◌then◌else◌, ℕ, ◌<◌, ℤ, pos, ◌+ℤ◌, ◌*ℤ◌, ◌≤ℤ◌, is_some, IsSome, unwrap_or, List, length}
use Rattle.species_linear.specs.declared.loops.LoopRange.{LoopRange}
use Rattle.species_linear.specs.Point.{Point}
use Rattle.species_linear.specs.Box.{range_at, IsInRange}

-- The iterator at the coordinate 0: the start, where the loop is counted.
abbrev pub origin_of : LoopRange → ℤ
origin_of r = unwrap_or r.start (pos 0)

-- What one more in the coordinate adds to the iterator: the step, where the loop is counted.
abbrev pub unit_of : LoopRange → ℤ
unit_of r = if is_some r.start then r.step else pos 1

-- The iterator at a coordinate.
abbrev pub iterator_at : LoopRange → ℤ → ℤ
iterator_at r v = origin_of r +ℤ unit_of r *ℤ v

-- The iterator lies in the loop's range there, and a counter is not negative.
abbrev pub IsCoordinate : LoopRange → ℤ → Type 0
IsCoordinate r v = IsInRange r (iterator_at r v) × (IsSome r.start → pos 0 ≤ℤ v)

-- The iterators at a coordinate for each level.
abbrev pub iterators_at : List LoopRange → Point → Point
iterators_at path x k = iterator_at (range_at path k) (x k)

-- The iterators where each coordinate is 0.
abbrev pub origins_of : List LoopRange → Point
origins_of path k = origin_of (range_at path k)

-- A point of the iteration space: a coordinate for each level of the path.
abbrev pub IsInSpace : List LoopRange → Point → Type 0
IsInSpace path x = (k : ℕ) → k < length path → IsCoordinate (range_at path k) (x k)
