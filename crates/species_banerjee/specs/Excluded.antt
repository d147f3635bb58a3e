-- What the extremes of a difference rule out.
use Rattle.std.specs.Prelude.{pos, ◌<ℤ◌, List, ◌⊎◌}
use Rattle.species_linear.specs.declared.forms.Form.{Form}
use Rattle.species_linear.specs.declared.loops.LoopRange.{LoopRange}
use Rattle.species_linear.specs.declared.loops.Direction.{Direction}
use Rattle.species_linear.specs.Point.{Point}
use Rattle.species_region.specs.Region.{IsInRegion, IsEmptyRegion, difference_at}

-- The difference is positive at every pair of the region.
abbrev pub IsPositive : Form → Form → Direction → List LoopRange → List LoopRange → Type 0
IsPositive p q at ps qs = (x y : Point) → IsInRegion at ps qs x y → pos 0 <ℤ difference_at p q ps qs x y

-- The difference is negative at every pair of the region.
abbrev pub IsNegative : Form → Form → Direction → List LoopRange → List LoopRange → Type 0
IsNegative p q at ps qs = (x y : Point) → IsInRegion at ps qs x y → difference_at p q ps qs x y <ℤ pos 0

-- The region is empty, or the difference has one sign, never 0, all over it.
abbrev pub IsExcluded : Form → Form → Direction → List LoopRange → List LoopRange → Type 0
IsExcluded p q at ps qs = IsEmptyRegion at ps qs ⊎ (IsPositive p q at ps qs ⊎ IsNegative p q at ps qs)
