-- The pairs of iterations that a direction of dependence speaks of.
use Rattle.std.specs.Prelude.{◌≡◌, ◌≢◌, ℕ, ◌+◌, ◌<◌, ℤ, ◌-ℤ◌, ◌<ℤ◌, Bool, true, false, List}
use Rattle.species_linear.specs.declared.forms.Form.{Form}
use Rattle.species_linear.specs.declared.loops.LoopRange.{LoopRange}
use Rattle.species_linear.specs.declared.loops.Direction.{Direction}
use Rattle.species_linear.specs.Point.{Point}
use Rattle.species_linear.specs.Value.{form_at}
use Rattle.species_region.specs.Coordinate.{iterators_at, IsInSpace}

-- The level at which the two iterations differ, counted from the outermost loop of all.
abbrev pub level_of : Direction → ℕ
level_of at = at.outer + at.level

-- The first coordinate is below the second ("less", true), or above it ("greater", false).
abbrev pub Differ : Bool → ℤ → ℤ → Type 0
Differ true u v = u <ℤ v
Differ false u v = v <ℤ u

-- A pair of points of the two iteration spaces that agree before the level of the direction and differ there as it says.
-- At the levels below it the two are free of each other.
pub record IsInRegion (at : Direction) (ps qs : List LoopRange) (x y : Point) : Type 0 where
  pub first : IsInSpace ps x
  pub second : IsInSpace qs y
  pub agree : (k : ℕ) → k < level_of at → x k ≡ y k
  pub differ : Differ at.less (x (level_of at)) (y (level_of at))

-- There is no such pair.
abbrev pub IsEmptyRegion : Direction → List LoopRange → List LoopRange → Type 0
IsEmptyRegion at ps qs = (x y : Point) → ¬ IsInRegion at ps qs x y

-- The first form's value at x minus the second's at y.
abbrev pub difference_at : Form → Form → List LoopRange → List LoopRange → Point → Point → ℤ
difference_at p q ps qs x y = form_at p (iterators_at ps x) -ℤ form_at q (iterators_at qs y)

-- At no pair of the region do the two forms have one value.
abbrev pub NeverMeet : Form → Form → Direction → List LoopRange → List LoopRange → Type 0
NeverMeet p q at ps qs = (x y : Point) → IsInRegion at ps qs x y → form_at p (iterators_at ps x) ≢ form_at q (iterators_at qs y)
