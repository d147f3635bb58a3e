-- The coefficients and the constant of a difference of two forms, over the coordinates of a pair of iterations.
use Rattle.std.specs.Prelude.{ℕ, ◌<◌, ◌≤◌, ◌-ℤ◌, ◌*ℤ◌, ℤ, Bool, true, false, List}
use Rattle.std.specs.Int.{◌∣◌}
use Rattle.std.specs.Int.RustNames.{unsigned_abs}
use Rattle.species_linear.specs.declared.forms.Form.{Form}
use Rattle.species_linear.specs.declared.loops.LoopRange.{LoopRange}
use Rattle.species_linear.specs.declared.loops.Direction.{Direction}
use Rattle.species_linear.specs.Value.{form_at, coefficient_at}
use Rattle.species_linear.specs.Box.{range_at}
use Rattle.species_region.specs.Coordinate.{unit_of, origins_of}
use Rattle.species_region.specs.Region.{level_of}

-- d divides each coefficient of the difference. Before the level of the direction the two iterations share one coordinate,
-- and its coefficient is the difference of the two; from that level on each has a coordinate of its own.
-- A coefficient of an iterator counts once for each step of its coordinate. Loops with one turn are included.
pub record IsCommonDivisor (p q : Form) (at : Direction) (ps qs : List LoopRange) (d : ℕ) : Type 0 where
  pub shared : (k : ℕ) → k < level_of at → d ∣ unsigned_abs ((coefficient_at p.terms k -ℤ coefficient_at q.terms k) *ℤ unit_of (range_at ps k))
  pub first : (k : ℕ) → level_of at ≤ k → d ∣ unsigned_abs (coefficient_at p.terms k *ℤ unit_of (range_at ps k))
  pub second : (k : ℕ) → level_of at ≤ k → d ∣ unsigned_abs (coefficient_at q.terms k *ℤ unit_of (range_at qs k))

-- g is the greatest common divisor of the coefficients: each common divisor divides it. Of zeros it is 0.
pub record IsGcdOfDifference (p q : Form) (at : Direction) (ps qs : List LoopRange) (g : ℕ) : Type 0 where
  pub common : IsCommonDivisor p q at ps qs g
  pub greatest : (d : ℕ) → IsCommonDivisor p q at ps qs d → d ∣ g

-- The constant of the difference: its value where each coordinate is 0.
abbrev pub constant_of : Form → Form → List LoopRange → List LoopRange → ℤ
constant_of p q ps qs = form_at p (origins_of ps) -ℤ form_at q (origins_of qs)

-- The greatest common divisor of the coefficients divides the constant. 0 divides 0 alone.
abbrev pub DividesDifference : Form → Form → Direction → List LoopRange → List LoopRange → Type 0
DividesDifference p q at ps qs = (g : ℕ) → IsGcdOfDifference p q at ps qs g → g ∣ unsigned_abs (constant_of p q ps qs)

-- The same divisors for one level: of the shared coefficient (true), or of each of the two (false).
abbrev pub DividesLevel : Bool → ℕ → (a b u v : ℤ) → Type 0
DividesLevel true d a b u v = d ∣ unsigned_abs ((a -ℤ b) *ℤ u)
DividesLevel false d a b u v = (d ∣ unsigned_abs (a *ℤ u)) × (d ∣ unsigned_abs (b *ℤ v))
