-- Dimensions whose numbers are small enough for machine words.
use Rattle.std.specs.Prelude.{ℕ, ◌<◌, ◌≤◌, ◌^◌, ◌≤ℤ◌}
use Rattle.std.specs.Int.RustNames.{unsigned_abs}
use Rattle.species_linear.specs.Value.{NamesOnly, HasSmallForm}
use Rattle.species_arcs.specs.declared.places.ArcDim.{ArcDim}

-- The first offset is not past the last, and both are below 2^70 in size.
pub record HasSmallSpan (d : ArcDim) : Type 0 where
  pub ordered : d.a ≤ℤ d.b
  pub a : unsigned_abs d.a < 2 ^ 70
  pub b : unsigned_abs d.b < 2 ^ 70

-- `at` names only the first n levels, the numbers in it and the offsets are below 2^70 in size, and the stride is from
-- 1 to 2^70.
pub record HasSmallDim (n : ℕ) (d : ArcDim) : Type 0 where
  pub named : NamesOnly d.at n
  pub small : HasSmallForm d.at
  pub a : unsigned_abs d.a < 2 ^ 70
  pub b : unsigned_abs d.b < 2 ^ 70
  pub stride : (0 < d.stride) × (d.stride ≤ 2 ^ 70)
