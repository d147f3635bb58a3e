-- Arcs whose numbers are small enough for machine words.
use Rattle.std.specs.Prelude.{◌<◌, ◌≤◌, ◌^◌, All}
use Rattle.std.specs.Int.RustNames.{unsigned_abs}
use Rattle.species_arcs.specs.declared.places.Arc.{Arc}
use Rattle.species_arcs.specs.declared.places.ArcDim.{ArcDim}
use Rattle.species_arcs.specs.declared.spans.Span.{Span}
use Rattle.species_notation.specs.declared.given.GivenArc.{GivenArc}
use Rattle.species_notation.specs.declared.given.GivenDim.{GivenDim}

-- The constant and the offsets are at most 2^70 in size, and the stride is from 1 to 2^70.
pub record HasSmallGivenDim (g : GivenDim) : Type 0 where
  pub constant : unsigned_abs g.at.constant ≤ 2 ^ 70
  pub a : unsigned_abs g.a ≤ 2 ^ 70
  pub b : unsigned_abs g.b ≤ 2 ^ 70
  pub stride : (0 < g.stride) × (g.stride ≤ 2 ^ 70)

pub record HasSmallArcDim (d : ArcDim) : Type 0 where
  pub constant : unsigned_abs d.at.constant ≤ 2 ^ 70
  pub a : unsigned_abs d.a ≤ 2 ^ 70
  pub b : unsigned_abs d.b ≤ 2 ^ 70
  pub stride : (0 < d.stride) × (d.stride ≤ 2 ^ 70)

-- Each dimension of the arc is like that.
abbrev pub HasSmallGiven : GivenArc → Type 0
HasSmallGiven g = All HasSmallGivenDim g.dims

abbrev pub HasSmallDerived : Arc → Type 0
HasSmallDerived d = All HasSmallArcDim d.dims

-- The ends are at most 2^71 in size, and the stride is from 1 to 2^70.
pub record HasSmallEnds (s : Span) : Type 0 where
  pub low : unsigned_abs s.low ≤ 2 ^ 71
  pub high : unsigned_abs s.high ≤ 2 ^ 71
  pub stride : (0 < s.stride) × (s.stride ≤ 2 ^ 70)
