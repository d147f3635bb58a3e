-- Numbers at equal distances.
use Rattle.std.specs.Prelude.{ℤ, ◌-ℤ◌, ◌≤ℤ◌}
use Rattle.std.specs.Int.{◌∣◌}
use Rattle.std.specs.Int.RustNames.{unsigned_abs}
use Rattle.species_arcs.specs.declared.spans.Span.{Span}

-- v is one of low, low + stride, low + 2 * stride, and so on up to high.
abbrev pub IsInSpan : Span → ℤ → Type 0
IsInSpan s v = (s.low ≤ℤ v) × (v ≤ℤ s.high) × (s.stride ∣ unsigned_abs (v -ℤ s.low))
