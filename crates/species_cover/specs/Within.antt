-- Spans within spans, and the numbers that decide it.
use Rattle.std.specs.Prelude.{ℕ, ℤ, pos, ◌+ℤ◌, ◌-ℤ◌, ◌%◌}
use Rattle.std.specs.Int.RustNames.{unsigned_abs}
use Rattle.species_arcs.specs.declared.spans.Span.{Span}
use Rattle.species_arcs.specs.Spans.{IsInSpan}

-- Each number of the first span is one of the second.
abbrev pub IsWithin : Span → Span → Type 0
IsWithin inner outer = (v : ℤ) → IsInSpan inner v → IsInSpan outer v

-- How far the ends are apart.
abbrev pub width : Span → ℕ
width s = unsigned_abs (s.high -ℤ s.low)

-- The last number of a span that has one.
abbrev pub last_of : Span → ℤ
last_of s = s.high -ℤ pos (width s % s.stride)

-- The number behind the first.
abbrev pub second_of : Span → ℤ
second_of s = s.low +ℤ pos s.stride
