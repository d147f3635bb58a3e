-- Spans of coordinates.
use Rattle.std.specs.Prelude.{◌≢◌, ℤ, pos, ◌≤ℤ◌, IsSome}
use Rattle.species_linear.specs.declared.loops.LoopRange.{LoopRange}
use Rattle.species_banerjee.specs.declared.spans.Span.{Span}

-- The coordinate lies in the span.
abbrev pub IsWithin : Span → ℤ → Type 0
IsWithin s v = (s.first ≤ℤ v) × (v ≤ℤ s.last)

-- The loop moves, where it is counted.
abbrev pub Moves : LoopRange → Type 0
Moves r = IsSome r.start → r.step ≢ pos 0
