-- Stretches on which the same spans go on.
use Rattle.std.specs.Prelude.{◌≡◌, ◌⊎◌, ℕ, ◌<◌, ◌≤◌, ◌^◌, ℤ, pos, ◌+ℤ◌, ◌-ℤ◌, ◌≤ℤ◌, ◌<ℤ◌, List, All}
use Rattle.std.specs.Int.{◌∣◌}
use Rattle.std.specs.Int.RustNames.{unsigned_abs}
use Rattle.species_arcs.specs.declared.spans.Span.{Span}
use Rattle.species_arcs.specs.Spans.{IsInSpan}
use Rattle.species_merge.specs.Reaches.{IsSmallEnd}

-- The stride is from 1 to 2^70.
abbrev pub IsSmallStride : ℕ → Type 0
IsSmallStride t = (0 < t) × (t ≤ 2 ^ 70)

-- Both ends are at most 2^70 in size.
pub record IsSmallWhole (x : Span) : Type 0 where
  pub low : IsSmallEnd x.low
  pub high : IsSmallEnd x.high
  pub stride : IsSmallStride x.stride

-- The span goes on from `at` to `edge`, or has no number there.
abbrev pub IsSettled : ℤ → ℤ → Span → Type 0
IsSettled at edge x = ((x.low ≤ℤ at) × (edge ≤ℤ x.high)) ⊎ ((edge <ℤ x.low) ⊎ (x.high <ℤ at))

-- The span holds `at`, and its stride divides this one.
abbrev pub GoesThrough : ℤ → ℕ → Span → Type 0
GoesThrough at stride x = (x.stride ∣ stride) × IsInSpan x at

-- p is above `most`, or a multiple of both.
abbrev pub IsMultiple : ℕ → ℕ → ℕ → ℕ → Type 0
IsMultiple a b most p = (0 < p) × ((most < p) ⊎ ((a ∣ p) × (b ∣ p)))

-- p is above `most`, or a multiple of the stride and of those of the spans that go on at `at`.
pub record IsPeriod (xs : List Span) (at : ℤ) (stride most p : ℕ) : Type 0 where
  pub some : 0 < p
  pub own : (most < p) ⊎ (stride ∣ p)
  pub each : (most < p) ⊎ All (λ x. (x.low ≤ℤ at) → (at ≤ℤ x.high) → x.stride ∣ p) xs

-- `last` is the edge, or that of the first period.
abbrev pub IsEnough : List Span → ℤ → ℤ → ℕ → ℤ → Type 0
IsEnough xs at edge stride last =
    (last ≡ edge) ⊎ ((p : ℕ) × (0 < p) × (stride ∣ p) × All (λ x. (x.low ≤ℤ at) → (at ≤ℤ x.high) → x.stride ∣ p) xs × (last +ℤ pos 1 ≡ at +ℤ pos p))

-- `next` is the first number behind the edge that is a whole number of strides from `at`.
pub record IsBehind (at edge : ℤ) (stride : ℕ) (next : ℤ) : Type 0 where
  pub behind : edge <ℤ next
  pub near : next ≤ℤ (edge +ℤ pos stride)
  pub whole : stride ∣ unsigned_abs (next -ℤ at)
