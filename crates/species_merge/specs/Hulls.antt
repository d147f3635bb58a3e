-- The hull of spans, and when spans cover a hull.
use Rattle.std.specs.Prelude.{◌≡◌, ◌≢◌, ℕ, ℤ, ◌-ℤ◌, ◌≤ℤ◌, List, [], ◌∷◌, All, if◌then◌else◌}
use Rattle.std.specs.List.{Any}
use Rattle.std.specs.Int.{◌∣◌}
use Rattle.std.specs.Int.RustNames.{unsigned_abs}
use Rattle.std.specs.Ordering.{int_eq}
use Rattle.species_arcs.specs.declared.spans.Span.{Span}
use Rattle.species_arcs.specs.Spans.{IsInSpan}

-- g is the greatest common divisor of these: it divides each, and whatever divides each divides g.
abbrev pub IsGcdOf : List ℕ → ℕ → Type 0
IsGcdOf ns g = All (λ n. g ∣ n) ns × ((d : ℕ) → All (λ n. d ∣ n) ns → d ∣ g)

-- The stride of a span that has two numbers or more, and 0 for one number.
abbrev pub own_stride : Span → ℕ
own_stride x = if int_eq x.low x.high then 0 else x.stride

-- The ways from a to the least number of each span, and the spans' own strides.
abbrev pub gaps_of : ℤ → List Span → List ℕ
gaps_of a [] = []
gaps_of a (x ∷ xs) = unsigned_abs (x.low -ℤ a) ∷ own_stride x ∷ gaps_of a xs

-- The hull goes from the least number of the spans to the greatest. Its stride is 1 where it has one number, and else the
-- greatest common divisor of the gaps from its least number on.
pub record IsHullOf (xs : List Span) (h : Span) : Type 0 where
  pub below : All (λ x. h.low ≤ℤ x.low) xs
  pub least : Any (λ x. x.low ≡ h.low) xs
  pub above : All (λ x. x.high ≤ℤ h.high) xs
  pub greatest : Any (λ x. x.high ≡ h.high) xs
  pub single : h.low ≡ h.high → h.stride ≡ 1
  pub several : h.low ≢ h.high → IsGcdOf (gaps_of h.low xs) h.stride

-- Each number of the hull is one of some span's.
abbrev pub Covers : List Span → Span → Type 0
Covers xs h = (v : ℤ) → IsInSpan h v → Any (λ x. IsInSpan x v) xs
