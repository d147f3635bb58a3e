-- A hull on the way, span by span.
use Rattle.std.specs.Prelude.{◌≡◌, ◌⊎◌, ℕ, ℤ, ◌≤◌, ◌^◌, ◌≤ℤ◌, ◌-ℤ◌}
use Rattle.std.specs.Int.{◌∣◌}
use Rattle.std.specs.Int.RustNames.{unsigned_abs}
use Rattle.species_arcs.specs.declared.spans.Span.{Span}
use Rattle.species_merge.specs.declared.hulls.Reach.{Reach}
use Rattle.species_merge.specs.Hulls.{own_stride}

-- The number is at most 2^70 in size.
abbrev pub IsSmallEnd : ℤ → Type 0
IsSmallEnd z = unsigned_abs z ≤ 2 ^ 70

abbrev pub IsSmallSpan : Span → Type 0
IsSmallSpan x = IsSmallEnd x.low

-- g is the greatest common divisor of the three.
pub record IsGcdOfThree (a b c g : ℕ) : Type 0 where
  pub first : g ∣ a
  pub second : g ∣ b
  pub third : g ∣ c
  pub greatest : (d : ℕ) → d ∣ a → d ∣ b → d ∣ c → d ∣ g

pub record AreNext (reach : Reach) (x : Span) (to : Reach) : Type 0 where
  pub low : (to.low ≤ℤ reach.low) × (to.low ≤ℤ x.low) × ((to.low ≡ reach.low) ⊎ (to.low ≡ x.low))
  pub high : (reach.high ≤ℤ to.high) × (x.high ≤ℤ to.high) × ((to.high ≡ reach.high) ⊎ (to.high ≡ x.high))
  pub divisor : IsGcdOfThree reach.divisor (unsigned_abs (x.low -ℤ reach.low)) (own_stride x) to.divisor

pub record IsFirst (x : Span) (to : Reach) : Type 0 where
  pub low : to.low ≡ x.low
  pub high : to.high ≡ x.high
  pub divisor : to.divisor ≡ own_stride x
