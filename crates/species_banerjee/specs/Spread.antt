-- The extremes of four numbers.
use Rattle.std.specs.Prelude.{◌≡◌, ℤ, ◌≤ℤ◌, ◌⊎◌}

-- low and high are the least and the greatest of four numbers.
pub record AreSpread (a b c d low high : ℤ) : Type 0 where
  pub below : (low ≤ℤ a) × (low ≤ℤ b) × (low ≤ℤ c) × (low ≤ℤ d)
  pub above : (a ≤ℤ high) × (b ≤ℤ high) × (c ≤ℤ high) × (d ≤ℤ high)
  pub least : (a ≡ low) ⊎ ((b ≡ low) ⊎ ((c ≡ low) ⊎ (d ≡ low)))
  pub greatest : (a ≡ high) ⊎ ((b ≡ high) ⊎ ((c ≡ high) ⊎ (d ≡ high)))
