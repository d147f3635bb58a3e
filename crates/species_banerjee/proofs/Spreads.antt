-- Extremes at corners.
use Rattle.std.proofs.Common.{◌≡◌, ◌^◌, ◌<◌, ◌≤◌, ℤ, ◌*ℤ◌, ◌≤ℤ◌, arith, subst, ◌∙◌, ◌⊎◌, inl, inr}
use Rattle.std.specs.Int.RustNames.{unsigned_abs}
use Rattle.std.proofs.lemmas.Int.{ints}
use Rattle.std.proofs.Math.IntN.{neg_ℤ}
use Rattle.species_integers.proofs.Products.{neg_mul}
use Rattle.species_integers.proofs.Sizes.{abs_difference, abs_product, abs_between}
use Rattle.species_linear.specs.Box.{IsLeastOver, IsGreatestOver}
use Rattle.species_region.specs.Coordinate.{iterator_at}
use Rattle.species_banerjee.specs.declared.pairs.LoopPair.{LoopPair}
use Rattle.species_banerjee.specs.Spread.{AreSpread}
use Rattle.species_banerjee.specs.LoopPair.{Allows, gap_of, IsUsable, AreCorners}

pub one_of_four : (a b c d p q r : ℤ) → (a ≡ p) ⊎ (b ≡ p) → (c ≡ q) ⊎ (d ≡ q) → (p ≡ r) ⊎ (q ≡ r) → (a ≡ r) ⊎ ((b ≡ r) ⊎ ((c ≡ r) ⊎ (d ≡ r)))
one_of_four a b c d p q r (inl e) y (inl f) = inl (e ∙ f)
one_of_four a b c d p q r (inr e) y (inl f) = inr (inl (e ∙ f))
one_of_four a b c d p q r x (inl e) (inr f) = inr (inr (inl (e ∙ f)))
one_of_four a b c d p q r x (inr e) (inr f) = inr (inr (inr (e ∙ f)))

-- a number that is the gap at one of four allowed pairs is taken
taken : (l : LoopPair) (a b g : ℤ) (w x y z : ℤ × ℤ) → Allows l w × Allows l x × Allows l y × Allows l z →
    (gap_of l a b w ≡ g) ⊎ ((gap_of l a b x ≡ g) ⊎ ((gap_of l a b y ≡ g) ⊎ (gap_of l a b z ≡ g))) → (v : ℤ × ℤ) × Allows l v × (gap_of l a b v ≡ g)
taken l a b g w x y z allowed (inl e) = (w, allowed.0, e)
taken l a b g w x y z allowed (inr (inl e)) = (x, allowed.1, e)
taken l a b g w x y z allowed (inr (inr (inl e))) = (y, allowed.2, e)
taken l a b g w x y z allowed (inr (inr (inr e))) = (z, allowed.3, e)

gap_negated : (l : LoopPair) (a b : ℤ) (z : ℤ × ℤ) → gap_of l (neg_ℤ a) (neg_ℤ b) z ≡ neg_ℤ (gap_of l a b z)
gap_negated l a b z = omega (arith, ints, neg_mul a (iterator_at l.first z.0), neg_mul b (iterator_at l.second z.1))

negated : (l : LoopPair) (a b m : ℤ) (z : ℤ × ℤ) → gap_of l a b z ≤ℤ m → neg_ℤ m ≤ℤ gap_of l (neg_ℤ a) (neg_ℤ b) z
negated l a b m z h = omega (arith, ints, h, gap_negated l a b z)

pub least_at_corners : (l : LoopPair) (a b low high : ℤ) (w x y z : ℤ × ℤ) → AreCorners l w x y z →
    AreSpread (gap_of l a b w) (gap_of l a b x) (gap_of l a b y) (gap_of l a b z) low high → IsLeastOver (Allows l) (gap_of l a b) low
least_at_corners l a b low high w x y z corners spread = (
  corners.below a b low spread.below.0 spread.below.1 spread.below.2 spread.below.3,
  taken l a b low w x y z corners.allowed spread.least,
)

pub greatest_at_corners : (l : LoopPair) (a b low high : ℤ) (w x y z : ℤ × ℤ) → AreCorners l w x y z →
    AreSpread (gap_of l a b w) (gap_of l a b x) (gap_of l a b y) (gap_of l a b z) low high → IsGreatestOver (Allows l) (gap_of l a b) high
greatest_at_corners l a b low high w x y z corners spread = (
  (λ v allowed. omega (
    arith,
    ints,
    gap_negated l a b v,
    corners.below (neg_ℤ a) (neg_ℤ b) (neg_ℤ high) (negated l a b high w spread.above.0) (negated l a b high x spread.above.1)
        (negated l a b high y spread.above.2) (negated l a b high z spread.above.3) v allowed,
  )),
  taken l a b high w x y z corners.allowed spread.greatest,
)

-- ---- sizes
pub gap_small : (l : LoopPair) (a b : ℤ) (z : ℤ × ℤ) → IsUsable l → Allows l z → unsigned_abs a < 2 ^ 70 → unsigned_abs b < 2 ^ 70 →
    unsigned_abs (gap_of l a b z) ≤ 2 ^ 112
gap_small l a b z usable allowed small_a small_b =
    let first = abs_between l.first.low l.first.high (iterator_at l.first z.0) (2 ^ 40) allowed.0.0.0 allowed.0.0.1 usable.first_small.0 usable.first_small.1 in
    let second = abs_between l.second.low l.second.high (iterator_at l.second z.1) (2 ^ 40) allowed.1.0.0 allowed.1.0.1 usable.second_small.0 usable.second_small.1 in
    omega (
      arith,
      abs_difference (a *ℤ iterator_at l.first z.0) (b *ℤ iterator_at l.second z.1),
      abs_product a (iterator_at l.first z.0) (2 ^ 70) (2 ^ 40) (omega arith) first,
      abs_product b (iterator_at l.second z.1) (2 ^ 70) (2 ^ 40) (omega arith) second,
    )

pub taken_small : (l : LoopPair) (a b g : ℤ) → IsUsable l → unsigned_abs a < 2 ^ 70 → unsigned_abs b < 2 ^ 70 →
    (v : ℤ × ℤ) × Allows l v × (gap_of l a b v ≡ g) → unsigned_abs g ≤ 2 ^ 112
taken_small l a b g usable small_a small_b at = subst (λ (z : ℤ). unsigned_abs z ≤ 2 ^ 112) at.2 (gap_small l a b at.0 usable at.1 small_a small_b)

-- the extremes of numbers that are equal to others
pub spread_of_same : (a b c d e f g h low high : ℤ) → a ≡ e → b ≡ f → c ≡ g → d ≡ h → AreSpread a b c d low high → AreSpread e f g h low high
spread_of_same a b c d e f g h low high is_e is_f is_g is_h spread = rw (← is_e, ← is_f, ← is_g, ← is_h) spread
