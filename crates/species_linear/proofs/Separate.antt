-- Two forms that name no level in common: the extremes of their sum are the sums of their extremes.
use Rattle.std.proofs.Common.{◌≡◌, ℕ, zero, suc, ℤ, pos, negsuc, ◌+ℤ◌, arith, refl, Bool, true, false, List, if◌then◌else◌, ◌⊎◌, inl, inr}
use Rattle.std.proofs.lemmas.Int.{ints}
use Rattle.species_linear.specs.declared.forms.Term.{Term}
use Rattle.species_linear.specs.declared.forms.Form.{Form}
use Rattle.species_linear.specs.declared.loops.LoopRange.{LoopRange}
use Rattle.species_linear.specs.Rising.{IsRising}
use Rattle.species_linear.specs.Point.{Point}
use Rattle.species_linear.specs.Value.{form_at, coefficient_at}
use Rattle.species_linear.specs.Box.{range_at, IsInRange, IsInBox, IsLeastOver, IsGreatestOver, IsLeast, IsGreatest}
use Rattle.species_linear.proofs.Coefficients.{either_has}
use Rattle.species_linear.proofs.Agree.{form_at-agree_at_coefficients}

-- Each level has the coefficient 0 in one of them.
abbrev pub AreSeparate : List Term → List Term → Type 0
AreSeparate ts us = (k : ℕ) → (coefficient_at ts k ≡ pos 0) ⊎ (coefficient_at us k ≡ pos 0)

abbrev is_zero : ℤ → Bool
is_zero (pos zero) = true
is_zero (pos (suc n)) = false
is_zero (negsuc n) = false

-- The values of p at the levels that the terms name, and those of q at the others.
abbrev pub mixed : List Term → Point → Point → Point
mixed ts p q k = if is_zero (coefficient_at ts k) then q k else p k

picked : (z x y : ℤ) → (z ≡ pos 0) ⊎ ((if is_zero z then y else x) ≡ x)
picked (pos zero) x y = inl refl
picked (pos (suc n)) x y = inr refl
picked (negsuc n) x y = inr refl

pub mixed_in : (ts : List Term) (path : List LoopRange) (p q : Point) → IsInBox path p → IsInBox path q → IsInBox path (mixed ts p q)
mixed_in ts path p q in_p in_q k h = either_has (IsInRange (range_at path k)) (is_zero (coefficient_at ts k)) (q k) (p k) (in_q k h) (in_p k h)

-- the first form sees p, the second q
pub mixed_first : (f : Form) (p q : Point) → IsRising f.terms → form_at f (mixed f.terms p q) ≡ form_at f p
mixed_first f p q rising = form_at-agree_at_coefficients f (mixed f.terms p q) p rising (λ k. picked (coefficient_at f.terms k) (p k) (q k))

pub mixed_second : (f g : Form) (p q : Point) → IsRising g.terms → AreSeparate f.terms g.terms → form_at g (mixed f.terms p q) ≡ form_at g q
mixed_second f g p q rising apart = form_at-agree_at_coefficients g (mixed f.terms p q) q rising (λ k. elim (apart k) [
  | inl none ↦ inr (rw none refl)
  | inr none ↦ inl none
])

pub least_separate : (f g : Form) (path : List LoopRange) (y z : ℤ) → IsRising f.terms → IsRising g.terms → AreSeparate f.terms g.terms →
    IsLeast f path y → IsLeast g path z → IsLeastOver (IsInBox path) (λ p. form_at f p +ℤ form_at g p) (y +ℤ z)
least_separate f g path y z rising_f rising_g apart least_f least_g = (
  (λ p inside. omega (arith, ints, least_f.0 p inside, least_g.0 p inside)),
  (
    mixed f.terms least_f.1.0 least_g.1.0,
    mixed_in f.terms path least_f.1.0 least_g.1.0 least_f.1.1 least_g.1.1,
    omega (arith, ints, mixed_first f least_f.1.0 least_g.1.0 rising_f, mixed_second f g least_f.1.0 least_g.1.0 rising_g apart, least_f.1.2, least_g.1.2),
  ),
)

pub greatest_separate : (f g : Form) (path : List LoopRange) (y z : ℤ) → IsRising f.terms → IsRising g.terms → AreSeparate f.terms g.terms →
    IsGreatest f path y → IsGreatest g path z → IsGreatestOver (IsInBox path) (λ p. form_at f p +ℤ form_at g p) (y +ℤ z)
greatest_separate f g path y z rising_f rising_g apart greatest_f greatest_g = (
  (λ p inside. omega (arith, ints, greatest_f.0 p inside, greatest_g.0 p inside)),
  (
    mixed f.terms greatest_f.1.0 greatest_g.1.0,
    mixed_in f.terms path greatest_f.1.0 greatest_g.1.0 greatest_f.1.1 greatest_g.1.1,
    omega (arith, ints, mixed_first f greatest_f.1.0 greatest_g.1.0 rising_f, mixed_second f g greatest_f.1.0 greatest_g.1.0 rising_g apart, greatest_f.1.2, greatest_g.1.2),
  ),
)
