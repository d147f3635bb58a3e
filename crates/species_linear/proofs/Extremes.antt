-- Facts of extremes that hold whatever is allowed, and whatever the value.
use Rattle.std.proofs.Common.{◌≡◌, ℤ, ◌+ℤ◌, ◌≤ℤ◌, arith}
use Rattle.std.proofs.lemmas.Int.{ints}
use Rattle.std.proofs.Math.IntN.{neg_ℤ}
use Rattle.species_linear.specs.Box.{IsLeastOver, IsGreatestOver}

-- there is one least value, and one greatest
pub least_unique : {X : Type 0} (P : X → Type 0) (value : X → ℤ) (y z : ℤ) → IsLeastOver P value y → IsLeastOver P value z → y ≡ z
least_unique P value y z p q = omega (arith, ints, p.0 q.1.0 q.1.1, q.1.2, q.0 p.1.0 p.1.1, p.1.2)

pub greatest_unique : {X : Type 0} (P : X → Type 0) (value : X → ℤ) (y z : ℤ) → IsGreatestOver P value y → IsGreatestOver P value z → y ≡ z
greatest_unique P value y z p q = omega (arith, ints, p.0 q.1.0 q.1.1, q.1.2, q.0 p.1.0 p.1.1, p.1.2)

-- the least is at most the greatest
pub least_to_greatest : {X : Type 0} (P : X → Type 0) (value : X → ℤ) (y z : ℤ) → IsLeastOver P value y → IsGreatestOver P value z → y ≤ℤ z
least_to_greatest P value y z p q = omega (arith, ints, q.0 p.1.0 p.1.1, p.1.2)

-- a constant more
pub least_shifted : {X : Type 0} (P : X → Type 0) (value : X → ℤ) (c z : ℤ) → IsLeastOver P value z → IsLeastOver P (λ x. c +ℤ value x) (c +ℤ z)
least_shifted P value c z p = ((λ x allowed. omega (arith, ints, p.0 x allowed)), (p.1.0, p.1.1, omega (arith, ints, p.1.2)))

pub greatest_shifted : {X : Type 0} (P : X → Type 0) (value : X → ℤ) (c z : ℤ) → IsGreatestOver P value z → IsGreatestOver P (λ x. c +ℤ value x) (c +ℤ z)
greatest_shifted P value c z p = ((λ x allowed. omega (arith, ints, p.0 x allowed)), (p.1.0, p.1.1, omega (arith, ints, p.1.2)))

-- the other sign turns the least into the greatest
pub greatest_of_negation : {X : Type 0} (P : X → Type 0) (value : X → ℤ) (z : ℤ) → IsLeastOver P value z → IsGreatestOver P (λ x. neg_ℤ (value x)) (neg_ℤ z)
greatest_of_negation P value z p = ((λ x allowed. omega (arith, ints, p.0 x allowed)), (p.1.0, p.1.1, omega (arith, ints, p.1.2)))

pub least_of_negation : {X : Type 0} (P : X → Type 0) (value : X → ℤ) (z : ℤ) → IsGreatestOver P value z → IsLeastOver P (λ x. neg_ℤ (value x)) (neg_ℤ z)
least_of_negation P value z p = ((λ x allowed. omega (arith, ints, p.0 x allowed)), (p.1.0, p.1.1, omega (arith, ints, p.1.2)))

-- what has the same value everywhere has the same extremes
pub least_same : {X : Type 0} (P : X → Type 0) (value other : X → ℤ) (z : ℤ) → ((x : X) → value x ≡ other x) → IsLeastOver P value z → IsLeastOver P other z
least_same P value other z same p = (
  (λ x allowed. omega (arith, ints, p.0 x allowed, same x)),
  (p.1.0, p.1.1, omega (arith, ints, p.1.2, same p.1.0)),
)

pub greatest_same : {X : Type 0} (P : X → Type 0) (value other : X → ℤ) (z : ℤ) → ((x : X) → value x ≡ other x) → IsGreatestOver P value z → IsGreatestOver P other z
greatest_same P value other z same p = (
  (λ x allowed. omega (arith, ints, p.0 x allowed, same x)),
  (p.1.0, p.1.1, omega (arith, ints, p.1.2, same p.1.0)),
)
