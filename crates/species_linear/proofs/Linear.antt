-- A form is linear in the point, and in its terms.
use Rattle.std.proofs.Common.{◌≡◌, ℤ, pos, ◌+ℤ◌, ◌-ℤ◌, ◌*ℤ◌, arith, List, [], ◌∷◌, ◌++◌}
use Rattle.std.proofs.lemmas.Int.{ints}
use Rattle.std.proofs.Math.IntN.{*ℤ_comm}
use Rattle.species_integers.proofs.Products.{mul_plus, mul_minus, mul_zero, mul_swap}
use Rattle.species_linear.specs.declared.forms.Term.{Term}
use Rattle.species_linear.specs.declared.forms.Form.{Form}
use Rattle.species_linear.specs.Point.{Point}
use Rattle.species_linear.specs.Value.{sum_at, form_at}

-- the sum and the difference of two points, and a multiple of a point
abbrev pub point_sum : Point → Point → Point
point_sum p q k = p k +ℤ q k

abbrev pub point_difference : Point → Point → Point
point_difference p q k = p k -ℤ q k

abbrev pub point_multiple : ℤ → Point → Point
point_multiple c p k = c *ℤ p k

-- ---- the terms at these points
pub sum_at-sum : (ts : List Term) (p q : Point) → sum_at ts (point_sum p q) ≡ sum_at ts p +ℤ sum_at ts q
sum_at-sum [] p q = omega (arith, ints)
sum_at-sum (t ∷ ts) p q = omega (arith, ints, mul_plus t.coefficient (p t.level) (q t.level), sum_at-sum ts p q)

pub sum_at-difference : (ts : List Term) (p q : Point) → sum_at ts (point_difference p q) ≡ sum_at ts p -ℤ sum_at ts q
sum_at-difference [] p q = omega (arith, ints)
sum_at-difference (t ∷ ts) p q = omega (arith, ints, mul_minus t.coefficient (p t.level) (q t.level), sum_at-difference ts p q)

pub sum_at-multiple : (ts : List Term) (c : ℤ) (p : Point) → sum_at ts (point_multiple c p) ≡ c *ℤ sum_at ts p
sum_at-multiple [] c p = omega (arith, ints, *ℤ_comm c (pos 0), mul_zero c)
sum_at-multiple (t ∷ ts) c p =
    omega (arith, ints, mul_swap t.coefficient c (p t.level), mul_plus c (t.coefficient *ℤ p t.level) (sum_at ts p), sum_at-multiple ts c p)

-- the terms of two lists at one point
pub sum_at-append : (ts us : List Term) (p : Point) → sum_at (ts ++ us) p ≡ sum_at ts p +ℤ sum_at us p
sum_at-append [] us p = omega (arith, ints)
sum_at-append (t ∷ ts) us p = omega (arith, ints, sum_at-append ts us p)

-- ---- the whole form: the constant counts once
pub form_at-sum : (f : Form) (p q : Point) → form_at f (point_sum p q) ≡ form_at f p +ℤ sum_at f.terms q
form_at-sum f p q = omega (arith, ints, sum_at-sum f.terms p q)

pub form_at-difference : (f : Form) (p q : Point) → form_at f p -ℤ form_at f q ≡ sum_at f.terms (point_difference p q)
form_at-difference f p q = omega (arith, ints, sum_at-difference f.terms p q)

pub form_at-multiple : (f : Form) (c : ℤ) (p : Point) → form_at f (point_multiple c p) ≡ f.constant +ℤ c *ℤ sum_at f.terms p
form_at-multiple f c p = omega (arith, ints, sum_at-multiple f.terms c p)
