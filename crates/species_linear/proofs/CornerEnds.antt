-- A form is least, or greatest, at a corner of the box.
use Rattle.std.proofs.Common.{◌≡◌, suc, ℤ, pos, ◌*ℤ◌, ◌≤ℤ◌, arith, refl, Bool, true, false, List, [], ◌∷◌, length, slice_index_or, All}
use Rattle.std.specs.Int.RustNames.{int_lt}
use Rattle.std.proofs.lemmas.Int.{ints, by_lt_z}
use Rattle.species_integers.proofs.Products.{mul_up, mul_down}
use Rattle.species_linear.specs.declared.forms.Term.{Term}
use Rattle.species_linear.specs.declared.forms.Form.{Form}
use Rattle.species_linear.specs.declared.loops.LoopRange.{LoopRange}
use Rattle.species_linear.specs.Rising.{IsRising}
use Rattle.species_linear.specs.Point.{Point}
use Rattle.species_linear.specs.Value.{sum_at, form_at, coefficient_at, NamesOnly}
use Rattle.species_linear.specs.Box.{zero_range, range_at, IsInRange, IsInBox, IsFull, IsLeastOver, IsGreatestOver, IsLeast, IsGreatest}
use Rattle.species_linear.specs.Corner.{end_of, corner_of}
use Rattle.species_linear.proofs.Order.{coefficient_of_term}
use Rattle.species_linear.proofs.Coefficients.{either_has}

-- ---- one term
-- at its lower end a term is at most what it is in the range
pub lower_least : (c : ℤ) (r : LoopRange) (x : ℤ) → IsInRange r x → (c *ℤ end_of true c r) ≤ℤ (c *ℤ x)
lower_least c r x inside = by_lt_z c (pos 0)
    (λ h. let falls : int_lt c (pos 0) ≡ true = grind (arith, ints) in rw falls (mul_down c x r.high (omega (arith, ints, h)) inside.1))
    (λ h. let rises : int_lt c (pos 0) ≡ false = grind (arith, ints) in rw rises (mul_up c r.low x h inside.0))

-- at its upper end it is at least that
pub upper_greatest : (c : ℤ) (r : LoopRange) (x : ℤ) → IsInRange r x → (c *ℤ x) ≤ℤ (c *ℤ end_of false c r)
upper_greatest c r x inside = by_lt_z c (pos 0)
    (λ h. let falls : int_lt c (pos 0) ≡ true = grind (arith, ints) in rw falls (mul_down c r.low x (omega (arith, ints, h)) inside.0))
    (λ h. let rises : int_lt c (pos 0) ≡ false = grind (arith, ints) in rw rises (mul_up c x r.high h inside.1))

-- what holds of both ends of a range holds of the end that is picked
pub end_has : (P : ℤ → Type 0) (lower : Bool) (c : ℤ) (r : LoopRange) → P r.low → P r.high → P (end_of lower c r)
end_has P true c r p q = either_has P (int_lt c (pos 0)) r.high r.low q p
end_has P false c r p q = either_has P (int_lt c (pos 0)) r.low r.high p q

-- the end that is picked lies in the range
pub end_in : (lower : Bool) (c : ℤ) (r : LoopRange) → r.low ≤ℤ r.high → IsInRange r (end_of lower c r)
end_in lower c r full = end_has (IsInRange r) lower c r (omega (arith, ints), full) (full, omega (arith, ints))

-- so a full range has the extremes of a term at these ends
pub least_of_term : (c : ℤ) (r : LoopRange) → r.low ≤ℤ r.high → IsLeastOver (IsInRange r) (λ x. c *ℤ x) (c *ℤ end_of true c r)
least_of_term c r full = (lower_least c r, (end_of true c r, end_in true c r full, refl))

pub greatest_of_term : (c : ℤ) (r : LoopRange) → r.low ≤ℤ r.high → IsGreatestOver (IsInRange r) (λ x. c *ℤ x) (c *ℤ end_of false c r)
greatest_of_term c r full = (upper_greatest c r, (end_of false c r, end_in false c r full, refl))

-- ---- the whole form
-- the corner is a point of the box
pub corner_in : (lower : Bool) (f : Form) (path : List LoopRange) → IsFull path → IsInBox path (corner_of lower f path)
corner_in lower f path full k h =
    end_in lower (coefficient_at f.terms k) (range_at path k) (full k zero_range h)

-- terms that all grow have a sum that grows
pub sums_up : (ts : List Term) (p q : Point) → All (λ t. (t.coefficient *ℤ p t.level) ≤ℤ (t.coefficient *ℤ q t.level)) ts → sum_at ts p ≤ℤ sum_at ts q
sums_up [] p q each = omega (arith, ints)
sums_up (t ∷ ts) p q each = omega (arith, ints, each 0 t (omega arith), sums_up ts p q (λ j d l. each (suc j) d (omega arith)))

pub least_at_corner : (f : Form) (path : List LoopRange) → IsRising f.terms → NamesOnly f (length path) → IsFull path →
    IsLeast f path (form_at f (corner_of true f path))
least_at_corner f path rising named full = (
  (λ p inside. omega (
    arith,
    ints,
    sums_up f.terms (corner_of true f path) p (λ i d h.
        rw (coefficient_of_term 0 f.terms i d rising h)
        (lower_least (slice_index_or f.terms i d).coefficient (range_at path (slice_index_or f.terms i d).level) (p (slice_index_or f.terms i d).level)
        (inside (slice_index_or f.terms i d).level (named i d h)))),
  )),
  (corner_of true f path, corner_in true f path full, refl),
)

pub greatest_at_corner : (f : Form) (path : List LoopRange) → IsRising f.terms → NamesOnly f (length path) → IsFull path →
    IsGreatest f path (form_at f (corner_of false f path))
greatest_at_corner f path rising named full = (
  (λ p inside. omega (
    arith,
    ints,
    sums_up f.terms p (corner_of false f path) (λ i d h.
        rw (coefficient_of_term 0 f.terms i d rising h)
        (upper_greatest (slice_index_or f.terms i d).coefficient (range_at path (slice_index_or f.terms i d).level) (p (slice_index_or f.terms i d).level)
        (inside (slice_index_or f.terms i d).level (named i d h)))),
  )),
  (corner_of false f path, corner_in false f path full, refl),
)
