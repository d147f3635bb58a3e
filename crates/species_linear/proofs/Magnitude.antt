-- The size of a form's value.
use Rattle.std.proofs.Common.{ℕ, suc, ◌*◌, ◌^◌, ◌≤◌, ◌<◌, ℤ, ◌*ℤ◌, arith, subst, List, [], ◌∷◌, length, All}
use Rattle.std.specs.Int.RustNames.{unsigned_abs}
use Rattle.std.proofs.lemmas.Nat.{mul-le}
use Rattle.species_integers.proofs.Sizes.{abs_sum, abs_product, abs_between}
use Rattle.species_linear.specs.declared.forms.Term.{Term}
use Rattle.species_linear.specs.declared.forms.Form.{Form}
use Rattle.species_linear.specs.declared.loops.LoopRange.{LoopRange}
use Rattle.species_linear.specs.Rising.{IsRising}
use Rattle.species_linear.specs.Point.{Point}
use Rattle.species_linear.specs.Value.{sum_at, form_at, NamesOnly, HasSmallForm}
use Rattle.species_linear.specs.Box.{zero_range, range_at, IsInBox, HasSmallPath, IsLeast, IsGreatest}
use Rattle.species_linear.proofs.Order.{few_terms}

-- coefficients at most a and values at most b
pub abs_sum_at : (ts : List Term) (p : Point) (a b : ℕ) → All (λ t. unsigned_abs t.coefficient ≤ a) ts → All (λ t. unsigned_abs (p t.level) ≤ b) ts →
    unsigned_abs (sum_at ts p) ≤ length ts * (a * b)
abs_sum_at [] p a b small near = omega arith
abs_sum_at (t ∷ ts) p a b small near =
    grind (
      arith,
      abs_sum (t.coefficient *ℤ p t.level) (sum_at ts p),
      abs_product t.coefficient (p t.level) a b (small 0 t (omega arith)) (near 0 t (omega arith)),
      abs_sum_at ts p a b (λ j d l. small (suc j) d (omega arith)) (λ j d l. near (suc j) d (omega arith)),
    )

-- a small form of at most 16 levels, at a point with small values
pub abs_form_at : (f : Form) (p : Point) (n : ℕ) → IsRising f.terms → NamesOnly f n → n ≤ 16 → HasSmallForm f →
    ((k : ℕ) → k < n → unsigned_abs (p k) ≤ 2 ^ 40) → unsigned_abs (form_at f p) ≤ 2 ^ 115
abs_form_at f p n rising named few small near =
    let all : unsigned_abs (sum_at f.terms p) ≤ length f.terms * (2 ^ 70 * 2 ^ 40) =
    abs_sum_at f.terms p (2 ^ 70) (2 ^ 40) (λ i d h. omega (arith, small.1 i d h)) (λ i d h. near _ (named i d h)) in
    let count : length f.terms ≤ 16 = omega (arith, few_terms n 0 f.terms rising named (omega arith)) in
    omega (arith, all, mul-le (length f.terms) (2 ^ 70 * 2 ^ 40) 16 (2 ^ 70 * 2 ^ 40) count (omega arith), abs_sum f.constant (sum_at f.terms p), small.0)

-- ---- over a small box
pub abs_in_box : (path : List LoopRange) (p : Point) → HasSmallPath path → IsInBox path p → (k : ℕ) → k < length path → unsigned_abs (p k) ≤ 2 ^ 40
abs_in_box path p small inside k h =
    abs_between (range_at path k).low (range_at path k).high (p k) (2 ^ 40) (inside k h).0 (inside k h).1 (small k zero_range h).0 (small k zero_range h).1

pub abs_least : (f : Form) (path : List LoopRange) (z : ℤ) → IsRising f.terms → NamesOnly f (length path) → length path ≤ 16 → HasSmallForm f → HasSmallPath path →
    IsLeast f path z → unsigned_abs z ≤ 2 ^ 115
abs_least f path z rising named few small near least = subst (λ (w : ℤ). unsigned_abs w ≤ 2 ^ 115) least.1.2
    (abs_form_at f least.1.0 (length path) rising named few small (abs_in_box path least.1.0 near least.1.1))

pub abs_greatest : (f : Form) (path : List LoopRange) (z : ℤ) → IsRising f.terms → NamesOnly f (length path) → length path ≤ 16 → HasSmallForm f → HasSmallPath path →
    IsGreatest f path z → unsigned_abs z ≤ 2 ^ 115
abs_greatest f path z rising named few small near greatest = subst (λ (w : ℤ). unsigned_abs w ≤ 2 ^ 115) greatest.1.2
    (abs_form_at f greatest.1.0 (length path) rising named few small (abs_in_box path greatest.1.0 near greatest.1.1))
