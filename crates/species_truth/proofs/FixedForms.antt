-- Forms that have one value at all points have no terms, and the ends of an index over a band with constant bounds are such.
use Rattle.std.proofs.Common.{◌≡◌, refl, ap, sym, ◌∙◌, arith, ℕ, zero, suc, ◌+◌, ◌-◌, ◌*◌, ◌<◌, ◌≤◌, ◌^◌, Bool, true, false, nat_eq, nat_lt, if◌then◌else◌, List, [], ◌∷◌, ℤ, pos, ◌+ℤ◌, ◌*ℤ◌}
use Rattle.std.specs.Prelude.{int_lt}
use Rattle.std.specs.Int.RustNames.{unsigned_abs}
use Rattle.std.proofs.lemmas.Bool.{eq-eqb}
use Rattle.std.proofs.lemmas.Bool.Decides.{nat_tests}
use Rattle.std.proofs.lemmas.Int.{ints}
use Rattle.std.proofs.Math.IntN.{*ℤ_comm}
use Rattle.species_integers.proofs.Products.{mul_zero, mul_one}
use Rattle.species_integers.proofs.Sizes.{abs_sum, abs_product}
use Rattle.species_ast.proofs.Induction.{Each}
use Rattle.species_linear.specs.declared.forms.Form.{Form}
use Rattle.species_linear.specs.declared.forms.Term.{Term}
use Rattle.species_linear.specs.Point.{Point}
use Rattle.species_linear.specs.Rising.{IsRisingFrom, IsRising}
use Rattle.species_linear.specs.Value.{sum_at, form_at, coefficient_at}
use Rattle.species_merge.specs.Bands.{zero_form, bound_at, end_form, ends_at, IsEndOf}
use Rattle.species_merge.specs.declared.bands.BandBound.{BandBound}

-- ---- one value at all points

abbrev unit_at : ℕ → Point
unit_at k j = if nat_eq j k then pos 1 else pos 0

abbrev origin : Point
origin j = pos 0

times_zero : (c : ℤ) → c *ℤ pos 0 ≡ pos 0
times_zero c = *ℤ_comm c (pos 0) ∙ mul_zero c

sum_above : (ts : List Term) (k n : ℕ) → IsRisingFrom n ts → k < n → sum_at ts (unit_at k) ≡ pos 0
sum_above [] k n r l = refl
sum_above (t ∷ ts) k n r l =
    let other : nat_eq t.level k ≡ false = grind (arith, nat_tests, l, r.0) in
    let none : unit_at k t.level ≡ pos 0 = ap (λ (b : Bool). if b then pos 1 else pos 0) other in
    let rest = sum_above ts k (t.level + 1) r.2 (omega (arith, l, r.0)) in
    omega (arith, ints, ap (λ (z : ℤ). t.coefficient *ℤ z) none, times_zero t.coefficient, rest)

sum_origin : (ts : List Term) → sum_at ts origin ≡ pos 0
sum_origin [] = refl
sum_origin (t ∷ ts) = omega (arith, ints, times_zero t.coefficient, sum_origin ts)

pub no_terms : (f : Form) (v : ℤ) → IsRising f.terms → ((p : Point) → form_at f p ≡ v) → f.terms ≡ []
no_terms f v r h = go f.terms r h
  where
    go : (ts : List Term) → IsRising ts → ((p : Point) → (f.constant +ℤ sum_at ts p) ≡ v) → ts ≡ []
    go [] r h = refl
    go (t ∷ ts) r h =
        let own : nat_eq t.level t.level ≡ true = eq-eqb t.level t.level refl in
        let one : unit_at t.level t.level ≡ pos 1 = ap (λ (b : Bool). if b then pos 1 else pos 0) own in
        let first : sum_at (t ∷ ts) (unit_at t.level) ≡ t.coefficient *ℤ pos 1 +ℤ pos 0 = (λ i. t.coefficient *ℤ one i +ℤ sum_above ts t.level (t.level + 1) r.2 (omega arith) i) in
        let none : t.coefficient ≡ pos 0 = omega (arith, ints, h (unit_at t.level), h origin, first, sum_origin (t ∷ ts), mul_one t.coefficient) in
        absurd (r.1 none)

-- ---- constant bounds

-- a form without terms, and with a small constant
pub record IsFixed (f : Form) : Type 0 where
  pub terms : f.terms ≡ []
  pub small : unsigned_abs f.constant ≤ 2 ^ 32

pub fixed_value : (f : Form) (p : Point) → f.terms ≡ [] → form_at f p ≡ f.constant
fixed_value f p e = ap (λ ts. f.constant +ℤ sum_at ts p) e ∙ omega (arith, ints)

pub record IsFixedBound (b : BandBound) : Type 0 where
  pub least : IsFixed b.least
  pub greatest : IsFixed b.greatest

bound_fixed : (b : BandBound) (k : ℕ) → IsFixedBound b → IsFixedBound (bound_at (b ∷ []) k)
bound_fixed b zero h = h
bound_fixed b (suc k) h = let none : IsFixed zero_form = record { terms = refl; small = omega arith } in record { least = none; greatest = none }

end_fixed : (lower : Bool) (c : ℤ) (b : BandBound) → IsFixedBound b → IsFixed (end_form lower c b)
end_fixed true c b h = go (int_lt c (pos 0))
  where
    go : (t : Bool) → IsFixed (if t then b.greatest else b.least)
    go true = h.greatest
    go false = h.least
end_fixed false c b h = go (int_lt c (pos 0))
  where
    go : (t : Bool) → IsFixed (if t then b.least else b.greatest)
    go true = h.least
    go false = h.greatest

-- where the terms of a form are least, or greatest
abbrev end_point : Bool → BandBound → List Term → Point
end_point lower b ts k = (end_form lower (coefficient_at ts k) (bound_at (b ∷ []) (k - 0))).constant

-- below level 0 there is none
from_zero : (f : Form) (p : Point) (k : ℕ) → f.terms ≡ [] → (if nat_lt k 0 then p k else form_at f p) ≡ f.constant
from_zero f p k none = go (nat_lt k 0) refl
  where
    go : (t : Bool) → nat_lt k 0 ≡ t → (if t then p k else form_at f p) ≡ f.constant
    go true is = let never : nat_lt k 0 ≡ false = grind (arith, nat_tests) in absurd cc
    go false is = fixed_value f p none

ends_are : (lower : Bool) (b : BandBound) (ts : List Term) (p : Point) (k : ℕ) → IsFixedBound b → ends_at lower 0 (b ∷ []) ts p k ≡ end_point lower b ts k
ends_are lower b ts p k h =
    from_zero (end_form lower (coefficient_at ts k) (bound_at (b ∷ []) (k - 0))) p k (end_fixed lower (coefficient_at ts k) (bound_at (b ∷ []) (k - 0)) (bound_fixed b (k - 0) h)).terms

sum_same : (ts : List Term) (p q : Point) → ((k : ℕ) → p k ≡ q k) → sum_at ts p ≡ sum_at ts q
sum_same [] p q h = refl
sum_same (t ∷ ts) p q h = (λ i. t.coefficient *ℤ h t.level i +ℤ sum_same ts p q h i)

-- ---- a form of one iterator

-- a term of the only iterator, with a number within the limit of a form
abbrev pub IsGoodTerm : Term → Type 0
IsGoodTerm t = (unsigned_abs t.coefficient ≤ 2147483647) × (t.level < 1)

sum_size : (ts : List Term) (p : Point) → IsRising ts → Each IsGoodTerm ts → ((k : ℕ) → unsigned_abs (p k) ≤ 2 ^ 32) → unsigned_abs (sum_at ts p) ≤ 2 ^ 63
sum_size [] p r h small = omega arith
sum_size (t ∷ []) p r h small =
    let product = abs_product t.coefficient (p t.level) 2147483647 (2 ^ 32) h.0.0 (small t.level) in
    omega (arith, product, abs_sum (t.coefficient *ℤ p t.level) (pos 0))
sum_size (t ∷ u ∷ ts) p r h small = let above = r.2.0 in let below = h.1.0.1 in absurd (omega (arith, above, below))

-- The law: such an end of an index has one value, which is within 2^63 of what it has at the origin.
pub record IsEnd (at : Form) (offset : ℤ) (f : Form) : Type 0 where
  pub terms : f.terms ≡ []
  pub rest : ℤ
  pub constant : f.constant ≡ (at.constant +ℤ rest) +ℤ offset
  pub small : unsigned_abs rest ≤ 2 ^ 63

pub end_of : (lower : Bool) (b : BandBound) (at : Form) (offset : ℤ) (f : Form) → IsFixedBound b → IsRising at.terms → Each IsGoodTerm at.terms → IsEndOf lower 0 (b ∷ []) at offset f → IsEnd at offset f
end_of lower b at offset f bound rising good h =
    let q : Point = end_point lower b at.terms in
    let value : (p : Point) → form_at f p ≡ (at.constant +ℤ sum_at at.terms q) +ℤ offset =
    λ p. h.value p ∙ ap (λ z. (at.constant +ℤ z) +ℤ offset) (sum_same at.terms (ends_at lower 0 (b ∷ []) at.terms p) q (λ k. ends_are lower b at.terms p k bound)) in
    let none : f.terms ≡ [] = no_terms f _ h.rising value in
    record {
      terms = none;
      rest = sum_at at.terms q;
      constant = sym (fixed_value f origin none) ∙ value origin;
      small = sum_size at.terms q rising good (λ k. (end_fixed lower (coefficient_at at.terms k) (bound_at (b ∷ []) (k - 0)) (bound_fixed b (k - 0) bound)).small);
    }
