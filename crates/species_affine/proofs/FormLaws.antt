-- A form has one value in its two spellings: the terms at the point of the iterators, and the coefficients at the iterators.
use Rattle.std.proofs.Common.{◌≡◌, ◌≢◌, refl, ap, sym, ◌∙◌, subst, arith, ℕ, suc, ◌+◌, ◌-◌, ◌≤◌, Bool, true, false, nat_eq, List, [], ◌∷◌, ℤ, pos, ◌+ℤ◌, ◌*ℤ◌, ◌⊎◌, inl, inr}
use Rattle.std.specs.Prelude.{slice_index_or}
use Rattle.std.proofs.lemmas.Int.{ints}
use Rattle.std.proofs.lemmas.Bool.{eqb-true, eq-eqb}
use Rattle.std.proofs.lemmas.Bool.Decides.{nat_tests}
use Rattle.std.proofs.Math.IntN.{*ℤ_comm}
use Rattle.species_integers.proofs.Products.{mul_zero}
use Rattle.species_ast.specs.Scope.Forms as text
use Rattle.species_linear.specs.declared.forms.Form.{Form}
use Rattle.species_linear.specs.declared.forms.Term.{Term}
use Rattle.species_linear.specs.Point.{Point, point_of}
use Rattle.species_linear.specs.Rising.{IsRisingFrom}
use Rattle.species_linear.specs.Value.{sum_at, form_at, coefficient_at}
use Rattle.species_linear.proofs.Coefficients.{coefficient_before}
use Rattle.species_affine.specs.Subscript.{IsSameForm}

-- the sum of coefficient times iterator, where the first coefficient is that of level k
abbrev sum_from : ℕ → List ℤ → Point → ℤ
sum_from k [] p = pos 0
sum_from k (c ∷ cs) p = c *ℤ p k +ℤ sum_from (suc k) cs p

tested : (b : Bool) → (b ≡ true) ⊎ (b ≡ false)
tested true = inl refl
tested false = inr refl

-- ---- terms and coefficients

all_zero : (k : ℕ) (cs : List ℤ) (p : Point) → ((level : ℕ) → pos 0 ≡ slice_index_or cs level (pos 0)) → sum_from k cs p ≡ pos 0
all_zero k [] p h = refl
all_zero k (c ∷ cs) p h =
    let none : pos 0 ≡ c = h 0 in
    omega (arith, ints, ap (λ (z : ℤ). z *ℤ p k) none, mul_zero (p k), all_zero (suc k) cs p (λ level. h (suc level)))

-- a term has the coefficient of its level
own_coefficient : (t : Term) (ts : List Term) → coefficient_at (t ∷ ts) t.level ≡ t.coefficient
own_coefficient t ts = let same : nat_eq t.level t.level ≡ true = eq-eqb t.level t.level refl in rw same refl

-- and no other
other_coefficient : (t : Term) (ts : List Term) (level : ℕ) → t.level ≢ level → coefficient_at (t ∷ ts) level ≡ coefficient_at ts level
other_coefficient t ts level apart = let other : nat_eq t.level level ≡ false = grind (arith, nat_tests, apart) in rw other refl

sums_same : (k : ℕ) (cs : List ℤ) (ts : List Term) (p : Point) → IsRisingFrom k ts → ((level : ℕ) → coefficient_at ts (k + level) ≡ slice_index_or cs level (pos 0))
    → sum_at ts p ≡ sum_from k cs p
sums_same k cs [] p rising same = sym (all_zero k cs p same)
sums_same k [] (t ∷ ts) p rising same =
    let there : k + (t.level - k) ≡ t.level = omega (arith, rising.0) in
    let none : coefficient_at (t ∷ ts) t.level ≡ pos 0 = subst (λ j. coefficient_at (t ∷ ts) j ≡ pos 0) there (same (t.level - k)) in
    absurd (rising.1 (sym (own_coefficient t ts) ∙ none))
sums_same k (c ∷ cs) (t ∷ ts) p rising same =
    let first : coefficient_at (t ∷ ts) k ≡ c = subst (λ j. coefficient_at (t ∷ ts) j ≡ c) (omega arith) (same 0) in
    let later : (level : ℕ) → coefficient_at (t ∷ ts) (suc k + level) ≡ slice_index_or cs level (pos 0) =
    λ level. subst (λ j. coefficient_at (t ∷ ts) j ≡ slice_index_or cs level (pos 0)) (omega arith) (same (suc level)) in
    elim (tested (nat_eq t.level k)) [
      | inl here ↦
          let level : t.level ≡ k = eqb-true t.level k here in
          let own : t.coefficient ≡ c = sym (own_coefficient t ts) ∙ ap (coefficient_at (t ∷ ts)) level ∙ first in
          let rest : sum_at ts p ≡ sum_from (suc k) cs p =
          sums_same (suc k) cs ts p (subst (λ j. IsRisingFrom j ts) (omega (arith, level)) rising.2)
          (λ j. sym (other_coefficient t ts (suc k + j) (λ e. omega (arith, e, level))) ∙ later j) in
          (λ i. own i *ℤ p (level i) +ℤ rest i)
      | inr other ↦
          let from : k ≤ t.level = rising.0 in
          let behind : suc k ≤ t.level = grind (arith, nat_tests) in
          let above : IsRisingFrom (suc k) (t ∷ ts) = (behind, rising.1, rising.2) in
          let none : pos 0 ≡ c = sym (coefficient_before (suc k) k (t ∷ ts) above (omega arith)) ∙ first in
          let rest : sum_at (t ∷ ts) p ≡ sum_from (suc k) cs p = sums_same (suc k) cs (t ∷ ts) p above later in
          omega (arith, ints, ap (λ (z : ℤ). z *ℤ p k) none, mul_zero (p k), rest)
    ]

-- ---- the point of the iterators

no_iterators : (cs : List ℤ) → text.sum_of cs [] ≡ pos 0
no_iterators [] = refl
no_iterators (c ∷ cs) = refl

point_same : (k : ℕ) (cs is : List ℤ) (p : Point) → ((j : ℕ) → p (k + j) ≡ slice_index_or is j (pos 0)) → sum_from k cs p ≡ text.sum_of cs is
point_same k [] is p h = refl
point_same k (c ∷ cs) [] p h =
    let here : p k ≡ pos 0 = subst (λ j. p j ≡ pos 0) (omega arith) (h 0) in
    let rest = point_same (suc k) cs [] p (λ j. subst (λ n. p n ≡ pos 0) (omega arith) (h (suc j))) in
    omega (arith, ints, ap (λ (z : ℤ). c *ℤ z) here, *ℤ_comm c (pos 0), mul_zero c, rest, no_iterators cs)
point_same k (c ∷ cs) (i ∷ is) p h =
    let here : p k ≡ i = subst (λ j. p j ≡ i) (omega arith) (h 0) in
    let rest = point_same (suc k) cs is p (λ j. subst (λ n. p n ≡ slice_index_or is j (pos 0)) (omega arith) (h (suc j))) in
    (λ j. c *ℤ here j +ℤ rest j)

-- The law: two spellings of one form have one value.
pub same_value : (f : Form) (g : text.Form) (iters : List ℤ) → IsSameForm f g → form_at f (point_of iters) ≡ text.form_value g iters
same_value f g iters same =
    let sums : sum_at f.terms (point_of iters) ≡ text.sum_of g.coefficients iters =
    sums_same 0 g.coefficients f.terms (point_of iters) same.rising (λ level. ap (coefficient_at f.terms) (omega arith) ∙ same.coefficients level)
    ∙ point_same 0 g.coefficients iters (point_of iters) (λ j. ap (point_of iters) (omega arith)) in
    (λ i. same.constant i +ℤ sums i)
