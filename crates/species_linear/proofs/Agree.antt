-- A form depends on the levels that it names, and on no other.
use Rattle.std.proofs.Common.{◌≡◌, ℕ, suc, ◌<◌, ℤ, pos, ◌*ℤ◌, arith, refl, ap, List, [], ◌∷◌, slice_index_or, All, ◌⊎◌, inl, inr}
use Rattle.std.proofs.lemmas.Int.{ints}
use Rattle.species_linear.specs.declared.forms.Term.{Term}
use Rattle.species_linear.specs.declared.forms.Form.{Form}
use Rattle.species_linear.specs.Rising.{IsRising}
use Rattle.species_linear.specs.Point.{Point}
use Rattle.species_linear.specs.Value.{sum_at, form_at, coefficient_at, NamesOnly}
use Rattle.species_linear.proofs.Order.{coefficient_of_term, term_nonzero}

-- The points agree at each level that the terms name.
abbrev pub AgreeOn : List Term → Point → Point → Type 0
AgreeOn ts p q = All (λ t. p t.level ≡ q t.level) ts

pub sum_at-agree : (ts : List Term) (p q : Point) → AgreeOn ts p q → sum_at ts p ≡ sum_at ts q
sum_at-agree [] p q agree = refl
sum_at-agree (t ∷ ts) p q agree =
    omega (arith, ints, ap (λ (z : ℤ). t.coefficient *ℤ z) (agree 0 t (omega arith)), sum_at-agree ts p q (λ j d l. agree (suc j) d (omega arith)))

pub form_at-agree : (f : Form) (p q : Point) → AgreeOn f.terms p q → form_at f p ≡ form_at f q
form_at-agree f p q agree = omega (arith, ints, sum_at-agree f.terms p q agree)

-- ---- the same, where the points agree below a level
pub agree_below : (ts : List Term) (n : ℕ) (p q : Point) → All (λ t. t.level < n) ts → ((k : ℕ) → k < n → p k ≡ q k) → AgreeOn ts p q
agree_below ts n p q below same i d h = same (slice_index_or ts i d).level (below i d h)

pub form_at-agree_below : (f : Form) (n : ℕ) (p q : Point) → NamesOnly f n → ((k : ℕ) → k < n → p k ≡ q k) → form_at f p ≡ form_at f q
form_at-agree_below f n p q named same = form_at-agree f p q (agree_below f.terms n p q named same)

-- ---- the same, where the points agree at each level with a coefficient
pub agree_at_coefficients : (ts : List Term) (p q : Point) → IsRising ts → ((k : ℕ) → (coefficient_at ts k ≡ pos 0) ⊎ (p k ≡ q k)) → AgreeOn ts p q
agree_at_coefficients ts p q rising same i d h = elim (same (slice_index_or ts i d).level) [
  | inl none ↦ absurd (term_nonzero 0 ts i d rising h (rw (coefficient_of_term 0 ts i d rising h) at none))
  | inr e ↦ e
]

pub form_at-agree_at_coefficients : (f : Form) (p q : Point) → IsRising f.terms →
    ((k : ℕ) → (coefficient_at f.terms k ≡ pos 0) ⊎ (p k ≡ q k)) → form_at f p ≡ form_at f q
form_at-agree_at_coefficients f p q rising same = form_at-agree f p q (agree_at_coefficients f.terms p q rising same)
