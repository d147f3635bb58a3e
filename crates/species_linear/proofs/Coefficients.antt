-- The coefficient of a level is 0, or that of a term.
use Rattle.std.proofs.Common.{◌≡◌, ℕ, suc, ◌+◌, ◌<◌, ◌≤◌, ℤ, pos, arith, refl, List, [], ◌∷◌, length, slice_index_or, Bool, true, false, nat_eq, if◌then◌else◌, All, ◌⊎◌, inl, inr}
use Rattle.std.proofs.lemmas.Bool.{eqb-true}
use Rattle.std.proofs.lemmas.Bool.Decides.{nat_tests}
use Rattle.species_linear.specs.declared.forms.Term.{Term}
use Rattle.species_linear.specs.Rising.{IsRisingFrom}
use Rattle.species_linear.specs.Value.{coefficient_at}

-- below the first level there is none
pub coefficient_before : (k j : ℕ) (ts : List Term) → IsRisingFrom k ts → j < k → coefficient_at ts j ≡ pos 0
coefficient_before k j [] rising h = refl
coefficient_before k j (t ∷ ts) rising h =
    let first : k ≤ t.level = rising.0 in
    let other : nat_eq t.level j ≡ false = grind (arith, nat_tests) in
    rw other (coefficient_before (t.level + 1) j ts rising.2 (omega arith))

-- past all levels there is none
pub coefficient_past : (n j : ℕ) (ts : List Term) → All (λ t. t.level < n) ts → n ≤ j → coefficient_at ts j ≡ pos 0
coefficient_past n j [] below h = refl
coefficient_past n j (t ∷ ts) below h =
    let first : t.level < n = below 0 t (omega arith) in
    let other : nat_eq t.level j ≡ false = grind (arith, nat_tests) in
    rw other (coefficient_past n j ts (λ i d l. below (suc i) d (omega arith)) h)

-- what holds of both values holds of the one that is picked
pub either_has : (P : ℤ → Type 0) (b : Bool) (x y : ℤ) → P x → P y → P (if b then x else y)
either_has P true x y p q = p
either_has P false x y p q = q

-- what holds of 0 and of each term's coefficient holds of the coefficient of each level
pub coefficient_has : (P : ℤ → Type 0) (ts : List Term) (k : ℕ) → P (pos 0) → All (λ t. P t.coefficient) ts → P (coefficient_at ts k)
coefficient_has P [] k none each = none
coefficient_has P (t ∷ ts) k none each =
    either_has P (nat_eq t.level k) t.coefficient (coefficient_at ts k) (each 0 t (omega arith)) (coefficient_has P ts k none (λ i d l. each (suc i) d (omega arith)))

-- 0, or a term of this level
pub coefficient_cases : (ts : List Term) (k : ℕ) (d : Term) → (coefficient_at ts k ≡ pos 0) ⊎
    ((i : ℕ) × (i < length ts) × ((slice_index_or ts i d).level ≡ k) × (coefficient_at ts k ≡ (slice_index_or ts i d).coefficient))
coefficient_cases [] k d = inl refl
coefficient_cases (t ∷ ts) k d = elim (tested (nat_eq t.level k)) [
  | inl same ↦ inr (0, omega arith, eqb-true t.level k same, rw same refl)
  | inr other ↦ elim (coefficient_cases ts k d) [
    | inl none ↦ inl (rw other none)
    | inr found ↦ inr (suc found.0, omega (arith, found.1), found.2, rw other found.3)
  ]
]
  where
    tested : (b : Bool) → (b ≡ true) ⊎ (b ≡ false)
    tested true = inl refl
    tested false = inr refl
