-- Terms whose levels rise.
use Rattle.std.proofs.Common.{◌≡◌, ◌≢◌, ℕ, zero, suc, ◌+◌, ◌≤◌, ◌<◌, pos, arith, refl, false, List, [], ◌∷◌, ◌++◌, length, slice_index_or, nat_eq, All}
use Rattle.std.proofs.lemmas.Bool.{eq-eqb}
use Rattle.std.proofs.lemmas.Bool.Decides.{nat_tests}
use Rattle.species_linear.specs.declared.forms.Term.{Term}
use Rattle.species_linear.specs.Rising.{IsRisingFrom}
use Rattle.species_linear.specs.Value.{coefficient_at}

-- each level is at least the bound from which they rise
pub rising_above : (k : ℕ) (ts : List Term) (i : ℕ) (d : Term) → IsRisingFrom k ts → i < length ts → k ≤ (slice_index_or ts i d).level
rising_above k [] i d rising h = absurd (omega (arith, h))
rising_above k (t ∷ ts) zero d rising h = rising.0
rising_above k (t ∷ ts) (suc i) d rising h = omega (arith, rising.0, rising_above (t.level + 1) ts i d rising.2 (omega arith))

-- no term has the coefficient 0
pub term_nonzero : (k : ℕ) (ts : List Term) (i : ℕ) (d : Term) → IsRisingFrom k ts → i < length ts → (slice_index_or ts i d).coefficient ≢ pos 0
term_nonzero k [] i d rising h = absurd (omega (arith, h))
term_nonzero k (t ∷ ts) zero d rising h = rising.1
term_nonzero k (t ∷ ts) (suc i) d rising h = term_nonzero (t.level + 1) ts i d rising.2 (omega arith)

-- levels that rise and are below n are at most n
pub few_terms : (n k : ℕ) (ts : List Term) → IsRisingFrom k ts → All (λ t. t.level < n) ts → k ≤ n → k + length ts ≤ n
few_terms n k [] rising below h = omega arith
few_terms n k (t ∷ ts) rising below h =
    let first : t.level < n = below 0 t (omega arith) in
    omega (arith, rising.0, few_terms n (t.level + 1) ts rising.2 (λ j d l. below (suc j) d (omega arith)) (omega arith))

-- a term above all others may stand at the end
pub rising_push : (k : ℕ) (ts : List Term) (u : Term) → IsRisingFrom k ts → All (λ t. t.level < u.level) ts → k ≤ u.level → u.coefficient ≢ pos 0 →
    IsRisingFrom k (ts ++ u ∷ [])
rising_push k [] u rising below h nonzero = (h, nonzero, tt)
rising_push k (t ∷ ts) u rising below h nonzero =
    let first : t.level < u.level = below 0 t (omega arith) in
    (rising.0, rising.1, rising_push (t.level + 1) ts u rising.2 (λ j d l. below (suc j) d (omega arith)) (omega arith) nonzero)

-- the coefficient at a term's level is the term's
pub coefficient_of_term : (k : ℕ) (ts : List Term) (i : ℕ) (d : Term) → IsRisingFrom k ts → i < length ts →
    coefficient_at ts (slice_index_or ts i d).level ≡ (slice_index_or ts i d).coefficient
coefficient_of_term k [] i d rising h = absurd (omega (arith, h))
coefficient_of_term k (t ∷ ts) zero d rising h = rw (eq-eqb t.level t.level refl) refl
coefficient_of_term k (t ∷ ts) (suc i) d rising h =
    let above : t.level + 1 ≤ (slice_index_or ts i d).level = rising_above (t.level + 1) ts i d rising.2 (omega arith) in
    let other : nat_eq t.level (slice_index_or ts i d).level ≡ false = grind (arith, nat_tests) in
    rw other (coefficient_of_term (t.level + 1) ts i d rising.2 (omega arith))
