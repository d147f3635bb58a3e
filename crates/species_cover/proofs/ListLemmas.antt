-- Some item of a list, looked for from its start; and all of them.
use Rattle.std.proofs.Common.{◌≡◌, ◌∙◌, sym, subst, arith, ℕ, ◌+◌, ◌<◌, ◌≤◌, List, length, slice_index_or, ◌⊎◌, inl, inr}
use Rattle.std.specs.List.{Any}
use Rattle.std.proofs.lemmas.List.{get_or_default}

pub any_at : {X : Type 0} (P : X → Type 0) (xs : List X) (i : ℕ) (x : X) → i < length xs → x ≡ slice_index_or xs i x → P x → Any P xs
any_at P xs i x lt is p = (i, x, lt, sym is, p)

pub none_at_end : {X : Type 0} (P : X → Type 0) (xs : List X) (i : ℕ) → length xs ≤ i → ((k : ℕ) (d : X) → k < i → P (slice_index_or xs k d) → ⊥) → Any P xs → ⊥
none_at_end P xs i le none h = none h.0 h.1 (omega (arith, h.2, le)) (subst P (sym h.3) h.4)

which : (k n : ℕ) → k < n + 1 → (k < n) ⊎ (k ≡ n)
which k n l = grind arith

-- one item more has this
pub one_next : {X : Type 0} (P : X → Type 0) (xs : List X) (i : ℕ) (x : X) → i < length xs → x ≡ slice_index_or xs i x
    → ((k : ℕ) (d : X) → k < i → P (slice_index_or xs k d)) → P x → (k : ℕ) (d : X) → k < i + 1 → P (slice_index_or xs k d)
one_next P xs i x lt is all here k d l = elim (which k i l) [
  | inl below ↦ all k d below
  | inr same ↦ subst (λ (j : ℕ). P (slice_index_or xs j d)) (sym same) (subst P (is ∙ get_or_default xs i x d lt) here)
]

pub none_next : {X : Type 0} (P : X → Type 0) (xs : List X) (i : ℕ) (x : X) → i < length xs → x ≡ slice_index_or xs i x
    → ((k : ℕ) (d : X) → k < i → P (slice_index_or xs k d) → ⊥) → (P x → ⊥) → (k : ℕ) (d : X) → k < i + 1 → P (slice_index_or xs k d) → ⊥
none_next P xs i x lt is none here k d l = one_next (λ y. P y → ⊥) xs i x lt is none here k d l
