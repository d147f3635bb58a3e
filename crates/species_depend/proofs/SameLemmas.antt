-- Two lists that agree so far.
use Rattle.std.proofs.Common.{◌≡◌, refl, sym, ◌∙◌, arith, ℕ, zero, suc, ◌+◌, ◌<◌, ◌≤◌, List, [], ◌∷◌, length, inl, inr}
use Rattle.std.specs.Prelude.{slice_index_or}
use Rattle.std.proofs.lemmas.List.{get_or_default}
use Rattle.species_depend.proofs.LeastLemmas.{before_or_at}

abbrev pub SameBelow : {X : Type 0} → List X → List X → ℕ → Type 0
SameBelow {X} xs ys i = (k : ℕ) (d : X) → k < i → slice_index_or xs k d ≡ slice_index_or ys k d

pub same_next : {X : Type 0} (xs ys : List X) (i : ℕ) (x y : X) → length xs ≡ length ys → i < length xs → x ≡ slice_index_or xs i x → y ≡ slice_index_or ys i y → SameBelow xs ys i → x ≡ y → SameBelow xs ys (i + 1)
same_next xs ys i x y long below is_x is_y before same k d h = elim (before_or_at k i h) [
  | inl less ↦ before k d less
  | inr here ↦ rw here (sym (is_x ∙ get_or_default xs i x d below) ∙ (same ∙ (is_y ∙ get_or_default ys i y d (omega (arith, below, long)))))
]

pub same_end : {X : Type 0} (xs ys : List X) (i : ℕ) → length xs ≡ length ys → length xs ≤ i → SameBelow xs ys i → xs ≡ ys
same_end [] [] i long all h = refl
same_end [] (y ∷ ys) i long all h = absurd (omega (arith, long))
same_end (x ∷ xs) [] i long all h = absurd (omega (arith, long))
same_end (x ∷ xs) (y ∷ ys) zero long all h = absurd (omega (arith, all))
same_end (x ∷ xs) (y ∷ ys) (suc i) long all h =
    let first : x ≡ y = h 0 x (omega arith) in
    let rest : xs ≡ ys = same_end xs ys i (omega (arith, long)) (omega (arith, all)) (λ k d below. h (suc k) d (omega (arith, below))) in
    λ t. first t ∷ rest t
