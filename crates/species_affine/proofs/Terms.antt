-- A coefficient more, as a term or as no term.
use Rattle.std.proofs.Common.{◌≡◌, ◌≢◌, refl, ap, sym, ◌∙◌, arith, add-one, ℕ, zero, suc, ◌+◌, ◌<◌, Bool, true, false, nat_eq, if◌then◌else◌, List, [], ◌∷◌, ◌++◌, length, take, ℤ, pos, All, ◌⊎◌, inl, inr, FitsSigned, to_z, of_z}
use Rattle.std.specs.Prelude.{slice_index_or}
use Rattle.std.specs.Int.{w64}
use Rattle.std.proofs.lemmas.Int.{to_z-of_z}
use Rattle.std.proofs.lemmas.List.{get_or-take}
use Rattle.std.proofs.lemmas.Bool.{eqb-true}
use Rattle.std.proofs.lemmas.Bool.Decides.{nat_tests}
use Rattle.species_linear.specs.declared.forms.Term.{Term}
use Rattle.species_linear.specs.Rising.{IsRising}
use Rattle.species_linear.specs.Value.{coefficient_at}
use Rattle.species_linear.proofs.Order.{rising_push}
use Rattle.species_affine.specs.Limited.{IsWithin}

-- The terms are the coefficients of the levels below n that are not 0.
pub record AreTermsOf (cs : List ℤ) (n : ℕ) (ts : List Term) : Type 0 where
  pub below : All (λ t. t.level < n) ts
  pub same : (level : ℕ) → coefficient_at ts level ≡ slice_index_or (take n cs) level (pos 0)
  pub small : All (λ t. IsWithin t.coefficient) ts
  pub rising : IsRising ts

tested : (b : Bool) → (b ≡ true) ⊎ (b ≡ false)
tested true = inl refl
tested false = inr refl

coefficient_last : (ts : List Term) (t : Term) (level : ℕ) → All (λ u. u.level < t.level) ts →
    coefficient_at (ts ++ t ∷ []) level ≡ (if nat_eq t.level level then t.coefficient else coefficient_at ts level)
coefficient_last [] t level below = refl
coefficient_last (u ∷ ts) t level below =
    elim (tested (nat_eq u.level level)) [
      | inl same ↦
          let first : u.level < t.level = below 0 u (omega arith) in
          let other : nat_eq t.level level ≡ false = grind (arith, nat_tests) in
          rw (other, same) refl
      | inr other ↦ rw other (coefficient_last ts t level (λ j d l. below (suc j) d (omega (arith, l))))
    ]

-- a level more among the first changes no other
other_level : (cs : List ℤ) (n level : ℕ) → level ≢ n → n < length cs → slice_index_or (take (suc n) cs) level (pos 0) ≡ slice_index_or (take n cs) level (pos 0)
other_level [] n level other below = absurd (omega (arith, below))
other_level (c ∷ cs) zero zero other below = absurd (other refl)
other_level (c ∷ cs) zero (suc level) other below = refl
other_level (c ∷ cs) (suc n) zero other below = refl
other_level (c ∷ cs) (suc n) (suc level) other below = other_level cs n level (λ e. other (ap suc e)) (omega (arith, below))

at_last : (cs : List ℤ) (n : ℕ) → slice_index_or (take n cs) n (pos 0) ≡ pos 0
at_last [] zero = refl
at_last [] (suc n) = refl
at_last (c ∷ cs) zero = refl
at_last (c ∷ cs) (suc n) = at_last cs n

next_level : (cs : List ℤ) (n level : ℕ) (x y : ℤ) → n < length cs → x ≡ slice_index_or cs n (pos 0) → y ≡ slice_index_or (take n cs) level (pos 0) →
    (if nat_eq n level then x else y) ≡ slice_index_or (take (n + 1) cs) level (pos 0)
next_level cs n level x y below last others =
    let more : n + 1 ≡ suc n = add-one n in
    elim (tested (nat_eq n level)) [
      | inl same ↦
          let here : n ≡ level = eqb-true n level same in
          rw (same, ← here, more) (last ∙ sym (get_or-take (suc n) cs n (pos 0) (omega arith)))
      | inr other ↦
          let away : level ≢ n = grind (arith, nat_tests) in
          rw (other, more) (others ∙ sym (other_level cs n level away below))
    ]

all_more : {X : Type 0} (P : X → Type 0) (xs : List X) (x : X) → All P xs → P x → All P (xs ++ x ∷ [])
all_more P [] x h p zero d below = p
all_more P [] x h p (suc k) d below = absurd (omega (arith, below))
all_more P (y ∷ ys) x h p zero d below = h 0 d (omega arith)
all_more P (y ∷ ys) x h p (suc k) d below = all_more P ys x (λ j e l. h (suc j) e (omega (arith, l))) p k d (omega (arith, below))

pub no_terms : (cs : List ℤ) → AreTermsOf cs 0 []
no_terms cs = record { below = λ k d h. absurd (omega (arith, h)); same = λ level. refl; small = λ k d h. absurd (omega (arith, h)); rising = tt }

-- a coefficient other than 0 is a term
pub term_more : (cs : List ℤ) (n : ℕ) (ts : List Term) (t : Term) (more : List Term) → more ≡ ts ++ t ∷ [] → AreTermsOf cs n ts → n < length cs →
    t.level ≡ n → t.coefficient ≡ slice_index_or cs n (pos 0) → t.coefficient ≢ pos 0 → IsWithin t.coefficient → AreTermsOf cs (n + 1) more
term_more cs n ts t more is so within level coefficient nonzero small =
    let below : All (λ u. u.level < t.level) ts = rw level so.below in
    rw is record {
      below = all_more (λ u. u.level < n + 1) ts t (λ k d h. omega (arith, so.below k d h)) (omega (arith, level));
      same = λ l. coefficient_last ts t l below ∙ rw level (next_level cs n l t.coefficient (coefficient_at ts l) within coefficient (so.same l));
      small = all_more (λ u. IsWithin u.coefficient) ts t so.small small;
      rising = rising_push 0 ts t so.rising below (omega arith) nonzero;
    }

either_way : (n level : ℕ) (x : ℤ) → (n ≡ level → x ≡ pos 0) → x ≡ (if nat_eq n level then pos 0 else x)
either_way n level x h = elim (tested (nat_eq n level)) [
  | inl same ↦ rw same (h (eqb-true n level same))
  | inr other ↦ rw other refl
]

-- a coefficient that is 0 is none
-- 0 as a word
pub zero_word : (n : ℤ) → FitsSigned w64 n → of_z w64 n ≡ 0 → n ≡ pos 0
zero_word n fits h = sym (to_z-of_z w64 n fits) ∙ ap (to_z w64) h

pub word_zero : (n : ℤ) → n ≡ pos 0 → of_z w64 n ≡ 0
word_zero n h = ap (of_z w64) h

pub term_less : (cs : List ℤ) (n : ℕ) (ts : List Term) → AreTermsOf cs n ts → n < length cs → slice_index_or cs n (pos 0) ≡ pos 0 → AreTermsOf cs (n + 1) ts
term_less cs n ts so within nothing = record {
  below = λ k d h. omega (arith, so.below k d h);
  same = λ l. either_way n l (coefficient_at ts l) (λ here. so.same l ∙ rw (← here) (at_last cs n)) ∙ next_level cs n l (pos 0) (coefficient_at ts l) within (sym nothing) (so.same l);
  small = so.small;
  rising = so.rising;
}
