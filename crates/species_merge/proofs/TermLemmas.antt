-- Rising terms, apart by level.
use Rattle.std.proofs.Common.{◌≡◌, refl, ap, sym, subst, arith, ℕ, zero, suc, ◌+◌, ◌<◌, ◌≤◌, Bool, true, false, not, nat_lt, if◌then◌else◌, List, [], ◌∷◌, ◌++◌, length, take, drop, slice_index_or, All, pos}
use Rattle.std.proofs.lemmas.Bool.Decides.{nat_tests}
use Rattle.std.proofs.lemmas.List.{take_more}
use Rattle.std.proofs.lemmas.List.Elements.{All-append}
use Rattle.species_linear.specs.declared.forms.Term.{Term}
use Rattle.species_linear.specs.Rising.{IsRisingFrom}
use Rattle.species_merge.proofs.Folding.{Each}
use Rattle.species_merge.specs.Classes.{terms_below, terms_from}

-- terms of which the first is of level n or more have none below
none_below : (n k : ℕ) (ts : List Term) → n ≤ k → IsRisingFrom k ts → terms_below n ts ≡ []
none_below n k [] le h = refl
none_below n k (t ∷ ts) le h =
    let test : nat_lt t.level n ≡ false = grind (arith, nat_tests, le, h.0) in
    rw test (none_below n (t.level + 1) ts (omega (arith, le, h.0)) h.2)

all_from : (n k : ℕ) (ts : List Term) → n ≤ k → IsRisingFrom k ts → terms_from n ts ≡ ts
all_from n k [] le h = refl
all_from n k (t ∷ ts) le h =
    let test : nat_lt t.level n ≡ false = grind (arith, nat_tests, le, h.0) in
    rw test (ap (λ us. t ∷ us) (all_from n (t.level + 1) ts (omega (arith, le, h.0)) h.2))

-- the first i terms are those of lower levels, where each of them is and the next is not
pub split_at : (n k i : ℕ) (d : Term) (ts : List Term) → IsRisingFrom k ts → i ≤ length ts → All (λ t. t.level < n) (take i ts)
    → (i < length ts → n ≤ (slice_index_or ts i d).level) → (take i ts ≡ terms_below n ts) × (drop i ts ≡ terms_from n ts)
split_at n k zero d [] h le below next = (refl, refl)
split_at n k (suc i) d [] h le below next = absurd (omega (arith, le))
split_at n k zero d (t ∷ ts) h le below next =
    let from : n ≤ t.level = next (omega arith) in
    let rising : IsRisingFrom t.level (t ∷ ts) = (omega arith, h.1, h.2) in
    (sym (none_below n t.level (t ∷ ts) from rising), sym (all_from n t.level (t ∷ ts) from rising))
split_at n k (suc i) d (t ∷ ts) h le below next =
    let first : t.level < n = below 0 t (omega arith) in
    let test : nat_lt t.level n ≡ true = grind (arith, nat_tests, first) in
    let rest = split_at n (t.level + 1) i d ts h.2 (omega (arith, le)) (λ j e l. below (suc j) e (omega (arith, l))) (λ l. next (omega (arith, l))) in
    rw test (ap (λ us. t ∷ us) rest.0, rest.1)

-- both parts rise, and together they are the terms
pub below_rising : (n k : ℕ) (ts : List Term) → IsRisingFrom k ts → IsRisingFrom k (terms_below n ts)
below_rising n k [] h = tt
below_rising n k (t ∷ ts) h = go (nat_lt t.level n) refl (below_rising n (t.level + 1) ts h.2)
  where
    go : (b : Bool) → nat_lt t.level n ≡ b → IsRisingFrom (t.level + 1) (terms_below n ts) → IsRisingFrom k (if b then t ∷ terms_below n ts else terms_below n ts)
    go true e rest = (h.0, h.1, rest)
    go false e rest =
        let from : n ≤ t.level = grind (arith, nat_tests, e) in
        subst (λ us. IsRisingFrom k us) (sym (none_below n (t.level + 1) ts (omega (arith, from)) h.2)) tt

pub parts_are_all : (n k : ℕ) (ts : List Term) → IsRisingFrom k ts → terms_below n ts ++ terms_from n ts ≡ ts
parts_are_all n k [] h = refl
parts_are_all n k (t ∷ ts) h = go (nat_lt t.level n) refl (parts_are_all n (t.level + 1) ts h.2)
  where
    go : (b : Bool) → nat_lt t.level n ≡ b → terms_below n ts ++ terms_from n ts ≡ ts
        → (if b then t ∷ terms_below n ts else terms_below n ts) ++ (if not b then t ∷ terms_from n ts else terms_from n ts) ≡ t ∷ ts
    go true e rest = ap (λ us. t ∷ us) rest
    go false e rest =
        let from : n ≤ t.level = grind (arith, nat_tests, e) in
        let low = none_below n (t.level + 1) ts (omega (arith, from)) h.2 in
        rw low (ap (λ us. t ∷ us) (all_from n (t.level + 1) ts (omega (arith, from)) h.2))

pub all_below : (n : ℕ) (ts : List Term) → Each (λ t. t.level < n) (terms_below n ts)
all_below n [] = tt
all_below n (t ∷ ts) = go (nat_lt t.level n) refl (all_below n ts)
  where
    go : (b : Bool) → nat_lt t.level n ≡ b → Each (λ u. u.level < n) (terms_below n ts) → Each (λ u. u.level < n) (if b then t ∷ terms_below n ts else terms_below n ts)
    go true is rest = (grind (arith, nat_tests, is), rest)
    go false is rest = rest

-- the others rise as well
pub rising_less : (j k : ℕ) (ts : List Term) → j ≤ k → IsRisingFrom k ts → IsRisingFrom j ts
rising_less j k [] le h = tt
rising_less j k (t ∷ ts) le h = (omega (arith, le, h.0), h.1, h.2)

pub from_rising : (n k : ℕ) (ts : List Term) → IsRisingFrom k ts → IsRisingFrom k (terms_from n ts)
from_rising n k [] h = tt
from_rising n k (t ∷ ts) h = go (not (nat_lt t.level n)) (from_rising n (t.level + 1) ts h.2)
  where
    go : (b : Bool) → IsRisingFrom (t.level + 1) (terms_from n ts) → IsRisingFrom k (if b then t ∷ terms_from n ts else terms_from n ts)
    go true rest = (h.0, h.1, rest)
    go false rest = rising_less k (t.level + 1) (terms_from n ts) (omega (arith, h.0)) rest

abbrev pub no_term : Term
no_term = record { level = 0; coefficient = pos 0 }

-- one term more of a lower level
pub below_more : (n : ℕ) (ts : List Term) (i : ℕ) (d : Term) → i < length ts → All (λ t. t.level < n) (take i ts) → (slice_index_or ts i d).level < n → All (λ t. t.level < n) (take (i + 1) ts)
below_more n ts i d l h below =
    subst (λ us. All (λ t. t.level < n) us) (sym (take_more ts i d l)) (All-append (λ t. t.level < n) (take i ts) (slice_index_or ts i d ∷ []) h one)
  where
    one : All (λ t. t.level < n) (slice_index_or ts i d ∷ [])
    one zero e k = below
    one (suc j) e k = absurd (omega (arith, k))
