-- Members of a class, turn by turn.
use Rattle.std.proofs.Common.{◌≡◌, ◌∙◌, refl, ap, sym, subst, arith, ℕ, zero, suc, ◌+◌, ◌<◌, Bool, true, false, if◌then◌else◌, List, [], ◌∷◌, ◌++◌, ◌≤◌, length, take, filter, slice_index_or, All, inl, inr}
use Rattle.std.specs.List.{Any}
use Rattle.std.proofs.lemmas.List.{take_more, take_all}
use Rattle.std.proofs.lemmas.List.Elements.{filter-append, All-append}
use Rattle.species_merge.proofs.ClassLemmas.{each_filter}
use Rattle.species_merge.proofs.Folding.{Each, Has, all_of, each_of, any_of}

-- what is kept of one more
kept_more : {X : Type 0} (test : X → Bool) (first : X) (xs : List X) (i : ℕ) (d : X) → i < length xs
    → first ∷ filter test (take (i + 1) xs) ≡ (first ∷ filter test (take i xs)) ++ filter test (slice_index_or xs i d ∷ [])
kept_more test first xs i d l =
    ap (λ ys. first ∷ filter test ys) (take_more xs i d l) ∙ ap (λ ys. first ∷ ys) (filter-append test (take i xs) (slice_index_or xs i d ∷ []))

kept_one : {X : Type 0} (test : X → Bool) (x : X) (b : Bool) → test x ≡ b → filter test (x ∷ []) ≡ (if b then x ∷ [] else [])
kept_one test x b is = rw is refl

pub kept_with : {X : Type 0} (test : X → Bool) (first : X) (xs : List X) (i : ℕ) (d : X) → i < length xs → test (slice_index_or xs i d) ≡ true
    → first ∷ filter test (take (i + 1) xs) ≡ (first ∷ filter test (take i xs)) ++ slice_index_or xs i d ∷ []
kept_with test first xs i d l is = kept_more test first xs i d l ∙ ap (λ ys. (first ∷ filter test (take i xs)) ++ ys) (kept_one test (slice_index_or xs i d) true is)

pub kept_without : {X : Type 0} (test : X → Bool) (first : X) (xs : List X) (i : ℕ) (d : X) → i < length xs → test (slice_index_or xs i d) ≡ false
    → first ∷ filter test (take (i + 1) xs) ≡ first ∷ filter test (take i xs)
kept_without test first xs i d l is =
    kept_more test first xs i d l ∙ ap (λ ys. (first ∷ filter test (take i xs)) ++ ys) (kept_one test (slice_index_or xs i d) false is) ∙ none_more (first ∷ filter test (take i xs))
  where
    none_more : {X : Type 0} (ys : List X) → ys ++ [] ≡ ys
    none_more [] = refl
    none_more (y ∷ ys) = ap (λ zs. y ∷ zs) (none_more ys)

pub all_one : {X : Type 0} (P : X → Type 0) (x : X) → P x → All P (x ∷ [])
all_one P x p zero d l = p
all_one P x p (suc k) d l = absurd (omega (arith, l))

pub all_with : {X : Type 0} (P : X → Type 0) (test : X → Bool) (first : X) (xs : List X) (i : ℕ) (d : X) → i < length xs → test (slice_index_or xs i d) ≡ true
    → P (slice_index_or xs i d) → All P (first ∷ filter test (take i xs)) → All P (first ∷ filter test (take (i + 1) xs))
all_with P test first xs i d l is p h =
    subst (λ ys. All P ys) (sym (kept_with test first xs i d l is)) (All-append P (first ∷ filter test (take i xs)) (slice_index_or xs i d ∷ []) h (all_one P (slice_index_or xs i d) p))

pub all_without : {X : Type 0} (P : X → Type 0) (test : X → Bool) (first : X) (xs : List X) (i : ℕ) (d : X) → i < length xs → test (slice_index_or xs i d) ≡ false
    → All P (first ∷ filter test (take i xs)) → All P (first ∷ filter test (take (i + 1) xs))
all_without P test first xs i d l is h = subst (λ ys. All P ys) (sym (kept_without test first xs i d l is)) h

-- what is kept is among the members
each_kept : {X : Type 0} (P : X → Type 0) (test : X → Bool) (xs : List X) (i : ℕ) (d : X) → i < length xs → test (slice_index_or xs i d) ≡ true
    → Each P (filter test xs) → P (slice_index_or xs i d)
each_kept P test [] i d l is h = absurd (omega (arith, l))
each_kept P test (x ∷ xs) zero d l is h = go (test x) is h
  where
    go : (b : Bool) → b ≡ true → Each P (if b then x ∷ filter test xs else filter test xs) → P x
    go true e h = h.0
    go false e h = absurd (cc e)
each_kept P test (x ∷ xs) (suc i) d l is h = go (test x) h (each_kept P test xs i d (omega (arith, l)) is)
  where
    go : (b : Bool) → Each P (if b then x ∷ filter test xs else filter test xs) → (Each P (filter test xs) → P (slice_index_or xs i d)) → P (slice_index_or xs i d)
    go true h rest = rest h.1
    go false h rest = rest h

pub all_kept : {X : Type 0} (P : X → Type 0) (test : X → Bool) (first : X) (xs : List X) (i : ℕ) (d : X) → i < length xs → test (slice_index_or xs i d) ≡ true
    → All P (first ∷ filter test xs) → P (slice_index_or xs i d)
all_kept P test first xs i d l is h = each_kept P test xs i d l is (each_of P (first ∷ filter test xs) h).1

has_kept : {X : Type 0} (P : X → Type 0) (test : X → Bool) (xs : List X) (i : ℕ) (d : X) → i < length xs → test (slice_index_or xs i d) ≡ true
    → P (slice_index_or xs i d) → Has P (filter test xs)
has_kept P test [] i d l is p = absurd (omega (arith, l))
has_kept P test (x ∷ xs) zero d l is p = go (test x) is
  where
    go : (b : Bool) → b ≡ true → Has P (if b then x ∷ filter test xs else filter test xs)
    go true e = inl p
    go false e = absurd (cc e)
has_kept P test (x ∷ xs) (suc i) d l is p = go (test x) (has_kept P test xs i d (omega (arith, l)) is p)
  where
    go : (b : Bool) → Has P (filter test xs) → Has P (if b then x ∷ filter test xs else filter test xs)
    go true h = inr h
    go false h = h

pub any_kept : {X : Type 0} (P : X → Type 0) (test : X → Bool) (first : X) (xs : List X) (i : ℕ) (d : X) → i < length xs → test (slice_index_or xs i d) ≡ true
    → P (slice_index_or xs i d) → Any P (first ∷ filter test xs)
any_kept P test first xs i d l is p = any_of P (first ∷ filter test xs) (inr (has_kept P test xs i d l is p))

-- ---- the same, for the item of a turn

pub item_with : {X : Type 0} (P : X → Type 0) (test : X → Bool) (first : X) (xs : List X) (i : ℕ) (x : X) → i < length xs → x ≡ slice_index_or xs i x → test x ≡ true
    → P x → All P (first ∷ filter test (take i xs)) → All P (first ∷ filter test (take (i + 1) xs))
item_with P test first xs i x l at is p h = all_with P test first xs i x l (subst (λ y. test y ≡ true) at is) (subst P at p) h

pub item_without : {X : Type 0} (P : X → Type 0) (test : X → Bool) (first : X) (xs : List X) (i : ℕ) (x : X) → i < length xs → x ≡ slice_index_or xs i x → test x ≡ false
    → All P (first ∷ filter test (take i xs)) → All P (first ∷ filter test (take (i + 1) xs))
item_without P test first xs i x l at is h = all_without P test first xs i x l (subst (λ y. test y ≡ false) at is) h

pub item_has : {X : Type 0} (P : X → Type 0) (test : X → Bool) (first : X) (xs : List X) (i : ℕ) (x : X) → i < length xs → x ≡ slice_index_or xs i x → test x ≡ true
    → All P (first ∷ filter test xs) → P x
item_has P test first xs i x l at is h = subst P (sym at) (all_kept P test first xs i x l (subst (λ y. test y ≡ true) at is) h)

pub item_any : {X : Type 0} (P : X → Type 0) (test : X → Bool) (first : X) (xs : List X) (i : ℕ) (x : X) → i < length xs → x ≡ slice_index_or xs i x → test x ≡ true
    → P x → Any P (first ∷ filter test xs)
item_any P test first xs i x l at is p = any_kept P test first xs i x l (subst (λ y. test y ≡ true) at is) (subst P at p)

-- behind the last turn
pub items_done : {X : Type 0} (P : X → Type 0) (test : X → Bool) (first : X) (xs : List X) (i : ℕ) → length xs ≤ i
    → All P (first ∷ filter test (take i xs)) → All P (first ∷ filter test xs)
items_done P test first xs i l h = subst (λ ys. All P (first ∷ filter test ys)) (take_all i xs l) h

pub all_not_any : {X : Type 0} (P : X → Type 0) (xs : List X) → All (λ x. P x → ⊥) xs → Any P xs → ⊥
all_not_any P xs h (k, y, l, e, p) = h k y l (subst P (sym e) p)

-- what holds of all references holds of all members
pub all_members : {X : Type 0} (P : X → Type 0) (test : X → Bool) (first : X) (xs : List X) → P first → All P xs → All P (first ∷ filter test xs)
all_members P test first xs p h = all_of P (first ∷ filter test xs) (p, each_filter P test xs (each_of P xs h))

pub all_two : {X : Type 0} (P : X → Type 0) (x y : X) → P x → P y → All P (x ∷ y ∷ [])
all_two P x y p q = all_of P (x ∷ y ∷ []) (p, (q, tt))
