-- The table of the counts of locals, and the flags that it is counted from.
use Rattle.std.proofs.Common.{◌≡◌, ◌∙◌, refl, sym, ap, ℕ, zero, suc, ◌+◌, ◌-◌, ◌<◌, ◌≤◌, Bool, true, false, ◌||◌, nat_eq, if◌then◌else◌, List, [], ◌∷◌, ◌++◌, length, get_or, set, take, drop, arith}
use Rattle.std.specs.List.{list_any}
use Rattle.std.proofs.lemmas.List.{get_or_past, get_or_default}
use Rattle.std.proofs.lemmas.List.Folds.{list_any_more}
use Rattle.species_ast.specs.Scope.Meanings.{is_among, count_before}
use Rattle.species_names.specs.Counted.{Counts, counts_from}

-- ---- flags

pub not_set : (xs : List Bool) (n : ℕ) → get_or (xs ++ false ∷ []) n false ≡ get_or xs n false
not_set [] zero = refl
not_set [] (suc n) = refl
not_set (x ∷ xs) zero = refl
not_set (x ∷ xs) (suc n) = not_set xs n

same_next : (a b : ℕ) → nat_eq a b ≡ nat_eq (suc a) (suc b)
same_next a b = grind arith

pub set_at : (xs : List Bool) (at n : ℕ) → at < length xs → get_or (set xs at true) n false ≡ (nat_eq n at || get_or xs n false)
set_at [] at n h = absurd (omega (arith, h))
set_at (x ∷ xs) zero zero h = refl
set_at (x ∷ xs) zero (suc n) h = ap (λ b. b || get_or xs n false) (later n)
  where
    later : (n : ℕ) → false ≡ nat_eq (suc n) 0
    later n = grind arith
set_at (x ∷ xs) (suc at) zero h = ap (λ b. b || x) (earlier at)
  where
    earlier : (at : ℕ) → false ≡ nat_eq 0 (suc at)
    earlier at = grind arith
set_at (x ∷ xs) (suc at) (suc n) h = set_at xs at n (omega (arith, h)) ∙ ap (λ b. b || get_or xs n false) (same_next n at)

or_swap : (a b : Bool) → (a || b) ≡ (b || a)
or_swap true true = refl
or_swap true false = refl
or_swap false true = refl
or_swap false false = refl

-- one more iterator
pub flagged_next : (xs : List ℕ) (i x : ℕ) (old new : List Bool) → ((n : ℕ) → get_or old n false ≡ is_among (take i xs) n)
    → x ≡ get_or xs i x → i < length xs → ((n : ℕ) → get_or new n false ≡ (nat_eq n x || get_or old n false))
    → (n : ℕ) → get_or new n false ≡ is_among (take (i + 1) xs) n
flagged_next xs i x old new h at within more n =
    more n ∙ ap (λ b. nat_eq n x || b) (h n) ∙ or_swap (nat_eq n x) (is_among (take i xs) n)
    ∙ ap (λ y. is_among (take i xs) n || nat_eq n y) at ∙ sym (list_any_more (nat_eq n) xs i x within)

-- ---- counts

first : (c : ℕ) (fs : List Bool) → get_or (counts_from c fs) 0 0 ≡ c
first c [] = refl
first c (true ∷ fs) = refl
first c (false ∷ fs) = refl

long : (c : ℕ) (fs : List Bool) → length (counts_from c fs) ≡ suc (length fs)
long c [] = refl
long c (true ∷ fs) = ap suc (long c fs)
long c (false ∷ fs) = ap suc (long (suc c) fs)

step : (c : ℕ) (fs : List Bool) (n : ℕ) → n < length fs
    → get_or (counts_from c fs) (suc n) 0 ≡ (if get_or fs n false then get_or (counts_from c fs) n 0 else suc (get_or (counts_from c fs) n 0))
step c [] n h = absurd (omega (arith, h))
step c (true ∷ fs) zero h = first c fs
step c (false ∷ fs) zero h = first (suc c) fs
step c (true ∷ fs) (suc n) h = step c fs n (omega (arith, h))
step c (false ∷ fs) (suc n) h = step (suc c) fs n (omega (arith, h))

agrees : (its : List ℕ) (fs : List Bool) → ((n : ℕ) → get_or fs n false ≡ is_among its n) → (n : ℕ) → n ≤ length fs → get_or (counts_from 0 fs) n 0 ≡ count_before its n
agrees its fs h zero k = first 0 fs
agrees its fs h (suc n) k =
    let before = agrees its fs h n (omega (arith, k)) in
    step 0 fs n (omega (arith, k)) ∙ (λ i. if h n i then before i else suc (before i))

-- the table that is counted from the flags
pub counted : (its : List ℕ) (fs : List Bool) (before : List ℕ) → ((n : ℕ) → get_or fs n false ≡ is_among its n) → before ≡ counts_from 0 fs → Counts its before
counted its fs before h e =
    let size : length before ≡ suc (length fs) = ap (λ (xs : List ℕ). length xs) e ∙ long 0 fs in
    record {
      some = omega (arith, size);
      agrees = λ n k. ap (λ xs. get_or xs n 0) e ∙ agrees its fs h n (omega (arith, size, k));
      past = λ n k. sym (h n) ∙ get_or_past fs n false (omega (arith, size, k));
    }

-- ---- what is looked up

two_equal : (b : Bool) (c : ℕ) → nat_eq c (if b then c else suc c) ≡ b
two_equal true c = grind arith
two_equal false c = grind arith

pub is_iterator : (its before : List ℕ) (n a b : ℕ) → Counts its before → n + 1 < length before → a ≡ get_or before n a → b ≡ get_or before (n + 1) b
    → get_or before n 0 ≡ a → get_or before (n + 1) 0 ≡ b → nat_eq a b ≡ is_among its n
is_iterator its before n a b h k pa pb ha hb =
    (λ i. nat_eq ((sym ha ∙ h.agrees n (omega (arith, k))) i) ((sym hb ∙ ap (λ m. get_or before m 0) one ∙ h.agrees (suc n) (omega (arith, k))) i))
    ∙ two_equal (is_among its n) (count_before its n)
  where
    one : n + 1 ≡ suc n
    one = omega arith

pub count_most : (its : List ℕ) (n : ℕ) → count_before its n ≤ n
count_most its zero = omega arith
count_most its (suc n) = go (is_among its n) (count_most its n)
  where
    go : (b : Bool) → count_before its n ≤ n → (if b then count_before its n else suc (count_before its n)) ≤ suc n
    go true h = omega (arith, h)
    go false h = omega (arith, h)

-- none of the locals from one on is an iterator
pub count_past : (its : List ℕ) (m k : ℕ) → ((n : ℕ) → m ≤ n → is_among its n ≡ false) → count_before its (k + m) ≡ count_before its m + k
count_past its m zero h = ap (count_before its) left ∙ right
  where
    left : 0 + m ≡ m
    left = omega arith

    right : count_before its m ≡ count_before its m + 0
    right = omega arith
count_past its m (suc k) h =
    ap (count_before its) left ∙ ap (λ b. if b then count_before its (k + m) else suc (count_before its (k + m))) (h (k + m) (omega arith))
    ∙ ap suc (count_past its m k h) ∙ right
  where
    left : suc k + m ≡ suc (k + m)
    left = omega arith

    right : suc (count_before its m + k) ≡ count_before its m + suc k
    right = omega arith

-- the count of a local past the last iterator
pub looked_up : (its before : List ℕ) (serial size found : ℕ) → Counts its before → size ≡ length before → size - 1 ≤ serial → found ≡ get_or before (size - 1) found
    → found + (serial - (size - 1)) ≡ count_before its serial
looked_up its before serial size found h e past at =
    let inside : size - 1 < length before = omega (arith, e, h.some) in
    ap (λ n. n + (serial - (size - 1))) (at ∙ get_or_default before (size - 1) found 0 inside ∙ h.agrees (size - 1) inside)
    ∙ sym (count_past its (size - 1) (serial - (size - 1)) (λ n k. h.past n (omega (arith, k, e, h.some))))
    ∙ ap (count_before its) whole
  where
    whole : serial - (size - 1) + (size - 1) ≡ serial
    whole = omega (arith, past)

pub of_flags : (its xs : List ℕ) (fs gs : List Bool) (before : List ℕ) → xs ≡ its → ((n : ℕ) → get_or fs n false ≡ is_among its n) → gs ≡ fs → before ≡ counts_from 0 gs → Counts xs before
of_flags its xs fs gs before same h e k = counted xs fs before (λ n. h n ∙ ap (λ l. is_among l n) (sym same)) (k ∙ ap (counts_from 0) e)
