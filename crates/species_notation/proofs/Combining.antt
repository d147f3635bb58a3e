-- What readers answer on parts that are put together.
use Rattle.std.proofs.Common.{◌≡◌, ◌∙◌, ap, sym, refl, subst, ℕ, zero, suc, ◌<◌, ◌≤◌, List, [], ◌∷◌, ◌++◌, length, Some, None, Bool, true, false, arith, append_assoc, length-append}
use Rattle.std.specs.Prelude.{if◌then◌else◌, nat_eq, bytes_eq, is_some}
use Rattle.std.specs.List.{flat_map}
use Rattle.std.proofs.lemmas.Slice.Eq.{bytes_eq-Decides}
use Rattle.species_grammar.specs.Reader.{Answer, Reader, ◌>>=◌, Word, is_of, starts, said, word, nothing, both, mapped, skip, ends, maybe, cons_of, many, repeated}
use Rattle.species_grammar.proofs.Free.{choose_then, choose_else}
use Rattle.species_notation.specs.declared.parts.Part.{Part}
use Rattle.species_notation.specs.declared.parts.Part.TheVariants as part
use Rattle.species_notation.specs.Spelled.{behind, listed_parts}
use Rattle.species_notation.specs.Readers.{sign, more_of, listed}

pub nat_eq-same : (n : ℕ) → nat_eq n n ≡ true
nat_eq-same n = grind arith

pub same_bytes : (w : List ℕ) → bytes_eq w w ≡ true
same_bytes w = (bytes_eq-Decides w w).1 refl

pub both_at : {Tok A B : Type 0} (r : Reader Tok A) (q : Reader Tok B) (ts : List Tok) (x : A) (us : List Tok) (y : B) (vs : List Tok)
    → r ts ≡ Answer.read x us → q us ≡ Answer.read y vs → both r q ts ≡ Answer.read (x, y) vs
both_at r q ts x us y vs e f = ap (λ a. a >>= (λ x us. q us >>= (λ y rest. Answer.read (x, y) rest))) e ∙ ap (λ a. a >>= (λ y rest. Answer.read (x, y) rest)) f

pub mapped_at : {Tok A B : Type 0} (f : A → B) (r : Reader Tok A) (ts : List Tok) (x : A) (us : List Tok) → r ts ≡ Answer.read x us → mapped f r ts ≡ Answer.read (f x) us
mapped_at f r ts x us e = ap (λ a. a >>= (λ x rest. Answer.read (f x) rest)) e

pub skip_at : {Tok A B : Type 0} (w : Word Tok A) (r : Reader Tok B) (ts : List Tok) (x : A) (us : List Tok) (y : B) (vs : List Tok)
    → word w ts ≡ Answer.read x us → r us ≡ Answer.read y vs → skip w r ts ≡ Answer.read y vs
skip_at w r ts x us y vs e f = mapped_at (λ p. p.1) (both (word w) r) ts (x, y) vs (both_at (word w) r ts x us y vs e f)

pub ends_at : {Tok A B : Type 0} (r : Reader Tok B) (w : Word Tok A) (ts : List Tok) (y : B) (us : List Tok) (x : A) (vs : List Tok)
    → r ts ≡ Answer.read y us → word w us ≡ Answer.read x vs → ends r w ts ≡ Answer.read y vs
ends_at r w ts y us x vs e f = mapped_at (λ p. p.0) (both r (word w)) ts (y, x) vs (both_at r (word w) ts y us x vs e f)

pub maybe_not : {Tok A B : Type 0} (w : Word Tok A) (r : Reader Tok B) (ts : List Tok) → starts (is_of w) ts ≡ false → maybe w r ts ≡ Answer.read None ts
maybe_not w r ts e = choose_else (is_of w) (mapped Some (skip w r)) (nothing None) ts e

pub maybe_then : {Tok A B : Type 0} (w : Word Tok A) (r : Reader Tok B) (ts : List Tok) (y : B) (us : List Tok) → starts (is_of w) ts ≡ true → skip w r ts ≡ Answer.read y us → maybe w r ts ≡ Answer.read (Some y) us
maybe_then w r ts y us e f = choose_then (is_of w) (mapped Some (skip w r)) (nothing None) ts e ∙ mapped_at Some (skip w r) ts y us f

pub sign_at : (n : ℕ) (us : List Part) → word (sign n) (part.Sign n ∷ us) ≡ Answer.read tt us
sign_at n us = ap (λ b. said (if b then Some tt else None) us (part.Sign n ∷ us)) (nat_eq-same n)

pub sign_starts : (n : ℕ) (us : List Part) → starts (is_of (sign n)) (part.Sign n ∷ us) ≡ true
sign_starts n us = ap (λ b. is_some (if b then Some tt else None)) (nat_eq-same n)

-- ---- many

module _ {Tok A : Type 0} (c : Tok → Bool) (r : Reader Tok A) (parts : A → List Tok) (End : List Tok → Type 0)
    (begin : (x : A) (us : List Tok) → starts c (parts x ++ us) ≡ true)
    (then_end : (x : A) (us : List Tok) → End (parts x ++ us))
    (reads : (x : A) (us : List Tok) → End us → r (parts x ++ us) ≡ Answer.read x us)
    (long : (x : A) → 1 ≤ length (parts x))
    (rest : List Tok) (stop : starts c rest ≡ false) (end : End rest) where
  ends_on : (xs : List A) → End (flat_map parts xs ++ rest)
  ends_on [] = end
  ends_on (x ∷ xs) = subst End (sym (append_assoc (parts x) (flat_map parts xs) rest)) (then_end x (flat_map parts xs ++ rest))

  many_at : (m : ℕ) (xs : List A) → length xs < m → many m c r (flat_map parts xs ++ rest) ≡ Answer.read xs rest
  many_at zero xs lt = absurd (let x : ⊥ = omega (arith, lt) in x)
  many_at (suc m) [] lt = choose_else c (mapped cons_of (both r (many m c r))) (nothing []) rest stop
  many_at (suc m) (x ∷ xs) lt =
      let less : length xs < m = omega (arith, lt) in
      ap (many (suc m) c r) (append_assoc (parts x) (flat_map parts xs) rest)
      ∙ choose_then c (mapped cons_of (both r (many m c r))) (nothing []) (parts x ++ (flat_map parts xs ++ rest)) (begin x (flat_map parts xs ++ rest))
      ∙ mapped_at cons_of (both r (many m c r)) (parts x ++ (flat_map parts xs ++ rest)) (x, xs) rest
      (both_at r (many m c r) (parts x ++ (flat_map parts xs ++ rest)) x (flat_map parts xs ++ rest) xs rest (reads x (flat_map parts xs ++ rest) (ends_on xs)) (many_at m xs less))

  count : (xs : List A) → length xs ≤ length (flat_map parts xs ++ rest)
  count [] = omega arith
  count (x ∷ xs) =
      let h = count xs in
      let l = long x in
      omega (arith, h, l, ap length (append_assoc (parts x) (flat_map parts xs) rest), length-append (parts x) (flat_map parts xs ++ rest))

  pub repeated_at : (xs : List A) → repeated c r (flat_map parts xs ++ rest) ≡ Answer.read xs rest
  unfolding repeated
  repeated_at xs =
      let h = count xs in
      let lt : length xs < suc (length (flat_map parts xs ++ rest)) = omega (arith, h) in
      many_at (suc (length (flat_map parts xs ++ rest))) xs lt

-- ---- one or more

module _ {A : Type 0} (n : ℕ) (r : Reader Part A) (parts : A → List Part) (End : List Part → Type 0)
    (then_end : (x : A) (us : List Part) → End (part.Sign n ∷ us))
    (reads : (x : A) (us : List Part) → End us → r (parts x ++ us) ≡ Answer.read x us)
    (rest : List Part) (stop : starts (is_of (sign n)) rest ≡ false) (end : End rest) where
  after_reads : (x : A) (us : List Part) → End us → skip (sign n) r (behind n parts x ++ us) ≡ Answer.read x us
  after_reads x us e = skip_at (sign n) r (part.Sign n ∷ (parts x ++ us)) tt (parts x ++ us) x us (sign_at n (parts x ++ us)) (reads x us e)

  first_end : (xs : List A) → End (flat_map (behind n parts) xs ++ rest)
  first_end [] = end
  first_end (x ∷ xs) = then_end x (parts x ++ flat_map (behind n parts) xs ++ rest)

  -- the others
  pub more_at : (xs : List A) → more_of n r (flat_map (behind n parts) xs ++ rest) ≡ Answer.read xs rest
  more_at xs =
      repeated_at (is_of (sign n)) (skip (sign n) r) (behind n parts) End (λ x us. sign_starts n (parts x ++ us)) (λ x us. then_end x (parts x ++ us)) after_reads (λ x. omega arith) rest stop end xs

  -- the first and the others, as a pair
  pub both_more_at : (x : A) (xs : List A) → both r (more_of n r) (parts x ++ (flat_map (behind n parts) xs ++ rest)) ≡ Answer.read (x, xs) rest
  both_more_at x xs =
      both_at r (more_of n r) (parts x ++ (flat_map (behind n parts) xs ++ rest)) x (flat_map (behind n parts) xs ++ rest) xs rest
      (reads x (flat_map (behind n parts) xs ++ rest) (first_end xs)) (more_at xs)

  pub listed_at : (x : A) (xs : List A) → listed n r (listed_parts n parts (x ∷ xs) ++ rest) ≡ Answer.read (x ∷ xs) rest
  listed_at x xs =
      ap (mapped cons_of (both r (more_of n r))) (append_assoc (parts x) (flat_map (behind n parts) xs) rest)
      ∙ mapped_at cons_of (both r (more_of n r)) (parts x ++ (flat_map (behind n parts) xs ++ rest)) (x, xs) rest (both_more_at x xs)
