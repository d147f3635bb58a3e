-- The form that the sums of a written form give.
use Rattle.std.proofs.Common.{◌≡◌, ◌≢◌, ◌∙◌, ap, sym, refl, subst, ℕ, zero, suc, ◌+◌, ◌<◌, ◌≤◌, List, [], ◌∷◌, ◌++◌, map, length, slice_index_or, Some, Bool, true, false, arith, append_assoc, append-nil, ℤ, pos, negsuc, ◌⊎◌, inl, inr}
use Rattle.std.specs.Prelude.{if◌then◌else◌, nat_eq, bytes_eq, ◌&&◌, ◌||◌, not}
use Rattle.std.specs.List.{list_any}
use Rattle.species_linear.specs.declared.forms.Form.{Form}
use Rattle.species_linear.specs.declared.forms.Term.{Term}
use Rattle.species_notation.proofs.Fine.{Apart, Readable}
use Rattle.species_notation.specs.Meaning.{fits, Entry, Sums, coefficient_in, without, put_term, terms_from, given_form, is_known, sums_of}
use Rattle.species_notation.specs.Written.{name_at, written_form}
use Rattle.species_notation.proofs.Combining.{same_bytes}
use Rattle.species_notation.proofs.FormSums.{NotIn, not_in_coefficient, not_in_without, entry_of, later_not_in, form_sums}

put_zero : (k : ℕ) (ts : List Term) → put_term k (pos 0) ts ≡ ts
put_zero k ts = refl

put_other : (k : ℕ) (c : ℤ) (ts : List Term) → c ≢ pos 0 → put_term k c ts ≡ record { level = k; coefficient = c } ∷ ts
put_other k (pos zero) ts h = absurd (h refl)
put_other k (pos (suc n)) ts h = let e : nat_eq (suc n) 0 ≡ false = grind arith in ap (λ b. if b then ts else record { level = k; coefficient = pos (suc n) } ∷ ts) e
put_other k (negsuc n) ts h = let e : nat_eq (suc n) 0 ≡ false = grind arith in ap (λ b. if b then ts else record { level = k; coefficient = negsuc n } ∷ ts) e

module _ (iters : List (List ℕ)) (apart : Apart iters) where
  -- these are the names from level k on
  abbrev Along : ℕ → List (List ℕ) → Type 0
  Along k [] = k ≡ length iters
  Along k (w ∷ ws) = (name_at iters k ≡ w) × Along (suc k) ws

  from_next : (k : ℕ) (t : Term) (ts : List Term) → k < t.level → Readable (length iters) k (t ∷ ts) → Readable (length iters) (suc k) (t ∷ ts)
  from_next k t ts lt h = (omega (arith, lt), h.1, h.2, h.3, h.4)

  no_terms : (k : ℕ) (ws : List (List ℕ)) → terms_from k ws [] ≡ []
  no_terms k [] = refl
  no_terms k (w ∷ ws) = no_terms (suc k) ws

  skipped : (k : ℕ) (w : List ℕ) (ws : List (List ℕ)) (es : List Entry) → NotIn w es → terms_from k (w ∷ ws) es ≡ terms_from (suc k) ws es
  skipped k w ws es h = ap (λ c. put_term k c (terms_from (suc k) ws (without w es))) (not_in_coefficient w es h) ∙ ap (terms_from (suc k) ws) (not_in_without w es h)

  taken : (k : ℕ) (w : List ℕ) (ws : List (List ℕ)) (c : ℤ) (es : List Entry) → NotIn w es → c ≢ pos 0 → terms_from k (w ∷ ws) ((w, c) ∷ es) ≡ record { level = k; coefficient = c } ∷ terms_from (suc k) ws es
  taken k w ws c es h n =
      ap (λ b. put_term k (if b then c else coefficient_in w es) (terms_from (suc k) ws (if not b then (w, c) ∷ without w es else without w es))) (same_bytes w)
      ∙ ap (λ l. put_term k c (terms_from (suc k) ws l)) (not_in_without w es h)
      ∙ put_other k c (terms_from (suc k) ws es) n

  raised : (k l : ℕ) → (k ≡ l) ⊎ (k < l) → (suc k ≡ suc l) ⊎ (suc k < suc l)
  raised k l (inl e) = inl (ap suc e)
  raised k l (inr lt) = inr (omega (arith, lt))

  split : (k l : ℕ) → k ≤ l → (k ≡ l) ⊎ (k < l)
  split zero zero h = inl refl
  split zero (suc l) h = inr (omega arith)
  split (suc k) zero h = let x : ⊥ = omega (arith, h) in absurd x
  split (suc k) (suc l) h = raised k l (split k l (omega (arith, h)))

  terms_back : (ws : List (List ℕ)) (k : ℕ) (ts : List Term) → Along k ws → Readable (length iters) k ts → terms_from k ws (map (entry_of iters apart) ts) ≡ ts
  terms_back ws k [] a h = no_terms k ws
  terms_back [] k (t ∷ ts) a h = let x : ⊥ = omega (arith, a, h.0, h.1) in absurd x
  terms_back (w ∷ ws) k (t ∷ ts) a h = go (split k t.level h.0) (terms_back ws (suc k) (t ∷ ts) a.1) (terms_back ws (suc k) ts a.1)
    where
      go : (k ≡ t.level) ⊎ (k < t.level)
          → (Readable (length iters) (suc k) (t ∷ ts) → terms_from (suc k) ws (map (entry_of iters apart) (t ∷ ts)) ≡ t ∷ ts)
          → (Readable (length iters) (suc k) ts → terms_from (suc k) ws (map (entry_of iters apart) ts) ≡ ts)
          → terms_from k (w ∷ ws) (map (entry_of iters apart) (t ∷ ts)) ≡ t ∷ ts
      go (inr lt) more others =
          skipped k w ws (map (entry_of iters apart) (t ∷ ts)) (subst (λ z. NotIn z (map (entry_of iters apart) (t ∷ ts))) a.0 (later_not_in iters apart k (suc k) (t ∷ ts) (omega arith) (from_next k t ts lt h)))
          ∙ more (from_next k t ts lt h)
      go (inl e) more others =
          let next : suc k ≡ t.level + 1 = omega (arith, e) in
          let r : Readable (length iters) (suc k) ts = subst (λ z. Readable (length iters) z ts) (sym next) h.4 in
          let same : name_at iters t.level ≡ w = ap (name_at iters) (sym e) ∙ a.0 in
          ap (λ z. terms_from k (w ∷ ws) ((z, t.coefficient) ∷ map (entry_of iters apart) ts)) same
          ∙ taken k w ws t.coefficient (map (entry_of iters apart) ts) (subst (λ z. NotIn z (map (entry_of iters apart) ts)) a.0 (later_not_in iters apart k (suc k) ts (omega arith) r)) h.2
          ∙ ap (λ l. record { level = k; coefficient = t.coefficient } ∷ l) (others r)
          ∙ ap (λ z. record { level = z; coefficient = t.coefficient } ∷ ts) e

-- all names are along
along_all : (front ws : List (List ℕ)) (iters : List (List ℕ)) (apart : Apart iters) → iters ≡ front ++ ws → Along iters apart (length front) ws
along_all front [] iters apart e = sym (ap length (e ∙ append-nil front))
along_all front (w ∷ ws) iters apart e = (
  ap (λ l. slice_index_or l (length front) []) e ∙ here_at front w ws,
  subst (λ z. Along iters apart z ws) (length_after front w) (along_all (front ++ w ∷ []) ws iters apart (e ∙ sym (append_assoc front (w ∷ []) ws))),
)
  where
    here_at : (front : List (List ℕ)) (w : List ℕ) (ws : List (List ℕ)) → slice_index_or (front ++ w ∷ ws) (length front) [] ≡ w
    here_at [] w ws = refl
    here_at (x ∷ front) w ws = here_at front w ws

    length_after : (front : List (List ℕ)) (w : List ℕ) → length (front ++ w ∷ []) ≡ suc (length front)
    length_after [] w = refl
    length_after (x ∷ front) w = ap suc (length_after front w)

named : (ws : List (List ℕ)) (l : ℕ) → l < length ws → list_any (bytes_eq (slice_index_or ws l [])) ws ≡ true
named [] l lt = let x : ⊥ = omega (arith, lt) in absurd x
named (w ∷ ws) zero lt = ap (λ b. b || list_any (bytes_eq w) ws) (same_bytes w)
named (w ∷ ws) (suc l) lt =
    let less : l < length ws = omega (arith, lt) in
    ap (λ b. bytes_eq (slice_index_or ws l []) w || b) (named ws l less) ∙ or_true (bytes_eq (slice_index_or ws l []) w)
  where
    or_true : (b : Bool) → (b || true) ≡ true
    or_true true = refl
    or_true false = refl

known_all : (iters : List (List ℕ)) (apart : Apart iters) (c : ℤ) (ts : List Term) (k : ℕ) → Readable (length iters) k ts → is_known iters (record { constant = c; names = map (entry_of iters apart) ts }) ≡ true
known_all iters apart c [] k h = refl
known_all iters apart c (t ∷ ts) k h = ap (λ b. b && is_known iters (record { constant = c; names = map (entry_of iters apart) ts })) (named iters t.level h.1) ∙ known_all iters apart c ts (t.level + 1) h.4

-- A form that is written reads back: its sums keep the limits, they give the form, and all its names are iterators.
pub record FormBack (iters : List (List ℕ)) (f : Form) (sums : Sums) : Type 0 where
  pub are : sums_of (written_form iters f) ≡ Some sums
  pub form : given_form iters sums ≡ f
  pub known : is_known iters sums ≡ true

pub form_back : (iters : List (List ℕ)) (apart : Apart iters) (f : Form) → Readable (length iters) 0 f.terms → fits f.constant ≡ true
    → FormBack iters f (record { constant = f.constant; names = map (entry_of iters apart) f.terms })
form_back iters apart f h k = record {
  are = form_sums iters apart f h k;
  form = ap (λ l. record { constant = f.constant; terms = l }) (terms_back iters apart iters 0 f.terms (along_all [] iters iters apart refl) h);
  known = known_all iters apart f.constant f.terms 0 h;
}
