-- A form that is written gives its form again.
use Rattle.std.proofs.Common.{◌≡◌, ◌∙◌, ap, sym, refl, ℕ, ◌+◌, ◌<◌, ◌≤◌, List, [], ◌∷◌, ◌++◌, map, length, Option, Some, None, Bool, true, false, arith, append_assoc, append-nil, ℤ, pos, negsuc, ◌+ℤ◌}
use Rattle.std.specs.Prelude.{if◌then◌else◌, nat_eq, bytes_eq, ◌&&◌, not, option_and_then}
use Rattle.std.specs.List.{list_all}
use Rattle.std.specs.Int.RustNames.{unsigned_abs}
use Rattle.std.proofs.lemmas.Int.{ints}
use Rattle.species_linear.specs.declared.forms.Form.{Form}
use Rattle.species_linear.specs.declared.forms.Term.{Term}
use Rattle.species_notation.specs.declared.raw.Summand.{Summand}
use Rattle.species_notation.specs.Meaning.{fits, signed, Entry, Sums, raised, with_summand, limited, add_all, no_sums, sums_of, coefficient_in, without}
use Rattle.species_notation.proofs.Fine.{Apart, Readable}
use Rattle.species_notation.specs.Written.{is_negative, name_at, written_term, written_constant, constant_behind, closed_with, written_form}

pub signed_back : (c : ℤ) → signed (is_negative c) (unsigned_abs c) ≡ c
signed_back (pos n) = refl
signed_back (negsuc n) = refl

pub zero_plus : (c : ℤ) → pos 0 +ℤ c ≡ c
zero_plus c = omega (arith, ints)

-- ---- entries of other names

abbrev pub NotIn : List ℕ → List Entry → Type 0
NotIn w [] = Unit {0}
NotIn w (e ∷ es) = (bytes_eq e.0 w ≡ false) × NotIn w es

raised_fresh : (w : List ℕ) (c : ℤ) (es : List Entry) → NotIn w es → raised w c es ≡ es ++ (w, c) ∷ []
raised_fresh w c [] h = refl
raised_fresh w c (e ∷ es) h = ap (λ b. if b then (e.0, e.1 +ℤ c) ∷ es else e ∷ raised w c es) h.0 ∙ ap (λ l. e ∷ l) (raised_fresh w c es h.1)

not_in_append : (w : List ℕ) (es : List Entry) (e : Entry) → NotIn w es → bytes_eq e.0 w ≡ false → NotIn w (es ++ e ∷ [])
not_in_append w [] e h k = (k, tt)
not_in_append w (x ∷ es) e h k = (h.0, not_in_append w es e h.1 k)

pub not_in_coefficient : (w : List ℕ) (es : List Entry) → NotIn w es → coefficient_in w es ≡ pos 0
not_in_coefficient w [] h = refl
not_in_coefficient w (e ∷ es) h = ap (λ b. if b then e.1 else coefficient_in w es) h.0 ∙ not_in_coefficient w es h.1

pub not_in_without : (w : List ℕ) (es : List Entry) → NotIn w es → without w es ≡ es
not_in_without w [] h = refl
not_in_without w (e ∷ es) h = ap (λ b. if not b then e ∷ without w es else without w es) h.0 ∙ ap (λ l. e ∷ l) (not_in_without w es h.1)

-- ---- sums that keep the limit

pub and_both : (a b : Bool) → (a && b) ≡ true → (a ≡ true) × (b ≡ true)
and_both true b h = (refl, h)
and_both false b h = cc

abbrev pub AllFit : List Entry → Type 0
AllFit es = list_all (λ e. fits e.1) es ≡ true

fit_append : (es : List Entry) (e : Entry) → AllFit es → fits e.1 ≡ true → AllFit (es ++ e ∷ [])
fit_append [] e h k = ap (λ b. b && true) k
fit_append (x ∷ es) e h k =
    let a = and_both (fits x.1) (list_all (λ e. fits e.1) es) h in
    ap (λ b. b && list_all (λ e. fits e.1) (es ++ e ∷ [])) a.0 ∙ fit_append es e a.1 k

pub limited_fits : (c : ℤ) (es : List Entry) → fits c ≡ true → AllFit es → limited (record { constant = c; names = es }) ≡ Some (record { constant = c; names = es })
limited_fits c es h k = ap (λ b. if b && list_all (λ e. fits e.1) es then Some (record { constant = c; names = es }) else None) h ∙ ap (λ b. if b then Some (record { constant = c; names = es }) else None) k

on_option : (o : Option Sums) (f g h : Sums → Option Sums) → ((t : Sums) → f t ≡ option_and_then h (g t)) → option_and_then f o ≡ option_and_then h (option_and_then g o)
on_option None f g h same = refl
on_option (Some t) f g h same = same t

add_append : (xs ys : List Summand) (s : Sums) → add_all (xs ++ ys) s ≡ option_and_then (add_all ys) (add_all xs s)
add_append [] ys s = refl
add_append (x ∷ xs) ys s = on_option (limited (with_summand x s)) (add_all (xs ++ ys)) (add_all xs) (add_all ys) (add_append xs ys)

-- ---- with names of levels

module _ (iters : List (List ℕ)) (apart : Apart iters) where
  abbrev pub entry_of : Term → Entry
  entry_of t = (name_at iters t.level, t.coefficient)

  pub later_not_in : (k j : ℕ) (ts : List Term) → k < j → Readable (length iters) j ts → NotIn (name_at iters k) (map entry_of ts)
  later_not_in k j [] lt h = tt
  later_not_in k j (t ∷ ts) lt h = ((apart k t.level (omega (arith, lt, h.0)) h.1).0, later_not_in k (t.level + 1) ts (omega (arith, lt, h.0)) h.4)

  -- none of these is the name of level k or a later one
  abbrev Earlier : ℕ → List Entry → Type 0
  Earlier k es = (j : ℕ) → k ≤ j → j < length iters → NotIn (name_at iters j) es

  terms_added : (ts : List Term) (k : ℕ) (c : ℤ) (es : List Entry) → Readable (length iters) k ts → fits c ≡ true → AllFit es → Earlier k es
      → add_all (map (written_term iters) ts) (record { constant = c; names = es }) ≡ Some (record { constant = c; names = es ++ map entry_of ts })
  terms_added [] k c es h f a n = ap (λ l. Some (record { constant = c; names = l })) (sym (append-nil es))
  terms_added (t ∷ ts) k c es h f a n =
      let w : List ℕ = name_at iters t.level in
      let more : List Summand = map (written_term iters) ts in
      let raiseded : raised w (signed (is_negative t.coefficient) (unsigned_abs t.coefficient)) es ≡ es ++ (w, t.coefficient) ∷ [] = ap (λ z. raised w z es) (signed_back t.coefficient) ∙ raised_fresh w t.coefficient es (n t.level h.0 h.1) in
      ap (λ l. option_and_then (add_all more) (limited (record { constant = c; names = l }))) raiseded
      ∙ ap (option_and_then (add_all more)) (limited_fits c (es ++ (w, t.coefficient) ∷ []) f (fit_append es (w, t.coefficient) a h.3))
      ∙ terms_added ts (t.level + 1) c (es ++ (w, t.coefficient) ∷ []) h.4 f (fit_append es (w, t.coefficient) a h.3)
      (λ j le lt. not_in_append (name_at iters j) es (w, t.coefficient) (n j (omega (arith, le, h.0)) lt) (apart t.level j (omega (arith, le)) lt).1)
      ∙ ap (λ l. Some (record { constant = c; names = l })) (append_assoc es ((w, t.coefficient) ∷ []) (map entry_of ts))

  all_fit : (ts : List Term) (k : ℕ) → Readable (length iters) k ts → AllFit (map entry_of ts)
  all_fit [] k h = refl
  all_fit (t ∷ ts) k h = ap (λ b. b && list_all (λ e. fits e.1) (map entry_of ts)) h.3 ∙ all_fit ts (t.level + 1) h.4

  constant_added : (c : ℤ) (es : List Entry) → fits c ≡ true → AllFit es → add_all (written_constant c ∷ []) (record { constant = pos 0; names = es }) ≡ Some (record { constant = c; names = es })
  constant_added c es f a =
      ap (λ z. option_and_then (add_all []) (limited (record { constant = z; names = es }))) (ap (λ z. pos 0 +ℤ z) (signed_back c) ∙ zero_plus c)
      ∙ ap (option_and_then (add_all [])) (limited_fits c es f a)

  no_abs : (c : ℤ) → nat_eq (unsigned_abs c) 0 ≡ true → c ≡ pos 0
  no_abs (pos n) h = let e : n ≡ 0 = grind (arith, h) in ap pos e
  no_abs (negsuc n) h = let x : ⊥ = grind (arith, h) in absurd x

  rest_added : (c : ℤ) (es : List Entry) → fits c ≡ true → AllFit es → add_all (constant_behind c) (record { constant = pos 0; names = es }) ≡ Some (record { constant = c; names = es })
  rest_added c es f a = go (nat_eq (unsigned_abs c) 0) refl
    where
      go : (b : Bool) → nat_eq (unsigned_abs c) 0 ≡ b → add_all (if b then [] else written_constant c ∷ []) (record { constant = pos 0; names = es }) ≡ Some (record { constant = c; names = es })
      go true q = ap (λ z. Some (record { constant = z; names = es })) (sym (no_abs c q))
      go false q = constant_added c es f a

  pub form_sums : (f : Form) → Readable (length iters) 0 f.terms → fits f.constant ≡ true → sums_of (written_form iters f) ≡ Some (record { constant = f.constant; names = map entry_of f.terms })
  form_sums f h k = go f.terms h
    where
      go : (ts : List Term) → Readable (length iters) 0 ts → sums_of (closed_with f.constant (map (written_term iters) ts)) ≡ Some (record { constant = f.constant; names = map entry_of ts })
      go [] h = constant_added f.constant [] k refl
      go (t ∷ ts) h =
          add_append (map (written_term iters) (t ∷ ts)) (constant_behind f.constant) no_sums
          ∙ ap (option_and_then (add_all (constant_behind f.constant))) (terms_added (t ∷ ts) 0 (pos 0) [] h refl refl (λ j le lt. tt))
          ∙ rest_added f.constant (map entry_of (t ∷ ts)) k (all_fit (t ∷ ts) 0 h)
