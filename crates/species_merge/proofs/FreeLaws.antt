-- Inner iterators that stand alone, in the terms of subscripts and in the coefficients of forms.
use Rattle.std.proofs.Common.{◌≡◌, ◌≢◌, ◌⊎◌, inl, inr, ◌∙◌, refl, ap, sym, subst, arith, ℕ, zero, suc, ◌+◌, ◌<◌, ◌≤◌, Bool, true, false, ◌&&◌, ◌||◌, not, nat_eq, nat_le, nat_lt, if◌then◌else◌, List, [], ◌∷◌, length, drop, slice_index_or, Option, Some, None, ℤ, pos}
use Rattle.std.specs.List.{list_all, list_any}
use Rattle.std.proofs.lemmas.Bool.{eqb-true}
use Rattle.std.proofs.lemmas.Bool.Decides.{nat_tests}
use Rattle.species_affine.specs.Subscript.{IsSubscript, IsSameForm}
use Rattle.species_affine.specs.declared.subscript.Subscript.{Subscript}
use Rattle.species_affine.specs.declared.subscript.Subscript.TheVariants.{Affine, Other}
use Rattle.species_arcs.specs.Pairwise.{Pairwise}
use Rattle.species_ast.specs.Scope.Forms.{Form}
use Rattle.species_linear.specs.Value.{coefficient_at}
use Rattle.species_linear.specs.declared.forms.Form as linear
use Rattle.species_linear.specs.declared.forms.Term.{Term}
use Rattle.species_merge.proofs.Divides.{same_or_not}
use Rattle.species_merge.proofs.Folding.{Each}
use Rattle.species_merge.proofs.ReachLaws.{IsAlone, AreApart}
use Rattle.species_merge.specs.Classes.{terms_from}
use Rattle.species_merge.specs.Exact.{is_affine, inner_terms, is_at_level, names_level, are_apart, are_apart_inside, is_free}

pub both_false : (a b : Bool) → (a || b) ≡ false → (a ≡ false) × (b ≡ false)
both_false false false h = (refl, refl)
both_false false true h = absurd (cc h)
both_false true b h = absurd (cc h)

pub both_true : (a b : Bool) → (a && b) ≡ true → (a ≡ true) × (b ≡ true)
both_true true true h = (refl, refl)
both_true true false h = absurd (cc h)
both_true false b h = absurd (cc h)

pub not_true : (b : Bool) → not b ≡ true → b ≡ false
not_true true h = absurd (cc h)
not_true false h = refl

-- ---- coefficients of terms

-- of the levels from n on, only the terms from n on count
inner_coefficient : (n i : ℕ) (ts : List Term) → coefficient_at ts (n + i) ≡ coefficient_at (terms_from n ts) (n + i)
inner_coefficient n i [] = refl
inner_coefficient n i (t ∷ ts) = go (nat_lt t.level n) refl (inner_coefficient n i ts)
  where
    kept : (b : Bool) (x : ℤ) (us vs : List Term) → coefficient_at us (n + i) ≡ coefficient_at vs (n + i) → (if b then x else coefficient_at us (n + i)) ≡ (if b then x else coefficient_at vs (n + i))
    kept true x us vs e = refl
    kept false x us vs e = e

    go : (b : Bool) → nat_lt t.level n ≡ b → coefficient_at ts (n + i) ≡ coefficient_at (terms_from n ts) (n + i)
        → (if nat_eq t.level (n + i) then t.coefficient else coefficient_at ts (n + i)) ≡ coefficient_at (if not b then t ∷ terms_from n ts else terms_from n ts) (n + i)
    go true is rest = let other : nat_eq t.level (n + i) ≡ false = grind (arith, nat_tests, is) in rw other rest
    go false is rest = kept (nat_eq t.level (n + i)) t.coefficient ts (terms_from n ts) rest

one_term : (us : List Term) (i j : ℕ) → length us ≤ 1 → i < j → (coefficient_at us i ≡ pos 0) ⊎ (coefficient_at us j ≡ pos 0)
one_term [] i j few l = inl refl
one_term (t ∷ []) i j few l = go (nat_eq t.level i) refl
  where
    go : (b : Bool) → nat_eq t.level i ≡ b → ((if b then t.coefficient else pos 0) ≡ pos 0) ⊎ ((if nat_eq t.level j then t.coefficient else pos 0) ≡ pos 0)
    go false is = inl refl
    go true is = let other : nat_eq t.level j ≡ false = grind (arith, nat_tests, is, l) in inr (rw other refl)
one_term (t ∷ u ∷ us) i j few l = absurd (omega (arith, few))

no_level : (us : List Term) (l : ℕ) → names_level us l ≡ false → coefficient_at us l ≡ pos 0
no_level [] l h = refl
no_level (u ∷ us) l h = let parts = both_false (is_at_level l u) (names_level us l) h in rw parts.0 (no_level us l parts.1)

apart_levels : (ts us : List Term) (l : ℕ) → list_any (λ t. names_level us t.level) ts ≡ false → (coefficient_at ts l ≡ pos 0) ⊎ (coefficient_at us l ≡ pos 0)
apart_levels [] us l h = inl refl
apart_levels (t ∷ ts) us l h = go (nat_eq t.level l) refl (apart_levels ts us l parts.1)
  where
    parts : (names_level us t.level ≡ false) × (list_any (λ t. names_level us t.level) ts ≡ false)
    parts = both_false (names_level us t.level) (list_any (λ t. names_level us t.level) ts) h

    go : (b : Bool) → nat_eq t.level l ≡ b → (coefficient_at ts l ≡ pos 0) ⊎ (coefficient_at us l ≡ pos 0)
        → ((if b then t.coefficient else coefficient_at ts l) ≡ pos 0) ⊎ (coefficient_at us l ≡ pos 0)
    go true is rest = inr (no_level us l (subst (λ n. names_level us n ≡ false) (eqb-true t.level l is) parts.0))
    go false is rest = rest

-- ---- coefficients of forms

abbrev at : List ℤ → ℕ → ℤ
at cs k = slice_index_or cs k (pos 0)

at_drop : (n i : ℕ) (cs : List ℤ) → at (drop n cs) i ≡ at cs (n + i)
at_drop zero i cs = let same : i ≡ 0 + i = omega arith in ap (at cs) same
at_drop (suc n) i [] = refl
at_drop (suc n) i (c ∷ cs) = let same : suc (n + i) ≡ suc n + i = omega arith in at_drop n i cs ∙ ap (at (c ∷ cs)) same

alone_by : (cs : List ℤ) → ((i j : ℕ) → i < j → (at cs i ≡ pos 0) ⊎ (at cs j ≡ pos 0)) → IsAlone cs
alone_by [] h = tt
alone_by (c ∷ cs) h = elim (same_or_not c (pos 0)) [
  | inl z ↦ inl (z, alone_by cs (λ i j l. h (suc i) (suc j) (omega (arith, l))))
  | inr n ↦ inr (zeros cs (λ j. other n (at cs j) (h 0 (suc j) (omega arith))))
]
  where
    other : c ≢ pos 0 → (z : ℤ) → (c ≡ pos 0) ⊎ (z ≡ pos 0) → z ≡ pos 0
    other n z (inl e) = absurd (n e)
    other n z (inr e) = e

    zeros : (ds : List ℤ) → ((j : ℕ) → at ds j ≡ pos 0) → Each (λ d. d ≡ pos 0) ds
    zeros [] k = tt
    zeros (d ∷ ds) k = (k 0, zeros ds (λ j. k (suc j)))

apart_by : (cs ds : List ℤ) → ((i : ℕ) → (at cs i ≡ pos 0) ⊎ (at ds i ≡ pos 0)) → AreApart cs ds
apart_by [] ds h = tt
apart_by (c ∷ cs) [] h = tt
apart_by (c ∷ cs) (d ∷ ds) h = (h 0, apart_by cs ds (λ i. h (suc i)))

-- the coefficient of an inner iterator, in both spellings
inner_same : (top i : ℕ) (g : linear.Form) (f : Form) → IsSameForm g f → coefficient_at (terms_from top g.terms) (top + i) ≡ at (drop top f.coefficients) i
inner_same top i g f same = sym (inner_coefficient top i g.terms) ∙ same.coefficients (top + i) ∙ sym (at_drop top i f.coefficients)

alone_form : (top : ℕ) (g : linear.Form) (f : Form) → IsSameForm g f → nat_le (length (terms_from top g.terms)) 1 ≡ true → IsAlone (drop top f.coefficients)
alone_form top g f same few = alone_by (drop top f.coefficients) (λ i j l.
    elim (one_term (terms_from top g.terms) (top + i) (top + j) (grind (arith, nat_tests, few)) (omega (arith, l))) [
      | inl e ↦ inl (sym (inner_same top i g f same) ∙ e)
      | inr e ↦ inr (sym (inner_same top j g f same) ∙ e)
    ])

apart_forms : (top : ℕ) (g h : linear.Form) (f e : Form) → IsSameForm g f → IsSameForm h e → are_apart (terms_from top g.terms) (terms_from top h.terms) ≡ true
    → AreApart (drop top f.coefficients) (drop top e.coefficients)
apart_forms top g h f e same other apart = apart_by (drop top f.coefficients) (drop top e.coefficients) (λ i.
    elim (apart_levels (terms_from top g.terms) (terms_from top h.terms) (top + i) (not_true (list_any (λ t. names_level (terms_from top h.terms) t.level) (terms_from top g.terms)) apart)) [
      | inl z ↦ inl (sym (inner_same top i g f same) ∙ z)
      | inr z ↦ inr (sym (inner_same top i h e other) ∙ z)
    ])

-- ---- all dimensions

-- Each dimension is affine, each inner iterator occurs in one of them, alone there.
abbrev pub ApartFrom : ℕ → List ℤ → List (Option Form) → Type 0
ApartFrom inner cs [] = Unit {0}
ApartFrom inner cs (None ∷ os) = ⊥
ApartFrom inner cs (Some f ∷ os) = AreApart cs (drop inner f.coefficients) × ApartFrom inner cs os

abbrev pub AreFree : ℕ → List (Option Form) → Type 0
AreFree inner [] = Unit {0}
AreFree inner (None ∷ os) = ⊥
AreFree inner (Some f ∷ os) = IsAlone (drop inner f.coefficients) × (ApartFrom inner (drop inner f.coefficients) os × AreFree inner os)

apart_from : (top : ℕ) (g : linear.Form) (f : Form) (ss : List Subscript) (os : List (Option Form)) → IsSameForm g f → Pairwise IsSubscript ss os → list_all is_affine ss ≡ true
    → list_all (are_apart_inside top (Affine g)) ss ≡ true → ApartFrom top (drop top f.coefficients) os
apart_from top g f [] [] same subs affine apart = tt
apart_from top g f [] (o ∷ os) same subs affine apart = absurd subs
apart_from top g f (s ∷ ss) [] same subs affine apart = absurd subs
apart_from top g f (Other ∷ ss) (o ∷ os) same subs affine apart = absurd (cc affine)
apart_from top g f (Affine h ∷ ss) (None ∷ os) same subs affine apart = absurd subs.0
apart_from top g f (Affine h ∷ ss) (Some e ∷ os) same subs affine apart =
    let parts = both_true (are_apart_inside top (Affine g) (Affine h)) (list_all (are_apart_inside top (Affine g)) ss) apart in
    (apart_forms top g h f e same subs.0 parts.0, apart_from top g f ss os same subs.1 (both_true true (list_all is_affine ss) affine).1 parts.1)

pub free_forms : (top : ℕ) (ss : List Subscript) (os : List (Option Form)) → Pairwise IsSubscript ss os → list_all is_affine ss ≡ true → is_free top ss ≡ true → AreFree top os
free_forms top [] [] subs affine free = tt
free_forms top [] (o ∷ os) subs affine free = absurd subs
free_forms top (s ∷ ss) [] subs affine free = absurd subs
free_forms top (Other ∷ ss) (o ∷ os) subs affine free = absurd (cc affine)
free_forms top (Affine g ∷ ss) (None ∷ os) subs affine free = absurd subs.0
free_forms top (Affine g ∷ ss) (Some f ∷ os) subs affine free =
    let first = both_true (nat_le (length (inner_terms top (Affine g))) 1) (list_all (are_apart_inside top (Affine g)) ss && is_free top ss) free in
    let rest = both_true (list_all (are_apart_inside top (Affine g)) ss) (is_free top ss) first.1 in
    let others : list_all is_affine ss ≡ true = (both_true true (list_all is_affine ss) affine).1 in
    (alone_form top g f subs.0 first.0, (apart_from top g f ss os subs.0 subs.1 others rest.0, free_forms top ss os subs.1 others rest.1))
