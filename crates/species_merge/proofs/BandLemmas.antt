-- Terms one more, and the steps and ends of a band.
use Rattle.std.proofs.Common.{◌≡◌, ◌≢◌, ◌∙◌, refl, ap, sym, subst, arith, ℕ, zero, suc, ◌+◌, ◌-◌, ◌*◌, ◌<◌, ◌≤◌, Bool, true, false, not, nat_lt, if◌then◌else◌, ℤ, pos, ◌+ℤ◌, ◌*ℤ◌, List, [], ◌∷◌, ◌++◌, length, take, drop, slice_index_or, map, Option, Some, None, unwrap_or, All}
use Rattle.std.specs.Ordering.{int_eq}
use Rattle.std.specs.Int.RustNames.{unsigned_abs}
use Rattle.std.proofs.lemmas.Int.{ints}
use Rattle.std.proofs.lemmas.List.{take_more, take_all, get_or-map, length-map}
use Rattle.std.proofs.lemmas.Bool.Decides.{nat_tests, Decides-int_eq}
use Rattle.species_integers.proofs.Products.{mul_zero, mul_plus, mul_assoc, plus_mul}
use Rattle.species_linear.specs.Point.{Point}
use Rattle.species_linear.specs.Rising.{IsRising, IsRisingFrom}
use Rattle.species_linear.specs.Value.{form_at, sum_at, coefficient_at}
use Rattle.species_linear.specs.declared.forms.Form.{Form}
use Rattle.species_linear.specs.declared.forms.Term.{Term}
use Rattle.species_linear.proofs.Agree.{sum_at-agree, agree_below}
use Rattle.species_linear.proofs.Linear.{sum_at-append}
use Rattle.species_linear.proofs.Order.{coefficient_of_term, rising_above, term_nonzero, few_terms}
use Rattle.species_merge.specs.Bands.{unless_zero, moves_of, bound_at, end_form, ends_at, IsLeastAmong, IsLeastSoFar, IsEndOf}
use Rattle.species_merge.specs.Classes.{terms_below, terms_from}
use Rattle.species_merge.specs.Sizes.{HasTerms}
use Rattle.species_merge.proofs.ClassLemmas.{each_filter, each_more}
use Rattle.species_merge.proofs.Folding.{Each, all_of, each_of, any_of, has_end, each_join, each_parts}
use Rattle.species_merge.proofs.TermLemmas.{parts_are_all, all_below, from_rising, rising_less}
use Rattle.species_merge.specs.declared.bands.BandBound.{BandBound}

-- ---- terms one after another

before_next : (k : ℕ) (ts : List Term) (i : ℕ) (d : Term) → IsRisingFrom k ts → i < length ts → Each (λ t. t.level < (slice_index_or ts i d).level) (take i ts)
before_next k [] i d rising l = absurd (omega (arith, l))
before_next k (t ∷ ts) zero d rising l = tt
before_next k (t ∷ ts) (suc i) d rising l =
    (omega (arith, rising_above (t.level + 1) ts i d rising.2 (omega (arith, l))), before_next (t.level + 1) ts i d rising.2 (omega (arith, l)))

next_from : (k : ℕ) (out ts : List Term) (i : ℕ) (d : Term) → IsRisingFrom k (out ++ ts) → i < length ts
    → (k ≤ (slice_index_or ts i d).level) × Each (λ t. t.level < (slice_index_or ts i d).level) (out ++ take i ts)
next_from k [] ts i d rising l = (rising_above k ts i d rising l, before_next k ts i d rising l)
next_from k (o ∷ out) ts i d rising l =
    let rest = next_from (o.level + 1) out ts i d rising.2 l in (omega (arith, rising.0, rest.0), (omega (arith, rest.0), rest.1))

-- a term of the second list is above those before it
pub next_above : (out ts : List Term) (i : ℕ) (d : Term) → IsRising (out ++ ts) → i < length ts → All (λ t. t.level < (slice_index_or ts i d).level) (out ++ take i ts)
next_above out ts i d rising l = all_of (λ t. t.level < (slice_index_or ts i d).level) (out ++ take i ts) (next_from 0 out ts i d rising l).1

pub nonzero_behind : (k : ℕ) (out ts : List Term) (i : ℕ) (d : Term) → IsRisingFrom k (out ++ ts) → i < length ts → (slice_index_or ts i d).coefficient ≢ pos 0
nonzero_behind k [] ts i d rising l = term_nonzero k ts i d rising l
nonzero_behind k (o ∷ out) ts i d rising l = nonzero_behind (o.level + 1) out ts i d rising.2 l

-- the levels rise by 1 at least
pub rising_index : (k : ℕ) (ts : List Term) (i : ℕ) (d : Term) → IsRisingFrom k ts → i < length ts → k + i ≤ (slice_index_or ts i d).level
rising_index k [] i d rising l = absurd (omega (arith, l))
rising_index k (t ∷ ts) zero d rising l = omega (arith, rising.0)
rising_index k (t ∷ ts) (suc i) d rising l = omega (arith, rising.0, rising_index (t.level + 1) ts i d rising.2 (omega (arith, l)))

-- ---- a term, unless its coefficient is 0

unless_zero_value : (t : Term) (p : Point) → sum_at (unless_zero t) p ≡ t.coefficient *ℤ p t.level
unless_zero_value t p = go (int_eq t.coefficient (pos 0)) refl
  where
    go : (b : Bool) → int_eq t.coefficient (pos 0) ≡ b → sum_at (if b then [] else t ∷ []) p ≡ t.coefficient *ℤ p t.level
    go true is = omega (arith, ints, ap (λ (z : ℤ). z *ℤ p t.level) ((Decides-int_eq t.coefficient (pos 0)).0 is), mul_zero (p t.level))
    go false is = omega (arith, ints)

each_unless : (P : Term → Type 0) (t : Term) → P t → Each P (unless_zero t)
each_unless P t h = go (int_eq t.coefficient (pos 0))
  where
    go : (b : Bool) → Each P (if b then [] else t ∷ [])
    go true = tt
    go false = (h, tt)

rising_joined : (k n : ℕ) (xs : List Term) (t : Term) (ys : List Term) → IsRisingFrom k xs → Each (λ x. x.level < n) xs → k ≤ n → t.level ≡ n → IsRisingFrom (n + 1) ys
    → IsRisingFrom k ((xs ++ unless_zero t) ++ ys)
rising_joined k n [] t ys h below le e r = go (int_eq t.coefficient (pos 0)) refl
  where
    go : (b : Bool) → int_eq t.coefficient (pos 0) ≡ b → IsRisingFrom k ((if b then [] else t ∷ []) ++ ys)
    go true is = rising_less k (n + 1) ys (omega (arith, le)) r
    go false is =
        (omega (arith, le, e), (λ z. absurd (cc ((Decides-int_eq t.coefficient (pos 0)).1 z, is))), subst (λ (j : ℕ). IsRisingFrom (j + 1) ys) (sym e) r)
rising_joined k n (x ∷ xs) t ys h below le e r = (h.0, h.1, rising_joined (x.level + 1) n xs t ys h.2 below.1 (omega (arith, below.0)) e r)

-- ---- the terms with one more

pub from_above : (n k : ℕ) (ts : List Term) → IsRisingFrom k ts → IsRisingFrom n (terms_from n ts)
from_above n k [] h = tt
from_above n k (t ∷ ts) h = go (nat_lt t.level n) refl (from_above n (t.level + 1) ts h.2)
  where
    go : (b : Bool) → nat_lt t.level n ≡ b → IsRisingFrom n (terms_from n ts) → IsRisingFrom n (if not b then t ∷ terms_from n ts else terms_from n ts)
    go true is rest = rest
    go false is rest = (grind (arith, nat_tests, is), h.1, from_rising n (t.level + 1) ts h.2)

pub with_rising : (n : ℕ) (ts : List Term) (t : Term) (behind : List Term) → IsRisingFrom 0 (terms_below n ts) → t.level ≡ n → IsRisingFrom (n + 1) behind
    → IsRising ((terms_below n ts ++ unless_zero t) ++ behind)
with_rising n ts t behind rising e r = rising_joined 0 n (terms_below n ts) t behind rising (all_below n ts) (omega arith) e r

-- the terms below and one more may be put together
pub below_level : (n : ℕ) (ts : List Term) (t : Term) → t.level ≡ n → All (λ u. u.level < t.level) (terms_below n ts)
below_level n ts t e = subst (λ (j : ℕ). All (λ u. u.level < j) (terms_below n ts)) (sym e) (all_of (λ u. u.level < n) (terms_below n ts) (all_below n ts))

pub with_value : (ts : List Term) (added t : Term) (behind : List Term) (p : Point) → IsRising ts → t.level ≡ added.level
    → t.coefficient *ℤ p added.level +ℤ sum_at behind p ≡ sum_at (terms_from added.level ts) p +ℤ added.coefficient *ℤ p added.level
    → sum_at ((terms_below added.level ts ++ unless_zero t) ++ behind) p ≡ sum_at ts p +ℤ added.coefficient *ℤ p added.level
with_value ts added t behind p rising l v =
    let below = terms_below added.level ts in
    let from = terms_from added.level ts in
    let whole : sum_at ts p ≡ sum_at below p +ℤ sum_at from p = ap (λ us. sum_at us p) (sym (parts_are_all added.level 0 ts rising)) ∙ sum_at-append below from p in
    let all : sum_at ((below ++ unless_zero t) ++ behind) p ≡ sum_at (below ++ unless_zero t) p +ℤ sum_at behind p = sum_at-append (below ++ unless_zero t) behind p in
    let front : sum_at (below ++ unless_zero t) p ≡ sum_at below p +ℤ sum_at (unless_zero t) p = sum_at-append below (unless_zero t) p in
    let one : sum_at (unless_zero t) p ≡ t.coefficient *ℤ p added.level = unless_zero_value t p ∙ ap (λ (k : ℕ). t.coefficient *ℤ p k) l in
    omega (arith, ints, whole, all, front, one, v)

abbrev IsUpTo : ℕ → Term → Type 0
IsUpTo m t = unsigned_abs t.coefficient ≤ m

pub more_terms : (m n : ℕ) (ts : List Term) → m ≤ n → HasTerms m ts → HasTerms n ts
more_terms m n ts le h k d l = omega (arith, le, h k d l)

each_up : (m n : ℕ) (ts : List Term) → Each (IsUpTo m) ts → Each (IsUpTo (m + n)) ts
each_up m n ts h = each_more (IsUpTo m) (IsUpTo (m + n)) ts (λ t s. omega (arith, s)) h

pub with_numbers : (level : ℕ) (ts : List Term) (t : Term) (behind : List Term) (m n : ℕ) → IsRising ts → (HasTerms m (terms_from level ts) → unsigned_abs t.coefficient ≤ m + n)
    → (HasTerms m (terms_from level ts) → HasTerms m behind) → HasTerms m ts → HasTerms (m + n) ((terms_below level ts ++ unless_zero t) ++ behind)
with_numbers level ts t behind m n rising one rest h =
    let below = terms_below level ts in
    let from = terms_from level ts in
    let parts = each_parts (IsUpTo m) below from (subst (λ us. Each (IsUpTo m) us) (sym (parts_are_all level 0 ts rising)) (each_of (IsUpTo m) ts h)) in
    let small : HasTerms m from = all_of (IsUpTo m) from parts.1 in
    all_of (IsUpTo (m + n)) ((below ++ unless_zero t) ++ behind) (each_join (IsUpTo (m + n)) (below ++ unless_zero t) behind
    (each_join (IsUpTo (m + n)) below (unless_zero t) (each_up m n below parts.0) (each_unless (IsUpTo (m + n)) t (one small)))
    (each_up m n behind (each_of (IsUpTo m) behind (rest small))))

pub from_terms : (m n : ℕ) (ts : List Term) → HasTerms m ts → HasTerms m (terms_from n ts)
from_terms m n ts h = all_of (IsUpTo m) (terms_from n ts) (each_filter (IsUpTo m) (λ t. not (nat_lt t.level n)) ts (each_of (IsUpTo m) ts h))

pub below_terms : (m n : ℕ) (ts : List Term) → HasTerms m ts → HasTerms m (terms_below n ts)
below_terms m n ts h = all_of (IsUpTo m) (terms_below n ts) (each_filter (IsUpTo m) (λ t. nat_lt t.level n) ts (each_of (IsUpTo m) ts h))

-- ---- two terms as one

pub joined_value : (a b t : Term) (behind : List Term) (p : Point) → a.level ≡ b.level → t.coefficient ≡ a.coefficient +ℤ b.coefficient
    → t.coefficient *ℤ p b.level +ℤ sum_at behind p ≡ sum_at (a ∷ behind) p +ℤ b.coefficient *ℤ p b.level
joined_value a b t behind p l e =
    omega (arith, ints, ap (λ (z : ℤ). z *ℤ p b.level) e, plus_mul a.coefficient b.coefficient (p b.level), ap (λ (k : ℕ). a.coefficient *ℤ p k) l)

pub first_and_behind : (ts : List Term) (d : Term) → 0 < length ts → ts ≡ slice_index_or ts 0 d ∷ drop 1 ts
first_and_behind [] d l = absurd (omega (arith, l))
first_and_behind (t ∷ ts) d l = refl

pub behind_terms : (m : ℕ) (ts : List Term) → HasTerms m ts → HasTerms m (drop 1 ts)
behind_terms m [] h k d l = absurd (omega (arith, l))
behind_terms m (t ∷ ts) h k d l = h (suc k) d (omega (arith, l))

-- ---- a multiple of terms

pub sum_more : (ts : List Term) (i : ℕ) (d : Term) (p : Point) → i < length ts
    → sum_at (take (i + 1) ts) p ≡ sum_at (take i ts) p +ℤ (slice_index_or ts i d).coefficient *ℤ p (slice_index_or ts i d).level
sum_more ts i d p l =
    let t : Term = slice_index_or ts i d in
    omega (arith, ints, ap (λ us. sum_at us p) (take_more ts i d l), sum_at-append (take i ts) (t ∷ []) p)

pub multiple_more : (first sum next : List Term) (c : ℤ) (others : List Term) (i : ℕ) (d added : Term) (p : Point) → i < length others
    → sum_at sum p ≡ sum_at first p +ℤ c *ℤ sum_at (take i others) p
    → sum_at next p ≡ sum_at sum p +ℤ added.coefficient *ℤ p added.level
    → added.level ≡ (slice_index_or others i d).level → added.coefficient ≡ c *ℤ (slice_index_or others i d).coefficient
    → sum_at next p ≡ sum_at first p +ℤ c *ℤ sum_at (take (i + 1) others) p
multiple_more first sum next c others i d added p l so step level coefficient =
    let t : Term = slice_index_or others i d in
    let x : ℤ = t.coefficient *ℤ p t.level in
    let front : ℤ = sum_at (take i others) p in
    let more : c *ℤ sum_at (take (i + 1) others) p ≡ c *ℤ (front +ℤ x) = ap (λ (z : ℤ). c *ℤ z) (sum_more others i d p l) in
    let apart : c *ℤ (front +ℤ x) ≡ c *ℤ front +ℤ c *ℤ x = mul_plus c front x in
    let product : c *ℤ x ≡ (c *ℤ t.coefficient) *ℤ p t.level = mul_assoc c t.coefficient (p t.level) in
    let one : added.coefficient *ℤ p added.level ≡ (c *ℤ t.coefficient) *ℤ p t.level =
    ap (λ (z : ℤ). z *ℤ p added.level) coefficient ∙ ap (λ (k : ℕ). (c *ℤ t.coefficient) *ℤ p k) level in
    omega (arith, ints, so, step, more, apart, product, one)

-- a form and c times another
pub plus_value : (f g : Form) (k c : ℤ) (ts us : List Term) (p : Point) → k ≡ f.constant +ℤ c *ℤ g.constant → us ≡ g.terms → sum_at ts p ≡ sum_at f.terms p +ℤ c *ℤ sum_at us p
    → k +ℤ sum_at ts p ≡ form_at f p +ℤ c *ℤ form_at g p
plus_value f g k c ts us p constant shown sums =
    omega (arith, ints, constant, sums, ap (λ vs. c *ℤ sum_at vs p) shown, mul_plus c g.constant (sum_at g.terms p))

-- ---- the terms of the band

pub band_terms : (n m : ℕ) (ts : List Term) → All (λ t. t.level < m) ts → All (λ t. (n ≤ t.level) × (t.level < m)) (terms_from n ts)
band_terms n m ts h = all_of (λ t. (n ≤ t.level) × (t.level < m)) (terms_from n ts) (go ts (each_of (λ t. t.level < m) ts h))
  where
    go : (us : List Term) → Each (λ t. t.level < m) us → Each (λ t. (n ≤ t.level) × (t.level < m)) (terms_from n us)
    go [] h = tt
    go (u ∷ us) h = one (nat_lt u.level n) refl (go us h.1)
      where
        one : (b : Bool) → nat_lt u.level n ≡ b → Each (λ t. (n ≤ t.level) × (t.level < m)) (terms_from n us)
            → Each (λ t. (n ≤ t.level) × (t.level < m)) (if not b then u ∷ terms_from n us else terms_from n us)
        one true is rest = rest
        one false is rest = ((grind (arith, nat_tests, is), h.0), rest)

-- the same of a slice that shows them
pub in_band : (n w : ℕ) (ts us : List Term) (i : ℕ) (d : Term) → us ≡ terms_from n ts → All (λ t. t.level < n + w) ts → i < length us
    → (n ≤ (slice_index_or us i d).level) × ((slice_index_or us i d).level < n + w)
in_band n w ts us i d e h l = subst (λ xs. All (λ t. (n ≤ t.level) × (t.level < n + w)) xs) (sym e) (band_terms n (n + w) ts h) i d l

pub small_in_band : (m n : ℕ) (ts us : List Term) (i : ℕ) (d : Term) → us ≡ terms_from n ts → HasTerms m ts → i < length us → unsigned_abs (slice_index_or us i d).coefficient ≤ m
small_in_band m n ts us i d e h l = subst (λ xs. HasTerms m xs) (sym e) (from_terms m n ts h) i d l

-- at most so many as the band has loops
pub few_in_band : (n w : ℕ) (ts : List Term) → IsRising ts → All (λ t. t.level < n + w) ts → length (terms_from n ts) ≤ w
few_in_band n w ts rising below =
    let levels : All (λ t. t.level < n + w) (terms_from n ts) = λ k d l. (band_terms n (n + w) ts below k d l).1 in
    omega (arith, few_terms (n + w) n (terms_from n ts) (from_above n 0 ts rising) levels (omega arith))

own_in_band : (n : ℕ) (ts : List Term) → IsRising ts → All (λ t. coefficient_at ts t.level ≡ t.coefficient) (terms_from n ts)
own_in_band n ts rising =
    all_of (λ t. coefficient_at ts t.level ≡ t.coefficient) (terms_from n ts) (each_filter (λ t. coefficient_at ts t.level ≡ t.coefficient) (λ t. not (nat_lt t.level n)) ts
    (each_of (λ t. coefficient_at ts t.level ≡ t.coefficient) ts (λ i d l. coefficient_of_term 0 ts i d rising l)))

-- ---- ends

-- below the band nothing is replaced
front_stays : (lower : Bool) (outer : ℕ) (bands : List BandBound) (ts us : List Term) (p : Point)
    → sum_at (terms_below outer us) (ends_at lower outer bands ts p) ≡ sum_at (terms_below outer us) p
front_stays lower outer bands ts us p =
    sum_at-agree (terms_below outer us) (ends_at lower outer bands ts p) p
    (agree_below (terms_below outer us) outer (ends_at lower outer bands ts p) p (all_of (λ t. t.level < outer) (terms_below outer us) (all_below outer us)) same)
  where
    same : (k : ℕ) → k < outer → ends_at lower outer bands ts p k ≡ p k
    same k l = go (nat_lt k outer) refl
      where
        go : (b : Bool) → nat_lt k outer ≡ b → (if b then p k else form_at (end_form lower (coefficient_at ts k) (bound_at bands (k - outer))) p) ≡ p k
        go true is = refl
        go false is = absurd (grind (arith, nat_tests, is, l))

-- the value at which a term of the band is taken
end_value : (lower : Bool) (outer : ℕ) (bands : List BandBound) (ts : List Term) (t : Term) (p : Point) → outer ≤ t.level → coefficient_at ts t.level ≡ t.coefficient
    → ends_at lower outer bands ts p t.level ≡ form_at (end_form lower t.coefficient (bound_at bands (t.level - outer))) p
end_value lower outer bands ts t p from own = go (nat_lt t.level outer) refl
  where
    go : (b : Bool) → nat_lt t.level outer ≡ b
        → (if b then p t.level else form_at (end_form lower (coefficient_at ts t.level) (bound_at bands (t.level - outer))) p) ≡ form_at (end_form lower t.coefficient (bound_at bands (t.level - outer))) p
    go true is = absurd (grind (arith, nat_tests, is, from))
    go false is = ap (λ (c : ℤ). form_at (end_form lower c (bound_at bands (t.level - outer))) p) own

-- the terms of the loops around, and those of the band at the ends
ends_together : (lower : Bool) (outer : ℕ) (bands : List BandBound) (ts : List Term) (p : Point) → IsRising ts
    → sum_at ts (ends_at lower outer bands ts p) ≡ sum_at (terms_below outer ts) p +ℤ sum_at (terms_from outer ts) (ends_at lower outer bands ts p)
ends_together lower outer bands ts p rising =
    let q = ends_at lower outer bands ts p in
    ap (λ us. sum_at us q) (sym (parts_are_all outer 0 ts rising)) ∙ sum_at-append (terms_below outer ts) (terms_from outer ts) q
    ∙ ap (λ (z : ℤ). z +ℤ sum_at (terms_from outer ts) q) (front_stays lower outer bands ts ts p)

-- The form so far: the first i terms of the band are replaced.
abbrev pub IsEndSoFar : Bool → ℕ → List BandBound → Form → ℤ → ℕ → Form → Type 0
IsEndSoFar lower outer bands at offset i f = (p : Point) → form_at f p
    ≡ (at.constant +ℤ offset) +ℤ (sum_at (terms_below outer at.terms) p +ℤ sum_at (take i (terms_from outer at.terms)) (ends_at lower outer bands at.terms p))

pub end_more : (lower : Bool) (outer : ℕ) (bands : List BandBound) (at : Form) (offset : ℤ) (us : List Term) (i : ℕ) (d : Term) (f next : Form) (b : BandBound) → IsRising at.terms
    → All (λ t. t.level < outer + length bands) at.terms → us ≡ terms_from outer at.terms → i < length us → IsEndSoFar lower outer bands at offset i f
    → b ≡ bound_at bands ((slice_index_or us i d).level - outer)
    → ((p : Point) → form_at next p ≡ form_at f p +ℤ (slice_index_or us i d).coefficient *ℤ form_at (end_form lower (slice_index_or us i d).coefficient b) p)
    → IsEndSoFar lower outer bands at offset (i + 1) next
end_more lower outer bands at offset us i d f next b rising below e l so is step p =
    let t : Term = slice_index_or us i d in
    let q = ends_at lower outer bands at.terms p in
    let own : coefficient_at at.terms t.level ≡ t.coefficient = subst (λ xs. All (λ t. coefficient_at at.terms t.level ≡ t.coefficient) xs) (sym e) (own_in_band outer at.terms rising) i d l in
    let value : q t.level ≡ form_at (end_form lower t.coefficient (bound_at bands (t.level - outer))) p =
    end_value lower outer bands at.terms t p (in_band outer (length bands) at.terms us i d e below l).0 own in
    let same : form_at (end_form lower t.coefficient b) p ≡ q t.level = ap (λ x. form_at (end_form lower t.coefficient x) p) is ∙ sym value in
    let one : t.coefficient *ℤ form_at (end_form lower t.coefficient b) p ≡ t.coefficient *ℤ q t.level = ap (λ (z : ℤ). t.coefficient *ℤ z) same in
    let before : sum_at (take i us) q ≡ sum_at (take i (terms_from outer at.terms)) q = ap (λ xs. sum_at (take i xs) q) e in
    let after : sum_at (take (i + 1) us) q ≡ sum_at (take (i + 1) (terms_from outer at.terms)) q = ap (λ xs. sum_at (take (i + 1) xs) q) e in
    omega (arith, ints, so p, step p, one, sum_more us i d q l, before, after)

pub end_ends : (lower : Bool) (outer : ℕ) (bands : List BandBound) (at : Form) (offset : ℤ) (us : List Term) (i : ℕ) (f : Form) → IsRising at.terms → IsRising f.terms
    → us ≡ terms_from outer at.terms → length us ≤ i → IsEndSoFar lower outer bands at offset i f → IsEndOf lower outer bands at offset f
end_ends lower outer bands at offset us i f rising own e l so =
    let band = terms_from outer at.terms in
    let all : take i band ≡ band = take_all i band (omega (arith, l, ap length e)) in
    record {
      value = λ p. omega (arith, ints, so p, ap (λ xs. sum_at xs (ends_at lower outer bands at.terms p)) all, ends_together lower outer bands at.terms p rising);
      rising = own;
    }

-- ---- the least

pub least_new : (ns : List ℕ) (m o : ℕ) → o ≤ m → IsLeastSoFar ns (Some m) → IsLeastSoFar (ns ++ o ∷ []) (Some o)
least_new ns m o le h = (
  any_of (λ k. k ≡ o) (ns ++ o ∷ []) (has_end (λ k. k ≡ o) ns o refl),
  all_of (λ k. o ≤ k) (ns ++ o ∷ [])
      (each_join (λ k. o ≤ k) ns (o ∷ []) (each_more (λ k. m ≤ k) (λ k. o ≤ k) ns (λ k s. omega (arith, s, le)) (each_of (λ k. m ≤ k) ns h.1)) (omega arith, tt)),
)

pub least_end : (ns : List ℕ) (o : Option ℕ) → IsLeastSoFar ns o → IsLeastAmong ns (unwrap_or o 0)
least_end [] None h = refl
least_end [] (Some k) h = absurd (omega (arith, h.0.2))
least_end (n ∷ ns) None h = absurd (cc h)
least_end (n ∷ ns) (Some k) h = h

abbrev move_in : ℕ → List BandBound → Term → ℕ
move_in outer bands t = unsigned_abs t.coefficient * unsigned_abs (bound_at bands (t.level - outer)).step

-- one term more of the band
pub least_more : (outer : ℕ) (bands : List BandBound) (ts us : List Term) (i : ℕ) (d : Term) (b : BandBound) (m : ℕ) (least next : Option ℕ) → us ≡ terms_from outer ts → i < length us
    → b ≡ bound_at bands ((slice_index_or us i d).level - outer) → m ≡ unsigned_abs (slice_index_or us i d).coefficient * unsigned_abs b.step
    → IsLeastSoFar (take i (moves_of outer bands ts)) least → ((ns : List ℕ) → IsLeastSoFar ns least → IsLeastSoFar (ns ++ m ∷ []) next)
    → IsLeastSoFar (take (i + 1) (moves_of outer bands ts)) next
least_more outer bands ts us i d b m least next e l is same so step =
    let t : Term = slice_index_or us i d in
    let move : Term → ℕ = λ t. move_in outer bands t in
    let own : move t ≡ m = ap (λ x. unsigned_abs t.coefficient * unsigned_abs x.step) (sym is) ∙ sym same in
    let at : slice_index_or (map move us) i 0 ≡ m = get_or-map move us i d 0 l ∙ own in
    let more : take (i + 1) (map move us) ≡ take i (map move us) ++ m ∷ [] =
    take_more (map move us) i 0 (omega (arith, l, length-map us move)) ∙ ap (λ (n : ℕ). take i (map move us) ++ n ∷ []) at in
    let before : IsLeastSoFar (take i (map move us)) least = subst (λ xs. IsLeastSoFar (take i (map move xs)) least) (sym e) so in
    subst (λ xs. IsLeastSoFar (take (i + 1) (map move xs)) next) e (subst (λ ns. IsLeastSoFar ns next) (sym more) (step (take i (map move us)) before))

pub least_all : (outer : ℕ) (bands : List BandBound) (ts us : List Term) (i : ℕ) (least : Option ℕ) → us ≡ terms_from outer ts → length us ≤ i
    → IsLeastSoFar (take i (moves_of outer bands ts)) least → IsLeastAmong (moves_of outer bands ts) (unwrap_or least 0)
least_all outer bands ts us i least e l so =
    let move : Term → ℕ = λ t. move_in outer bands t in
    let all : take i (moves_of outer bands ts) ≡ moves_of outer bands ts = take_all i (moves_of outer bands ts) (omega (arith, l, ap length e, length-map (terms_from outer ts) move)) in
    least_end (moves_of outer bands ts) least (subst (λ ns. IsLeastSoFar ns least) all so)
