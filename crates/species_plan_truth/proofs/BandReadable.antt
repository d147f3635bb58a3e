-- The arcs of a band can be read back, where the numbers of its references and bounds are small, and the bounds name iterators of the loops
-- around the nest alone.
use Rattle.std.proofs.Common.{◌≡◌, ◌≢◌, refl, ap, sym, ◌∙◌, subst, arith, ℕ, zero, suc, ◌+◌, ◌-◌, ◌*◌, ◌<◌, ◌≤◌, ◌^◌, Bool, true, false, nat_eq, nat_lt, if◌then◌else◌, List, [], ◌∷◌, length, slice_index_or, ℤ, pos, ◌+ℤ◌, ◌-ℤ◌, ◌*ℤ◌, All}
use Rattle.std.specs.Int.{◌∣◌}
use Rattle.std.specs.Int.RustNames.{unsigned_abs, int_lt}
use Rattle.std.specs.Ordering.{int_eq}
use Rattle.std.proofs.lemmas.Bool.{eq-eqb}
use Rattle.std.proofs.lemmas.Bool.Decides.{nat_tests, Decides-int_eq}
use Rattle.std.proofs.lemmas.Int.{ints}
use Rattle.std.proofs.lemmas.Nat.{mul-le}
use Rattle.std.proofs.Math.IntN.{*ℤ_comm}
use Rattle.species_affine.specs.Subscript.{HasFormNumbers}
use Rattle.species_affine.specs.Limited.{IsWithin}
use Rattle.species_affine.specs.declared.subscript.Subscript.{Subscript}
use Rattle.species_affine.specs.declared.subscript.Subscript.TheVariants.{Affine, Other}
use Rattle.species_arcs.specs.Pairwise.{Pairwise}
use Rattle.species_arcs.specs.Spans.{IsInSpan}
use Rattle.species_arcs.specs.declared.places.Arc.{Arc}
use Rattle.species_arcs.specs.declared.places.ArcDim.{ArcDim}
use Rattle.species_arcs.specs.declared.spans.Span.{Span}
use Rattle.species_integers.proofs.Products.{mul_zero, mul_one}
use Rattle.species_integers.proofs.Sizes.{abs_sum, abs_difference}
use Rattle.species_linear.specs.Point.{Point}
use Rattle.species_linear.specs.Rising.{IsRisingFrom, IsRising}
use Rattle.species_linear.specs.Value.{sum_at, form_at, coefficient_at, NamesOnly}
use Rattle.species_linear.specs.declared.forms.Form.{Form}
use Rattle.species_linear.specs.declared.forms.Term.{Term}
use Rattle.species_linear.proofs.Agree.{form_at-agree, form_at-agree_below}
use Rattle.species_linear.proofs.Magnitude.{abs_sum_at}
use Rattle.species_linear.proofs.Order.{few_terms}
use Rattle.species_merge.specs.Arcs.{added_in, IsDimOf, AreDimsFrom, IsArcOf, AreArcsOf}
use Rattle.species_merge.specs.Bands.{zero_form, bound_at, end_form, ends_at, IsEndOf}
use Rattle.species_merge.specs.Classes.{terms_of, Class, members, classes_of, box_at, column}
use Rattle.species_merge.specs.Hulls.{IsHullOf}
use Rattle.species_merge.specs.Sizes.{IsSmallBox}
use Rattle.species_merge.specs.declared.bands.BandBound.{BandBound}
use Rattle.species_merge.proofs.ArcLemmas.{hull_small, fixed_levels}
use Rattle.species_merge.proofs.ClassLemmas.{has_with, each_more, each_filter, each_member}
use Rattle.species_merge.proofs.Folding.{Each, all_of, each_of, has_of}
use Rattle.species_merge.proofs.SetLaws.{hull_holds}
use Rattle.species_notation.specs.Law.{IsReadable, IsReadableDim, IsReadableArc}
use Rattle.species_notation.specs.declared.given.Names.{Names}
use Rattle.species_references.specs.declared.nest.Reference.{Reference}

-- ---- values at units

abbrev unit_at : ℕ → Point
unit_at k j = if nat_eq j k then pos 1 else pos 0

abbrev origin : Point
origin j = pos 0

times_zero : (c : ℤ) → c *ℤ pos 0 ≡ pos 0
times_zero c = *ℤ_comm c (pos 0) ∙ mul_zero c

sum_origin : (ts : List Term) → sum_at ts origin ≡ pos 0
sum_origin [] = refl
sum_origin (t ∷ ts) = omega (arith, ints, times_zero t.coefficient, sum_origin ts)

unit_size : (k j : ℕ) → unsigned_abs (unit_at k j) ≤ 1
unit_size k j = go (nat_eq j k)
  where
    go : (b : Bool) → unsigned_abs (if b then pos 1 else pos 0) ≤ 1
    go true = omega arith
    go false = omega arith

sum_above : (ts : List Term) (k n : ℕ) → IsRisingFrom n ts → k < n → sum_at ts (unit_at k) ≡ pos 0
sum_above [] k n r l = refl
sum_above (t ∷ ts) k n r l =
    let other : nat_eq t.level k ≡ false = grind (arith, nat_tests, l, r.0) in
    let none : unit_at k t.level ≡ pos 0 = ap (λ (b : Bool). if b then pos 1 else pos 0) other in
    let rest = sum_above ts k (t.level + 1) r.2 (omega (arith, l, r.0)) in
    omega (arith, ints, ap (λ (z : ℤ). t.coefficient *ℤ z) none, times_zero t.coefficient, rest)

-- at a unit a sum is the coefficient of its level
sum_unit : (ts : List Term) (k n : ℕ) → IsRisingFrom n ts → sum_at ts (unit_at k) ≡ coefficient_at ts k
sum_unit [] k n r = refl
sum_unit (t ∷ ts) k n r = go (sum_unit ts k (t.level + 1) r.2) (nat_eq t.level k) refl
  where
    go : sum_at ts (unit_at k) ≡ coefficient_at ts k → (b : Bool) → nat_eq t.level k ≡ b → t.coefficient *ℤ (if b then pos 1 else pos 0) +ℤ sum_at ts (unit_at k) ≡ (if b then t.coefficient else coefficient_at ts k)
    go rest true is =
        let above : k < t.level + 1 = grind (arith, nat_tests, is) in
        omega (arith, ints, mul_one t.coefficient, sum_above ts k (t.level + 1) r.2 above)
    go rest false is = omega (arith, ints, times_zero t.coefficient, rest)

own_coefficient : (t : Term) (ts : List Term) → coefficient_at (t ∷ ts) t.level ≡ t.coefficient
own_coefficient t ts = let same : nat_eq t.level t.level ≡ true = eq-eqb t.level t.level refl in rw same refl

-- what holds of the coefficients of rising terms at each level, with those that are not 0, holds of each term
pub each_term : (P : ℕ → ℤ → Type 0) (k : ℕ) (ts : List Term) → IsRisingFrom k ts → ((level : ℕ) → k ≤ level → coefficient_at ts level ≢ pos 0 → P level (coefficient_at ts level)) → Each (λ t. P t.level t.coefficient) ts
each_term P k [] r h = tt
each_term P k (t ∷ ts) r h = (
  subst (P t.level) (own_coefficient t ts) (h t.level r.0 (λ e. r.1 (sym (own_coefficient t ts) ∙ e))),
  each_term P (t.level + 1) ts r.2 more,
)
  where
    more : (level : ℕ) → t.level + 1 ≤ level → coefficient_at ts level ≢ pos 0 → P level (coefficient_at ts level)
    more level le some =
        let other : nat_eq t.level level ≡ false = grind (arith, nat_tests, le) in
        let same : coefficient_at (t ∷ ts) level ≡ coefficient_at ts level = ap (λ (b : Bool). if b then t.coefficient else coefficient_at ts level) other in
        subst (P level) same (h level (omega (arith, le, r.0)) (λ e. some (sym same ∙ e)))

coefficient_small : (m : ℕ) (ts : List Term) (k : ℕ) → Each (λ t. unsigned_abs t.coefficient ≤ m) ts → unsigned_abs (coefficient_at ts k) ≤ m
coefficient_small m [] k h = omega arith
coefficient_small m (t ∷ ts) k h = go (coefficient_small m ts k h.1) (nat_eq t.level k)
  where
    go : unsigned_abs (coefficient_at ts k) ≤ m → (b : Bool) → unsigned_abs (if b then t.coefficient else coefficient_at ts k) ≤ m
    go rest true = h.0
    go rest false = rest

-- ---- bounds

-- the form names iterators of so many levels, and its numbers are small
pub record IsNearForm (outer : ℕ) (f : Form) : Type 0 where
  pub rising : IsRising f.terms
  pub named : NamesOnly f outer
  pub constant : unsigned_abs f.constant ≤ 2 ^ 33
  pub terms : Each (λ t. unsigned_abs t.coefficient ≤ 2 ^ 32) f.terms

abbrev pub IsNear : ℕ → BandBound → Type 0
IsNear outer b = IsNearForm outer b.least × IsNearForm outer b.greatest

zero_near : (outer : ℕ) → IsNearForm outer zero_form
zero_near outer = record { rising = tt; named = λ k d l. absurd (omega (arith, l)); constant = omega arith; terms = tt }

bound_near : (outer : ℕ) (bands : List BandBound) (k : ℕ) → Each (IsNear outer) bands → IsNear outer (bound_at bands k)
bound_near outer [] k h = (zero_near outer, zero_near outer)
bound_near outer (b ∷ bands) zero h = h.0
bound_near outer (b ∷ bands) (suc k) h = bound_near outer bands k h.1

end_near : (lower : Bool) (c : ℤ) (outer : ℕ) (b : BandBound) → IsNear outer b → IsNearForm outer (end_form lower c b)
end_near true c outer b h = go (int_lt c (pos 0))
  where
    go : (t : Bool) → IsNearForm outer (if t then b.greatest else b.least)
    go true = h.1
    go false = h.0
end_near false c outer b h = go (int_lt c (pos 0))
  where
    go : (t : Bool) → IsNearForm outer (if t then b.least else b.greatest)
    go true = h.0
    go false = h.1

near_unit : (outer : ℕ) (f : Form) (k : ℕ) → IsNearForm outer f → unsigned_abs (form_at f (unit_at k)) ≤ 2 ^ 34
near_unit outer f k h = omega (arith, h.constant, ap unsigned_abs (sum_unit f.terms k 0 h.rising), coefficient_small (2 ^ 32) f.terms k h.terms, abs_sum f.constant (sum_at f.terms (unit_at k)))

near_origin : (outer : ℕ) (f : Form) → IsNearForm outer f → unsigned_abs (form_at f origin) ≤ 2 ^ 34
near_origin outer f h = let none : unsigned_abs (sum_at f.terms origin) ≡ 0 = ap unsigned_abs (sum_origin f.terms) in omega (arith, h.constant, none, abs_sum f.constant (sum_at f.terms origin))

-- ---- ends of dimensions

module _ (outer : ℕ) (bands : List BandBound) (near : Each (IsNear outer) bands) where
  abbrev ends_form : Bool → List Term → ℕ → Form
  ends_form lower ts level = end_form lower (coefficient_at ts level) (bound_at bands (level - outer))

  ends_near : (lower : Bool) (ts : List Term) (level : ℕ) → IsNearForm outer (ends_form lower ts level)
  ends_near lower ts level = end_near lower (coefficient_at ts level) outer (bound_at bands (level - outer)) (bound_near outer bands (level - outer) near)

  ends_unit : (lower : Bool) (ts : List Term) (k level : ℕ) → unsigned_abs (ends_at lower outer bands ts (unit_at k) level) ≤ 2 ^ 34
  ends_unit lower ts k level = go (nat_lt level outer)
    where
      go : (t : Bool) → unsigned_abs (if t then unit_at k level else form_at (ends_form lower ts level) (unit_at k)) ≤ 2 ^ 34
      go true = omega (arith, unit_size k level)
      go false = near_unit outer (ends_form lower ts level) k (ends_near lower ts level)

  ends_origin : (lower : Bool) (ts : List Term) (level : ℕ) → unsigned_abs (ends_at lower outer bands ts origin level) ≤ 2 ^ 34
  ends_origin lower ts level = go (nat_lt level outer)
    where
      go : (t : Bool) → unsigned_abs (if t then origin level else form_at (ends_form lower ts level) origin) ≤ 2 ^ 34
      go true = omega arith
      go false = near_origin outer (ends_form lower ts level) (ends_near lower ts level)

  -- at a unit of a level from `outer` on the ends are those at the origin
  ends_same : (lower : Bool) (ts : List Term) (k : ℕ) → outer ≤ k → (level : ℕ) → ends_at lower outer bands ts (unit_at k) level ≡ ends_at lower outer bands ts origin level
  ends_same lower ts k past level = go (nat_lt level outer) refl
    where
      below : (j : ℕ) → j < outer → unit_at k j ≡ origin j
      below j l = let other : nat_eq j k ≡ false = grind (arith, nat_tests, l, past) in ap (λ (b : Bool). if b then pos 1 else pos 0) other

      go : (t : Bool) → nat_lt level outer ≡ t → (if t then unit_at k level else form_at (ends_form lower ts level) (unit_at k)) ≡ (if t then origin level else form_at (ends_form lower ts level) origin)
      go true is = below level (grind (arith, nat_tests, is))
      go false is = form_at-agree_below (ends_form lower ts level) outer (unit_at k) origin (ends_near lower ts level).named below

  -- the numbers of the form of an end, where `at` has at most 16 levels
  record IsGoodAt (at : Form) (offset : ℤ) : Type 0 where
    rising : IsRising at.terms
    named : All (λ t. t.level < 16) at.terms
    terms : All (λ t. unsigned_abs t.coefficient ≤ 2147483648) at.terms
    end : unsigned_abs (at.constant +ℤ offset) < 2 ^ 69

  sum_size : (at : Form) (offset : ℤ) (p : Point) → IsGoodAt at offset → ((level : ℕ) → unsigned_abs (p level) ≤ 2 ^ 34) → unsigned_abs (sum_at at.terms p) ≤ 2 ^ 69
  sum_size at offset p good small =
      let all = abs_sum_at at.terms p 2147483648 (2 ^ 34) good.terms (λ k d l. small (slice_index_or at.terms k d).level) in
      let count : length at.terms ≤ 16 = omega (arith, few_terms 16 0 at.terms good.rising good.named (omega arith)) in
      omega (arith, all, mul-le (length at.terms) (2147483648 * 2 ^ 34) 16 (2147483648 * 2 ^ 34) count (omega arith))

  end_readable : (lower : Bool) (iters : List (List ℕ)) (at : Form) (offset : ℤ) (f : Form) → outer ≤ length iters → IsGoodAt at offset → IsEndOf lower outer bands at offset f → IsReadable iters f
  end_readable lower iters at offset f fewer good is =
      let unit : (k : ℕ) → ℤ = λ k. sum_at at.terms (ends_at lower outer bands at.terms (unit_at k)) in
      let first : ℤ = sum_at at.terms (ends_at lower outer bands at.terms origin) in
      let constant : f.constant ≡ (at.constant +ℤ offset) +ℤ first = omega (arith, ints, is.value origin, sum_origin f.terms) in
      let coefficient : (k : ℕ) → coefficient_at f.terms k ≡ unit k -ℤ first =
      λ k. omega (arith, ints, sym (sum_unit f.terms k 0 is.rising), is.value (unit_at k), is.value origin, sum_origin f.terms) in
      let small : unsigned_abs first ≤ 2 ^ 69 = sum_size at offset (ends_at lower outer bands at.terms origin) good (ends_origin lower at.terms) in
      let other : (k : ℕ) → unsigned_abs (unit k) ≤ 2 ^ 69 = λ k. sum_size at offset (ends_at lower outer bands at.terms (unit_at k)) good (ends_unit lower at.terms k) in
      let both : unsigned_abs ((at.constant +ℤ offset) +ℤ first) ≤ 2 ^ 70 = omega (arith, abs_sum (at.constant +ℤ offset) first, good.end, small) in
      record {
        rising = is.rising;
        named = all_of (λ (t : Term). t.level < length iters) f.terms (each_term (λ level c. level < length iters) 0 f.terms is.rising (λ level any some. inside level (nat_lt level outer) refl some (coefficient level)));
        coefficients = all_of (λ (t : Term). unsigned_abs t.coefficient ≤ 2 ^ 70) f.terms (each_term (λ level c. unsigned_abs c ≤ 2 ^ 70) 0 f.terms is.rising (λ level any some.
            let size : unsigned_abs (unit level -ℤ first) ≤ 2 ^ 70 = omega (arith, abs_difference (unit level) first, other level, small) in
            subst (λ z. unsigned_abs z ≤ 2 ^ 70) (sym (coefficient level)) size));
        constant = subst (λ z. unsigned_abs z ≤ 2 ^ 70) (sym constant) both;
      }
    where
      inside : (level : ℕ) (b : Bool) → nat_lt level outer ≡ b → coefficient_at f.terms level ≢ pos 0
          → coefficient_at f.terms level ≡ sum_at at.terms (ends_at lower outer bands at.terms (unit_at level)) -ℤ sum_at at.terms (ends_at lower outer bands at.terms origin) → level < length iters
      inside level true test some same = grind (arith, nat_tests, test, fewer)
      inside level false test some same =
          let past : outer ≤ level = grind (arith, nat_tests, test) in
          let equal : form_at at (ends_at lower outer bands at.terms (unit_at level)) ≡ form_at at (ends_at lower outer bands at.terms origin) =
          form_at-agree at (ends_at lower outer bands at.terms (unit_at level)) (ends_at lower outer bands at.terms origin) (λ k d l. ends_same lower at.terms level past (slice_index_or at.terms k d).level) in
          absurd (some (omega (arith, ints, same, equal)))

-- ---- dimensions

-- a small box whose stride divides the way from its least number to its greatest
abbrev pub IsWholeBox : Span → Type 0
IsWholeBox x = IsSmallBox x × (x.stride ∣ unsigned_abs (x.high -ℤ x.low))

hull_even : (xs : List Span) (h : Span) → Each IsWholeBox xs → IsHullOf xs h → h.stride ∣ unsigned_abs (h.high -ℤ h.low)
hull_even xs h whole is =
    (hull_holds xs h h.high is (has_with (λ x. x.high ≡ h.high) IsWholeBox (λ x. IsInSpan x h.high) xs top (has_of (λ x. x.high ≡ h.high) xs is.greatest) whole)).2
  where
    top : (x : Span) → x.high ≡ h.high → IsWholeBox x → IsInSpan x h.high
    top x e w = (omega (arith, ints, w.0.ordered, e), omega (arith, ints, e), subst (λ (z : ℤ). x.stride ∣ unsigned_abs (z -ℤ x.low)) e w.1)

subscript_terms : (s : Subscript) → HasFormNumbers s → Each (λ t. IsWithin t.coefficient) (terms_of s)
subscript_terms (Affine f) h = each_of (λ (t : Term). IsWithin t.coefficient) f.terms h.1
subscript_terms Other h = tt

record AreSmallOffsets (d : ArcDim) : Type 0 where
  constant : unsigned_abs d.at.constant ≤ 2 ^ 70
  a : unsigned_abs d.a ≤ 2 ^ 70
  b : unsigned_abs d.b ≤ 2 ^ 70

-- where there is one place the offsets are 0, and else the constant is
small_offsets : (d : ArcDim) → unsigned_abs (d.at.constant +ℤ d.a) < 2 ^ 69 → unsigned_abs (d.at.constant +ℤ d.b) < 2 ^ 69 → (d.a ≡ d.b → d.a ≡ pos 0) → (d.a ≢ d.b → d.at.constant ≡ pos 0) → AreSmallOffsets d
small_offsets d low high single several = go (int_eq d.a d.b) refl
  where
    go : (t : Bool) → int_eq d.a d.b ≡ t → AreSmallOffsets d
    go true test =
        let same : d.a ≡ d.b = (Decides-int_eq d.a d.b).0 test in
        let none : d.a ≡ pos 0 = single same in
        let constant : d.at.constant +ℤ d.a ≡ d.at.constant = omega (arith, ints, none) in
        let small : unsigned_abs d.at.constant < 2 ^ 69 = subst (λ (z : ℤ). unsigned_abs z < 2 ^ 69) constant low in
        record { constant = omega (arith, small); a = omega (arith, ap unsigned_abs none); b = omega (arith, ap unsigned_abs (sym same ∙ none)) }
    go false test =
        let none : d.at.constant ≡ pos 0 = several (λ e. absurd (cc ((Decides-int_eq d.a d.b).1 e, test))) in
        let first : d.at.constant +ℤ d.a ≡ d.a = omega (arith, ints, none) in
        let last : d.at.constant +ℤ d.b ≡ d.b = omega (arith, ints, none) in
        let a : unsigned_abs d.a < 2 ^ 69 = subst (λ (z : ℤ). unsigned_abs z < 2 ^ 69) first low in
        let b : unsigned_abs d.b < 2 ^ 69 = subst (λ (z : ℤ). unsigned_abs z < 2 ^ 69) last high in
        record { constant = omega (arith, ap unsigned_abs none); a = omega (arith, a); b = omega (arith, b) }

-- what is asked of a reference, where there are so many arrays
pub record IsGoodHeld (arrays : ℕ) (r : Reference) : Type 0 where
  pub array : r.array < arrays
  pub some : 0 < length r.subs
  pub numbers : Each HasFormNumbers r.subs
  pub boxes : (k : ℕ) → IsWholeBox (box_at r.boxes k)

whole_column : (arrays : ℕ) (rs : List Reference) (k : ℕ) → Each (IsGoodHeld arrays) rs → Each IsWholeBox (column rs k)
whole_column arrays [] k h = tt
whole_column arrays (r ∷ rs) k h = (h.0.boxes k, whole_column arrays rs k h.1)

module _ (outer : ℕ) (bands : List BandBound) (near : Each (IsNear outer) bands) (iters : List (List ℕ)) (count : length iters ≡ outer + length bands) (few : outer + length bands ≤ 16) where
  dim_readable : (s : Subscript) (xs : List Span) (d : ArcDim) → HasFormNumbers s → Each IsWholeBox xs → IsDimOf outer bands s xs d → IsReadableDim iters d
  dim_readable s xs d numbers whole h =
      let hull = added_in d in
      let small = hull_small xs hull (all_of IsSmallBox xs (each_more IsWholeBox IsSmallBox xs (λ x w. w.0) whole)) h.hull in
      let top : ℕ = outer + length bands in
      let levels : All (λ t. t.level < top) d.at.terms = fixed_levels top (terms_of s) d.at.terms h.terms in
      let terms : Each (λ t. IsWithin t.coefficient) d.at.terms =
      subst (Each (λ t. IsWithin t.coefficient)) (sym h.terms) (each_filter (λ t. IsWithin t.coefficient) (λ t. nat_lt t.level top) (terms_of s) (subscript_terms s numbers)) in
      let coefficients : All (λ t. IsWithin t.coefficient) d.at.terms = all_of (λ (t : Term). IsWithin t.coefficient) d.at.terms terms in
      let offsets = small_offsets d small.low small.high h.single h.several in
      let good : (offset : ℤ) → unsigned_abs (d.at.constant +ℤ offset) < 2 ^ 69 → IsGoodAt outer bands near d.at offset = λ offset end. record {
        rising = h.rising;
        named = λ k t l. omega (arith, levels k t l, few);
        terms = λ k t l. omega (arith, coefficients k t l);
        end = end;
      } in
      let fewer : outer ≤ length iters = omega (arith, count) in
      let way : (d.at.constant +ℤ d.b) -ℤ (d.at.constant +ℤ d.a) ≡ d.b -ℤ d.a = omega (arith, ints) in
      record {
        at = record {
          rising = h.rising;
          named = λ k t l. omega (arith, levels k t l, count);
          coefficients = λ k t l. omega (arith, coefficients k t l);
          constant = offsets.constant;
        };
        low = end_readable outer bands near true iters d.at d.a d.low fewer (good d.a small.low) h.low;
        high = end_readable outer bands near false iters d.at d.b d.high fewer (good d.b small.high) h.high;
        ordered = omega (arith, ints, small.ordered);
        a = offsets.a;
        b = offsets.b;
        stride = (small.stride.0, small.stride.1, subst (λ (z : ℤ). d.stride ∣ unsigned_abs z) way (hull_even xs hull whole h.hull));
        single = λ e. (h.single e, h.hull.single (ap (λ (z : ℤ). d.at.constant +ℤ z) e));
      }

  dims_readable : (arrays : ℕ) (rs : List Reference) (k : ℕ) (ss : List Subscript) (ds : List ArcDim) → Each HasFormNumbers ss → Each (IsGoodHeld arrays) rs → AreDimsFrom outer bands rs k ss ds
      → Each (IsReadableDim iters) ds × (length ds ≡ length ss)
  dims_readable arrays rs k [] [] numbers good h = (tt, refl)
  dims_readable arrays rs k [] (d ∷ ds) numbers good h = absurd h
  dims_readable arrays rs k (s ∷ ss) [] numbers good h = absurd h
  dims_readable arrays rs k (s ∷ ss) (d ∷ ds) numbers good h =
      let more = dims_readable arrays rs (suc k) ss ds numbers.1 good h.1 in
      ((dim_readable s (column rs k) d numbers.0 (whole_column arrays rs k good) h.0, more.0), ap suc more.1)

-- ---- arcs

abbrev AreGood : Names → Class → Type 0
AreGood names c = Each (IsGoodHeld (length names.arrays)) (members c)

module _ (outer : ℕ) (bands : List BandBound) (near : Each (IsNear outer) bands) (names : Names) (count : length names.iters ≡ outer + length bands) (few : outer + length bands ≤ 16) where
  arc_readable : (c : Class) (arc : Arc) → AreGood names c → IsArcOf outer bands c arc → IsReadableArc names arc
  arc_readable c arc good h =
      let dims = dims_readable outer bands near names.iters count few (length names.arrays) (members c) 0 c.first.subs arc.dims good.0.numbers good h.dims in
      record {
        array = subst (λ n. n < length names.arrays) (sym h.array) good.0.array;
        some = omega (arith, dims.1, good.0.some);
        dims = all_of (IsReadableDim names.iters) arc.dims dims.0;
      }

  arcs_readable : (cs : List Class) (arcs : List Arc) → Each (AreGood names) cs → Pairwise (IsArcOf outer bands) cs arcs → Each (IsReadableArc names) arcs
  arcs_readable [] [] good h = tt
  arcs_readable [] (a ∷ arcs) good h = absurd h
  arcs_readable (c ∷ cs) [] good h = absurd h
  arcs_readable (c ∷ cs) (a ∷ arcs) good h = (arc_readable c a good.0 h.0, arcs_readable cs arcs good.1 h.1)

  -- the law
  pub band_readable : (refs : List Reference) (arcs : List Arc) → Each (IsGoodHeld (length names.arrays)) refs → AreArcsOf outer bands refs arcs → All (IsReadableArc names) arcs
  band_readable refs arcs good h =
      all_of (IsReadableArc names) arcs
      (arcs_readable (classes_of (outer + length bands) refs) arcs (each_member (IsGoodHeld (length names.arrays)) (outer + length bands) refs good) h)
