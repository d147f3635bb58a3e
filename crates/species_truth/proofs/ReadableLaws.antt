-- The arc that a reference of an outermost loop has alone can be read back from its line: its numbers are small, its forms name no
-- iterator but that of the loop.
use Rattle.std.proofs.Common.{◌≡◌, ◌≢◌, refl, ap, sym, ◌∙◌, subst, arith, ℕ, zero, suc, ◌+◌, ◌-◌, ◌*◌, ◌/◌, ◌<◌, ◌≤◌, ◌^◌, Bool, true, false, not, nat_eq, nat_lt, if◌then◌else◌, List, [], ◌∷◌, map, length, drop, ℤ, pos, ◌+ℤ◌, ◌-ℤ◌, ◌≤ℤ◌, All}
use Rattle.std.specs.Prelude.{slice_get, unwrap_or, option_map}
use Rattle.std.specs.Int.{◌∣◌}
use Rattle.std.specs.Int.RustNames.{unsigned_abs}
use Rattle.std.specs.List.{list_all, filter}
use Rattle.std.specs.Ordering.{int_eq}
use Rattle.std.proofs.lemmas.Bool.{and_parts, eq-eqb}
use Rattle.std.proofs.lemmas.Bool.Decides.{nat_tests}
use Rattle.std.proofs.lemmas.Int.{ints}
use Rattle.std.proofs.lemmas.List.{length-map}
use Rattle.std.proofs.lemmas.Nat.{mul-le, div-add-mod'}
use Rattle.std.proofs.lemmas.Nat.Gcd.{dvd_trans, dvd-zero, le_of_dvd, mod-eq-zero_of_dvd}
use Rattle.std.proofs.Math.Nat.{div-le_self, one-dvd}
use Rattle.species_integers.proofs.Sizes.{abs_sum, abs_difference}
use Rattle.species_affine.specs.Limited.{IsWithin}
use Rattle.species_affine.specs.Subscript.{IsSameForm, IsSubscript, HasFormNumbers}
use Rattle.species_affine.specs.declared.subscript.Subscript.{Subscript}
use Rattle.species_affine.specs.declared.subscript.Subscript.TheVariants.{Affine, Other}
use Rattle.species_arcs.specs.declared.places.Arc.{Arc}
use Rattle.species_arcs.specs.declared.places.ArcDim.{ArcDim}
use Rattle.species_arcs.specs.declared.spans.Span.{Span}
use Rattle.species_arcs.proofs.PairwiseLaws.{pairwise_length}
use Rattle.species_ast.specs.declared.tree.Array.{Array}
use Rattle.species_ast.specs.declared.tree.Loop.{Loop, out-Loop}
use Rattle.species_ast.specs.declared.tree.Unit.{Unit as Program}
use Rattle.species_ast.specs.Evaluation.{sizes_of}
use Rattle.species_ast.specs.Run.{source_context}
use Rattle.species_ast.specs.Scope.Forms as text
use Rattle.species_ast.specs.Scope.Hulls.{range_of}
use Rattle.species_ast.specs.Scope.References as references
use Rattle.species_ast.proofs.Induction.{Each}
use Rattle.species_linear.specs.declared.forms.Form.{Form}
use Rattle.species_linear.specs.declared.forms.Term.{Term}
use Rattle.species_linear.specs.Rising.{IsRising}
use Rattle.species_linear.specs.Value.{coefficient_at}
use Rattle.species_merge.specs.Arcs.{added_in, IsDimOf, AreDimsFrom, AreArcsOf}
use Rattle.species_merge.specs.Bands.{bound_at, moves_of, IsLeastAmong}
use Rattle.species_merge.specs.Bounds.{IsBoundOf}
use Rattle.species_merge.specs.Classes.{terms_of, terms_below, terms_from, box_at}
use Rattle.species_merge.specs.Hulls.{IsGcdOf, own_stride, gaps_of}
use Rattle.species_merge.specs.Law.{AreSettled}
use Rattle.species_merge.specs.Sizes.{IsSmallBox}
use Rattle.species_merge.specs.declared.bands.BandBound.{BandBound}
use Rattle.species_notation.specs.Law.{IsReadable, IsReadableDim, IsReadableArc}
use Rattle.species_notation.specs.TableLines.{HasReadableSizes}
use Rattle.species_readback.specs.Meant.{is_some_size, has_sizes}
use Rattle.species_readback.specs.Spelt.{is_int_number}
use Rattle.species_references.specs.Law.{HasTurns}
use Rattle.species_references.specs.References.{IsReference}
use Rattle.species_references.specs.declared.nest.Reference.{Reference}
use Rattle.species_references.proofs.TurnLaws.{each_to_all}
use Rattle.species_ranges.proofs.BoundedLaws.{IsSize, IsBounded}
use Rattle.species_report.specs.Table.{names_in}
use Rattle.species_ranges.proofs.MergeableLaws.{mergeable}
use Rattle.species_truth.proofs.HeadLaws.{HasConstantEnds}
use Rattle.species_truth.proofs.ListLemmas.{any_one, each_at, each_of_all, weaker}
use Rattle.species_truth.proofs.WholeBoxes.{Settles, IsWholeBox, boxes_whole}
use Rattle.species_truth.proofs.FixedForms.{IsFixed, IsFixedBound, IsGoodTerm, IsEnd, end_of}

-- ---- lists

filtered : {X : Type 0} (P : X → Type 0) (p : X → Bool) (xs : List X) → Each P xs → Each (λ x. P x × (p x ≡ true)) (filter p xs)
filtered P p [] h = tt
filtered {X} P p (x ∷ xs) h = go (p x) refl (filtered P p xs h.1)
  where
    go : (t : Bool) → p x ≡ t → Each (λ y. P y × (p y ≡ true)) (filter p xs) → Each (λ y. P y × (p y ≡ true)) (if t then x ∷ filter p xs else filter p xs)
    go true is more = ((h.0, is), more)
    go false is more = more

-- ---- offsets

unequal : (a b : ℤ) → int_eq a b ≡ false → a ≢ b
unequal a b h e = let same : int_eq a b ≡ true = grind (arith, ints, e) in absurd cc

positive : (t n : ℕ) → t ∣ n → 0 < n → 0 < t
positive zero n h l = let none : n ≡ 0 = omega (arith, div-add-mod' n 0, mod-eq-zero_of_dvd 0 h) in absurd (omega (arith, l, none))
positive (suc t) n h l = omega arith

-- constant, offsets and stride of a dimension that has one box
record AreOffsets (c a b : ℤ) (t : ℕ) (x : Span) : Type 0 where
  low : (c +ℤ a) ≡ x.low
  high : (c +ℤ b) ≡ x.high
  ordered : a ≤ℤ b
  constant : unsigned_abs c < 2 ^ 69
  first : unsigned_abs a < 2 ^ 69
  last : unsigned_abs b < 2 ^ 69
  stride : (0 < t) × (t ≤ 2 ^ 70) × (t ∣ unsigned_abs (b -ℤ a))
  single : a ≡ b → (a ≡ pos 0) × (t ≡ 1)

small_is : (x y : ℤ) → x ≡ y → unsigned_abs y < 2 ^ 69 → unsigned_abs x < 2 ^ 69
small_is x y e h = subst (λ z. unsigned_abs z < 2 ^ 69) (sym e) h

own_is : (x : Span) → int_eq x.low x.high ≡ false → own_stride x ≡ x.stride
own_is x h = ap (λ (t : Bool). if t then 0 else x.stride) h

unequal_back : (x y : ℤ) → x ≢ y → int_eq x y ≡ false
unequal_back x y h = go (int_eq x y) refl
  where
    go : (t : Bool) → int_eq x y ≡ t → t ≡ false
    go true is = let same : x ≡ y = grind (arith, ints, is) in absurd (h same)
    go false is = refl

offsets : (c a b : ℤ) (t : ℕ) (x : Span) → IsWholeBox x → (c +ℤ a) ≡ x.low → (c +ℤ b) ≡ x.high → (a ≡ b → a ≡ pos 0) → (a ≢ b → c ≡ pos 0)
    → ((c +ℤ a) ≡ (c +ℤ b) → t ≡ 1) → ((c +ℤ a) ≢ (c +ℤ b) → IsGcdOf (gaps_of (c +ℤ a) (x ∷ [])) t) → AreOffsets c a b t x
offsets c a b t x box low high one several single divisor = go (int_eq a b) refl
  where
    go : (e : Bool) → int_eq a b ≡ e → AreOffsets c a b t x
    go true is =
        let same : a ≡ b = grind (arith, ints, is) in
        let zero_a : a ≡ pos 0 = one same in
        let zero_b : b ≡ pos 0 = sym same ∙ zero_a in
        let at : c ≡ x.low = omega (arith, ints, low, zero_a) in
        let stride : t ≡ 1 = single (ap (λ z. c +ℤ z) same) in
        record {
          low = low;
          high = high;
          ordered = omega (arith, ints, same);
          constant = small_is c x.low at box.small.low;
          first = small_is a (pos 0) zero_a (omega arith);
          last = small_is b (pos 0) zero_b (omega arith);
          stride = subst (λ s. (0 < s) × (s ≤ 2 ^ 70) × (s ∣ unsigned_abs (b -ℤ a))) (sym stride) (omega arith, omega arith, one-dvd _);
          single = λ e. (zero_a, stride);
        }
    go false is =
        let apart = unequal a b is in
        let zero_c : c ≡ pos 0 = several apart in
        let from : a ≡ x.low = omega (arith, ints, low, zero_c) in
        let to : b ≡ x.high = omega (arith, ints, high, zero_c) in
        let ends : (c +ℤ a) ≢ (c +ℤ b) = λ e. apart (omega (arith, ints, e)) in
        let gcd = divisor ends in
        let own : own_stride x ≡ x.stride = own_is x (unequal_back x.low x.high (λ e. apart (from ∙ e ∙ sym to))) in
        let here : x.low -ℤ (c +ℤ a) ≡ pos 0 = omega (arith, ints, low) in
        let way : x.stride ∣ unsigned_abs (x.low -ℤ (c +ℤ a)) = subst (λ z. x.stride ∣ unsigned_abs z) (sym here) (dvd-zero x.stride) in
        let divides : t ∣ x.stride = subst (λ n. t ∣ n) own (gcd.0 1 0 (omega arith)) in
        let some : 0 < t = positive t x.stride divides box.small.stride.0 in
        let most : t ≤ x.stride = le_of_dvd box.small.stride.0 divides in
        let whole : t ∣ unsigned_abs (x.high -ℤ x.low) = dvd_trans t divides box.even in
        let between : x.high -ℤ x.low ≡ b -ℤ a = omega (arith, ints, from, to) in
        record {
          low = low;
          high = high;
          ordered = omega (arith, ints, from, to, box.small.ordered);
          constant = small_is c (pos 0) zero_c (omega arith);
          first = small_is a x.low from box.small.low;
          last = small_is b x.high to box.small.high;
          stride = (some, omega (arith, most, box.small.stride.1), subst (λ z. t ∣ unsigned_abs z) between whole);
          single = λ e. absurd (apart e);
        }

dim_offsets : (outer : ℕ) (bands : List BandBound) (s : Subscript) (x : Span) (d : ArcDim) → IsWholeBox x → IsDimOf outer bands s (x ∷ []) d → AreOffsets d.at.constant d.a d.b d.stride x
dim_offsets outer bands s x d box h =
    offsets d.at.constant d.a d.b d.stride x box (sym (any_one (λ (y : Span). y.low ≡ (added_in d).low) x h.hull.least)) (sym (any_one (λ (y : Span). y.high ≡ (added_in d).high) x h.hull.greatest))
    h.single h.several h.hull.single h.hull.several

-- ---- forms

abbrev HasSmallTerm : Term → Type 0
HasSmallTerm t = unsigned_abs t.coefficient ≤ 2147483647

subscript_terms : (s : Subscript) → HasFormNumbers s → Each HasSmallTerm (terms_of s)
subscript_terms (Affine f) h = each_of_all (λ t. IsWithin t.coefficient) f.terms h.1
subscript_terms Other h = tt

dim_terms : (s : Subscript) → HasFormNumbers s → Each IsGoodTerm (terms_below 1 (terms_of s))
dim_terms s h =
    weaker (λ t. HasSmallTerm t × (nat_lt t.level 1 ≡ true)) IsGoodTerm (λ t k. (k.0, grind (arith, nat_tests, k.1))) (terms_below 1 (terms_of s))
    (filtered HasSmallTerm (λ t. nat_lt t.level 1) (terms_of s) (subscript_terms s h))

at_readable : (w : List ℕ) (f : Form) → IsRising f.terms → Each IsGoodTerm f.terms → unsigned_abs f.constant < 2 ^ 69 → IsReadable (w ∷ []) f
at_readable w f rising good constant = record {
  rising = rising;
  named = each_to_all (λ t. t.level < 1) f.terms (weaker IsGoodTerm (λ t. t.level < 1) (λ t h. h.1) f.terms good);
  coefficients = each_to_all (λ t. unsigned_abs t.coefficient ≤ 2 ^ 70) f.terms (weaker IsGoodTerm (λ t. unsigned_abs t.coefficient ≤ 2 ^ 70) (λ t h. omega (arith, h.0)) f.terms good);
  constant = omega (arith, constant);
}

end_readable : (w : List ℕ) (at : Form) (offset : ℤ) (f : Form) (x : ℤ) → IsEnd at offset f → (at.constant +ℤ offset) ≡ x → unsigned_abs x < 2 ^ 69 → IsReadable (w ∷ []) f
end_readable w at offset f x h is small =
    let value : f.constant ≡ x +ℤ h.rest = omega (arith, ints, h.constant, is) in
    let size : unsigned_abs (x +ℤ h.rest) ≤ 2 ^ 70 = omega (arith, abs_sum x h.rest, small, h.small) in
    record {
      rising = subst IsRising (sym h.terms) tt;
      named = subst (All (λ t. t.level < 1)) (sym h.terms) (λ k d l. absurd (omega (arith, l)));
      coefficients = subst (All (λ t. unsigned_abs t.coefficient ≤ 2 ^ 70)) (sym h.terms) (λ k d l. absurd (omega (arith, l)));
      constant = subst (λ z. unsigned_abs z ≤ 2 ^ 70) (sym value) size;
    }

-- ---- counts

-- the step of a band of one loop is small
abbrev HasSmallStep : BandBound → Type 0
HasSmallStep b = unsigned_abs b.step ≤ 65536

step_at : (b : BandBound) (k : ℕ) → HasSmallStep b → HasSmallStep (bound_at (b ∷ []) k)
step_at b zero h = h
step_at b (suc k) h = omega arith

moves_small : (b : BandBound) (ts : List Term) → HasSmallStep b → Each IsGoodTerm ts → Each (λ n. n ≤ 2 ^ 48) (map (λ t. unsigned_abs t.coefficient * unsigned_abs (bound_at (b ∷ []) (t.level - 0)).step) ts)
moves_small b [] h good = tt
moves_small b (t ∷ ts) h good =
    (omega (arith, mul-le (unsigned_abs t.coefficient) (unsigned_abs (bound_at (b ∷ []) (t.level - 0)).step) 2147483647 65536 good.0.0 (step_at b (t.level - 0) h)), moves_small b ts h good.1)

least_small : (most : ℕ) (ns : List ℕ) (m : ℕ) → Each (λ n. n ≤ most) ns → IsLeastAmong ns m → m ≤ most
least_small most [] m h e = omega (arith, e)
least_small most (n ∷ ns) m h (any, least) =
    let one : any.1 ≤ most = subst (λ z. z ≤ most) any.3 (each_at (λ k. k ≤ most) (n ∷ ns) h any.0 any.1 any.2) in
    omega (arith, one, any.4)

dim_step : (b : BandBound) (ts : List Term) (step : ℕ) → HasSmallStep b → Each IsGoodTerm ts → IsLeastAmong (moves_of 0 (b ∷ []) ts) step → step ≤ 2 ^ 70
dim_step b ts step h good least =
    let kept = weaker (λ t. IsGoodTerm t × (not (nat_lt t.level 0) ≡ true)) IsGoodTerm (λ t k. k.0) (terms_from 0 ts) (filtered IsGoodTerm (λ t. not (nat_lt t.level 0)) ts good) in
    let most = least_small (2 ^ 48) (moves_of 0 (b ∷ []) ts) step (moves_small b (terms_from 0 ts) h kept) least in
    omega (arith, most)

dim_elements : (a b : ℤ) (t n : ℕ) → unsigned_abs a < 2 ^ 69 → unsigned_abs b < 2 ^ 69 → n ≡ suc (unsigned_abs (b -ℤ a) / t) → n ≤ 2 ^ 70
dim_elements a b t n h k is = omega (arith, h, k, is, abs_difference b a, div-le_self (unsigned_abs (b -ℤ a)) t)

-- ---- dimensions

-- of the bound of a loop
record IsGoodBound (b : BandBound) : Type 0 where
  fixed : IsFixedBound b
  step : unsigned_abs b.step ≤ 65536

-- the ends of a dimension have one value at all points
pub record HasFixedEnds (d : ArcDim) : Type 0 where
  pub low : d.low.terms ≡ []
  pub high : d.high.terms ≡ []

abbrev IsGoodDim : List ℕ → ArcDim → Type 0
IsGoodDim w d = IsReadableDim (w ∷ []) d × HasReadableSizes d × HasFixedEnds d

dim_readable : (b : BandBound) (w : List ℕ) (s : Subscript) (x : Span) (d : ArcDim) → IsGoodBound b → HasFormNumbers s → IsWholeBox x → IsDimOf 0 (b ∷ []) s (x ∷ []) d → IsGoodDim w d
dim_readable b w s x d bound numbers box h =
    let o = dim_offsets 0 (b ∷ []) s x d box h in
    let good : Each IsGoodTerm d.at.terms = subst (Each IsGoodTerm) (sym h.terms) (dim_terms s numbers) in
    let low = end_of true b d.at d.a d.low bound.fixed h.rising good h.low in
    let high = end_of false b d.at d.b d.high bound.fixed h.rising good h.high in (
      record {
        at = at_readable w d.at h.rising good o.constant;
        low = end_readable w d.at d.a d.low x.low low o.low box.small.low;
        high = end_readable w d.at d.b d.high x.high high o.high box.small.high;
        ordered = o.ordered;
        a = omega (arith, o.first);
        b = omega (arith, o.last);
        stride = o.stride;
        single = o.single;
      },
      record {
        elements = dim_elements d.a d.b d.stride d.elements o.first o.last h.elements;
        step = dim_step b d.at.terms d.step bound.step good h.step;
      },
      record { low = low.terms; high = high.terms },
    )

dims_readable : (b : BandBound) (w : List ℕ) (r : Reference) (k : ℕ) (ss : List Subscript) (ds : List ArcDim) → IsGoodBound b → ((j : ℕ) → IsWholeBox (box_at r.boxes j)) → Each HasFormNumbers ss
    → AreDimsFrom 0 (b ∷ []) (r ∷ []) k ss ds → Each (IsGoodDim w) ds × (length ds ≡ length ss)
dims_readable b w r k [] [] bound boxes numbers h = (tt, refl)
dims_readable b w r k [] (d ∷ ds) bound boxes numbers h = absurd h
dims_readable b w r k (s ∷ ss) [] bound boxes numbers h = absurd h
dims_readable b w r k (s ∷ ss) (d ∷ ds) bound boxes numbers h =
    let more = dims_readable b w r (suc k) ss ds bound boxes numbers.1 h.1 in
    ((dim_readable b w s (box_at r.boxes k) d bound numbers.0 (boxes k) h.0, more.0), ap suc more.1)

-- ---- arrays

array_there : (arrays : List Array) (a : ℕ) → Each IsSize (unwrap_or (option_map (λ x. x.dims) (slice_get arrays a)) (0 ∷ [])) → list_all has_sizes arrays ≡ true
    → (a < length arrays) × (0 < length (unwrap_or (option_map (λ x. x.dims) (slice_get arrays a)) (0 ∷ [])))
array_there [] a h k = let one = h.0.0 in absurd (omega (arith, one))
array_there (x ∷ arrays) zero h k = (omega arith, some x.dims (and_parts (is_some_size x.dims) (list_all is_int_number x.dims) (and_parts (has_sizes x) (list_all has_sizes arrays) k).0).0)
  where
    some : (ns : List ℕ) → is_some_size ns ≡ true → 0 < length ns
    some [] e = absurd cc
    some (n ∷ ns) e = omega arith
array_there (x ∷ arrays) (suc a) h k =
    let more = array_there arrays a h (and_parts (has_sizes x) (list_all has_sizes arrays) k).1 in
    (omega (arith, more.0), more.1)

-- ---- bounds

no_coefficients : (ts : List Term) → IsRising ts → ((level : ℕ) → coefficient_at ts level ≡ pos 0) → ts ≡ []
no_coefficients [] r h = refl
no_coefficients (t ∷ ts) r h = absurd (r.1 (sym (own t ts) ∙ h t.level))
  where
    own : (t : Term) (ts : List Term) → coefficient_at (t ∷ ts) t.level ≡ t.coefficient
    own t ts = let same : nat_eq t.level t.level ≡ true = eq-eqb t.level t.level refl in rw same refl

end_is : (f : Form) (n : ℤ) → IsSameForm f (text.constant_form n) → unsigned_abs n ≤ 2 ^ 32 → IsFixed f
end_is f n same small = record { terms = no_coefficients f.terms same.rising same.coefficients; small = subst (λ z. unsigned_abs z ≤ 2 ^ 32) (sym same.constant) small }

good_bound : (head : Loop) (b : BandBound) → HasConstantEnds head → IsBoundOf (out-Loop head) b → IsGoodBound b
good_bound head b constant h =
    let r = range_of [] (out-Loop head) in
    record {
      fixed = record {
        least = end_is b.least r.low (subst (λ e. IsSameForm b.least e.least) constant.ends h.least) constant.small.low;
        greatest = end_is b.greatest r.high (subst (λ e. IsSameForm b.greatest e.greatest) constant.ends h.greatest) constant.small.high;
      };
      step = subst (λ z. unsigned_abs z ≤ 65536) (sym h.step) constant.step;
    }

-- ---- the law

pub record IsGoodArc (u : Program) (head : Loop) (arc : Arc) : Type 0 where
  pub readable : IsReadableArc (names_in u head) arc
  pub sizes : All HasReadableSizes arc.dims
  pub ends : Each HasFixedEnds arc.dims

pub arc_readable : (u : Program) (head : Loop) (b : BandBound) (r : Reference) (q : references.Reference) (arc : Arc) → list_all has_sizes u.arrays ≡ true → HasConstantEnds head → IsBoundOf (out-Loop head) b
    → IsReference (sizes_of (source_context u)) 1 r q → IsBounded u 1 q → HasTurns 1 q → AreSettled 1 q → AreArcsOf 0 (b ∷ []) (r ∷ []) (arc ∷ []) → IsGoodArc u head arc
arc_readable u head b r q arc dimensions constant bound shown bounded full settled alone =
    let w = (out-Loop head).iter in
    let sizes = sizes_of (source_context u) q.array in
    let small = each_of_all IsSmallBox r.boxes (mergeable u 1 r q shown bounded full).boxes in
    let boxes = boxes_whole 1 q.path sizes q.subs r.boxes full (each_of_all Settles (drop 1 q.path) settled) shown.boxes small in
    let of = alone.0 in
    let dims = dims_readable b w r 0 r.subs arc.dims (good_bound head b constant bound) boxes (each_of_all HasFormNumbers r.subs shown.numbers) of.dims in
    let there = array_there u.arrays q.array bounded.sizes.each dimensions in
    let count : length arc.dims ≡ length sizes = dims.1 ∙ pairwise_length IsSubscript r.subs q.subs shown.subs ∙ sym bounded.sizes.count in
    let array : arc.array ≡ q.array = of.array ∙ shown.array in
    let named : length (map (λ (a : Array). a.name) u.arrays) ≡ length u.arrays = length-map u.arrays (λ (a : Array). a.name) in
    record {
      readable = record {
        array = omega (arith, array, there.0, named);
        some = omega (arith, count, there.1);
        dims = each_to_all (IsReadableDim (w ∷ [])) arc.dims (weaker (IsGoodDim w) (IsReadableDim (w ∷ [])) (λ d h. h.0) arc.dims dims.0);
      };
      sizes = each_to_all HasReadableSizes arc.dims (weaker (IsGoodDim w) HasReadableSizes (λ d h. h.1) arc.dims dims.0);
      ends = weaker (IsGoodDim w) HasFixedEnds (λ d h. h.2) arc.dims dims.0;
    }
