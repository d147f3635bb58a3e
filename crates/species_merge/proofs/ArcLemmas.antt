-- The hull of small boxes is small, and the dimensions and the arcs one after another.
use Rattle.std.proofs.Common.{◌≡◌, ◌≢◌, ◌∙◌, refl, ap, sym, subst, arith, ℕ, zero, suc, ◌+◌, ◌-◌, ◌<◌, ◌≤◌, ◌^◌, Bool, true, false, not, nat_eq, nat_lt, if◌then◌else◌, ℤ, ◌-ℤ◌, ◌≤ℤ◌, List, [], ◌∷◌, ◌++◌, length, take, drop, slice_index_or, map, All, inl, inr}
use Rattle.std.specs.List.{list_any}
use Rattle.std.specs.Int.{◌∣◌}
use Rattle.std.specs.Int.RustNames.{unsigned_abs}
use Rattle.std.specs.Ordering.{int_eq}
use Rattle.std.proofs.lemmas.Int.{ints}
use Rattle.std.proofs.lemmas.List.{take_more, drop_more, take_rest, get_or-drop, length-drop, append_assoc, length-take-le, map_push}
use Rattle.std.proofs.lemmas.List.Elements.{All-append}
use Rattle.std.proofs.lemmas.Bool.Decides.{nat_tests, Decides-int_eq}
use Rattle.std.proofs.lemmas.Nat.Gcd.{le_of_dvd}
use Rattle.std.proofs.Math.Nat.{eq-zero_of_zero-dvd}
use Rattle.species_affine.specs.declared.subscript.Subscript.{Subscript}
use Rattle.species_affine.specs.declared.subscript.Subscript.TheVariants.{Affine, Other}
use Rattle.species_arcs.specs.Pairwise.{Pairwise}
use Rattle.species_arcs.specs.Sizes.{HasSmallSpan}
use Rattle.species_arcs.specs.declared.places.Arc.{Arc}
use Rattle.species_arcs.specs.declared.places.ArcDim.{ArcDim}
use Rattle.species_arcs.specs.declared.spans.Span.{Span}
use Rattle.species_linear.specs.declared.forms.Term.{Term}
use Rattle.species_references.specs.declared.nest.Reference.{Reference}
use Rattle.species_merge.specs.Arcs.{added_in, IsDimOf, AreDimsFrom, IsArcOf}
use Rattle.species_merge.specs.Classes.{are_alike, Class, members, class_of, classes_behind, classes_of, no_box, column, terms_of, terms_below}
use Rattle.species_merge.specs.Hulls.{gaps_of, IsHullOf}
use Rattle.species_merge.specs.Reaches.{IsSmallSpan}
use Rattle.species_merge.specs.Sizes.{HasTerms, IsSmallSubscript, IsSmallBox, HasSmallBoxes}
use Rattle.species_merge.specs.declared.bands.BandBound.{BandBound}
use Rattle.species_merge.proofs.Folding.{Each, Has, all_of, each_of, has_of}
use Rattle.species_merge.proofs.MemberLemmas.{all_one, all_members}
use Rattle.species_merge.proofs.BandLemmas.{below_terms}
use Rattle.species_merge.proofs.TermLemmas.{all_below}

-- ---- small hulls

divisor_small : (g n m : ℕ) → g ∣ n → 0 < n → n ≤ m → (0 < g) × (g ≤ m)
divisor_small zero n m h some le = absurd (omega (arith, some, eq-zero_of_zero-dvd h))
divisor_small (suc g) n m h some le = (omega arith, omega (arith, le_of_dvd {m = suc g} {n = n} some h, le))

way_some : (a b : ℤ) → a ≢ b → 0 < unsigned_abs (b -ℤ a)
way_some a b n = grind (arith, ints)

way_small : (a b : ℤ) → unsigned_abs a < 2 ^ 69 → unsigned_abs b < 2 ^ 69 → unsigned_abs (b -ℤ a) ≤ 2 ^ 70
way_small a b p q = grind (arith, ints)

stride_small : (a b : ℤ) (g : ℕ) (xs : List Span) → a ≢ b → unsigned_abs a < 2 ^ 69 → Has (λ x. x.high ≡ b) xs → Each (λ n. g ∣ n) (gaps_of a xs) → Each IsSmallBox xs
    → (0 < g) × (g ≤ 2 ^ 70)
stride_small a b g [] n small h k s = absurd h
stride_small a b g (x ∷ xs) n small (inr h) k s = stride_small a b g xs n small h k.1.1 s.1
stride_small a b g (x ∷ xs) n small (inl h) k s = go (int_eq x.low x.high) refl k.1.0
  where
    go : (t : Bool) → int_eq x.low x.high ≡ t → g ∣ (if t then 0 else x.stride) → (0 < g) × (g ≤ 2 ^ 70)
    go true is d =
        let one : x.low ≡ b = (Decides-int_eq x.low x.high).0 is ∙ h in
        divisor_small g (unsigned_abs (x.low -ℤ a)) (2 ^ 70) k.0 (way_some a x.low (λ e. n (e ∙ one))) (way_small a x.low small s.0.low)
    go false is d = divisor_small g x.stride (2 ^ 70) d s.0.stride.0 s.0.stride.1

low_small : (a : ℤ) (xs : List Span) → Has (λ x. x.low ≡ a) xs → Each IsSmallBox xs → unsigned_abs a < 2 ^ 69
low_small a [] h s = absurd h
low_small a (x ∷ xs) (inl h) s = subst (λ (z : ℤ). unsigned_abs z < 2 ^ 69) h s.0.low
low_small a (x ∷ xs) (inr h) s = low_small a xs h s.1

high_small : (b : ℤ) (xs : List Span) → Has (λ x. x.high ≡ b) xs → Each IsSmallBox xs → unsigned_abs b < 2 ^ 69
high_small b [] h s = absurd h
high_small b (x ∷ xs) (inl h) s = subst (λ (z : ℤ). unsigned_abs z < 2 ^ 69) h s.0.high
high_small b (x ∷ xs) (inr h) s = high_small b xs h s.1

ends_ordered : (a b : ℤ) (xs : List Span) → Each (λ x. a ≤ℤ x.low) xs → Has (λ x. x.high ≡ b) xs → Each IsSmallBox xs → a ≤ℤ b
ends_ordered a b [] below h s = absurd h
ends_ordered a b (x ∷ xs) below (inl h) s = omega (arith, ints, below.0, s.0.ordered, h)
ends_ordered a b (x ∷ xs) below (inr h) s = ends_ordered a b xs below.1 h s.1

pub hull_small : (xs : List Span) (h : Span) → All IsSmallBox xs → IsHullOf xs h → IsSmallBox h
hull_small xs h small is =
    let each = each_of IsSmallBox xs small in
    let least = has_of (λ x. x.low ≡ h.low) xs is.least in
    let greatest = has_of (λ x. x.high ≡ h.high) xs is.greatest in
    record {
      ordered = ends_ordered h.low h.high xs (each_of (λ x. h.low ≤ℤ x.low) xs is.below) greatest each;
      low = low_small h.low xs least each;
      high = high_small h.high xs greatest each;
      stride = go (int_eq h.low h.high) refl (low_small h.low xs least each) greatest each;
    }
  where
    go : (t : Bool) → int_eq h.low h.high ≡ t → unsigned_abs h.low < 2 ^ 69 → Has (λ x. x.high ≡ h.high) xs → Each IsSmallBox xs → (0 < h.stride) × (h.stride ≤ 2 ^ 70)
    go true t low greatest each = let one = is.single ((Decides-int_eq h.low h.high).0 t) in (omega (arith, one), omega (arith, one))
    go false t low greatest each =
        let n : h.low ≢ h.high = λ e. absurd (cc ((Decides-int_eq h.low h.high).1 e, t)) in
        stride_small h.low h.high h.stride xs n low greatest (each_of (λ n. h.stride ∣ n) (gaps_of h.low xs) (is.several n).0) each

box_small : (xs : List Span) (k : ℕ) → Each IsSmallBox xs → IsSmallBox (slice_index_or xs k no_box)
box_small [] k h = record { ordered = omega (arith, ints); low = omega arith; high = omega arith; stride = (omega arith, omega arith) }
box_small (x ∷ xs) zero h = h.0
box_small (x ∷ xs) (suc k) h = box_small xs k h.1

column_each : (rs : List Reference) (k : ℕ) → Each HasSmallBoxes rs → Each IsSmallBox (column rs k)
column_each [] k h = tt
column_each (r ∷ rs) k h = (box_small r.boxes k (each_of IsSmallBox r.boxes h.0), column_each rs k h.1)

pub column_boxes : (rs : List Reference) (k : ℕ) → All HasSmallBoxes rs → All IsSmallBox (column rs k)
column_boxes rs k h = all_of IsSmallBox (column rs k) (column_each rs k (each_of HasSmallBoxes rs h))

pub small_spans : (xs : List Span) → All IsSmallBox xs → All IsSmallSpan xs
small_spans xs h k d l = omega (arith, (h k d l).low)

-- ---- dimensions

small_terms : (s : Subscript) → IsSmallSubscript s → HasTerms (2 ^ 40) (terms_of s)
small_terms (Affine f) h = h.1
small_terms Other h = λ k d l. absurd (omega (arith, l))

pub fixed_terms : (top : ℕ) (s : Subscript) (ts : List Term) → ts ≡ terms_below top (terms_of s) → IsSmallSubscript s → HasTerms (2 ^ 40) ts
fixed_terms top s ts e h = subst (λ us. HasTerms (2 ^ 40) us) (sym e) (below_terms (2 ^ 40) top (terms_of s) (small_terms s h))

pub fixed_levels : (top : ℕ) (ts us : List Term) → us ≡ terms_below top ts → All (λ t. t.level < top) us
fixed_levels top ts us e = subst (λ vs. All (λ t. t.level < top) vs) (sym e) (all_of (λ t. t.level < top) (terms_below top ts) (all_below top ts))

not_empty : (us : List Term) → not (nat_eq (length us) 0) ≡ nat_lt 0 (length us)
not_empty [] = refl
not_empty (u ∷ us) =
    let some : 0 < length (u ∷ us) = omega arith in
    let other : nat_eq (length (u ∷ us)) 0 ≡ false = grind (arith, nat_tests, some) in
    let test : nat_lt 0 (length (u ∷ us)) ≡ true = grind (arith, nat_tests, some) in
    ap not other ∙ sym test

pub driven_is : (r : Bool) (us vs : List Term) → r ≡ nat_eq (length us) 0 → us ≡ vs → not r ≡ nat_lt 0 (length vs)
driven_is r us vs e shown = ap not e ∙ not_empty us ∙ ap (λ ts. nat_lt 0 (length ts)) shown

abbrev span : ℤ → ℤ → ℕ → Span
span low high stride = record { low = low; high = high; stride = stride }

pub span_same : (x y : Span) → x.low ≡ y.low → x.high ≡ y.high → x.stride ≡ y.stride → x ≡ y
span_same x y l h s = ap (λ (z : ℤ). span z x.high x.stride) l ∙ (ap (λ (z : ℤ). span y.low z x.stride) h ∙ ap (span y.low y.high) s)

dims_push : (outer : ℕ) (bands : List BandBound) (rs : List Reference) (k : ℕ) (ss : List Subscript) (ds : List ArcDim) (s : Subscript) (d : ArcDim) (j : ℕ)
    → AreDimsFrom outer bands rs k ss ds → k + length ss ≡ j → IsDimOf outer bands s (column rs j) d → AreDimsFrom outer bands rs k (ss ++ s ∷ []) (ds ++ d ∷ [])
dims_push outer bands rs k [] [] s d j h e is =
    let here : j ≡ k = omega (arith, e) in (subst (λ (n : ℕ). IsDimOf outer bands s (column rs n) d) here is, tt)
dims_push outer bands rs k [] (c ∷ ds) s d j h e is = absurd h
dims_push outer bands rs k (t ∷ ss) [] s d j h e is = absurd h
dims_push outer bands rs k (t ∷ ss) (c ∷ ds) s d j h e is = (h.0, dims_push outer bands rs (suc k) ss ds s d j h.1 (omega (arith, e)) is)

-- The dimensions of the first i subscripts, and the hulls of the boxes in them.
pub record AreDimsSoFar (outer : ℕ) (bands : List BandBound) (rs : List Reference) (subs : List Subscript) (i : ℕ) (ds : List ArcDim) (hs : List Span) : Type 0 where
  pub dims : AreDimsFrom outer bands rs 0 (take i subs) ds
  pub hulls : hs ≡ map added_in ds
  pub small : All IsSmallBox hs
  pub spans : All HasSmallSpan ds

pub dims_more : (outer : ℕ) (bands : List BandBound) (rs : List Reference) (subs : List Subscript) (i : ℕ) (dims : List ArcDim) (hulls : List Span) (s : Subscript) (dim : ArcDim) (reach : Span)
    → i < length subs → s ≡ slice_index_or subs i s → AreDimsSoFar outer bands rs subs i dims hulls → IsDimOf outer bands s (column rs i) dim → added_in dim ≡ reach
    → IsSmallBox reach → HasSmallSpan dim → AreDimsSoFar outer bands rs subs (i + 1) (dims ++ dim ∷ []) (hulls ++ reach ∷ [])
dims_more outer bands rs subs i dims hulls s dim reach l at so is e box small =
    let next : take (i + 1) subs ≡ take i subs ++ s ∷ [] = take_more subs i s l ∙ ap (λ t. take i subs ++ t ∷ []) (sym at) in
    let count : length (take i subs) ≡ i = length-take-le i subs (omega (arith, l)) in
    record {
      dims = subst (λ ss. AreDimsFrom outer bands rs 0 ss (dims ++ dim ∷ [])) (sym next)
          (dims_push outer bands rs 0 (take i subs) dims s dim i so.dims (omega (arith, count)) is);
      hulls = ap (λ hs. hs ++ reach ∷ []) so.hulls ∙ ap (λ h. map added_in dims ++ h ∷ []) (sym e) ∙ sym (map_push added_in dims dim);
      small = All-append IsSmallBox hulls (reach ∷ []) so.small (all_one IsSmallBox reach box);
      spans = All-append HasSmallSpan dims (dim ∷ []) so.spans (all_one HasSmallSpan dim small);
    }

pub dims_next : (outer : ℕ) (bands : List BandBound) (rs : List Reference) (subs : List Subscript) (i : ℕ) (dims : List ArcDim) (hulls : List Span) (s : Subscript) (dim : ArcDim) (reach : Span)
    (ds : List ArcDim) (hs : List Span) → i < length subs → s ≡ slice_index_or subs i s → AreDimsSoFar outer bands rs subs i dims hulls → IsDimOf outer bands s (column rs i) dim
    → added_in dim ≡ reach → IsSmallBox reach → HasSmallSpan dim → ds ≡ dims ++ dim ∷ [] → hs ≡ hulls ++ reach ∷ [] → AreDimsSoFar outer bands rs subs (i + 1) ds hs
dims_next outer bands rs subs i dims hulls s dim reach ds hs l at so is e box small d h =
    subst (λ xs. AreDimsSoFar outer bands rs subs (i + 1) xs hs) (sym d)
    (subst (λ ys. AreDimsSoFar outer bands rs subs (i + 1) (dims ++ dim ∷ []) ys) (sym h) (dims_more outer bands rs subs i dims hulls s dim reach l at so is e box small))

-- ---- arcs

behind_new : (top : ℕ) (before : List Reference) (r : Reference) (rs : List Reference) → list_any (are_alike top r) before ≡ false
    → classes_behind top before (r ∷ rs) ≡ class_of top r rs ∷ classes_behind top (before ++ r ∷ []) rs
behind_new top before r rs is = go (list_any (are_alike top r) before) is
  where
    go : (t : Bool) → t ≡ false → (if t then classes_behind top (before ++ r ∷ []) rs else class_of top r rs ∷ classes_behind top (before ++ r ∷ []) rs)
        ≡ class_of top r rs ∷ classes_behind top (before ++ r ∷ []) rs
    go true e = absurd (cc e)
    go false e = refl

pairwise_push : {X Y : Type 0} (R : X → Y → Type 0) (xs : List X) (ys : List Y) (x : X) (y : Y) → Pairwise R xs ys → R x y → Pairwise R (xs ++ x ∷ []) (ys ++ y ∷ [])
pairwise_push R [] [] x y h r = (r, tt)
pairwise_push R [] (w ∷ ys) x y h r = absurd h
pairwise_push R (v ∷ xs) [] x y h r = absurd h
pairwise_push R (v ∷ xs) (w ∷ ys) x y h r = (h.0, pairwise_push R xs ys x y h.1 r)

-- The classes are those that have their arcs, and those of the references from number i on.
pub record AreArcsSoFar (outer : ℕ) (bands : List BandBound) (top : ℕ) (rs : List Reference) (i : ℕ) (found : List Arc) : Type 0 where
  pub done : List Class
  pub classes : classes_of top rs ≡ done ++ classes_behind top (take i rs) (drop i rs)
  pub arcs : Pairwise (IsArcOf outer bands) done found

-- the class of reference i
pub class_is : (top : ℕ) (rs : List Reference) (i : ℕ) (r : Reference) (c : Class) → c ≡ class_of top r (take (length rs - (i + 1)) (drop (i + 1) rs)) → c ≡ class_of top r (drop (i + 1) rs)
class_is top rs i r c e = e ∙ ap (λ xs. class_of top r xs) (take_rest rs (i + 1))

pub class_all : (P : Reference → Type 0) (top : ℕ) (rs : List Reference) (i : ℕ) (r : Reference) (c : Class) → i < length rs → r ≡ slice_index_or rs i r
    → c ≡ class_of top r (take (length rs - (i + 1)) (drop (i + 1) rs)) → All P rs → All P (members c)
class_all P top rs i r c l at e h =
    let own : P r = subst P (sym at) (h i r l) in
    let behind : All P (drop (i + 1) rs) = λ k d lt. subst P (sym (get_or-drop (i + 1) rs k d)) (h ((i + 1) + k) d (omega (arith, lt, length-drop (i + 1) rs))) in
    subst (λ x. All P (members x)) (sym (class_is top rs i r c e)) (all_members P (are_alike top r) r (drop (i + 1) rs) own behind)

-- what is left at reference i
left_at : (top : ℕ) (rs : List Reference) (i : ℕ) (r : Reference) → i < length rs → r ≡ slice_index_or rs i r
    → classes_behind top (take i rs) (drop i rs) ≡ classes_behind top (take i rs) (r ∷ drop (i + 1) rs)
left_at top rs i r l at = ap (λ xs. classes_behind top (take i rs) xs) (drop_more rs i r l ∙ ap (λ x. x ∷ drop (i + 1) rs) (sym at))

before_more : (top : ℕ) (rs : List Reference) (i : ℕ) (r : Reference) → i < length rs → r ≡ slice_index_or rs i r
    → classes_behind top (take i rs ++ r ∷ []) (drop (i + 1) rs) ≡ classes_behind top (take (i + 1) rs) (drop (i + 1) rs)
before_more top rs i r l at =
    ap (λ xs. classes_behind top xs (drop (i + 1) rs)) (sym (take_more rs i r l ∙ ap (λ x. take i rs ++ x ∷ []) (sym at)))

pub arcs_more : (outer : ℕ) (bands : List BandBound) (top : ℕ) (rs : List Reference) (i : ℕ) (arcs : List Arc) (r : Reference) (arc : Arc) → i < length rs → r ≡ slice_index_or rs i r
    → list_any (are_alike top r) (take i rs) ≡ false → IsArcOf outer bands (class_of top r (drop (i + 1) rs)) arc → AreArcsSoFar outer bands top rs i arcs
    → AreArcsSoFar outer bands top rs (i + 1) (arcs ++ arc ∷ [])
arcs_more outer bands top rs i arcs r arc l at is own so =
    let c : Class = class_of top r (drop (i + 1) rs) in
    let rest : List Class = classes_behind top (take (i + 1) rs) (drop (i + 1) rs) in
    let left = left_at top rs i r l at ∙ behind_new top (take i rs) r (drop (i + 1) rs) is ∙ ap (λ cs. c ∷ cs) (before_more top rs i r l at) in
    record {
      done = so.done ++ c ∷ [];
      classes = so.classes ∙ ap (λ cs. so.done ++ cs) left ∙ sym (append_assoc so.done (c ∷ []) rest);
      arcs = pairwise_push (IsArcOf outer bands) so.done arcs c arc so.arcs own;
    }
