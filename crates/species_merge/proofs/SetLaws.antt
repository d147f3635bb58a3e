-- The sets of arcs hold the boxes of their references, and lie in their domains.
use Rattle.std.proofs.Common.{◌≡◌, inl, inr, ◌∙◌, refl, ap, sym, subst, arith, ℕ, zero, suc, ◌+◌, ◌-◌, ◌<◌, ◌≤◌, Bool, true, false, nat_lt, if◌then◌else◌, List, [], ◌∷◌, length, drop, slice_index_or, All, ℤ, pos, ◌+ℤ◌, ◌-ℤ◌, ◌*ℤ◌, ◌≤ℤ◌}
use Rattle.std.specs.List.{Any}
use Rattle.std.specs.Int.{◌∣◌}
use Rattle.std.specs.Int.RustNames.{unsigned_abs, int_lt}
use Rattle.std.specs.Ordering.{int_eq}
use Rattle.std.proofs.lemmas.Int.{ints}
use Rattle.std.proofs.lemmas.Bool.Decides.{nat_tests, Decides-int_eq}
use Rattle.species_affine.specs.declared.subscript.Subscript.{Subscript}
use Rattle.species_arcs.specs.Pairwise.{Pairwise}
use Rattle.species_arcs.specs.Sets.{IsInDim, IsInSet, IsInDimDomain, IsInDomain}
use Rattle.species_arcs.specs.Spans.{IsInSpan}
use Rattle.species_arcs.specs.declared.places.Arc.{Arc}
use Rattle.species_arcs.specs.declared.places.ArcDim.{ArcDim}
use Rattle.species_arcs.specs.declared.spans.Span.{Span}
use Rattle.species_integers.proofs.Products.{mul_up, mul_down}
use Rattle.species_linear.proofs.CornerEnds.{sums_up}
use Rattle.species_linear.proofs.Order.{coefficient_of_term}
use Rattle.species_linear.specs.Point.{Point}
use Rattle.species_linear.specs.Value.{form_at, sum_at, coefficient_at}
use Rattle.species_linear.specs.declared.forms.Term.{Term}
use Rattle.species_references.specs.declared.nest.Reference.{Reference}
use Rattle.species_merge.proofs.Divides.{same_or_not, dvd_at, dvd_nothing, dvd_ways, dvd_through}
use Rattle.species_merge.proofs.Folding.{Each, Has, all_of, each_of, any_of, DividesAll}
use Rattle.species_merge.proofs.TermLemmas.{all_below}
use Rattle.species_merge.proofs.ClassLemmas.{fronts, AreAlike, has_more, has_map, InClass, each_alike, in_class}
use Rattle.species_merge.specs.Hulls.{own_stride, gaps_of, IsHullOf}
use Rattle.species_merge.specs.Classes.{terms_of, terms_below, Class, members, classes_of, box_at, box_in, column}
use Rattle.species_merge.specs.Bands.{bound_at, end_form, ends_at}
use Rattle.species_merge.specs.Arcs.{added_in, IsDimOf, AreDimsFrom, IsArcOf}
use Rattle.species_merge.specs.Law.{AreInBoxes, IsHeld, SetsHoldBoxes, AreInBand, SetsLieInDomains}
use Rattle.species_merge.specs.declared.bands.BandBound.{BandBound}

pub has_of : {X : Type 0} (P : X → Type 0) (xs : List X) → Any P xs → Has P xs
has_of P [] h = absurd (omega (arith, h.2))
has_of P (x ∷ xs) (zero, y, l, e, p) = inl (subst P (sym e) p)
has_of P (x ∷ xs) (suc k, y, l, e, p) = inr (has_of P xs (k, y, omega (arith, l), e, p))

pub has_self : {X : Type 0} (xs : List X) (k : ℕ) (d : X) → k < length xs → Has (λ y. y ≡ slice_index_or xs k d) xs
has_self [] k d l = absurd (omega (arith, l))
has_self (x ∷ xs) zero d l = inl refl
has_self (x ∷ xs) (suc k) d l = inr (has_self xs k d (omega (arith, l)))

-- ---- hulls

own_ways : (x : Span) (v : ℤ) (d : ℕ) → IsInSpan x v → d ∣ own_stride x → d ∣ unsigned_abs (v -ℤ x.low)
own_ways x v d h g = go (int_eq x.low x.high) refl g
  where
    go : (t : Bool) → int_eq x.low x.high ≡ t → d ∣ (if t then 0 else x.stride) → d ∣ unsigned_abs (v -ℤ x.low)
    go true is q = dvd_nothing d v x.low (omega (arith, ints, (Decides-int_eq x.low x.high).0 is, h.0, h.1))
    go false is q = dvd_through d x.stride (unsigned_abs (v -ℤ x.low)) q h.2

ways_in : (a : ℤ) (xs : List Span) (v : ℤ) (d : ℕ) → Has (λ x. IsInSpan x v) xs → DividesAll d (gaps_of a xs) → d ∣ unsigned_abs (v -ℤ a)
ways_in a [] v d h g = absurd h
ways_in a (x ∷ xs) v d (inl h) g = dvd_ways d v x.low a (own_ways x v d h g.1.0) g.0
ways_in a (x ∷ xs) v d (inr h) g = ways_in a xs v d h g.1.1

from_below : (a : ℤ) (xs : List Span) (v : ℤ) → Has (λ x. IsInSpan x v) xs → Each (λ x. a ≤ℤ x.low) xs → a ≤ℤ v
from_below a [] v h b = absurd h
from_below a (x ∷ xs) v (inl h) b = omega (arith, ints, b.0, h.0)
from_below a (x ∷ xs) v (inr h) b = from_below a xs v h b.1

from_above : (a : ℤ) (xs : List Span) (v : ℤ) → Has (λ x. IsInSpan x v) xs → Each (λ x. x.high ≤ℤ a) xs → v ≤ℤ a
from_above a [] v h b = absurd h
from_above a (x ∷ xs) v (inl h) b = omega (arith, ints, b.0, h.1)
from_above a (x ∷ xs) v (inr h) b = from_above a xs v h b.1

pub hull_holds : (xs : List Span) (h : Span) (v : ℤ) → IsHullOf xs h → Has (λ x. IsInSpan x v) xs → IsInSpan h v
hull_holds xs h v is has =
    let low = from_below h.low xs v has (each_of (λ x. h.low ≤ℤ x.low) xs is.below) in
    let high = from_above h.high xs v has (each_of (λ x. x.high ≤ℤ h.high) xs is.above) in
    elim (same_or_not h.low h.high) [
      | inl e ↦ (low, high, dvd_nothing h.stride v h.low (omega (arith, ints, e, low, high)))
      | inr n ↦ (low, high, ways_in h.low xs v h.stride has (each_of (λ m. h.stride ∣ m) (gaps_of h.low xs) (is.several n).0))
    ]

-- ---- a dimension

-- with the constant, and without it
pub with_constant : (d : ArcDim) (p : Point) (v : ℤ) → IsInSpan (added_in d) (v -ℤ sum_at d.at.terms p) → IsInDim d p v
with_constant d p v h = (
  omega (arith, ints, h.0),
  omega (arith, ints, h.1),
  dvd_at d.stride ((v -ℤ sum_at d.at.terms p) -ℤ (d.at.constant +ℤ d.a)) ((v -ℤ form_at d.at p) -ℤ d.a) (omega (arith, ints)) h.2,
)

pub without_constant : (d : ArcDim) (p : Point) (v : ℤ) → IsInDim d p v → IsInSpan (added_in d) (v -ℤ sum_at d.at.terms p)
without_constant d p v h = (
  omega (arith, ints, h.0),
  omega (arith, ints, h.1),
  dvd_at d.stride ((v -ℤ form_at d.at p) -ℤ d.a) ((v -ℤ sum_at d.at.terms p) -ℤ (d.at.constant +ℤ d.a)) (omega (arith, ints)) h.2,
)

-- ---- sets hold boxes

pub drop_head : {X : Type 0} (xs : List X) (k : ℕ) (y : X) (ys : List X) (d : X) → drop k xs ≡ y ∷ ys → (slice_index_or xs k d ≡ y) × (drop (suc k) xs ≡ ys)
drop_head [] zero y ys d e = absurd (cc e)
drop_head [] (suc k) y ys d e = absurd (cc e)
drop_head (x ∷ xs) zero y ys d e = (cc, cc)
drop_head (x ∷ xs) (suc k) y ys d e = drop_head xs k y ys d e

pub head_same : {X : Type 0} (x y : X) (xs ys : List X) → x ∷ xs ≡ y ∷ ys → (x ≡ y) × (xs ≡ ys)
head_same x y xs ys e = (cc, cc)

-- the boxes of a member r from dimension k on are these, and the first's subscripts from there on have r's fronts
dims_hold : (outer : ℕ) (bands : List BandBound) (rs : List Reference) (r : Reference) (p : Point) (k : ℕ) (fs ss : List Subscript) (xs : List Span) (ds : List ArcDim) (vs : List ℤ)
    → Has (λ q. q ≡ r) rs → drop k r.boxes ≡ xs → fronts (outer + length bands) fs ≡ fronts (outer + length bands) ss → AreDimsFrom outer bands rs k fs ds
    → AreInBoxes (outer + length bands) p ss xs vs → Pairwise (λ d v. IsInDim d p v) ds vs
dims_hold outer bands rs r p k [] [] [] [] [] has own same dims inside = tt
dims_hold outer bands rs r p k [] [] [] [] (v ∷ vs) has own same dims inside = absurd inside
dims_hold outer bands rs r p k [] [] (x ∷ xs) ds vs has own same dims inside = absurd inside
dims_hold outer bands rs r p k [] [] [] (d ∷ ds) vs has own same dims inside = absurd dims
dims_hold outer bands rs r p k [] (s ∷ ss) xs ds vs has own same dims inside = absurd (cc same)
dims_hold outer bands rs r p k (f ∷ fs) [] xs ds vs has own same dims inside = absurd (cc same)
dims_hold outer bands rs r p k (f ∷ fs) (s ∷ ss) [] ds vs has own same dims inside = absurd inside
dims_hold outer bands rs r p k (f ∷ fs) (s ∷ ss) (x ∷ xs) ds [] has own same dims inside = absurd inside
dims_hold outer bands rs r p k (f ∷ fs) (s ∷ ss) (x ∷ xs) [] (v ∷ vs) has own same dims inside = absurd dims
dims_hold outer bands rs r p k (f ∷ fs) (s ∷ ss) (x ∷ xs) (d ∷ ds) (v ∷ vs) has own same dims inside =
    let top : ℕ = outer + length bands in
    let fronts_same = head_same (terms_below top (terms_of f)) (terms_below top (terms_of s)) (fronts top fs) (fronts top ss) same in
    let here = drop_head r.boxes k x xs (box_at [] 0) own in
    let moved : sum_at (terms_below top (terms_of s)) p ≡ sum_at d.at.terms p = ap (λ ts. sum_at ts p) (sym fronts_same.0 ∙ sym dims.0.terms) in
    let number : ℤ = v -ℤ sum_at d.at.terms p in
    let in_box : IsInSpan x number = subst (λ w. IsInSpan x (v -ℤ w)) moved inside.0 in
    let in_column : Has (λ y. IsInSpan y number) (column rs k) =
    has_map (λ y. IsInSpan y number) (box_in k) rs
    (has_more (λ q. q ≡ r) (λ q. IsInSpan (box_in k q) number) rs (λ q e. subst (λ z. IsInSpan (box_in k z) number) (sym e) (subst (λ y. IsInSpan y number) (sym here.0) in_box)) has) in (
      with_constant d p v (hull_holds (column rs k) (added_in d) number dims.0.hull in_column),
      dims_hold outer bands rs r p (suc k) fs ss xs ds vs has here.1 fronts_same.1 dims.1 inside.1,
    )

-- for a list of classes and their arcs
held_in : (outer : ℕ) (bands : List BandBound) (cs : List Class) (arcs : List Arc) (r : Reference) (p : Point) (place : List ℤ) → Pairwise (IsArcOf outer bands) cs arcs
    → Each (λ c. Each (AreAlike (outer + length bands) c.first) (members c)) cs → Has (InClass r) cs → AreInBoxes (outer + length bands) p r.subs r.boxes place → Has (IsHeld p place r) arcs
held_in outer bands [] [] r p place h alike has inside = absurd has
held_in outer bands [] (a ∷ arcs) r p place h alike has inside = absurd h
held_in outer bands (c ∷ cs) [] r p place h alike has inside = absurd h
held_in outer bands (c ∷ cs) (a ∷ arcs) r p place h alike (inr has) inside = inr (held_in outer bands cs arcs r p place h.1 alike.1 has inside)
held_in outer bands (c ∷ cs) (a ∷ arcs) r p place h alike (inl has) inside =
    let top : ℕ = outer + length bands in
    let e : AreAlike top c.first r = fact (members c) has alike.0 in
    inl (record {
      array = h.0.array ∙ e.0;
      direction = h.0.direction ∙ e.1.0;
      held = dims_hold outer bands (members c) r p 0 c.first.subs r.subs r.boxes a.dims place has refl e.1.1 h.0.dims inside;
    })
  where
    fact : (qs : List Reference) → Has (λ q. q ≡ r) qs → Each (AreAlike (outer + length bands) c.first) qs → AreAlike (outer + length bands) c.first r
    fact [] k al = absurd k
    fact (q ∷ qs) (inl k) al = subst (AreAlike (outer + length bands) c.first) k al.0
    fact (q ∷ qs) (inr k) al = fact qs k al.1

pub sets_hold_boxes : SetsHoldBoxes
sets_hold_boxes outer bands rs arcs p place h = λ k d l inside.
    let top : ℕ = outer + length bands in
    let r = slice_index_or rs k d in
    any_of (IsHeld p place r) arcs (held_in outer bands (classes_of top rs) arcs r p place h (each_alike top rs) (in_class top rs r (has_self rs k d l)) inside)

-- ---- domains

least_term : (c : ℤ) (b : BandBound) (p : Point) (y : ℤ) → form_at b.least p ≤ℤ y → y ≤ℤ form_at b.greatest p → (c *ℤ form_at (end_form true c b) p) ≤ℤ (c *ℤ y)
least_term c b p y low high = go (int_lt c (pos 0)) refl
  where
    go : (t : Bool) → int_lt c (pos 0) ≡ t → (c *ℤ form_at (if t then b.greatest else b.least) p) ≤ℤ (c *ℤ y)
    go true is = mul_down c y (form_at b.greatest p) (grind (arith, ints, is)) high
    go false is = mul_up c (form_at b.least p) y (grind (arith, ints, is)) low

greatest_term : (c : ℤ) (b : BandBound) (p : Point) (y : ℤ) → form_at b.least p ≤ℤ y → y ≤ℤ form_at b.greatest p → (c *ℤ y) ≤ℤ (c *ℤ form_at (end_form false c b) p)
greatest_term c b p y low high = go (int_lt c (pos 0)) refl
  where
    go : (t : Bool) → int_lt c (pos 0) ≡ t → (c *ℤ y) ≤ℤ (c *ℤ form_at (if t then b.least else b.greatest) p)
    go true is = mul_down c (form_at b.least p) y (grind (arith, ints, is)) low
    go false is = mul_up c y (form_at b.greatest p) (grind (arith, ints, is)) high

-- a term at the end and at the point
end_below : (outer : ℕ) (bands : List BandBound) (ts : List Term) (p : Point) (t : Term) → AreInBand outer bands p → coefficient_at ts t.level ≡ t.coefficient → t.level < outer + length bands
    → (t.coefficient *ℤ ends_at true outer bands ts p t.level) ≤ℤ (t.coefficient *ℤ p t.level)
end_below outer bands ts p t band is below = go (nat_lt t.level outer) refl
  where
    go : (b : Bool) → nat_lt t.level outer ≡ b
        → (t.coefficient *ℤ (if b then p t.level else form_at (end_form true (coefficient_at ts t.level) (bound_at bands (t.level - outer))) p)) ≤ℤ (t.coefficient *ℤ p t.level)
    go true e = omega (arith, ints)
    go false e =
        let from : outer ≤ t.level = grind (arith, nat_tests, e) in
        let level : outer + (t.level - outer) ≡ t.level = omega (arith, from) in
        let between = band (t.level - outer) (omega (arith, from, below)) in
        rw is (least_term t.coefficient (bound_at bands (t.level - outer)) p (p t.level)
        (subst (λ k. form_at (bound_at bands (t.level - outer)).least p ≤ℤ p k) level between.0)
        (subst (λ k. p k ≤ℤ form_at (bound_at bands (t.level - outer)).greatest p) level between.1))

end_above : (outer : ℕ) (bands : List BandBound) (ts : List Term) (p : Point) (t : Term) → AreInBand outer bands p → coefficient_at ts t.level ≡ t.coefficient → t.level < outer + length bands
    → (t.coefficient *ℤ p t.level) ≤ℤ (t.coefficient *ℤ ends_at false outer bands ts p t.level)
end_above outer bands ts p t band is below = go (nat_lt t.level outer) refl
  where
    go : (b : Bool) → nat_lt t.level outer ≡ b
        → (t.coefficient *ℤ p t.level) ≤ℤ (t.coefficient *ℤ (if b then p t.level else form_at (end_form false (coefficient_at ts t.level) (bound_at bands (t.level - outer))) p))
    go true e = omega (arith, ints)
    go false e =
        let from : outer ≤ t.level = grind (arith, nat_tests, e) in
        let level : outer + (t.level - outer) ≡ t.level = omega (arith, from) in
        let between = band (t.level - outer) (omega (arith, from, below)) in
        rw is (greatest_term t.coefficient (bound_at bands (t.level - outer)) p (p t.level)
        (subst (λ k. form_at (bound_at bands (t.level - outer)).least p ≤ℤ p k) level between.0)
        (subst (λ k. p k ≤ℤ form_at (bound_at bands (t.level - outer)).greatest p) level between.1))

dim_in_domain : (outer : ℕ) (bands : List BandBound) (s : Subscript) (xs : List Span) (d : ArcDim) (p : Point) (v : ℤ) → IsDimOf outer bands s xs d → AreInBand outer bands p → IsInDim d p v → IsInDimDomain d p v
dim_in_domain outer bands s xs d p v dim band h =
    let ts = d.at.terms in
    let top : ℕ = outer + length bands in
    let below : All (λ t. t.level < top) ts = subst (λ us. All (λ t. t.level < top) us) (sym dim.terms) (all_of (λ t. t.level < top) (terms_below top (terms_of s)) (all_below top (terms_of s))) in
    let low : sum_at ts (ends_at true outer bands ts p) ≤ℤ sum_at ts p = sums_up ts (ends_at true outer bands ts p) p
    (λ k t l. end_below outer bands ts p (slice_index_or ts k t) band (coefficient_of_term 0 ts k t dim.rising l) (below k t l)) in
    let high : sum_at ts p ≤ℤ sum_at ts (ends_at false outer bands ts p) = sums_up ts p (ends_at false outer bands ts p)
    (λ k t l. end_above outer bands ts p (slice_index_or ts k t) band (coefficient_of_term 0 ts k t dim.rising l) (below k t l)) in
    (omega (arith, ints, h.0, low, dim.low.value p), omega (arith, ints, h.1, high, dim.high.value p))

dims_in_domain : (outer : ℕ) (bands : List BandBound) (rs : List Reference) (p : Point) (k : ℕ) (ss : List Subscript) (ds : List ArcDim) (vs : List ℤ) → AreDimsFrom outer bands rs k ss ds → AreInBand outer bands p
    → Pairwise (λ d v. IsInDim d p v) ds vs → Pairwise (λ d v. IsInDimDomain d p v) ds vs
dims_in_domain outer bands rs p k ss [] [] dims band h = tt
dims_in_domain outer bands rs p k ss [] (v ∷ vs) dims band h = absurd h
dims_in_domain outer bands rs p k ss (d ∷ ds) [] dims band h = absurd h
dims_in_domain outer bands rs p k [] (d ∷ ds) (v ∷ vs) dims band h = absurd dims
dims_in_domain outer bands rs p k (s ∷ ss) (d ∷ ds) (v ∷ vs) dims band h =
    (dim_in_domain outer bands s (column rs k) d p v dims.0 band h.0, dims_in_domain outer bands rs p (suc k) ss ds vs dims.1 band h.1)

arcs_in_domains : (outer : ℕ) (bands : List BandBound) (cs : List Class) (arcs : List Arc) (p : Point) (place : List ℤ) → Pairwise (IsArcOf outer bands) cs arcs → AreInBand outer bands p
    → Each (λ a. IsInSet a p place → IsInDomain a p place) arcs
arcs_in_domains outer bands [] [] p place h band = tt
arcs_in_domains outer bands [] (a ∷ arcs) p place h band = absurd h
arcs_in_domains outer bands (c ∷ cs) [] p place h band = absurd h
arcs_in_domains outer bands (c ∷ cs) (a ∷ arcs) p place h band =
    ((λ inside. dims_in_domain outer bands (members c) p 0 c.first.subs a.dims place h.0.dims band inside), arcs_in_domains outer bands cs arcs p place h.1 band)

pub sets_lie_in_domains : SetsLieInDomains
sets_lie_in_domains outer bands rs arcs p place h band =
    all_of (λ a. IsInSet a p place → IsInDomain a p place) arcs (arcs_in_domains outer bands (classes_of (outer + length bands) rs) arcs p place h band)
