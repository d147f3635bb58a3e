-- Each place of an exact set is touched.
use Rattle.std.proofs.Common.{◌≡◌, ◌≢◌, ◌⊎◌, inl, inr, ◌∙◌, refl, ap, sym, subst, arith, ℕ, zero, suc, ◌+◌, ◌<◌, ◌≤◌, Bool, true, false, ◌&&◌, not, nat_lt, if◌then◌else◌, List, [], ◌∷◌, ◌++◌, length, map, drop, slice_index_or, All, Option, Some, None, is_some, IsTrue, ℤ, pos, ◌+ℤ◌, ◌-ℤ◌, ◌*ℤ◌, ◌≤ℤ◌}
use Rattle.std.specs.List.{Any, list_all, drop-map}
use Rattle.std.specs.Int.{◌∣◌}
use Rattle.std.specs.Int.RustNames.{unsigned_abs}
use Rattle.std.specs.Ordering.{int_eq}
use Rattle.std.proofs.lemmas.Int.{ints}
use Rattle.std.proofs.Math.IntN.{*ℤ_comm}
use Rattle.species_integers.proofs.Products.{mul_zero}
use Rattle.std.proofs.lemmas.Bool.Decides.{nat_tests}
use Rattle.std.proofs.lemmas.Nat.Gcd.{dvd_refl, dvd-zero}
use Rattle.species_affine.specs.Subscript.{IsSubscript, IsSameForm}
use Rattle.species_affine.specs.declared.subscript.Subscript.{Subscript}
use Rattle.species_affine.specs.declared.subscript.Subscript.TheVariants.{Affine, Other}
use Rattle.species_affine.proofs.FormLaws.{same_value}
use Rattle.species_arcs.specs.Pairwise.{Pairwise}
use Rattle.species_arcs.proofs.PairwiseLaws.{pairwise_length, pairwise_at, pairwise_by_index}
use Rattle.species_arcs.specs.Sets.{IsInSet, IsInDim}
use Rattle.species_arcs.specs.Spans.{IsInSpan}
use Rattle.species_arcs.specs.declared.places.Arc.{Arc}
use Rattle.species_arcs.specs.declared.places.ArcDim.{ArcDim}
use Rattle.species_arcs.specs.declared.spans.Span.{Span}
use Rattle.species_ast.specs.Scope.Forms.{Form, sum_of}
use Rattle.species_ast.specs.Scope.Hulls.{Range, is_empty, has_empty}
use Rattle.species_ast.specs.Scope.References as text
use Rattle.species_linear.specs.declared.forms.Form as linear
use Rattle.species_linear.proofs.Linear.{sum_at-append}
use Rattle.species_linear.specs.Point.{Point, point_of}
use Rattle.species_linear.specs.Value.{sum_at}
use Rattle.species_linear.specs.declared.forms.Term.{Term}
use Rattle.species_occurrences.specs.Iterators.{AreTaken}
use Rattle.species_occurrences.specs.Surely.{AreConstant}
use Rattle.species_references.specs.Boxes.{AreBoxes, unit_of, has_constant_bounds}
use Rattle.species_references.specs.Law.{HasTurns}
use Rattle.species_references.specs.Ranges.{range_seen}
use Rattle.species_references.specs.References.{direction_of, IsReference}
use Rattle.species_references.specs.declared.nest.Reference.{Reference}
use Rattle.species_merge.proofs.Divides.{dvd_at, dvd_nothing, dvd_through, same_or_not}
use Rattle.species_merge.proofs.Folding.{Each, Has, all_of, each_of, any_of}
use Rattle.species_merge.proofs.ClassLemmas.{AreAlike, fronts, has_more, has_with, has_unmap, each_more, each_both, each_member, each_alike}
use Rattle.species_merge.proofs.SetLaws.{has_of, head_same, without_constant}
use Rattle.species_merge.proofs.TermLemmas.{parts_are_all}
use Rattle.species_merge.proofs.FreeLaws.{both_false, both_true, not_true, ApartFrom, AreFree, free_forms}
use Rattle.species_merge.proofs.ReachLaws.{AreWhole, AreApart, reach_box}
use Rattle.species_merge.specs.Hulls.{IsHullOf, gaps_of, own_stride}
use Rattle.species_merge.specs.Classes.{terms_of, terms_below, terms_from, Class, members, classes_of, box_at, box_in, column}
use Rattle.species_merge.specs.Exact.{is_affine, is_free, is_constant_loop, is_regular, Fills}
use Rattle.species_merge.specs.Arcs.{added_in, AreDimsFrom, IsArcOf}
use Rattle.species_merge.specs.Law.{IsFullyTaken, AreSettled, IsValueAt, IsTouchedBy, ExactSetsAreTouched}
use Rattle.species_merge.specs.declared.bands.BandBound.{BandBound}

-- ---- all dimensions at once

-- each is the value of its dimension's inner part
abbrev pub AreValues : ℕ → List (Option Form) → List ℤ → List ℤ → Type 0
AreValues inner [] is [] = Unit {0}
AreValues inner [] is (w ∷ ws) = ⊥
AreValues inner (o ∷ os) is [] = ⊥
AreValues inner (None ∷ os) is (w ∷ ws) = ⊥
AreValues inner (Some f ∷ os) is (w ∷ ws) = (f.constant +ℤ sum_of (drop inner f.coefficients) is ≡ w) × AreValues inner os is ws

abbrev AllApart : ℕ → List (Option Form) → List ℤ → Type 0
AllApart inner [] ds = Unit {0}
AllApart inner (None ∷ os) ds = ⊥
AllApart inner (Some f ∷ os) ds = AreApart (drop inner f.coefficients) ds × AllApart inner os ds

pub record ReachedAll (inner : ℕ) (os : List (Option Form)) (more : List Range) (js ws : List ℤ) : Type 0 where
  pub iters : List ℤ
  pub on : AreTaken more iters
  pub values : AreValues inner os iters ws
  pub kept : (ds : List ℤ) → AllApart inner os ds → sum_of ds iters ≡ sum_of ds js

values_kept : (inner : ℕ) (cs is js : List ℤ) (os : List (Option Form)) (ws : List ℤ) → ((ds : List ℤ) → AreApart cs ds → sum_of ds is ≡ sum_of ds js) → ApartFrom inner cs os → AreValues inner os js ws → AreValues inner os is ws
values_kept inner cs is js [] [] kept a h = h
values_kept inner cs is js [] (w ∷ ws) kept a h = absurd h
values_kept inner cs is js (None ∷ os) ws kept a h = absurd a
values_kept inner cs is js (Some f ∷ os) [] kept a h = absurd h
values_kept inner cs is js (Some f ∷ os) (w ∷ ws) kept a h =
    (omega (arith, ints, kept (drop inner f.coefficients) a.0, h.0), values_kept inner cs is js os ws kept a.1 h.1)

reach_all : (inner : ℕ) (path more : List Range) (sizes : List ℕ) (os : List (Option Form)) (xs : List Span) (js ws : List ℤ) → drop inner path ≡ more → AreWhole more → AreTaken more js
    → AreFree inner os → AreBoxes inner path sizes os xs → Pairwise IsInSpan xs ws → ReachedAll inner os more js ws
reach_all inner path more sizes [] [] js [] e whole on free b h = record { iters = js; on = on; values = tt; kept = λ ds a. refl }
reach_all inner path more sizes [] [] js (w ∷ ws) e whole on free b h = absurd h
reach_all inner path more sizes [] (x ∷ xs) js ws e whole on free b h = absurd b
reach_all inner path more sizes (None ∷ os) xs js ws e whole on free b h = absurd free
reach_all inner path more sizes (Some f ∷ os) [] js ws e whole on free b h = absurd b
reach_all inner path more sizes (Some f ∷ os) (x ∷ xs) js [] e whole on free b h = absurd h
reach_all inner path more [] (Some f ∷ os) (x ∷ xs) js (w ∷ ws) e whole on free b h =
    let rest = reach_all inner path more [] os xs js ws e whole on free.1.1 b.1 h.1 in
    let first = reach_box inner path more f x rest.iters w e whole free.0 rest.on b.0 h.0 in
    record {
      iters = first.iters;
      on = first.on;
      values = (omega (arith, ints, first.sum), values_kept inner (drop inner f.coefficients) first.iters rest.iters os ws first.kept free.1.0 rest.values);
      kept = λ ds a. first.kept ds a.0 ∙ rest.kept ds a.1;
    }
reach_all inner path more (n ∷ sizes) (Some f ∷ os) (x ∷ xs) js (w ∷ ws) e whole on free b h =
    let rest = reach_all inner path more sizes os xs js ws e whole on free.1.1 b.1 h.1 in
    let first = reach_box inner path more f x rest.iters w e whole free.0 rest.on b.0 h.0 in
    record {
      iters = first.iters;
      on = first.on;
      values = (omega (arith, ints, first.sum), values_kept inner (drop inner f.coefficients) first.iters rest.iters os ws first.kept free.1.0 rest.values);
      kept = λ ds a. first.kept ds a.0 ∙ rest.kept ds a.1;
    }

abbrev at : List ℤ → ℕ → ℤ
at cs k = slice_index_or cs k (pos 0)

-- ---- rows

-- the numbers of a place, dimension by dimension, without what the iterators below `top` add
abbrev pub numbers : List ArcDim → Point → List ℤ → List ℤ
numbers [] p vs = []
numbers (d ∷ ds) p [] = []
numbers (d ∷ ds) p (v ∷ vs) = (v -ℤ sum_at d.at.terms p) ∷ numbers ds p vs

in_hulls : (ds : List ArcDim) (p : Point) (vs : List ℤ) → Pairwise (λ d v. IsInDim d p v) ds vs → Pairwise IsInSpan (map added_in ds) (numbers ds p vs)
in_hulls [] p [] h = tt
in_hulls [] p (v ∷ vs) h = absurd h
in_hulls (d ∷ ds) p [] h = absurd h
in_hulls (d ∷ ds) p (v ∷ vs) h = (without_constant d p v h.0, in_hulls ds p vs h.1)

hull_at : (outer : ℕ) (bands : List BandBound) (rs : List Reference) (k j : ℕ) (ss : List Subscript) (ds : List ArcDim) → AreDimsFrom outer bands rs k ss ds → j < length ds
    → IsHullOf (column rs (k + j)) (box_at (map added_in ds) j)
hull_at outer bands rs k j [] [] h l = absurd (omega (arith, l))
hull_at outer bands rs k j [] (d ∷ ds) h l = absurd h
hull_at outer bands rs k j (s ∷ ss) [] h l = absurd h
hull_at outer bands rs k zero (s ∷ ss) (d ∷ ds) h l = subst (λ n. IsHullOf (column rs n) (added_in d)) (omega arith) h.0.hull
hull_at outer bands rs k (suc j) (s ∷ ss) (d ∷ ds) h l = subst (λ n. IsHullOf (column rs n) (box_at (map added_in ds) j)) (omega arith) (hull_at outer bands rs (suc k) j ss ds h.1 (omega (arith, l)))

-- boxes that are all equal have themselves as their hull
same_low : (xs : List Span) (x : Span) (a : ℤ) → Each (λ y. y ≡ x) xs → Has (λ y. y.low ≡ a) xs → x.low ≡ a
same_low [] x a e h = absurd h
same_low (y ∷ ys) x a e (inl h) = sym (ap (λ z. z.low) e.0) ∙ h
same_low (y ∷ ys) x a e (inr h) = same_low ys x a e.1 h

same_high : (xs : List Span) (x : Span) (a : ℤ) → Each (λ y. y ≡ x) xs → Has (λ y. y.high ≡ a) xs → x.high ≡ a
same_high [] x a e h = absurd h
same_high (y ∷ ys) x a e (inl h) = sym (ap (λ z. z.high) e.0) ∙ h
same_high (y ∷ ys) x a e (inr h) = same_high ys x a e.1 h

counted : (x y : Span) → y ≡ x → x.stride ∣ own_stride y
counted x y e = go (int_eq y.low y.high)
  where
    go : (t : Bool) → x.stride ∣ (if t then 0 else y.stride)
    go true = dvd-zero x.stride
    go false = subst (λ z. x.stride ∣ z) (sym (ap (λ z. z.stride) e)) (dvd_refl x.stride)

same_gaps : (xs : List Span) (x : Span) (a : ℤ) → Each (λ y. y ≡ x) xs → x.low ≡ a → Each (λ n. x.stride ∣ n) (gaps_of a xs)
same_gaps [] x a e h = tt
same_gaps (y ∷ ys) x a e h = (dvd_nothing x.stride y.low a (ap (λ z. z.low) e.0 ∙ h), (counted x y e.0, same_gaps ys x a e.1 h))

hull_within : (xs : List Span) (h x : Span) (v : ℤ) → IsHullOf xs h → Each (λ y. y ≡ x) xs → IsInSpan h v → IsInSpan x v
hull_within xs h x v is e p =
    let low : x.low ≡ h.low = same_low xs x h.low e (has_of (λ y. y.low ≡ h.low) xs is.least) in
    let high : x.high ≡ h.high = same_high xs x h.high e (has_of (λ y. y.high ≡ h.high) xs is.greatest) in
    elim (same_or_not h.low h.high) [
      | inl q ↦ (omega (arith, ints, low, p.0), omega (arith, ints, high, p.1), dvd_nothing x.stride v x.low (omega (arith, ints, low, q, p.0, p.1)))
      | inr n ↦ (
        omega (arith, ints, low, p.0),
        omega (arith, ints, high, p.1),
        dvd_at x.stride (v -ℤ h.low) (v -ℤ x.low) (omega (arith, ints, low))
            (dvd_through x.stride h.stride (unsigned_abs (v -ℤ h.low)) ((is.several n).1 x.stride (all_of (λ m. x.stride ∣ m) (gaps_of h.low xs) (same_gaps xs x h.low e low))) p.2),
      )
    ]

at_any : {X : Type 0} (xs : List X) (k : ℕ) (d e : X) → k < length xs → slice_index_or xs k d ≡ slice_index_or xs k e
at_any [] k d e l = absurd (omega (arith, l))
at_any (x ∷ xs) zero d e l = refl
at_any (x ∷ xs) (suc k) d e l = at_any xs k d e (omega (arith, l))

length_map : {X Y : Type 0} (g : X → Y) (xs : List X) → length (map g xs) ≡ length xs
length_map g [] = refl
length_map g (x ∷ xs) = ap suc (length_map g xs)

each_map : {X Y : Type 0} (P : Y → Type 0) (g : X → Y) (xs : List X) → Each (λ x. P (g x)) xs → Each P (map g xs)
each_map P g [] h = tt
each_map P g (x ∷ xs) h = (h.0, each_map P g xs h.1)

-- for each number, and each member
each_swap : {X : Type 0} (C : ℕ → Type 0) (P : ℕ → X → Type 0) (xs : List X) → ((k : ℕ) → C k → Each (P k) xs) → Each (λ x. (k : ℕ) → C k → P k x) xs
each_swap C P [] h = tt
each_swap C P (x ∷ xs) h = ((λ k c. (h k c).0), each_swap C P xs (λ k c. (h k c).1))

-- A filled class has a member whose boxes have the numbers.
pub some_member : (outer : ℕ) (bands : List BandBound) (c : Class) (a : Arc) (ws : List ℤ) → AreDimsFrom outer bands (members c) 0 c.first.subs a.dims
    → Each (λ r. length r.boxes ≡ length a.dims) (members c) → Fills c (map added_in a.dims) → Pairwise IsInSpan (map added_in a.dims) ws
    → Has (λ r. Pairwise IsInSpan r.boxes ws) (members c)
some_member outer bands c a ws dims wide (inl same) h =
    has_more (λ r. r.boxes ≡ map added_in a.dims) (λ r. Pairwise IsInSpan r.boxes ws) (members c) (λ r e. subst (λ xs. Pairwise IsInSpan xs ws) (sym e) h)
    (has_of (λ r. r.boxes ≡ map added_in a.dims) (members c) same)
some_member outer bands c a ws dims wide (inr (k, fill)) h =
    has_with (λ r. IsInSpan (box_in k r) (at ws k)) (λ r. (length r.boxes ≡ length a.dims) × ((j : ℕ) → IsOther j → IsInSpan (box_in j r) (at ws j))) (λ r. Pairwise IsInSpan r.boxes ws) (members c)
    row here (each_both (λ r. length r.boxes ≡ length a.dims) (λ r. (j : ℕ) → IsOther j → IsInSpan (box_in j r) (at ws j)) (members c) wide there)
  where
    hulls : List Span
    hulls = map added_in a.dims

    IsOther : ℕ → Type 0
    IsOther j = (j < length hulls) × (j ≢ k)

    number_in : (j : ℕ) → j < length hulls → IsInSpan (box_at hulls j) (at ws j)
    number_in j l = pairwise_at IsInSpan hulls ws j (box_at [] 0) (pos 0) h l

    here : Has (λ r. IsInSpan (box_in k r) (at ws k)) (members c)
    here = has_unmap (λ x. IsInSpan x (at ws k)) (box_in k) (members c) (has_of (λ x. IsInSpan x (at ws k)) (column (members c) k) (fill.covered (at ws k) (number_in k fill.within)))

    first_in : (j : ℕ) → IsOther j → IsInSpan (box_in j c.first) (at ws j)
    first_in j o =
        let first : 0 + j ≡ j = omega arith in
        let hull = subst (λ n. IsHullOf (column (members c) n) (box_at hulls j)) first (hull_at outer bands (members c) 0 j c.first.subs a.dims dims (omega (arith, o.0, length_map added_in a.dims))) in
        let same = each_map (λ y. y ≡ box_in j c.first) (box_in j) (members c) (each_of (λ r. box_in j r ≡ box_in j c.first) (members c) (fill.others j o.0 o.1)) in
        hull_within (column (members c) j) (box_at hulls j) (box_in j c.first) (at ws j) hull same (number_in j o.0)

    there : Each (λ r. (j : ℕ) → IsOther j → IsInSpan (box_in j r) (at ws j)) (members c)
    there = each_swap IsOther (λ j r. IsInSpan (box_in j r) (at ws j)) (members c) (λ j o.
        each_more (λ r. box_in j r ≡ box_in j c.first) (λ r. IsInSpan (box_in j r) (at ws j)) (members c)
        (λ r e. subst (λ x. IsInSpan x (at ws j)) (sym e) (first_in j o)) (each_of (λ r. box_in j r ≡ box_in j c.first) (members c) (fill.others j o.0 o.1)))

    same_or_other : (j : ℕ) → (j ≡ k) ⊎ (j ≢ k)
    same_or_other j = grind arith

    row : (r : Reference) → IsInSpan (box_in k r) (at ws k) → (length r.boxes ≡ length a.dims) × ((j : ℕ) → IsOther j → IsInSpan (box_in j r) (at ws j)) → Pairwise IsInSpan r.boxes ws
    row r mine others =
        let long : length r.boxes ≡ length hulls = others.0 ∙ sym (length_map added_in a.dims) in
        pairwise_by_index IsInSpan r.boxes ws (long ∙ pairwise_length IsInSpan hulls ws h) (λ j x y l.
        let within : j < length hulls = omega (arith, l, long) in
        let below : j < length ws = omega (arith, within, pairwise_length IsInSpan hulls ws h) in
        let inside : IsInSpan (box_in j r) (at ws j) = elim (same_or_other j) [
          | inl e ↦ subst (λ n. IsInSpan (box_in n r) (at ws n)) (sym e) mine
          | inr n ↦ others.1 j (within, n)
        ] in
        subst (λ z. IsInSpan z (slice_index_or ws j y)) (at_any r.boxes j (box_at [] 0) x l) (subst (λ z. IsInSpan (box_in j r) z) (at_any ws j (pos 0) y below) inside))

-- ---- loops

each_true : {X : Type 0} (test : X → Bool) (xs : List X) → list_all test xs ≡ true → Each (λ x. test x ≡ true) xs
each_true test [] h = tt
each_true test (x ∷ xs) h = let parts = both_true (test x) (list_all test xs) h in (parts.0, each_true test xs parts.1)

pub whole_loops : (path : List Range) → has_empty path ≡ false → All (λ r. IsTrue (has_constant_bounds r) → r.low ≤ℤ r.high → IsFullyTaken r) path → Each (λ r. has_constant_bounds r ≡ true) path → AreWhole path
whole_loops [] full settled constant = tt
whole_loops (r ∷ path) full settled constant =
    let parts = both_false (is_empty r) (has_empty path) full in
    let some : r.low ≤ℤ r.high = grind (arith, ints, parts.0) in (
      record { some = some; settled = settled 0 r (omega arith) constant.0 some },
      whole_loops path parts.1 (λ k d l. settled (suc k) d (omega (arith, l))) constant.1,
    )

lows_taken : (path : List Range) → AreWhole path → AreTaken path (map (λ r. r.low) path)
lows_taken [] h = tt
lows_taken (r ∷ path) h = (h.0.settled.taken r.low (omega (arith, ints)) h.0.some (dvd_nothing (unit_of r) r.low r.low refl), lows_taken path h.1)

are_constant : (path : List Range) → Each (λ r. has_constant_bounds r ≡ true) path → AreConstant path
are_constant [] h = tt
are_constant (r ∷ path) h = let parts = both_true (is_some r.start) r.fixed h.0 in (parts.0, parts.1, are_constant path h.1)

-- ---- values

past_end : (xs : List ℤ) (k : ℕ) → length xs ≤ k → slice_index_or xs k (pos 0) ≡ pos 0
past_end [] k l = refl
past_end (x ∷ xs) zero l = absurd (omega (arith, l))
past_end (x ∷ xs) (suc k) l = past_end xs k (omega (arith, l))

mul_nothing : (c : ℤ) → c *ℤ pos 0 ≡ pos 0
mul_nothing c = *ℤ_comm c (pos 0) ∙ mul_zero c

nothing_behind : (n : ℕ) (ts : List Term) (iters : List ℤ) → length iters ≤ n → sum_at (terms_from n ts) (point_of iters) ≡ pos 0
nothing_behind n [] iters l = refl
nothing_behind n (t ∷ ts) iters l = go (nat_lt t.level n) refl (nothing_behind n ts iters l)
  where
    go : (b : Bool) → nat_lt t.level n ≡ b → sum_at (terms_from n ts) (point_of iters) ≡ pos 0 → sum_at (if not b then t ∷ terms_from n ts else terms_from n ts) (point_of iters) ≡ pos 0
    go true is rest = rest
    go false is rest =
        let none : point_of iters t.level ≡ pos 0 = past_end iters t.level (grind (arith, nat_tests, is, l)) in
        omega (arith, ints, ap (λ z. t.coefficient *ℤ z) none, mul_nothing t.coefficient, rest)

sum_append : (cs xs ys : List ℤ) → sum_of cs (xs ++ ys) ≡ sum_of cs xs +ℤ sum_of (drop (length xs) cs) ys
sum_append [] [] ys = omega (arith, ints)
sum_append [] (x ∷ xs) ys = omega (arith, ints)
sum_append (c ∷ cs) [] ys = omega (arith, ints)
sum_append (c ∷ cs) (x ∷ xs) ys = omega (arith, ints, sum_append cs xs ys)

-- what the iterators below `top` add, in both spellings
front_sum : (top : ℕ) (g : linear.Form) (f : Form) (iters : List ℤ) → IsSameForm g f → length iters ≡ top → sum_at (terms_below top g.terms) (point_of iters) ≡ sum_of f.coefficients iters
front_sum top g f iters same long =
    let q = point_of iters in
    let parts : sum_at g.terms q ≡ sum_at (terms_below top g.terms) q +ℤ sum_at (terms_from top g.terms) q =
    ap (λ us. sum_at us q) (sym (parts_are_all top 0 g.terms same.rising)) ∙ sum_at-append (terms_below top g.terms) (terms_from top g.terms) q in
    omega (arith, ints, parts, nothing_behind top g.terms iters (omega (arith, long)), same_value g f iters same, same.constant)

-- the values of the inner parts make those of the subscripts
values_at : (outer : ℕ) (bands : List BandBound) (rs : List Reference) (k : ℕ) (fs ss : List Subscript) (os : List (Option Form)) (ds : List ArcDim) (iters is vs : List ℤ)
    → AreDimsFrom outer bands rs k fs ds → fronts (outer + length bands) fs ≡ fronts (outer + length bands) ss → Pairwise IsSubscript ss os → length iters ≡ outer + length bands
    → length ds ≡ length vs → AreValues (outer + length bands) os is (numbers ds (point_of iters) vs) → Pairwise (IsValueAt (iters ++ is)) os vs
values_at outer bands rs k [] [] [] [] iters is [] dims same subs long wide h = tt
values_at outer bands rs k [] [] [] [] iters is (v ∷ vs) dims same subs long wide h = absurd (omega (arith, wide))
values_at outer bands rs k [] ss os (d ∷ ds) iters is vs dims same subs long wide h = absurd dims
values_at outer bands rs k (f ∷ fs) ss os [] iters is vs dims same subs long wide h = absurd dims
values_at outer bands rs k [] (s ∷ ss) os ds iters is vs dims same subs long wide h = absurd (cc same)
values_at outer bands rs k (f ∷ fs) [] os ds iters is vs dims same subs long wide h = absurd (cc same)
values_at outer bands rs k [] [] (o ∷ os) ds iters is vs dims same subs long wide h = absurd subs
values_at outer bands rs k (f ∷ fs) (s ∷ ss) [] ds iters is vs dims same subs long wide h = absurd subs
values_at outer bands rs k (f ∷ fs) (s ∷ ss) (o ∷ os) (d ∷ ds) iters is [] dims same subs long wide h = absurd (omega (arith, wide))
values_at outer bands rs k (f ∷ fs) (s ∷ ss) (None ∷ os) (d ∷ ds) iters is (v ∷ vs) dims same subs long wide h = absurd h
values_at outer bands rs k (f ∷ fs) (Other ∷ ss) (Some g ∷ os) (d ∷ ds) iters is (v ∷ vs) dims same subs long wide h = absurd subs.0
values_at outer bands rs k (f ∷ fs) (Affine s ∷ ss) (Some g ∷ os) (d ∷ ds) iters is (v ∷ vs) dims same subs long wide h =
    let top : ℕ = outer + length bands in
    let parts = head_same (terms_below top (terms_of f)) (terms_below top s.terms) (fronts top fs) (fronts top ss) same in
    let moved : sum_at d.at.terms (point_of iters) ≡ sum_at (terms_below top s.terms) (point_of iters) = ap (λ ts. sum_at ts (point_of iters)) (dims.0.terms ∙ parts.0) in
    let front = front_sum top s g iters subs.0 long in
    let behind : sum_of (drop (length iters) g.coefficients) is ≡ sum_of (drop top g.coefficients) is = ap (λ n. sum_of (drop n g.coefficients) is) long in (
      omega (arith, ints, h.0, moved, front, behind, sum_append g.coefficients iters is),
      values_at outer bands rs (suc k) fs ss os ds iters is vs dims.1 parts.1 subs.1 long (omega (arith, wide)) h.1,
    )

-- ---- one reference

-- a reference that is regular, with boxes that have the numbers of the place, touches it
pub touched_by : (sizes : ℕ → List ℕ) (outer : ℕ) (bands : List BandBound) (c : Class) (a : Arc) (r : Reference) (q : text.Reference) (iters place : List ℤ)
    → IsArcOf outer bands c a → AreAlike (outer + length bands) c.first r → IsReference sizes (outer + length bands) r q → HasTurns (outer + length bands) q
    → AreSettled (outer + length bands) q → is_regular (outer + length bands) r ≡ true → length iters ≡ outer + length bands
    → Pairwise IsInSpan r.boxes (numbers a.dims (point_of iters) place) → length a.dims ≡ length place → IsTouchedBy (outer + length bands) iters place a q
touched_by sizes outer bands c a r q iters place arc alike shown full settled regular long inside wide =
    let top : ℕ = outer + length bands in
    let more = drop top q.path in
    let p1 = both_true (not r.conditional) (list_all is_affine r.subs && (list_all is_constant_loop (drop top r.path) && is_free top r.subs)) regular in
    let p2 = both_true (list_all is_affine r.subs) (list_all is_constant_loop (drop top r.path) && is_free top r.subs) p1.1 in
    let p3 = both_true (list_all is_constant_loop (drop top r.path)) (is_free top r.subs) p2.1 in
    let seen : map range_seen (drop top r.path) ≡ more = sym (drop-map range_seen top r.path) ∙ ap (drop top) shown.path in
    let constant : Each (λ x. has_constant_bounds x ≡ true) more =
    subst (Each (λ x. has_constant_bounds x ≡ true)) seen (each_map (λ x. has_constant_bounds x ≡ true) range_seen (drop top r.path) (each_true is_constant_loop (drop top r.path) p3.0)) in
    let whole = whole_loops more full settled constant in
    let free = free_forms top r.subs q.subs shown.subs p2.0 p3.1 in
    let all = reach_all top q.path more (sizes q.array) q.subs r.boxes (map (λ x. x.low) more) (numbers a.dims (point_of iters) place) refl whole (lows_taken more whole) free shown.boxes inside in
    record {
      array = sym shown.array ∙ sym alike.0 ∙ sym arc.array;
      direction = sym shown.direction ∙ ap direction_of (sym alike.1.0 ∙ sym arc.direction);
      always = sym shown.conditional ∙ not_true r.conditional p1.0;
      constant = are_constant more constant;
      inner = all.iters;
      taken = all.on;
      indices = values_at outer bands (members c) 0 c.first.subs r.subs q.subs a.dims iters all.iters place arc.dims alike.1.1 shown.subs long wide all.values;
    }

-- ---- the law

-- each reference has its partner in the text
partners : (P : Reference → text.Reference → Type 0) (T : text.Reference → Type 0) (rs : List Reference) (qs : List text.Reference) → Pairwise P rs qs → Each T qs → Each (λ r. Has (λ q. P r q × T q) qs) rs
partners P T [] [] h t = tt
partners P T [] (q ∷ qs) h t = absurd h
partners P T (r ∷ rs) [] h t = absurd h
partners P T (r ∷ rs) (q ∷ qs) h t =
    (inl (h.0, t.0), each_more (λ x. Has (λ y. P x y × T y) qs) (λ x. Has (λ y. P x y × T y) (q ∷ qs)) rs (λ x k. inr k) (partners P T rs qs h.1 t.1))

has_fact : {X : Type 0} (P : X → Type 0) (Q : Type 0) (xs : List X) → ((x : X) → P x → Q) → Has P xs → Q
has_fact P Q [] f h = absurd h
has_fact P Q (x ∷ xs) f (inl h) = f x h
has_fact P Q (x ∷ xs) f (inr h) = has_fact P Q xs f h

dims_length : (outer : ℕ) (bands : List BandBound) (rs : List Reference) (k : ℕ) (ss : List Subscript) (ds : List ArcDim) → AreDimsFrom outer bands rs k ss ds → length ss ≡ length ds
dims_length outer bands rs k [] [] h = refl
dims_length outer bands rs k [] (d ∷ ds) h = absurd h
dims_length outer bands rs k (s ∷ ss) [] h = absurd h
dims_length outer bands rs k (s ∷ ss) (d ∷ ds) h = ap suc (dims_length outer bands rs (suc k) ss ds h.1)

boxes_length : (inner : ℕ) (path : List Range) (sizes : List ℕ) (os : List (Option Form)) (xs : List Span) → AreBoxes inner path sizes os xs → length os ≡ length xs
boxes_length inner path sizes [] [] h = refl
boxes_length inner path sizes [] (x ∷ xs) h = absurd h
boxes_length inner path sizes (o ∷ os) [] h = absurd h
boxes_length inner path [] (o ∷ os) (x ∷ xs) h = ap suc (boxes_length inner path [] os xs h.1)
boxes_length inner path (n ∷ sizes) (o ∷ os) (x ∷ xs) h = ap suc (boxes_length inner path sizes os xs h.1)

fronts_length : (top : ℕ) (ss qs : List Subscript) → fronts top ss ≡ fronts top qs → length ss ≡ length qs
fronts_length top [] [] e = refl
fronts_length top [] (q ∷ qs) e = absurd (cc e)
fronts_length top (s ∷ ss) [] e = absurd (cc e)
fronts_length top (s ∷ ss) (q ∷ qs) e = ap suc (fronts_length top ss qs (head_same (terms_below top (terms_of s)) (terms_below top (terms_of q)) (fronts top ss) (fronts top qs) e).1)

-- what the text has of a reference
abbrev Partner : (ℕ → List ℕ) → ℕ → List text.Reference → Reference → Type 0
Partner sizes top qs r = Has (λ q. IsReference sizes top r q × (HasTurns top q × AreSettled top q)) qs

exact_in : (sizes : ℕ → List ℕ) (outer : ℕ) (bands : List BandBound) (qs : List text.Reference) (cs : List Class) (arcs : List Arc) (iters place : List ℤ) → Pairwise (IsArcOf outer bands) cs arcs
    → Each (λ c. Each (AreAlike (outer + length bands) c.first) (members c)) cs → Each (λ c. Each (Partner sizes (outer + length bands) qs) (members c)) cs → length iters ≡ outer + length bands
    → Each (λ a. IsTrue a.exact → IsInSet a (point_of iters) place → Has (IsTouchedBy (outer + length bands) iters place a) qs) arcs
exact_in sizes outer bands qs [] [] iters place h alike partner long = tt
exact_in sizes outer bands qs [] (a ∷ arcs) iters place h alike partner long = absurd h
exact_in sizes outer bands qs (c ∷ cs) [] iters place h alike partner long = absurd h
exact_in sizes outer bands qs (c ∷ cs) (a ∷ arcs) iters place h alike partner long =
    ((λ exact inside. touched exact inside), exact_in sizes outer bands qs cs arcs iters place h.1 alike.1 partner.1 long)
  where
    top : ℕ
    top = outer + length bands

    wide : Each (λ r. length r.boxes ≡ length a.dims) (members c)
    wide = each_more (λ r. AreAlike top c.first r × Partner sizes top qs r) (λ r. length r.boxes ≡ length a.dims) (members c)
        (λ r k. has_fact (λ q. IsReference sizes top r q × (HasTurns top q × AreSettled top q)) (length r.boxes ≡ length a.dims) qs
        (λ q m. sym (boxes_length top q.path (sizes q.array) q.subs r.boxes m.0.boxes) ∙ sym (pairwise_length IsSubscript r.subs q.subs m.0.subs)
        ∙ sym (fronts_length top c.first.subs r.subs k.0.1.1) ∙ dims_length outer bands (members c) 0 c.first.subs a.dims h.0.dims) k.1)
        (each_both (AreAlike top c.first) (Partner sizes top qs) (members c) alike.0 partner.0)

    touched : IsTrue a.exact → IsInSet a (point_of iters) place → Has (IsTouchedBy top iters place a) qs
    touched exact inside =
        let test = h.0.exact.0 exact in
        let ws = numbers a.dims (point_of iters) place in
        let row = some_member outer bands c a ws h.0.dims wide test.1 (in_hulls a.dims (point_of iters) place inside) in
        let long_place = pairwise_length (λ d v. IsInDim d (point_of iters) v) a.dims place inside in
        has_fact (λ r. Has (IsTouchedBy top iters place a) qs) (Has (IsTouchedBy top iters place a) qs) (members c) (λ r k. k)
        (has_with (λ r. Pairwise IsInSpan r.boxes ws) (λ r. (is_regular top r ≡ true) × (AreAlike top c.first r × Partner sizes top qs r)) (λ r. Has (IsTouchedBy top iters place a) qs) (members c)
        (λ r in_boxes k. has_more (λ q. IsReference sizes top r q × (HasTurns top q × AreSettled top q)) (IsTouchedBy top iters place a) qs
        (λ q m. touched_by sizes outer bands c a r q iters place h.0 k.1.0 m.0 m.1.0 m.1.1 k.0 long in_boxes long_place) k.1.1)
        row
        (each_both (λ r. is_regular top r ≡ true) (λ r. AreAlike top c.first r × Partner sizes top qs r) (members c) (each_of (λ r. is_regular top r ≡ true) (members c) test.0)
        (each_both (AreAlike top c.first) (Partner sizes top qs) (members c) alike.0 partner.0)))

pub exact_sets_are_touched : ExactSetsAreTouched
exact_sets_are_touched sizes outer bands rs qs arcs iters place shown turns settled h long =
    let top : ℕ = outer + length bands in
    let each_partner = partners (IsReference sizes top) (λ q. HasTurns top q × AreSettled top q) rs qs shown
    (each_both (HasTurns top) (AreSettled top) qs (each_of (HasTurns top) qs turns) (each_of (AreSettled top) qs settled)) in
    let found = exact_in sizes outer bands qs (classes_of top rs) arcs iters place h (each_alike top rs) (each_member (Partner sizes top qs) top rs each_partner) long in
    all_of (λ a. IsTrue a.exact → IsInSet a (point_of iters) place → Any (IsTouchedBy top iters place a) qs) arcs
    (each_more (λ a. IsTrue a.exact → IsInSet a (point_of iters) place → Has (IsTouchedBy top iters place a) qs) (λ a. IsTrue a.exact → IsInSet a (point_of iters) place → Any (IsTouchedBy top iters place a) qs) arcs
    (λ a f exact inside. any_of (IsTouchedBy top iters place a) qs (f exact inside)) found)
