-- In a running the iterator of each loop lies between the ends of the loop, which go by the iterators outside it.
use Rattle.std.proofs.Common.{◌≡◌, refl, ap, sym, ◌∙◌, subst, arith, ℕ, zero, suc, ◌+◌, ◌<◌, Bool, true, false, ◌&&◌, if◌then◌else◌, List, [], ◌∷◌, ◌++◌, length, slice_index_or, ℤ, pos, negsuc, ◌≤ℤ◌, append_assoc, append-nil}
use Rattle.std.specs.List.{Contains}
use Rattle.std.proofs.lemmas.Int.{ints}
use Rattle.std.proofs.lemmas.List.{length-append}
use Rattle.species_affine.proofs.FormLaws.{same_value}
use Rattle.species_arcs.specs.Pairwise.{Pairwise}
use Rattle.species_ast.specs.declared.tree.Loop.{Loop, out-Loop}
use Rattle.species_ast.specs.declared.tree.Stmt.TheOpen.{Loop-F}
use Rattle.species_ast.specs.Accesses.{Joins}
use Rattle.species_ast.specs.Evaluation.{Context}
use Rattle.species_ast.specs.Run.{spot, iterator_values}
use Rattle.species_ast.specs.Scope.Forms.{Form, form_value, is_constant}
use Rattle.species_ast.specs.Scope.Hulls.{Range, has_empty, fixed_range, wide_range, no_range, range_between, range_of, form_or_zero, bound_form, last_form}
use Rattle.species_ast.specs.declared.tree.Test.{Test}
use Rattle.species_ast.specs.declared.tree.Test.TheVariants as test
use Rattle.species_ast.proofs.Induction.{Each}
use Rattle.species_ast.proofs.IteratorLaws.{in_turn}
use Rattle.species_linear.specs.Point.{Point, point_of}
use Rattle.species_linear.specs.Value.{form_at}
use Rattle.species_merge.specs.Bands.{bound_at}
use Rattle.species_merge.specs.Law.{AreInBand}
use Rattle.species_merge.specs.Bounds.{Ends, range_ends, ends_by, ends_between, ends_of, IsBoundOf}
use Rattle.species_merge.specs.declared.bands.BandBound.{BandBound}
use Rattle.species_nests.specs.Arrivals.{header, Running}
use Rattle.species_nests.proofs.IteratorArrivals.{GoesInside}
use Rattle.species_occurrences.specs.Iterators.{IsInt, MayTake, AreTheirs, ranges_of}
use Rattle.species_occurrences.proofs.HeaderLaws.{HasBounds, AllTaken, header_is}
use Rattle.species_occurrences.proofs.NestLaws.{unconditional}
use Rattle.species_occurrences.proofs.RangeLaws.{IsBetween, last_of, value-last_form, turn_between, each_counted}
use Rattle.species_occurrences.proofs.RunningTaken.{IsBounded, goes_inside}
use Rattle.species_runs.specs.Every.{Anything}
use Rattle.species_runs.proofs.EveryLaws.{every_ended}
use Rattle.species_lines.proofs.LevelLaws.{IsNamed, AreNamed, named_after}
use Rattle.species_lines.proofs.ShortForms.{IsShort, short_bound, value_short}
use Rattle.species_lines.specs.Lines.{Standing, band_loops, IsInnermost}

-- ---- one loop

-- the value lies between the ends, where the iterators outside have these values
abbrev pub IsWithin : Ends → List ℤ → ℤ → Type 0
IsWithin e iters i = (form_value e.least iters ≤ℤ i) × (i ≤ℤ form_value e.greatest iters)

within_by : (step : ℤ) (first last : Form) (iters : List ℤ) (i : ℤ) → IsBetween step (form_value first iters) (form_value last iters) i → IsWithin (ends_by step first last) iters i
within_by (pos n) first last iters i h = h
within_by (negsuc n) first last iters i h = h

within_between : (path : List Range) (step : ℤ) (first last : Form) (iters : List ℤ) (i : ℤ) → MayTake (range_between path step first last) i
    → IsBetween step (form_value first iters) (form_value last iters) i → IsWithin (ends_between step first last) iters i
within_between path step first last iters i h b = go (is_constant first && is_constant last) h
  where
    r : Range
    r = fixed_range step first.constant last.constant

    go : (t : Bool) → MayTake (if t then r else (if has_empty path then no_range step first last else wide_range path step first last)) i
        → IsWithin (if t then range_ends r else ends_by step first last) iters i
    go true k = (omega (arith, ints, k.0), omega (arith, ints, k.1))
    go false k = within_by step first last iters i b

each_contains : {X : Type 0} (P : X → Type 0) (xs : List X) → Each P xs → (x : X) → Contains xs x → P x
each_contains P [] h x c = let below = c.1 in absurd (omega (arith, below))
each_contains P (y ∷ xs) h x (zero, below, is) = subst P is h.0
each_contains P (y ∷ xs) h x (suc k, below, is) = each_contains P xs h.1 x (k, omega (arith, below), is)

-- the values of the iterator, from the form of the start to the last form
each_between : {X Y : Type 0} (l : Loop-F X Y) (b : HasBounds l) (iters : List ℤ)
    → Each (IsBetween l.step (form_value (bound_form l.start) iters) (form_value (last_form l.test (bound_form l.limit)) iters)) (iterator_values l.test (form_value b.start iters) (form_value b.limit iters) l.step)
each_between l b iters =
    let start : form_value (bound_form l.start) iters ≡ form_value b.start iters = ap (λ o. form_value (form_or_zero o) iters) b.start_is in
    let limit : form_value (bound_form l.limit) iters ≡ form_value b.limit iters = ap (λ o. form_value (form_or_zero o) iters) b.limit_is in
    let last : form_value (last_form l.test (bound_form l.limit)) iters ≡ last_of l.test (form_value b.limit iters) = value-last_form l.test (bound_form l.limit) iters ∙ ap (last_of l.test) limit in
    let P : ℤ → Type 0 = IsBetween l.step (form_value (bound_form l.start) iters) (form_value (last_form l.test (bound_form l.limit)) iters) in
    each_counted P _ (form_value b.start iters) l.step (λ k below.
    let between = turn_between l.test (form_value b.start iters) (form_value b.limit iters) l.step k b.steps below in
    let turn : ℤ = in_turn (form_value b.start iters) l.step k in
    subst (λ z. IsBetween l.step z (form_value (last_form l.test (bound_form l.limit)) iters) turn) (sym start) (subst (λ z. IsBetween l.step (form_value b.start iters) z turn) (sym last) between))

-- ---- loops in loops

abbrev pub AreBetween : List ℤ → List Loop → List ℤ → Type 0
AreBetween before [] [] = Unit {0}
AreBetween before [] (i ∷ is) = ⊥
AreBetween before (l ∷ ls) [] = ⊥
AreBetween before (l ∷ ls) (i ∷ is) = IsWithin (ends_of (out-Loop l)) before i × AreBetween (before ++ i ∷ []) ls is

between_inside : (before : List ℤ) (ls : List Loop) (is : List ℤ) (l : Loop) (i : ℤ) → AreBetween before ls is → IsWithin (ends_of (out-Loop l)) (before ++ is) i
    → AreBetween before (ls ++ l ∷ []) (is ++ i ∷ [])
between_inside before [] [] l i h k = (subst (λ xs. IsWithin (ends_of (out-Loop l)) xs i) (append-nil before) k, tt)
between_inside before [] (j ∷ is) l i h k = absurd h
between_inside before (x ∷ ls) [] l i h k = absurd h
between_inside before (x ∷ ls) (j ∷ is) l i h k =
    (h.0, between_inside (before ++ j ∷ []) ls is l i h.1 (subst (λ xs. IsWithin (ends_of (out-Loop l)) xs i) (sym (append_assoc before (j ∷ []) is)) k))

-- if the loops have bounds
abbrev pub AreIteratorsBetween : List Loop → List ℤ → Type 0
AreIteratorsBetween around iters = Each IsBounded around → AreTheirs around iters × AreBetween [] around iters

each_front : {X : Type 0} (P : X → Type 0) (xs : List X) (y : X) → Each P (xs ++ y ∷ []) → Each P xs × P y
each_front P [] y h = (tt, h.0)
each_front P (x ∷ xs) y h = let rest = each_front P xs y h.1 in ((h.0, rest.0), rest.1)

pub goes_between : (join : Joins) (w : Context) → GoesInside join w AreIteratorsBetween
goes_between join w l around at f m begun is i q ended c bounded =
    let parts = each_front IsBounded around l bounded in
    let now = q parts.0 in
    let path = ranges_of [] around in
    let b : HasBounds (out-Loop l) = parts.1 in
    let values = iterator_values (out-Loop l).test (form_value b.start f.iters) (form_value b.limit f.iters) (out-Loop l).step in
    let all = every_ended join Anything (λ (js : List ℤ). (js ≡ values) × AllTaken (range_of path (out-Loop l)) js) (header w l at f) m is begun
    (header_is w (out-Loop l) b (spot (out-Loop l).place at) (unconditional at path) f.iters f refl (refl, now.0.0, now.0.1) Anything) ended
    in
    let taken = each_contains (λ j. MayTake (range_of path (out-Loop l)) j × IsInt j) is all.1 i c in
    let between = each_contains (IsBetween (out-Loop l).step (form_value (bound_form (out-Loop l).start) f.iters) (form_value (last_form (out-Loop l).test (bound_form (out-Loop l).limit)) f.iters)) values
    (each_between (out-Loop l) b f.iters) i (subst (λ js. Contains js i) all.0 c) in (
      goes_inside join w l around at f m begun is i (λ some. (q some).0) ended c bounded,
      between_inside [] around f.iters l i now.1
          (within_between path (out-Loop l).step (bound_form (out-Loop l).start) (last_form (out-Loop l).test (bound_form (out-Loop l).limit)) f.iters i taken.0 between),
    )

-- ---- the loops of a band

-- the iterators of the loops outside, and those behind
pub between_behind : (before : List ℤ) (ls ks : List Loop) (is : List ℤ) → AreBetween before (ls ++ ks) is
    → (front back : List ℤ) × (is ≡ front ++ back) × (length front ≡ length ls) × AreBetween (before ++ front) ks back
between_behind before [] ks is h = ([], is, refl, refl, subst (λ xs. AreBetween xs ks is) (sym (append-nil before)) h)
between_behind before (l ∷ ls) ks [] h = absurd h
between_behind before (l ∷ ls) ks (i ∷ is) h =
    let rest = between_behind (before ++ i ∷ []) ls ks is h.1 in
    (i ∷ rest.0, rest.1, ap (λ xs. i ∷ xs) rest.2, ap suc rest.3, subst (λ xs. AreBetween xs ks rest.1) (append_assoc before (i ∷ []) rest.0) rest.4)

-- the ends name what the bounds of the loop do
abbrev AreShort : ℕ → Ends → Type 0
AreShort n e = IsShort n e.least × IsShort n e.greatest

short_ends_by : (n : ℕ) (step : ℤ) (first last : Form) → IsShort n first → IsShort n last → AreShort n (ends_by step first last)
short_ends_by n (pos k) first last h l = (h, l)
short_ends_by n (negsuc k) first last h l = (l, h)

short_ends : (n : ℕ) (step : ℤ) (first last : Form) → IsShort n first → IsShort n last → AreShort n (ends_between step first last)
short_ends n step first last h l = go (is_constant first && is_constant last)
  where
    go : (t : Bool) → AreShort n (if t then range_ends (fixed_range step first.constant last.constant) else ends_by step first last)
    go true = (omega arith, omega arith)
    go false = short_ends_by n step first last h l

short_last : (n : ℕ) (t : Test) (f : Form) → IsShort n f → IsShort n (last_form t f)
short_last n test.Lt f h = h
short_last n test.Le f h = h
short_last n test.Gt f h = h
short_last n test.Ge f h = h

loop_short : (n : ℕ) (l : Loop) → IsNamed n l → AreShort n (ends_of (out-Loop l))
loop_short n l h =
    short_ends n (out-Loop l).step (bound_form (out-Loop l).start) (last_form (out-Loop l).test (bound_form (out-Loop l).limit)) (short_bound n (out-Loop l).start h.start)
    (short_last n (out-Loop l).test (bound_form (out-Loop l).limit) (short_bound n (out-Loop l).limit h.limit))

index_middle : (before : List ℤ) (i : ℤ) (more : List ℤ) → slice_index_or (before ++ i ∷ more) (length before) (pos 0) ≡ i
index_middle [] i more = refl
index_middle (b ∷ before) i more = index_middle before i more

abbrev IsInBand : Point → BandBound → ℕ → Type 0
IsInBand p b level = (form_at b.least p ≤ℤ p level) × (p level ≤ℤ form_at b.greatest p)

abbrev AreBounds : List Loop → List BandBound → Type 0
AreBounds ls bands = Pairwise (λ (l : Loop) (b : BandBound). IsBoundOf (out-Loop l) b) ls bands

in_band : (before : List ℤ) (ls : List Loop) (bands : List BandBound) (back : List ℤ) → AreBetween before ls back → AreNamed (length before) ls → AreBounds ls bands
    → (k : ℕ) → k < length bands → IsInBand (point_of (before ++ back)) (bound_at bands k) (length before + k)
in_band before [] [] back h named bounds k below = absurd (omega (arith, below))
in_band before [] (b ∷ bands) back h named bounds k below = absurd bounds
in_band before (l ∷ ls) [] back h named bounds k below = absurd bounds
in_band before (l ∷ ls) (b ∷ bands) [] h named bounds k below = absurd h
in_band before (l ∷ ls) (b ∷ bands) (i ∷ back) h named bounds zero below =
    let whole : List ℤ = before ++ i ∷ back in
    let ends = ends_of (out-Loop l) in
    let short = loop_short (length before) l named.0 in
    let least : form_at b.least (point_of whole) ≡ form_value ends.least before = same_value b.least ends.least whole bounds.0.least ∙ value_short ends.least before (i ∷ back) short.0 in
    let greatest : form_at b.greatest (point_of whole) ≡ form_value ends.greatest before = same_value b.greatest ends.greatest whole bounds.0.greatest ∙ value_short ends.greatest before (i ∷ back) short.1 in
    let level : length before ≡ length before + 0 = omega arith in
    let own : point_of whole (length before) ≡ i = index_middle before i back in
    subst (IsInBand (point_of whole) b) level (omega (arith, ints, least, own, h.0.0), omega (arith, ints, greatest, own, h.0.1))
in_band before (l ∷ ls) (b ∷ bands) (i ∷ back) h named bounds (suc k) below =
    let one : suc (length before) ≡ length (before ++ i ∷ []) = omega (arith, length-append before (i ∷ [])) in
    let level : length (before ++ i ∷ []) + k ≡ length before + suc k = omega (arith, length-append before (i ∷ [])) in
    let rest = in_band (before ++ i ∷ []) ls bands back h.1 (subst (λ j. AreNamed j ls) one named.1) bounds.1 k (omega (arith, below)) in
    subst (IsInBand (point_of (before ++ i ∷ back)) (bound_at bands k)) level
    (subst (λ xs. IsInBand (point_of xs) (bound_at bands k) (length (before ++ i ∷ []) + k)) (append_assoc before (i ∷ []) back) rest)

-- the law of bands
pub band_holds : (s : Standing) (r : Running) (bands : List BandBound) (iters : List ℤ) → IsInnermost s r → AreBetween [] (r.around ++ r.loop ∷ []) iters → AreNamed 0 (r.around ++ r.loop ∷ [])
    → Pairwise (λ (l : Loop) (b : BandBound). IsBoundOf (out-Loop l) b) (band_loops s) bands → AreInBand (length s.around) bands (point_of iters)
band_holds s r bands iters inner between named bounds k below =
    let parts = between_behind [] s.around (band_loops s) iters (subst (λ ls. AreBetween [] ls iters) inner.loops between) in
    let front = parts.0 in
    let back = parts.1 in
    let far : 0 + length s.around ≡ length front = omega (arith, parts.3) in
    let names = subst (λ n. AreNamed n (band_loops s)) far (named_after 0 s.around (band_loops s) (subst (AreNamed 0) inner.loops named)) in
    subst (λ n. IsInBand (point_of iters) (bound_at bands k) (n + k)) parts.3
    (subst (λ xs. IsInBand (point_of xs) (bound_at bands k) (length front + k)) (sym parts.2) (in_band front (band_loops s) bands back parts.4 names bounds k below))
