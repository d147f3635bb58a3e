-- The arcs of references of a nest hold in each turn of the innermost loop of its band.
use Rattle.std.proofs.Common.{◌≡◌, refl, ap, sym, ◌∙◌, subst, arith, inl, inr, ℕ, zero, suc, ◌+◌, List, [], ◌∷◌, ◌++◌, map, length, drop, slice_index_or, ℤ, pos, Option, Some, None, All}
use Rattle.std.specs.Prelude.{IsTrue}
use Rattle.std.specs.List.{Any}
use Rattle.std.proofs.lemmas.List.{length-append, length-map}
use Rattle.species_arcs.specs.Pairwise.{Pairwise}
use Rattle.species_arcs.proofs.PairwiseLaws.{pairwise_length}
use Rattle.species_arcs.specs.Sets.{IsInSet, IsInDomain}
use Rattle.species_arcs.specs.declared.places.Arc.{Arc}
use Rattle.species_ast.specs.declared.tree.Loop.{Loop, out-Loop}
use Rattle.species_ast.specs.Accesses.{Cells, Tree, Element, Access, Outcome, Ended, Stopped, IsDefined, run, accesses}
use Rattle.species_ast.specs.Evaluation.{Frame, sizes_of}
use Rattle.species_ast.specs.Run.{source_context}
use Rattle.species_ast.specs.Scope.Forms.{Form}
use Rattle.species_ast.specs.Scope.Hulls.{Range, range_of}
use Rattle.species_ast.specs.Scope.References.{Reference, references_of}
use Rattle.species_ast.proofs.Induction.{Each}
use Rattle.species_linear.specs.Point.{point_of}
use Rattle.species_merge.specs.Bounds.{IsBoundOf}
use Rattle.species_merge.specs.declared.bands.BandBound.{BandBound}
use Rattle.species_merge.specs.Law.{AreInBoxes, IsHeld, IsValueAt, IsTouchedBy, AreSettled}
use Rattle.species_merge.proofs.Folding.{Has, all_of, each_of, any_of}
use Rattle.species_merge.proofs.ClassLemmas.{has_with, each_more}
use Rattle.species_merge.proofs.SetLaws.{has_of, sets_hold_boxes, sets_lie_in_domains}
use Rattle.species_merge.proofs.ExactLaws.{exact_sets_are_touched}
use Rattle.species_merge.proofs.SettledLaws.{Inside, body_inside_loops, references_are_settled}
use Rattle.species_nests.specs.Arrivals.{turn_of}
use Rattle.species_occurrences.specs.Affine.{AreIndicesOf}
use Rattle.species_occurrences.specs.Iterators.{AreTaken, AreTheirs, ranges_of}
use Rattle.species_occurrences.specs.Made.{IsMadeBy, IsMadeAmong, Begins, IsMade}
use Rattle.species_occurrences.specs.Surely.{IsDoneAt, IsOneOf, AreConstant}
use Rattle.species_occurrences.proofs.HeaderLaws.{HasIters}
use Rattle.species_occurrences.proofs.IterationLaws.{nest_body_made, nest_fulfilled}
use Rattle.species_occurrences.proofs.NestLaws.{unconditional}
use Rattle.species_occurrences.proofs.NestReferences as refs
use Rattle.species_occurrences.proofs.SurelyLaws.{surely_has}
use Rattle.species_references.specs.Boxes.{AreBoxes}
use Rattle.species_references.specs.Law.{HasTurns}
use Rattle.species_references.specs.References.{direction_of, IsReference}
use Rattle.species_references.specs.declared.nest.Reference.{Reference as Held}
use Rattle.species_references.proofs.TurnLaws.{references_have_turns}
use Rattle.species_runs.proofs.EveryLaws.{every_access}
use Rattle.species_lines.specs.Lines.{place_of, IsIn, IsTouch, standing_nest, band_loops, nest_references, LinesHold}
use Rattle.species_lines.proofs.BetweenLaws.{AreBetween, band_holds}
use Rattle.species_lines.proofs.IndexLaws.{indices_in_boxes}
use Rattle.species_lines.proofs.LevelLaws.{running_named}
use Rattle.species_lines.proofs.StandingLaws.{ranges_append, own_references}
use Rattle.species_lines.proofs.TurnIterators.{turn_iterators}

-- ---- lists

each_among : (P : Reference → Type 0) (own : List Reference) → Each P own → (q : Reference) → IsOneOf q own → P q
each_among P [] h q one = absurd one
each_among P (o ∷ own) h q (inl e) = subst P (sym e) h.0
each_among P (o ∷ own) h q (inr one) = each_among P own h.1 q one

all_among : (P : Reference → Type 0) (own qs : List Reference) → Each P own → Each (λ q. IsOneOf q own) qs → Each P qs
all_among P own [] h among = tt
all_among P own (q ∷ qs) h among = (each_among P own h q among.0, all_among P own qs h among.1)

ranges_length : (path : List Range) (ls : List Loop) → length (ranges_of path ls) ≡ length path + length ls
ranges_length path [] = omega arith
ranges_length path (l ∷ ls) =
    let rest = ranges_length (path ++ range_of path (out-Loop l) ∷ []) ls in
    omega (arith, rest, length-append path (range_of path (out-Loop l) ∷ []))

taken_length : (path : List Range) (iters : List ℤ) → AreTaken path iters → length path ≡ length iters
taken_length [] [] h = refl
taken_length [] (i ∷ iters) h = absurd h
taken_length (r ∷ path) [] h = absurd h
taken_length (r ∷ path) (i ∷ iters) h = ap suc (taken_length path iters h.1)

drop_front : (n : ℕ) (path more : List Range) → length path ≡ n → drop n (path ++ more) ≡ more
drop_front zero [] more e = refl
drop_front zero (r ∷ path) more e = absurd (omega (arith, e))
drop_front (suc n) [] more e = absurd (omega (arith, e))
drop_front (suc n) (r ∷ path) more e = drop_front n path more (omega (arith, e))

inner_loops : (n : ℕ) (path inner : List Range) (q : Reference) → q.path ≡ path ++ inner → length path ≡ n → drop n q.path ≡ inner
inner_loops n path inner q e long = subst (λ p. drop n p ≡ inner) (sym e) (drop_front n path inner long)

-- ---- the arc of an access

-- in the boxes of the reference, which stands in loops inside those of the band
in_boxes : (sizes : ℕ → List ℕ) (path : List Range) (iters : List ℤ) (h : Held) (q : Reference) (a : Access) → length iters ≡ length path → IsReference sizes (length path) h q → Inside path q
    → IsMadeBy sizes q a → Begins iters a.site.iters → AreInBoxes (length path) (point_of iters) h.subs h.boxes (place_of a)
in_boxes sizes path iters h q a long shown loops by begins =
    let more = begins.0 in
    indices_in_boxes path loops.0 (sizes q.array) h.subs q.subs h.boxes a.site.indices iters more long shown.subs
    (subst (λ p. AreBoxes (length path) p (sizes q.array) q.subs h.boxes) loops.1 shown.boxes)
    (subst (λ p. AreTaken p (iters ++ more)) loops.1 (subst (AreTaken q.path) begins.1 by.iterators))
    (subst (λ xs. AreIndicesOf q.subs xs a.site.indices) begins.1 by.forms) by.indices

in_arc : (sizes : ℕ → List ℕ) (top : ℕ) (iters : List ℤ) (h : Held) (q : Reference) (a : Access) (arcs : List Arc) → IsReference sizes top h q → IsMadeBy sizes q a
    → Each (λ c. IsInSet c (point_of iters) (place_of a) → IsInDomain c (point_of iters) (place_of a)) arcs → Any (IsHeld (point_of iters) (place_of a) h) arcs → Any (IsIn iters a) arcs
in_arc sizes top iters h q a arcs shown by domains held =
    let p = point_of iters in
    let place = place_of a in
    any_of (IsIn iters a) arcs
    (has_with (IsHeld p place h) (λ c. IsInSet c p place → IsInDomain c p place) (IsIn iters a) arcs
    (λ c k inside. record {
      array = k.array ∙ shown.array ∙ ap (λ (e : Element). e.array) (sym by.element);
      direction = ap direction_of k.direction ∙ shown.direction ∙ sym by.direction;
      set = k.held;
      domain = inside k.held;
    })
    (has_of (IsHeld p place h) arcs held) domains)

find_arc : (sizes : ℕ → List ℕ) (path : List Range) (iters : List ℤ) (hs : List Held) (qs : List Reference) (a : Access) (arcs : List Arc) → length iters ≡ length path
    → Pairwise (IsReference sizes (length path)) hs qs → Each (Inside path) qs → Begins iters a.site.iters
    → Each (λ h. AreInBoxes (length path) (point_of iters) h.subs h.boxes (place_of a) → Any (IsHeld (point_of iters) (place_of a) h) arcs) hs
    → Each (λ c. IsInSet c (point_of iters) (place_of a) → IsInDomain c (point_of iters) (place_of a)) arcs → IsMadeAmong sizes qs a → Any (IsIn iters a) arcs
find_arc sizes path iters [] [] a arcs long shown loops begins held domains among = absurd among
find_arc sizes path iters [] (q ∷ qs) a arcs long shown loops begins held domains among = absurd shown
find_arc sizes path iters (h ∷ hs) [] a arcs long shown loops begins held domains among = absurd shown
find_arc sizes path iters (h ∷ hs) (q ∷ qs) a arcs long shown loops begins held domains (inl by) =
    in_arc sizes (length path) iters h q a arcs shown.0 by domains (held.0 (in_boxes sizes path iters h q a long shown.0 loops.0 by begins))
find_arc sizes path iters (h ∷ hs) (q ∷ qs) a arcs long shown loops begins held domains (inr among) = find_arc sizes path iters hs qs a arcs long shown.1 loops.1 begins held.1 domains among

-- ---- what an exact arc owes

same_place : (os : List (Option Form)) (is : List ℕ) (iters place : List ℤ) → AreIndicesOf os iters is → Pairwise (IsValueAt iters) os place → map pos is ≡ place
same_place [] [] iters [] h k = refl
same_place [] [] iters (v ∷ place) h k = absurd k
same_place [] (i ∷ is) iters place h k = absurd h
same_place (o ∷ os) [] iters place h k = absurd h
same_place (o ∷ os) (i ∷ is) iters [] h k = absurd k
same_place (None ∷ os) (i ∷ is) iters (v ∷ place) h k = absurd k.0
same_place (Some f ∷ os) (i ∷ is) iters (v ∷ place) h k =
    let one : pos i ≡ v = h.0 ∙ sym k.0 in
    (λ j. one j ∷ same_place os is iters place h.1 k.1 j)

made_among : (sizes : ℕ → List ℕ) (qs : List Reference) (q : Reference) (a : Access) → IsOneOf q qs → IsMadeBy sizes q a → IsMadeAmong sizes qs a
made_among sizes [] q a one by = absurd one
made_among sizes (x ∷ qs) q a (inl e) by = inl (subst (λ z. IsMadeBy sizes z a) e by)
made_among sizes (x ∷ qs) q a (inr one) by = inr (made_among sizes qs q a one by)

touched : (sizes : ℕ → List ℕ) (qs : List Reference) (q : Reference) (c : Arc) (iters inner place : List ℤ) (a : Access) → IsOneOf q qs → q.array ≡ c.array → q.direction ≡ direction_of c.dir
    → Pairwise (IsValueAt (iters ++ inner)) q.subs place → IsDoneAt sizes (iters ++ inner) q a → IsTouch sizes qs c place a
touched sizes qs q c iters inner place a one array direction values h = record {
  made = made_among sizes qs q a one h.0;
  array = ap (λ (e : Element). e.array) h.0.element ∙ array;
  direction = h.0.direction ∙ direction;
  stands = same_place q.subs a.site.indices (iters ++ inner) place (subst (λ xs. AreIndicesOf q.subs xs a.site.indices) h.1 h.0.forms) values;
}

-- the reference that touches a place
find_touch : (P : Reference → Type 0) (own qs : List Reference) → Each (λ q. IsOneOf q own) qs → Has P qs → (q : Reference) × IsOneOf q qs × IsOneOf q own × P q
find_touch P own [] among h = absurd h
find_touch P own (q ∷ qs) among (inl h) = (q, inl refl, among.0, h)
find_touch P own (q ∷ qs) among (inr h) = let rest = find_touch P own qs among.1 h in (rest.0, inr rest.1, rest.2, rest.3)

-- what ended
ended_so : {X : Type 0} (o : Outcome X) → IsDefined o → (x : X) × (n : Cells) × (o ≡ Ended x n)
ended_so (Ended x n) h = (x, n, refl)
ended_so (Stopped why place) h = absurd h

-- ---- the law

pub lines_hold : LinesHold
lines_hold join u m r adds s qs arcs t well comes inner regular nest turns = record {
  made = all_of (IsMadeAmong sizes own) done (each_more (IsMade sizes iters own) (IsMadeAmong sizes own) done (λ a h. h.0) made);
  inside = all_of (λ a. IsMadeAmong sizes qs a → Any (IsIn iters a) arcs) done (each_more (IsMade sizes iters own) (λ a. IsMadeAmong sizes qs a → Any (IsIn iters a) arcs) done inside_one made);
  filled = λ ended. all_of (λ c. IsTrue c.exact → (place : List ℤ) → IsInSet c (point_of iters) place → Any (IsTouch sizes qs c place) done) arcs (fill ended);
}
  where
    sizes : ℕ → List ℕ
    sizes = sizes_of (source_context u)

    iters : List ℤ
    iters = t.frame.iters

    does : Tree Frame
    does = turn_of (source_context u) r.loop r.at t.frame

    done : List Access
    done = accesses join does t.arrays

    own : List Reference
    own = nest_references adds s

    around : List Range
    around = ranges_of [] r.around

    path : List Range
    path = ranges_of around (r.loop ∷ [])

    their : AreTheirs (r.around ++ r.loop ∷ []) iters × AreBetween [] (r.around ++ r.loop ∷ []) iters
    their = turn_iterators join u m r t well comes turns

    taken : AreTaken path iters
    taken = subst (λ p. AreTaken p iters) (ranges_append [] r.around (r.loop ∷ [])) their.0.0

    -- the references of the nest are those of the running's own nest
    same : own ≡ references_of adds r.loop r.at around 1
    same = own_references adds s r inner

    made : Each (IsMade sizes iters own) done
    made =
        subst (λ rs. Each (IsMade sizes iters rs) done) (sym same)
        (every_access join (IsMade sizes iters (references_of adds r.loop r.at around 1)) (HasIters iters) does t.arrays (nest_body_made (source_context u) adds 0 r.loop r.at around iters t.frame regular taken their.0.1 refl))

    among : Each (λ q. IsOneOf q own) qs
    among = each_of (λ q. IsOneOf q own) qs nest.among

    -- ---- lengths

    bands_long : length (standing_nest s).loops ≡ length nest.bands
    bands_long = sym (length-map (standing_nest s).loops (λ p. p.loop)) ∙ pairwise_length (λ (l : Loop) (b : BandBound). IsBoundOf (out-Loop l) b) (band_loops s) nest.bands nest.bounds

    all_loops : length s.around + length nest.bands ≡ length r.around + 1
    all_loops =
        let one : length (r.around ++ r.loop ∷ []) ≡ length (s.around ++ band_loops s) = ap length inner.loops in
        omega (arith, one, length-append r.around (r.loop ∷ []), length-append s.around (band_loops s), pairwise_length (λ (l : Loop) (b : BandBound). IsBoundOf (out-Loop l) b) (band_loops s) nest.bands nest.bounds)

    top : length s.around + length nest.bands ≡ length path
    top = omega (arith, all_loops, ranges_length around (r.loop ∷ []), ranges_length [] r.around)

    depth : length (ranges_of [] s.around) + length (standing_nest s).loops ≡ length s.around + length nest.bands
    depth = omega (arith, ranges_length [] s.around, bands_long)

    long : length iters ≡ length path
    long = sym (taken_length path iters taken)

    -- ---- inside

    loops : Each (Inside path) qs
    loops =
        all_among (Inside path) own qs
        (subst (Each (Inside path)) (sym (same ∙ refs.nest_references adds 0 r.loop r.at around)) (body_inside_loops adds (out-Loop r.loop).body (unconditional r.at path) 0 0)) among

    shown : Pairwise (IsReference sizes (length path)) nest.refs qs
    shown = subst (λ n. Pairwise (IsReference sizes n) nest.refs qs) top nest.shown

    inside_one : (a : Access) → IsMade sizes iters own a → IsMadeAmong sizes qs a → Any (IsIn iters a) arcs
    inside_one a h by =
        let p = point_of iters in
        let place = place_of a in
        find_arc sizes path iters nest.refs qs a arcs long shown loops h.1
        (subst (λ n. Each (λ (k : Held). AreInBoxes n p k.subs k.boxes place → Any (IsHeld p place k) arcs) nest.refs) top
        (each_of (λ (k : Held). AreInBoxes (length s.around + length nest.bands) p k.subs k.boxes place → Any (IsHeld p place k) arcs) nest.refs
        (sets_hold_boxes (length s.around) nest.bands nest.refs arcs p place nest.merged)))
        (each_of (λ c. IsInSet c p place → IsInDomain c p place) arcs
        (sets_lie_in_domains (length s.around) nest.bands nest.refs arcs p place nest.merged
        (band_holds s r nest.bands iters inner their.1 (running_named join u m r well comes) nest.bounds)))
        by

    -- ---- filled

    full_turns : All (HasTurns (length s.around + length nest.bands)) qs
    full_turns =
        subst (λ n. All (HasTurns n) qs) depth
        (all_of (HasTurns (length (ranges_of [] s.around) + length (standing_nest s).loops)) qs
        (all_among (HasTurns (length (ranges_of [] s.around) + length (standing_nest s).loops)) own qs
        (each_of (HasTurns (length (ranges_of [] s.around) + length (standing_nest s).loops)) own (references_have_turns adds s.head s.at (ranges_of [] s.around) (length (standing_nest s).loops))) among))

    settled : All (AreSettled (length s.around + length nest.bands)) qs
    settled =
        subst (λ n. All (AreSettled n) qs) depth
        (all_of (AreSettled (length (ranges_of [] s.around) + length (standing_nest s).loops)) qs
        (all_among (AreSettled (length (ranges_of [] s.around) + length (standing_nest s).loops)) own qs
        (each_of (AreSettled (length (ranges_of [] s.around) + length (standing_nest s).loops)) own (references_are_settled adds s.head s.at (ranges_of [] s.around) (length (standing_nest s).loops))) among))

    -- a touch of a place is an access, if the turn ended
    touch : IsDefined (run join does t.arrays) → (c : Arc) (place : List ℤ) → Any (IsTouchedBy (length s.around + length nest.bands) iters place c) qs → Any (IsTouch sizes qs c place) done
    touch ended c place some =
        let found = find_touch (IsTouchedBy (length s.around + length nest.bands) iters place c) own qs among (has_of (IsTouchedBy (length s.around + length nest.bands) iters place c) qs some) in
        let q = found.0 in
        let by = found.3 in
        let owed = nest_fulfilled (source_context u) adds 0 r.loop r.at around regular q (subst (IsOneOf q) same found.2) by.always in
        let rest = inner_loops (length s.around + length nest.bands) path owed.0 q owed.1 (sym top) in
        let sure = owed.2 iters by.inner taken their.0.1 (subst AreConstant rest by.constant) (subst (λ p. AreTaken p by.inner) rest by.taken) t.frame refl in
        let end = ended_so (run join does t.arrays) ended in
        let has = surely_has join (IsDoneAt sizes (iters ++ by.inner) q) does t.arrays end.0 end.1 sure end.2 in (
          has.1.0,
          has.0,
          has.1.1,
          has.1.2,
          touched sizes qs q c iters by.inner place has.0 found.1 by.array by.direction by.indices has.2,
        )

    fill : IsDefined (run join does t.arrays) → Each (λ c. IsTrue c.exact → (place : List ℤ) → IsInSet c (point_of iters) place → Any (IsTouch sizes qs c place) done) arcs
    fill ended = each_of (λ c. IsTrue c.exact → (place : List ℤ) → IsInSet c (point_of iters) place → Any (IsTouch sizes qs c place) done) arcs (λ k d l exact place set.
        touch ended (slice_index_or arcs k d) place
        (exact_sets_are_touched sizes (length s.around) nest.bands nest.refs qs arcs iters place nest.shown full_turns settled nest.merged (long ∙ sym top) k d l exact set))
