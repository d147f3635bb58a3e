-- What the line of a planned nest says holds in each turn of its band, in each run.
use Rattle.std.proofs.Common.{◌≡◌, ap, sym, ◌∙◌, subst, arith, ℕ, Bool, true, false, ◌&&◌, not, if◌then◌else◌, List, [], ◌∷◌, ◌++◌, map, length, slice_index_or, ℤ, Some, All, ◌⊎◌, inl, inr}
use Rattle.std.specs.Prelude.{IsTrue, is_some}
use Rattle.std.specs.List.{Any}
use Rattle.std.proofs.lemmas.Bool.{and_parts, and_from}
use Rattle.species_arcs.specs.Pairwise.{Pairwise}
use Rattle.species_arcs.specs.Sets.{IsInSet, IsInDomain}
use Rattle.species_arcs.specs.declared.places.Arc.{Arc}
use Rattle.species_arcs.specs.declared.places.ArcDim.{ArcDim}
use Rattle.species_ast.specs.Accesses.{Joins, Access}
use Rattle.species_ast.specs.Evaluation.{sizes_of}
use Rattle.species_ast.specs.Marks.{all_true}
use Rattle.species_ast.specs.Run.{source_context}
use Rattle.species_ast.specs.Scope.Forms.{form_of}
use Rattle.species_ast.specs.Scope.Limits.{goes}
use Rattle.species_ast.specs.Scope.References.{Adding, Reference}
use Rattle.species_ast.specs.declared.tree.Loop.{Loop, out-Loop}
use Rattle.species_ast.specs.declared.tree.Stmt.TheVariants as stmt
use Rattle.species_ast.specs.declared.tree.Unit.{Unit as Program}
use Rattle.species_ast.proofs.Folds.{fold_stmt-For, fold_loop-out}
use Rattle.species_cover.specs.Places.{IsInGivenDim}
use Rattle.species_linear.specs.Point.{Point, point_of}
use Rattle.species_lines.specs.Lines.{place_of, IsIn, IsTouch, Standing, nest_references, IsInnermost, HoldIn, LinesHold, NamesOutside, AgreeOutside, DomainsAreOutside, AdditionsAreMarked}
use Rattle.species_lines.proofs.StandingLaws.{innermost_body}
use Rattle.species_merge.specs.Arcs.{AreArcsOf}
use Rattle.species_merge.proofs.ClassLemmas.{has_with, has_map, each_more, each_filter}
use Rattle.species_merge.proofs.Folding.{Each, Has, all_of, each_of, any_of, has_of, each_join}
use Rattle.species_nests.specs.Arrivals.{Running}
use Rattle.species_notation.specs.Law.{dim_as_given}
use Rattle.species_notation.specs.Written.{is_read, is_on, reads_of, others_of}
use Rattle.species_occurrences.specs.Iterators.{ranges_of}
use Rattle.species_occurrences.specs.Regular.{as_marked, regular_at, regular_loop, is_regular}
use Rattle.species_occurrences.specs.Turns.{Turn}
use Rattle.species_occurrences.proofs.NestReferences.{nest_regular}
use Rattle.species_references.specs.References.{adds_of}
use Rattle.species_plan_truth.specs.Said.{SaidArc, arc_as_said, said_for}
use Rattle.species_plan_truth.specs.Truth.{IsBetween, IsInSaid, IsAt, SayTrue, IsTurnOf, accessed, Ends}
use Rattle.species_plan_truth.proofs.LineBands.{ranges_length, BandArcs, IsElsewhere, band_arcs}

-- ---- lists

-- what one of the arcs has, one of those has that are said
has_left : {X : Type 0} (P : X → Type 0) (xs ys : List X) → Has P xs → Has P (xs ++ ys)
has_left P [] ys h = absurd h
has_left P (x ∷ xs) ys (inl h) = inl h
has_left P (x ∷ xs) ys (inr h) = inr (has_left P xs ys h)

has_right : {X : Type 0} (P : X → Type 0) (xs ys : List X) → Has P ys → Has P (xs ++ ys)
has_right P [] ys h = h
has_right P (x ∷ xs) ys h = inr (has_right P xs ys h)

on_sides : (P : Arc → Type 0) (arcs : List Arc) → Has P arcs → Has P (reads_of arcs) ⊎ Has P (others_of arcs)
on_sides P [] h = absurd h
on_sides P (a ∷ arcs) (inl h) = go (is_read a.dir)
  where
    go : (b : Bool) → Has P (if b then a ∷ reads_of arcs else reads_of arcs) ⊎ Has P (if not b then a ∷ others_of arcs else others_of arcs)
    go true = inl (inl h)
    go false = inr (inl h)
on_sides P (a ∷ arcs) (inr h) = go (is_read a.dir) (on_sides P arcs h)
  where
    go : (b : Bool) → Has P (reads_of arcs) ⊎ Has P (others_of arcs)
        → Has P (if b then a ∷ reads_of arcs else reads_of arcs) ⊎ Has P (if not b then a ∷ others_of arcs else others_of arcs)
    go true (inl k) = inl (inr k)
    go true (inr k) = inr k
    go false (inl k) = inl k
    go false (inr k) = inr (inr k)

has_said : (P : SaidArc → Type 0) (arcs : List Arc) → Has (λ a. P (arc_as_said a)) arcs → Has P (said_for arcs)
has_said P arcs h = go (on_sides (λ a. P (arc_as_said a)) arcs h)
  where
    go : Has (λ a. P (arc_as_said a)) (reads_of arcs) ⊎ Has (λ a. P (arc_as_said a)) (others_of arcs) → Has P (said_for arcs)
    go (inl k) = has_left P (map arc_as_said (reads_of arcs)) (map arc_as_said (others_of arcs)) (has_map P arc_as_said (reads_of arcs) k)
    go (inr k) = has_right P (map arc_as_said (reads_of arcs)) (map arc_as_said (others_of arcs)) (has_map P arc_as_said (others_of arcs) k)

each_mapped : (P : SaidArc → Type 0) (arcs : List Arc) → Each (λ a. P (arc_as_said a)) arcs → Each P (map arc_as_said arcs)
each_mapped P [] h = tt
each_mapped P (a ∷ arcs) h = (h.0, each_mapped P arcs h.1)

pub each_said : (P : SaidArc → Type 0) (arcs : List Arc) → Each (λ a. P (arc_as_said a)) arcs → Each P (said_for arcs)
each_said P arcs h =
    each_join P (map arc_as_said (reads_of arcs)) (map arc_as_said (others_of arcs))
    (each_mapped P (reads_of arcs) (each_filter (λ a. P (arc_as_said a)) (is_on true) arcs h)) (each_mapped P (others_of arcs) (each_filter (λ a. P (arc_as_said a)) (is_on false) arcs h))

mapped : {X Y Z : Type 0} (f : X → Y) (R : Y → Z → Type 0) (xs : List X) (zs : List Z) → Pairwise (λ x z. R (f x) z) xs zs → Pairwise R (map f xs) zs
mapped f R [] [] h = tt
mapped f R [] (z ∷ zs) h = absurd h
mapped f R (x ∷ xs) [] h = absurd h
mapped f R (x ∷ xs) (z ∷ zs) h = (h.0, mapped f R xs zs h.1)

unmapped : {X Y Z : Type 0} (f : X → Y) (R : Y → Z → Type 0) (xs : List X) (zs : List Z) → Pairwise R (map f xs) zs → Pairwise (λ x z. R (f x) z) xs zs
unmapped f R [] [] h = tt
unmapped f R [] (z ∷ zs) h = absurd h
unmapped f R (x ∷ xs) [] h = absurd h
unmapped f R (x ∷ xs) (z ∷ zs) h = (h.0, unmapped f R xs zs h.1)

-- ---- one arc

-- the domain of the arc has the place whatever the iterators of the band are
abbrev IsDomainOutside : ℕ → Point → List ℤ → Arc → Type 0
IsDomainOutside outer iters place arc = (p : Point) → AgreeOutside outer iters p → IsInDomain arc iters place → IsInDomain arc p place

in_said : (outer : ℕ) (iters : List ℤ) (a : Access) (arc : Arc) → IsIn iters a arc → IsDomainOutside outer (point_of iters) (place_of a) arc → IsInSaid outer (point_of iters) a (arc_as_said arc)
in_said outer iters a arc h outside = record {
  array = ap (λ (n : ℕ). Some n) h.array;
  direction = h.direction;
  set = mapped dim_as_given (IsInGivenDim (point_of iters)) arc.dims (place_of a) h.set;
  domain = λ p agree. mapped (λ (d : ArcDim). (d.low, d.high)) (IsBetween p) arc.dims (place_of a) (outside p agree h.domain);
}

abbrev IsFilled : (ℕ → List ℕ) → List Reference → Point → List Access → Arc → Type 0
IsFilled sizes qs iters done arc = IsTrue arc.exact → (place : List ℤ) → IsInSet arc iters place → Any (IsTouch sizes qs arc place) done

abbrev IsFilledSaid : Point → List Access → SaidArc → Type 0
IsFilledSaid iters done s = IsTrue s.arc.exact → (place : List ℤ) → Pairwise (IsInGivenDim iters) s.arc.dims place → Any (IsAt s place) done

touched : (sizes : ℕ → List ℕ) (qs : List Reference) (arc : Arc) (place : List ℤ) (done : List Access) → Any (IsTouch sizes qs arc place) done → Any (IsAt (arc_as_said arc) place) done
touched sizes qs arc place done (k, a, l, is, h) = (k, a, l, is, record { array = ap (λ (n : ℕ). Some n) (sym h.array); direction = sym h.direction; stands = h.stands })

filled_said : (sizes : ℕ → List ℕ) (qs : List Reference) (iters : Point) (done : List Access) (arc : Arc) → IsFilled sizes qs iters done arc → IsFilledSaid iters done (arc_as_said arc)
filled_said sizes qs iters done arc h exact place set = touched sizes qs arc place done (h exact place (unmapped dim_as_given (IsInGivenDim iters) arc.dims place set))

-- ---- a turn

-- what holds of the arcs of all references of a nest is true of what is said of them
say_true : (outer : ℕ) (sizes : ℕ → List ℕ) (iters : List ℤ) (qs : List Reference) (arcs : List Arc) (done : List Access) (ended : Type 0)
    → ((place : List ℤ) → All (IsDomainOutside outer (point_of iters) place) arcs) → HoldIn sizes iters qs qs arcs done ended → SayTrue outer (said_for arcs) (point_of iters) done ended
say_true outer sizes iters qs arcs done ended outside h = record {
  inside = λ k d l.
      let a = slice_index_or done k d in
      any_of (IsInSaid outer (point_of iters) a) (said_for arcs)
      (has_said (IsInSaid outer (point_of iters) a) arcs
      (has_with (IsIn iters a) (IsDomainOutside outer (point_of iters) (place_of a)) (λ c. IsInSaid outer (point_of iters) a (arc_as_said c)) arcs (λ c in_it out. in_said outer iters a c in_it out)
      (has_of (IsIn iters a) arcs (h.inside k d l (h.made k d l))) (each_of (IsDomainOutside outer (point_of iters) (place_of a)) arcs (outside (place_of a)))));
  filled = λ end. all_of (IsFilledSaid (point_of iters) done) (said_for arcs)
      (each_said (IsFilledSaid (point_of iters) done) arcs
      (each_more (IsFilled sizes qs (point_of iters) done) (λ c. IsFilledSaid (point_of iters) done (arc_as_said c)) arcs (filled_said sizes qs (point_of iters) done)
      (each_of (IsFilled sizes qs (point_of iters) done) arcs (h.filled end))));
}

-- ---- additions

with_body : (a b c d e : Bool) → (a && (b && (c && d))) ≡ true → e ≡ true → (a && (b && (c && e))) ≡ true
with_body a b c d e h k =
    let first = and_parts a (b && (c && d)) h in
    let second = and_parts b (c && d) first.1 in
    let third = and_parts c d second.1 in
    and_from a (b && (c && e)) first.0 (and_from b (c && e) second.0 (and_from c e third.0 k))

opened : (adds : Adding) (l : Loop)
    → is_regular adds (stmt.For l) ≡ (is_some (form_of (out-Loop l).start) && (is_some (form_of (out-Loop l).limit) && (goes (out-Loop l).test (out-Loop l).step && all_true (map (is_regular adds) (out-Loop l).body))))
opened adds l = fold_stmt-For (regular_at adds) regular_loop l ∙ fold_loop-out (regular_at adds) regular_loop l

-- a loop whose bounds are affine is regular if its body is
regular_by : (adds others : Adding) (l : Loop) → is_regular others (stmt.For l) ≡ true → all_true (map (is_regular adds) (out-Loop l).body) ≡ true → is_regular adds (stmt.For l) ≡ true
regular_by adds others l h body =
    opened adds l
    ∙ with_body (is_some (form_of (out-Loop l).start)) (is_some (form_of (out-Loop l).limit)) (goes (out-Loop l).test (out-Loop l).step) (all_true (map (is_regular others) (out-Loop l).body)) (all_true (map (is_regular adds) (out-Loop l).body))
    (sym (opened others l) ∙ h) body

-- so the innermost loop of a band is, if the first is
pub innermost_regular : (adds : Adding) (n : Standing) (r : Running) → IsInnermost n r → is_regular as_marked (stmt.For r.loop) ≡ true → is_regular adds (stmt.For n.head) ≡ true → is_regular adds (stmt.For r.loop) ≡ true
innermost_regular adds n r inner marked head =
    regular_by adds as_marked r.loop marked (subst (λ xs. all_true (map (is_regular adds) xs) ≡ true) (innermost_body n r inner) (nest_regular adds n.below n.head n.at head))

-- ---- the law

pub elsewhere : (join : Joins) (u : Program) (s : Standing) (gathered : List ℕ) (r : Running) (t : Turn) (here : IsTurnOf join u s gathered r t) → IsElsewhere u here.marked s here.nest
elsewhere join u s gathered r t here = record { source = here.same; around = here.marks.around; head = here.marks.head.text; below = here.marks.below }

-- The line of a nest whose arcs are these, with a band whose bounds name iterators of the loops around the nest alone, says true.
pub line_holds : (lines : LinesHold) (domains : DomainsAreOutside) (additions : AdditionsAreMarked) (join : Joins) (u : Program) (s : Standing) (gathered : List ℕ) (arcs : List Arc) (has : BandArcs u s gathered arcs)
    → All (NamesOutside (length s.around)) has.bands → (r : Running) (t : Turn) (here : IsTurnOf join u s gathered r t)
    → SayTrue (length s.around) (said_for arcs) (point_of t.frame.iters) (accessed join here.marked r t) (Ends join here.marked r t)
line_holds lines domains additions join u s gathered arcs has names r t here =
    let v = here.marked in
    let n = here.nest in
    let adds = adds_of gathered in
    let there = elsewhere join u s gathered r t here in
    let regular = innermost_regular adds n r here.innermost (additions join v here.start r here.made here.comes).0 here.marks.head.additions in
    let nest = band_arcs u v s n gathered arcs has there in
    let all = lines join v here.start r adds n (nest_references adds n) arcs t here.made here.comes here.innermost regular nest here.turn in
    let outer : length (ranges_of [] s.around) ≡ length s.around = omega (arith, ranges_length [] s.around) in
    let merged : AreArcsOf (length s.around) has.bands has.refs arcs = subst (λ k. AreArcsOf k has.bands has.refs arcs) outer has.merged in
    say_true (length s.around) (sizes_of (source_context v)) t.frame.iters (nest_references adds n) arcs (accessed join v r t) (Ends join v r t)
    (λ place k d l p agree. domains (length s.around) has.bands has.refs arcs (point_of t.frame.iters) p place merged names agree k d l) all
