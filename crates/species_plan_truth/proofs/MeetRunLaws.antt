-- The iterations of a running of a planned nest meet on elements of gathered arrays alone.
use Rattle.std.proofs.Common.{◌≡◌, ◌≢◌, refl, ap, sym, ◌∙◌, subst, arith, ℕ, zero, suc, ◌+◌, ◌<◌, ◌≤◌, true, nat_eq, List, [], ◌∷◌, ◌++◌, map, take, length, inl, inr, ℤ}
use Rattle.std.specs.Prelude.{slice_index_or, All}
use Rattle.std.specs.List.{Contains, list_any}
use Rattle.std.proofs.lemmas.Bool.{cases_lt}
use Rattle.std.proofs.lemmas.List.{length-append}
use Rattle.species_ast.specs.Accesses.{Joins, Cells, Tree, Outcome, Ended, Stopped, Element, Access, Adds, IsDefined, run}
use Rattle.species_ast.specs.Evaluation.{Frame, Context, sense, sizes_of}
use Rattle.species_ast.specs.Run.{inside, outside, spot, loop_of, does_scope, source_context}
use Rattle.species_ast.specs.declared.tree.Loop.{Loop, out-Loop}
use Rattle.species_ast.specs.declared.tree.Unit.{Unit as Program}
use Rattle.species_ast.specs.Scope.Hulls.{Range, range_of}
use Rattle.species_ast.specs.Scope.Nests.{Bounds, front_of}
use Rattle.species_ast.specs.Scope.References.{Reference, references_of}
use Rattle.species_ast.specs.Scope.WellMade.{IsWellMade}
use Rattle.species_ast.proofs.Induction.{Each}
use Rattle.species_classify.specs.Decisions.{IsDecision}
use Rattle.species_classify.specs.Places.{StandsIn}
use Rattle.species_classify.specs.declared.decide.Decision.{Decision}
use Rattle.species_depend.specs.Law.{DifferInBand}
use Rattle.species_linear.specs.Point.{point_of}
use Rattle.species_nests.specs.Arrivals.{header, Running, moment}
use Rattle.species_nests.specs.Meetings.{Ran, on_ended, in_turns, in_loops, iterations_in, running_traces, nth, MeetOnlyOn, AddsExactlyOn}
use Rattle.species_nests.specs.Nests.{Placed, band, nest_of}
use Rattle.species_nests.proofs.RunningLaws.{contains_later}
use Rattle.species_occurrences.specs.Iterators.{AreTaken, ranges_of}
use Rattle.species_occurrences.specs.Law.{loops_around_body, nest_references_of, IsIteration}
use Rattle.species_occurrences.specs.Made.{Begins, IsMadeAmong, IsMade}
use Rattle.species_occurrences.specs.Nesting.{bounds_in_nest}
use Rattle.species_occurrences.specs.Regular.{as_marked}
use Rattle.species_occurrences.proofs.FrontLaws.{nests_are_fronts}
use Rattle.species_occurrences.proofs.IterationLaws.{iterations_made}
use Rattle.species_occurrences.proofs.MadeLaws.{begins_outer}
use Rattle.species_occurrences.proofs.PositionLaws.{each_append, each_weaker, none_behind}
use Rattle.species_occurrences.proofs.RunningTaken.{moment_taken}
use Rattle.species_references.specs.References.{adds_of}
use Rattle.species_runs.specs.Distinct.{Distinct}
use Rattle.species_runs.specs.Every.{Anything}
use Rattle.species_runs.proofs.EveryLaws.{every_ended, gives_behind}
use Rattle.species_runs.proofs.TurnLaws.{empty_contains, values_distinct}
use Rattle.species_plan_truth.specs.Meetings.{AreHarmless, is_gathered, IsRunningOf, PlannedRunningsMeet}
use Rattle.species_plan_truth.proofs.AddCountLemmas.{add_counted}
use Rattle.species_plan_truth.proofs.AddOnlyLemmas.{access_adds}
use Rattle.species_plan_truth.proofs.MeetLemmas.{found, listed, sequential_or_parallel, NestsAreAsked}
use Rattle.species_plan_truth.proofs.MeetLaws.{marked_references, planned_apart}

-- ---- lists in which each two items are apart

abbrev pub AllApart : {X : Type 0} → (X → X → Type 0) → List X → Type 0
AllApart R [] = Unit {0}
AllApart R (x ∷ xs) = Each (R x) xs × AllApart R xs

apart_append : {X : Type 0} (R : X → X → Type 0) (xs ys : List X) → AllApart R xs → AllApart R ys → Each (λ x. Each (R x) ys) xs → AllApart R (xs ++ ys)
apart_append R [] ys h k c = k
apart_append R (x ∷ xs) ys h k c = (each_append (R x) xs ys h.0 c.0, apart_append R xs ys h.1 k c.1)

apart_weaker : {X : Type 0} (R S : X → X → Type 0) → ((x y : X) → R x y → S x y) → (xs : List X) → AllApart R xs → AllApart S xs
apart_weaker R S w [] h = tt
apart_weaker R S w (x ∷ xs) h = (each_weaker (R x) (S x) (w x) xs h.0, apart_weaker R S w xs h.1)

each_at : {X : Type 0} (P : X → Type 0) (xs : List X) (d : X) (k : ℕ) → Each P xs → k < length xs → P (slice_index_or xs k d)
each_at P [] d k h below = absurd (omega (arith, below))
each_at P (x ∷ xs) d zero h below = h.0
each_at P (x ∷ xs) d (suc k) h below = each_at P xs d k h.1 (omega (arith, below))

apart_at : {X : Type 0} (R : X → X → Type 0) (xs : List X) (d : X) (j k : ℕ) → AllApart R xs → j < k → k < length xs → R (slice_index_or xs j d) (slice_index_or xs k d)
apart_at R [] d j k h less below = absurd (omega (arith, below))
apart_at R (x ∷ xs) d zero zero h less below = absurd (omega (arith, less))
apart_at R (x ∷ xs) d zero (suc k) h less below = each_at (R x) xs d k h.0 (omega (arith, below))
apart_at R (x ∷ xs) d (suc j) zero h less below = absurd (omega (arith, less))
apart_at R (x ∷ xs) d (suc j) (suc k) h less below = apart_at R xs d j k h.1 (omega (arith, less)) (omega (arith, below))

-- ---- iterators that begin with others

pub front_point : (is more : List ℤ) (k : ℕ) → k < length is → point_of (is ++ more) k ≡ point_of is k
front_point [] more k below = absurd (omega (arith, below))
front_point (i ∷ is) more zero below = refl
front_point (i ∷ is) more (suc k) below = front_point is more k (omega (arith, below))

pub begun_point : (is whole : List ℤ) (k : ℕ) → Begins is whole → k < length is → point_of whole k ≡ point_of is k
begun_point is whole k b below = ap (λ (xs : List ℤ). point_of xs k) b.1 ∙ front_point is b.0 k below

-- they differ in the band as well, and in a deeper one
pub differ_longer : (outer depth deeper : ℕ) (is js us vs : List ℤ) → outer + depth ≤ length is → outer + depth ≤ length js → depth ≤ deeper → Begins is us → Begins js vs → DifferInBand outer depth is js
    → DifferInBand outer deeper us vs
differ_longer outer depth deeper is js us vs long long_other deep b c apart = record {
  same = λ k below. begun_point is us k b (omega (arith, below, long)) ∙ apart.same k below ∙ sym (begun_point js vs k c (omega (arith, below, long_other)));
  level = apart.level;
  below = omega (arith, apart.below, deep);
  differ = λ e. apart.differ (sym (begun_point is us (outer + apart.level) b (omega (arith, apart.below, long))) ∙ e ∙ begun_point js vs (outer + apart.level) c (omega (arith, apart.below, long_other)));
}

pub taken_length : (path : List Range) (iters : List ℤ) → AreTaken path iters → length path ≡ length iters
taken_length [] [] h = refl
taken_length [] (i ∷ iters) h = absurd h
taken_length (r ∷ path) [] h = absurd h
taken_length (r ∷ path) (i ∷ iters) h = ap suc (taken_length path iters h.1)

-- ---- the iterators of iterations

-- they begin with these
abbrev Inside : List ℤ → Ran → Type 0
Inside before x = Begins before x.frame.iters

-- and go on with one of these values
abbrev InTurn : List ℤ → List ℤ → Ran → Type 0
InTurn before is x = (i : ℤ) × Contains is i × Begins (before ++ i ∷ []) x.frame.iters

-- two iterations, in so many loops inside those with these iterators
abbrev AreApart : List ℤ → ℕ → Ran → Ran → Type 0
AreApart before n x y = DifferInBand (length before) n x.frame.iters y.frame.iters

ended_each : {X : Type 0} (P : Ran → Type 0) (next : X → Cells → List Ran) → ((x : X) (m : Cells) → Each P (next x m)) → (o : Outcome X) → Each P (on_ended o next)
ended_each P next h (Ended x m) = h x m
ended_each P next h (Stopped why place) = tt

ended_apart : {X : Type 0} (R : Ran → Ran → Type 0) (next : X → Cells → List Ran) → ((x : X) (m : Cells) → AllApart R (next x m)) → (o : Outcome X) → AllApart R (on_ended o next)
ended_apart R next h (Ended x m) = h x m
ended_apart R next h (Stopped why place) = tt

turns_inside : (join : Joins) (each : Frame → Cells → List Ran) (body : Frame → Tree Frame) → ((f : Frame) (m : Cells) → Each (Inside f.iters) (each f m)) → (is : List ℤ) (f : Frame) (m : Cells)
    → Each (InTurn f.iters is) (in_turns join each body is f m)
turns_inside join each body h [] f m = tt
turns_inside join each body h (i ∷ is) f m =
    each_append (InTurn f.iters (i ∷ is)) (each (inside f i) m) (on_ended (run join (body (inside f i)) m) (λ g n. in_turns join each body is (outside f g) n))
    (each_weaker (Inside (f.iters ++ i ∷ [])) (InTurn f.iters (i ∷ is)) (λ x b. (i, (0, omega arith, refl), b)) (each (inside f i) m) (h (inside f i) m))
    (ended_each (InTurn f.iters (i ∷ is)) (λ g n. in_turns join each body is (outside f g) n)
    (λ g n. each_weaker (InTurn f.iters is) (InTurn f.iters (i ∷ is)) (λ x t. (t.0, contains_later i t.0 is t.1, t.2)) (in_turns join each body is (outside f g) n) (turns_inside join each body h is (outside f g) n))
    (run join (body (inside f i)) m))

loops_inside : (join : Joins) (w : Context) (ls : List Placed) (does : Frame → Tree Frame) (f : Frame) (m : Cells) → Each (Inside f.iters) (in_loops join w ls does f m)
loops_inside join w [] does f m = (none_behind f.iters, tt)
loops_inside join w (l ∷ ls) does f m =
    ended_each (Inside f.iters) (λ is n. in_turns join (in_loops join w ls does) (band w ls does) is f n)
    (λ is n. each_weaker (InTurn f.iters is) (Inside f.iters) (λ x t. begins_outer f.iters t.0 x.frame.iters t.2) (in_turns join (in_loops join w ls does) (band w ls does) is f n)
    (turns_inside join (in_loops join w ls does) (band w ls does) (λ g k. loops_inside join w ls does g k) is f n))
    (run join (header w l.loop l.at f) m)

-- ---- they differ

middle_point : (before : List ℤ) (i : ℤ) → point_of (before ++ i ∷ []) (length before) ≡ i
middle_point [] i = refl
middle_point (b ∷ before) i = middle_point before i

-- inside one turn more, they differ a level deeper
differ_deeper : (before : List ℤ) (i : ℤ) (n : ℕ) (x y : Ran) → AreApart (before ++ i ∷ []) n x y → AreApart before (suc n) x y
differ_deeper before i n x y a =
    let one : length (before ++ i ∷ []) ≡ length before + 1 = length-append before (i ∷ []) in
    let level : length before + suc a.level ≡ length (before ++ i ∷ []) + a.level = omega (arith, one) in
    record {
      same = λ k below. a.same k (omega (arith, below, one));
      level = suc a.level;
      below = omega (arith, a.below);
      differ = λ e. a.differ (subst (λ (k : ℕ). point_of x.frame.iters k ≡ point_of y.frame.iters k) level e);
    }

-- in two turns they differ there
differ_here : (before : List ℤ) (i j : ℤ) (n : ℕ) (x y : Ran) → i ≢ j → Inside (before ++ i ∷ []) x → Inside (before ++ j ∷ []) y → AreApart before (suc n) x y
differ_here before i j n x y apart b c =
    let one : length (before ++ i ∷ []) ≡ length before + 1 = length-append before (i ∷ []) in
    let other : length (before ++ j ∷ []) ≡ length before + 1 = length-append before (j ∷ []) in
    let here : length before + 0 ≡ length before = omega arith in
    let first : point_of x.frame.iters (length before) ≡ i = begun_point (before ++ i ∷ []) x.frame.iters (length before) b (omega (arith, one)) ∙ middle_point before i in
    let second : point_of y.frame.iters (length before) ≡ j = begun_point (before ++ j ∷ []) y.frame.iters (length before) c (omega (arith, other)) ∙ middle_point before j in
    record {
      same = λ k below. begun_point before x.frame.iters k (begins_outer before i x.frame.iters b) below ∙ sym (begun_point before y.frame.iters k (begins_outer before j y.frame.iters c) below);
      level = 0;
      below = omega arith;
      differ = λ e. apart (sym first ∙ subst (λ (k : ℕ). point_of x.frame.iters k ≡ point_of y.frame.iters k) here e ∙ second);
    }

turns_differ : (join : Joins) (each : Frame → Cells → List Ran) (body : Frame → Tree Frame) (n : ℕ) → ((f : Frame) (m : Cells) → Each (Inside f.iters) (each f m))
    → ((f : Frame) (m : Cells) → AllApart (AreApart f.iters n) (each f m)) → (is : List ℤ) (f : Frame) (m : Cells) → Distinct is → AllApart (AreApart f.iters (suc n)) (in_turns join each body is f m)
turns_differ join each body n h k [] f m distinct = tt
turns_differ join each body n h k (i ∷ is) f m distinct =
    apart_append (AreApart f.iters (suc n)) now later
    (apart_weaker (AreApart (f.iters ++ i ∷ []) n) (AreApart f.iters (suc n)) (differ_deeper f.iters i n) now (k (inside f i) m))
    (ended_apart (AreApart f.iters (suc n)) next (λ g l. turns_differ join each body n h k is (outside f g) l distinct.1) (run join (body (inside f i)) m))
    (each_weaker (Inside (f.iters ++ i ∷ [])) (λ x. Each (AreApart f.iters (suc n) x) later)
    (λ x b. each_weaker (InTurn f.iters is) (AreApart f.iters (suc n) x) (λ y t. differ_here f.iters i t.0 n x y (λ e. distinct.0 (subst (λ (z : ℤ). Contains is z) (sym e) t.1)) b t.2) later
    (ended_each (InTurn f.iters is) next (λ g l. turns_inside join each body h is (outside f g) l) (run join (body (inside f i)) m))) now (h (inside f i) m))
  where
    next : Frame → Cells → List Ran
    next g l = in_turns join each body is (outside f g) l

    now : List Ran
    now = each (inside f i) m

    later : List Ran
    later = on_ended (run join (body (inside f i)) m) next

header_distinct : (join : Joins) (w : Context) (l : Loop) (at : List ℕ) (f : Frame) (m : Cells) (is : List ℤ) (n : Cells) → run join (header w l at f) m ≡ Ended is n → Distinct is
header_distinct join w l at f m is n h =
    every_ended join Anything Distinct (header w l at f) m is n
    (gives_behind Distinct ((sense w (out-Loop l).start).does (spot (out-Loop l).place at) 0 f) _ (λ a.
    gives_behind Distinct ((sense w (out-Loop l).limit).does (spot (out-Loop l).place at) (sense w (out-Loop l).start).elements f) _ (λ b.
    values_distinct (out-Loop l).test _ _ (out-Loop l).step))) h

loops_differ : (join : Joins) (w : Context) (ls : List Placed) (does : Frame → Tree Frame) (f : Frame) (m : Cells) → AllApart (AreApart f.iters (length ls)) (in_loops join w ls does f m)
loops_differ join w [] does f m = (tt, tt)
loops_differ join w (l ∷ ls) does f m = go (λ g k. loops_differ join w ls does g k) (run join (header w l.loop l.at f) m) refl
  where
    go : ((g : Frame) (k : Cells) → AllApart (AreApart g.iters (length ls)) (in_loops join w ls does g k)) → (o : Outcome (List ℤ)) → run join (header w l.loop l.at f) m ≡ o
        → AllApart (AreApart f.iters (suc (length ls))) (on_ended o (λ is n. in_turns join (in_loops join w ls does) (band w ls does) is f n))
    go rest (Ended is n) e =
        turns_differ join (in_loops join w ls does) (band w ls does) (length ls) (λ g k. loops_inside join w ls does g k) rest is f n (header_distinct join w l.loop l.at f m is n e)
    go rest (Stopped why place) e = tt

-- ---- the iterations of a running

ended_so : {X : Type 0} (o : Outcome X) → IsDefined o → (x : X) × (n : Cells) × (o ≡ Ended x n)
ended_so (Ended x n) h = (x, n, refl)
ended_so (Stopped why place) h = absurd h

all_has : {X : Type 0} (P : X → Type 0) (xs : List X) → All P xs → (x : X) → Contains xs x → P x
all_has P xs h x c = subst P c.2 (h c.0 x c.1)

-- the access stands in one of the iterations
ran_at : (xs : List Ran) (k : ℕ) (d : Ran) (a : Access) → Contains (nth (map (λ x. x.accesses) xs) k) a → (k < length xs) × Contains (slice_index_or xs k d).accesses a
ran_at [] k d a c = absurd (empty_contains a c)
ran_at (x ∷ xs) zero d a c = (omega arith, c)
ran_at (x ∷ xs) (suc k) d a c = let rest = ran_at xs k d a c in (omega (arith, rest.0), rest.1)

index_contains : {X : Type 0} (xs : List X) (k : ℕ) (d : X) → k < length xs → Contains xs (slice_index_or xs k d)
index_contains [] k d below = absurd (omega (arith, below))
index_contains (x ∷ xs) zero d below = (0, omega arith, refl)
index_contains (x ∷ xs) (suc k) d below = contains_later x (slice_index_or xs k d) xs (index_contains xs k d (omega (arith, below)))

placed_long : (ls : List Placed) → length (map (λ p. p.loop) ls) ≡ length ls
placed_long [] = refl
placed_long (p ∷ ls) = ap suc (placed_long ls)

bounds_long : (ls : List Placed) → length (map bounds_in_nest ls) ≡ length ls
bounds_long [] = refl
bounds_long (p ∷ ls) = ap suc (bounds_long ls)

ranges_long : (path : List Range) (ls : List Loop) → length (ranges_of path ls) ≡ length path + length ls
ranges_long path [] = omega arith
ranges_long path (l ∷ ls) = omega (arith, ranges_long (path ++ range_of path (out-Loop l) ∷ []) ls, length-append path (range_of path (out-Loop l) ∷ []))

take_short : (n : ℕ) (bs : List Bounds) → length (take n bs) ≤ n
take_short zero bs = omega arith
take_short (suc n) [] = omega arith
take_short (suc n) (b ∷ bs) = omega (arith, take_short n bs)

-- a nest has no more loops than are asked for
nest_short : (below : ℕ) (l : Loop) (at : List ℕ) → length (nest_of below l at).loops ≤ suc below
nest_short below l at =
    let whole = ap (λ (bs : List Bounds). length bs) (nests_are_fronts below l at) in
    omega (arith, whole, bounds_long (nest_of below l at).loops, take_short (suc below) (front_of l))

turned : (outer n : ℕ) (is js : List ℤ) → DifferInBand outer n is js → DifferInBand outer n js is
turned outer n is js a = record { same = λ k below. sym (a.same k below); level = a.level; below = a.below; differ = λ e. a.differ (sym e) }

-- an access of an iteration
pub record IsOfIteration (u : Program) (head : Loop) (path : List Range) (gathered : List ℕ) (below : ℕ) (r : Running) (x : Ran) (a : Access) : Type 0 where
  pub made : IsMade (sizes_of (source_context u)) x.frame.iters (references_of (adds_of gathered) head r.at path (length (nest_of below r.loop r.at).loops)) a
  pub long : length path + length (nest_of below r.loop r.at).loops ≤ length x.frame.iters

of_iteration : (join : Joins) (u : Program) (head : Loop) (path : List Range) (gathered : List ℕ) (below : ℕ) (r : Running) (marked : Program) (here : IsRunningOf join u head path gathered marked r) (x : Ran) (a : Access)
    → Contains (iterations_in join (source_context marked) below r) x → Contains x.accesses a → IsOfIteration u head path gathered below r x a
of_iteration join u head path gathered below r marked here x a one c =
    let w = source_context marked in
    let end = ended_so (run join (loop_of w r.loop r.at r.frame) r.arrays) here.ends in
    let loops = (nest_of below r.loop r.at).loops in
    let iteration : IsIteration (sizes_of w) (loops_around_body below r) (nest_references_of below r) x = iterations_made join marked here.start r below end.0 end.1 here.made here.comes end.2 x one in
    let own : IsMade (sizes_of w) x.frame.iters (nest_references_of below r) a = all_has (IsMade (sizes_of w) x.frame.iters (nest_references_of below r)) x.accesses iteration.made a c in
    let same : nest_references_of below r ≡ references_of (adds_of gathered) head r.at path (length loops) =
    (λ i. references_of as_marked r.loop r.at (here.around i) (length loops)) ∙ marked_references head r.loop gathered r.at path (length loops) here.marks in
    let taken = taken_length (ranges_of [] (loops_around_body below r)) x.frame.iters iteration.taken.0 in
    record {
      made = subst (λ (sizes : ℕ → List ℕ). IsMade sizes x.frame.iters (references_of (adds_of gathered) head r.at path (length loops)) a) (ap (λ (v : Program). sizes_of (source_context v)) here.same)
          (subst (λ (rs : List Reference). IsMade (sizes_of w) x.frame.iters rs a) same own);
      long = omega (arith, taken, ranges_long [] (loops_around_body below r), length-append r.around (map (λ p. p.loop) loops), placed_long loops, ranges_long [] r.around, ap (λ (p : List Range). length p) here.around);
    }

-- accesses of two iterations, to one element
pub iterations_apart : NestsAreAsked → (join : Joins) (u : Program) (head : Loop) (path : List Range) (d : Decision) (below : ℕ) (r : Running) (marked : Program) (here : IsRunningOf join u head path d.gathered marked r) (j k : ℕ) (a b : Access)
    → IsWellMade u → StandsIn u head path → IsDecision u head path d → d.depth ≡ suc below → j ≢ k
    → Contains (nth (running_traces join (source_context marked) below r) j) a → Contains (nth (running_traces join (source_context marked) below r) k) b → a.element ≡ b.element → AreHarmless d.gathered a b
iterations_apart asked join u head path d below r marked here j k a b well stands is deep other one two same =
    let first = ran_at xs j none a one in
    let second = ran_at xs k none b two in
    let x = slice_index_or xs j none in
    let y = slice_index_or xs k none in
    let p : IsOfIteration u head path d.gathered below r x a = of_iteration join u head path d.gathered below r marked here x a (index_contains xs j none first.0) first.1 in
    let q : IsOfIteration u head path d.gathered below r y b = of_iteration join u head path d.gathered below r marked here y b (index_contains xs k none second.0) second.1 in
    let short : length loops ≤ d.depth = omega (arith, nest_short below r.loop r.at, deep) in
    planned_apart asked u head path d r.at (length loops) a b well stands is p.made.0 q.made.0
    (differ_longer (length path) (length loops) d.depth x.frame.iters y.frame.iters a.site.iters b.site.iters p.long q.long short p.made.1 q.made.1 (differ first.0 second.0)) same
  where
    w : Context
    w = source_context marked

    xs : List Ran
    xs = iterations_in join w below r

    loops : List Placed
    loops = (nest_of below r.loop r.at).loops

    none : Ran
    none = record { frame = r.frame; accesses = [] }

    around : length r.frame.iters ≡ length path
    around =
        let taken = taken_length (ranges_of [] r.around) r.frame.iters (moment_taken join marked here.start (moment r) here.made here.comes).0 in
        sym taken ∙ ap (λ (p : List Range). length p) here.around

    all : AllApart (AreApart r.frame.iters (length loops)) xs
    all = loops_differ join w loops (does_scope w (nest_of below r.loop r.at).body (nest_of below r.loop r.at).at 0) r.frame r.arrays

    differ : j < length xs → k < length xs → DifferInBand (length path) (length loops) (slice_index_or xs j none).frame.iters (slice_index_or xs k none).frame.iters
    differ p q = subst (λ (n : ℕ). DifferInBand n (length loops) (slice_index_or xs j none).frame.iters (slice_index_or xs k none).frame.iters) around
        (elim (cases_lt j k) [
          | inl less ↦ apart_at (AreApart r.frame.iters (length loops)) xs none j k all less q
          | inr more ↦ turned (length r.frame.iters) (length loops) (slice_index_or xs k none).frame.iters (slice_index_or xs j none).frame.iters
              (apart_at (AreApart r.frame.iters (length loops)) xs none k j all (less_of more) p)
        ])
      where
        less_of : k ≤ j → k < j
        less_of more = elim (cases_lt k j) [
          | inl less ↦ less
          | inr most ↦ absurd (other (omega (arith, more, most)))
        ]

-- The law of runnings: iterations meet on elements of gathered arrays alone.
pub running_meets : NestsAreAsked → (join : Joins) (u : Program) (head : Loop) (path : List Range) (d : Decision) (below : ℕ) (r : Running) (marked : Program) (here : IsRunningOf join u head path d.gathered marked r)
    → IsWellMade u → StandsIn u head path → IsDecision u head path d → d.depth ≡ suc below → MeetOnlyOn (is_gathered d.gathered) (running_traces join (source_context marked) below r)
running_meets asked join u head path d below r marked here well stands is deep e j k other meet =
    let one = meet.2 in
    let two = meet.3 in
    let harmless = iterations_apart asked join u head path d below r marked here j k one.0 two.0 well stands is deep other one.1 two.1 (one.2 ∙ sym two.2) in
    elim harmless [
      | inl reads ↦ elim meet.4 [
        | inl written ↦ absurd (written (sym one.3 ∙ reads.0))
        | inr written ↦ absurd (written (sym two.3 ∙ reads.1))
      ]
      | inr adds ↦ subst (λ (x : Element). list_any (nat_eq x.array) d.gathered ≡ true) one.2 (found one.0.element.array d.gathered adds.0)
    ]

-- and what is accessed by adds is gathered
running_adds : (join : Joins) (u : Program) (head : Loop) (path : List Range) (d : Decision) (below : ℕ) (r : Running) (marked : Program) (here : IsRunningOf join u head path d.gathered marked r)
    → IsDecision u head path d → d.depth ≡ suc below → AddsExactlyOn (is_gathered d.gathered) (running_traces join (source_context marked) below r)
running_adds join u head path d below r marked here is deep e k direction touch = (
  (λ gathered. sym touch.3 ∙ adds (ap (is_gathered d.gathered) array ∙ gathered)),
  (λ added. ap (is_gathered d.gathered) (sym array) ∙ add_counted (sizes_of (source_context u)) d.gathered head r.at path (length loops) a made (touch.3 ∙ added)),
)
  where
    a : Access
    a = touch.0

    array : a.element.array ≡ e.array
    array = ap (λ (x : Element). x.array) touch.2

    loops : List Placed
    loops = (nest_of below r.loop r.at).loops

    none : Ran
    none = record { frame = r.frame; accesses = [] }

    xs : List Ran
    xs = iterations_in join (source_context marked) below r

    made : IsMadeAmong (sizes_of (source_context u)) (references_of (adds_of d.gathered) head r.at path (length loops)) a
    made =
        let one = ran_at xs k none a touch.1 in
        (of_iteration join u head path d.gathered below r marked here (slice_index_or xs k none) a (index_contains xs k none one.0) one.1).made.0

    adds : is_gathered d.gathered a.element.array ≡ true → a.direction ≡ Adds
    adds one = elim (sequential_or_parallel u head path d is) [
      | inl sequential ↦ absurd (omega (arith, sequential, deep))
      | inr p ↦ access_adds (sizes_of (source_context u)) d.gathered head r.at path (length loops) a one (p.spared a.element.array (listed a.element.array d.gathered one)) made
    ]

pub planned_runnings_meet : NestsAreAsked → PlannedRunningsMeet
planned_runnings_meet asked join source marked head path d below r well stands is deep here =
    (running_meets asked join source head path d below r marked here well stands is deep, running_adds join source head path d below r marked here is deep)
