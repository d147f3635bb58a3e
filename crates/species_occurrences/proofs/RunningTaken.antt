-- Where a run comes to a loop, the iterators of the loops around it are values that these take; so it is in each iteration.
use Rattle.std.proofs.Common.{◌≡◌, refl, sym, ◌∙◌, subst, arith, ℕ, zero, suc, true, List, [], ◌∷◌, ◌++◌, map, length, ℤ}
use Rattle.std.specs.List.{Contains}
use Rattle.std.proofs.lemmas.Bool.{and_parts}
use Rattle.species_ast.specs.declared.tree.Loop.{Loop, out-Loop}
use Rattle.species_ast.specs.declared.tree.Stmt.{Stmt}
use Rattle.species_ast.specs.declared.tree.Stmt.TheVariants as stmt
use Rattle.species_ast.specs.declared.tree.Unit.{Unit as Program}
use Rattle.species_ast.specs.Marks.{all_true}
use Rattle.species_ast.specs.Accesses.{Joins, Cells}
use Rattle.species_ast.specs.Evaluation.{Frame, Context}
use Rattle.species_ast.specs.Run.{spot, source_context}
use Rattle.species_ast.specs.Scope.Hulls.{Range, range_of}
use Rattle.species_ast.specs.Scope.References.{Adding}
use Rattle.species_ast.specs.Scope.WellMade.{IsWellMade, outermost}
use Rattle.species_ast.proofs.Folds.{fold_stmt-If, fold_stmt-For, fold_stmt-Block, fold_loop-out}
use Rattle.species_ast.proofs.Induction.{Each}
use Rattle.species_runs.specs.Every.{Anything}
use Rattle.species_runs.proofs.EveryLaws.{every_ended}
use Rattle.species_nests.specs.Arrivals.{header, Moment, Reaches, here, in_turn, in_body, in_otherwise, in_block, ReachesIn, first, later, Begins, Running, moment, ComesTo}
use Rattle.species_nests.proofs.IteratorArrivals.{GoesInside, reaches_in_iters}
use Rattle.species_occurrences.specs.Iterators.{IsInt, MayTake, AreTaken, AreTheirs, ranges_of}
use Rattle.species_occurrences.specs.Regular.{as_marked, regular_at, regular_loop, is_regular}
use Rattle.species_occurrences.proofs.HeaderLaws.{HasBounds, AllTaken, header_taken}
use Rattle.species_occurrences.proofs.NestLaws.{unconditional}
use Rattle.species_occurrences.proofs.RegularLaws.{list_regular}
use Rattle.species_occurrences.proofs.StatementLaws.{bounds_of}
use Rattle.species_occurrences.proofs.TakenLaws.{taken_inside, ints_inside}

abbrev pub IsBounded : Loop → Type 0
IsBounded l = HasBounds (out-Loop l)

-- these are values of the iterators of these loops, if the loops have bounds
abbrev pub AreIterators : List Loop → List ℤ → Type 0
AreIterators around iters = Each IsBounded around → AreTheirs around iters

each_front : {X : Type 0} (P : X → Type 0) (xs : List X) (y : X) → Each P (xs ++ y ∷ []) → Each P xs × P y
each_front P [] y h = (tt, h.0)
each_front P (x ∷ xs) y h = let rest = each_front P xs y h.1 in ((h.0, rest.0), rest.1)

each_behind : {X : Type 0} (P : X → Type 0) (xs : List X) (y : X) → Each P xs → P y → Each P (xs ++ y ∷ [])
each_behind P [] y h k = (k, tt)
each_behind P (x ∷ xs) y h k = (h.0, each_behind P xs y h.1 k)

each_contains : {X : Type 0} (P : X → Type 0) (xs : List X) → Each P xs → (x : X) → Contains xs x → P x
each_contains P [] h x c = let below = c.1 in absurd (omega (arith, below))
each_contains P (y ∷ xs) h x (zero, below, is) = subst P is h.0
each_contains P (y ∷ xs) h x (suc k, below, is) = each_contains P xs h.1 x (k, omega (arith, below), is)

ranges_last : (path : List Range) (ls : List Loop) (l : Loop) → ranges_of path (ls ++ l ∷ []) ≡ ranges_of path ls ++ range_of (ranges_of path ls) (out-Loop l) ∷ []
ranges_last path [] l = refl
ranges_last path (x ∷ ls) l = ranges_last (path ++ range_of path (out-Loop x) ∷ []) ls l

-- the way inside a loop
pub goes_inside : (join : Joins) (w : Context) → GoesInside join w AreIterators
goes_inside join w l around at f m begun is i q ended c bounded =
    let parts = each_front IsBounded around l bounded in
    let now = q parts.0 in
    let path = ranges_of [] around in
    let all = every_ended join Anything (AllTaken (range_of path (out-Loop l))) (header w l at f) m is begun
    (header_taken w (out-Loop l) parts.1 (spot (out-Loop l).place at) (unconditional at path) f.iters f refl (refl, now.0, now.1) Anything) ended
    in
    let one = each_contains (λ i. MayTake (range_of path (out-Loop l)) i × IsInt i) is all i c in
    (subst (λ p. AreTaken p (f.iters ++ i ∷ [])) (sym (ranges_last [] around l)) (taken_inside path f.iters (range_of path (out-Loop l)) i now.0 one.0), ints_inside f.iters i now.1 one.1)

-- ---- the loops around a moment have bounds

pub loop_regular : (adds : Adding) (l : Loop) → is_regular adds (stmt.For l) ≡ true → IsBounded l × (all_true (map (is_regular adds) (out-Loop l).body) ≡ true)
loop_regular adds l t = bounds_of (out-Loop l) (all_true (map (is_regular adds) (out-Loop l).body)) (sym (fold_stmt-For (regular_at adds) regular_loop l ∙ fold_loop-out (regular_at adds) regular_loop l) ∙ t)

-- so have those around this moment, and the statement itself is regular
abbrev pub HasBoundsAround : Adding → Moment → Type 0
HasBoundsAround adds q = Each IsBounded q.around × (is_regular adds q.statement ≡ true)

mutual
  reaches_bounded : (join : Joins) (w : Context) (adds : Adding) (q : Moment) (x : Stmt) (around : List Loop) (at : List ℕ) (f : Frame) (m : Cells)
      → Reaches join w q x around at f m → is_regular adds x ≡ true → Each IsBounded around → HasBoundsAround adds q
  reaches_bounded join w adds q x around at f m here t h = (h, t)
  reaches_bounded join w adds q x around at f m (in_turn l _ _ _ g _ begun n before i behind is ended inner) t h =
      let asked = loop_regular adds l t in
      reaches_in_bounded join w adds q (out-Loop l).body (around ++ l ∷ []) at 0 _ n inner asked.1 (each_behind IsBounded around l h asked.0)
  reaches_bounded join w adds q x around at f m (in_body place test body otherwise _ _ _ _ n v is taken inner) t h =
      let parts = and_parts (all_true (map (is_regular adds) body)) (all_true (map (is_regular adds) otherwise)) (sym (fold_stmt-If (regular_at adds) regular_loop place test body otherwise) ∙ t) in
      reaches_in_bounded join w adds q body around at 0 f n inner parts.0 h
  reaches_bounded join w adds q x around at f m (in_otherwise place test body otherwise _ _ _ _ n v is taken inner) t h =
      let parts = and_parts (all_true (map (is_regular adds) body)) (all_true (map (is_regular adds) otherwise)) (sym (fold_stmt-If (regular_at adds) regular_loop place test body otherwise) ∙ t) in
      reaches_in_bounded join w adds q otherwise around at (length body) f n inner parts.1 h
  reaches_bounded join w adds q x around at f m (in_block body _ _ _ _ inner) t h =
      reaches_in_bounded join w adds q body around at 0 f m inner (sym (fold_stmt-Block (regular_at adds) regular_loop body) ∙ t) h

  reaches_in_bounded : (join : Joins) (w : Context) (adds : Adding) (q : Moment) (xs : List Stmt) (around : List Loop) (at : List ℕ) (k : ℕ) (f : Frame) (m : Cells)
      → ReachesIn join w q xs around at k f m → all_true (map (is_regular adds) xs) ≡ true → Each IsBounded around → HasBoundsAround adds q
  reaches_in_bounded join w adds q xs around at k f m (first x rest _ _ _ _ _ inner) t h =
      reaches_bounded join w adds q x around (at ++ k ∷ []) f m inner (and_parts (is_regular adds x) (all_true (map (is_regular adds) rest)) t).0 h
  reaches_in_bounded join w adds q xs around at k f m (later x rest _ _ _ _ g _ n ended inner) t h =
      reaches_in_bounded join w adds q rest around at (suc k) g n inner (and_parts (is_regular adds x) (all_true (map (is_regular adds) rest)) t).1 h

-- ---- moments of a well made unit

pub moment_bounded : (join : Joins) (u : Program) (m : Cells) (q : Moment) → IsWellMade u → Begins join u m q → HasBoundsAround as_marked q
moment_bounded join u m q well_made begins =
    reaches_in_bounded join (source_context u) as_marked q u.body [] [] 0 _ m begins (list_regular u.body (outermost u) well_made.body) tt

pub moment_iterators : (join : Joins) (u : Program) (m : Cells) (q : Moment) → Begins join u m q → AreIterators q.around q.frame.iters
moment_iterators join u m q begins =
    reaches_in_iters join (source_context u) AreIterators (goes_inside join (source_context u)) q u.body [] [] 0 _ m begins (λ bounded. (tt, tt))

-- the law of moments
pub moment_taken : (join : Joins) (u : Program) (m : Cells) (q : Moment) → IsWellMade u → Begins join u m q → AreTheirs q.around q.frame.iters
moment_taken join u m q well_made begins = moment_iterators join u m q begins (moment_bounded join u m q well_made begins).0

-- of runnings
pub running_bounded : (join : Joins) (u : Program) (m : Cells) (r : Running) → IsWellMade u → ComesTo join u m r → HasBoundsAround as_marked (moment r)
running_bounded join u m r = moment_bounded join u m (moment r)

pub running_iterators : (join : Joins) (u : Program) (m : Cells) (r : Running) → ComesTo join u m r → AreIterators r.around r.frame.iters
running_iterators join u m r = moment_iterators join u m (moment r)
