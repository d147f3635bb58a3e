-- Loops where they stand in a well made unit: what they name is there, they keep the limits, and the ranges of the loops around them are
-- few and small.
use Rattle.std.proofs.Common.{◌≡◌, refl, ap, sym, ◌∙◌, subst, arith, ℕ, suc, ◌+◌, ◌<◌, ◌≤◌, Bool, true, false, ◌&&◌, not, List, [], ◌∷◌, ◌++◌, map, length, length-append}
use Rattle.std.proofs.lemmas.Bool.{and_parts}
use Rattle.std.proofs.lemmas.Bool.Decides.{nat_tests}
use Rattle.species_ast.specs.declared.tree.Stmt.{Stmt}
use Rattle.species_ast.specs.declared.tree.Stmt.TheOpen.{Loop-F}
use Rattle.species_ast.specs.declared.tree.Stmt.TheVariants as stmt
use Rattle.species_ast.specs.declared.tree.Loop.{Loop, out-Loop, roll-Loop}
use Rattle.species_ast.specs.declared.tree.Unit.{Unit as Program}
use Rattle.species_ast.specs.Scope.Hulls.{Range, range_of}
use Rattle.species_ast.specs.Scope.Limits.{is_too_deep}
use Rattle.species_ast.specs.Scope.Loops.{Nesting, entered, Standing, numbered, standing_in, PlacedLoop, Placing, list_loops, loops_in, outside_loops, placed_loops}
use Rattle.species_ast.specs.Scope.Nests.{Bounds, front_with, only_loops, front_step, front_layer, front_of}
use Rattle.species_ast.specs.Scope.WellMade.{Around, Made, made, made_at, made_loop, list_holds, list_keeps, is_made, fronts_of, head_holds, head_keeps, outermost, IsWellMade}
use Rattle.species_ast.proofs.Folds.{fold_stmt-Assign, fold_stmt-AddTo, fold_stmt-Declare, fold_stmt-SetLocal, fold_stmt-If, fold_stmt-For, fold_stmt-Block, fold_loop, fold_loop-out}
use Rattle.species_ast.proofs.Induction.{Each, each_all, stmt_ind}
use Rattle.species_occurrences.proofs.PositionLaws.{each_append, loops_in-Assign, loops_in-AddTo, loops_in-Declare, loops_in-SetLocal, loops_in-If, loops_in-For, loops_in-Block}
use Rattle.species_loops.specs.Bands.{front_in}
use Rattle.species_ranges.specs.Fitting.{fits_at, fits_within, fits_in, fits_in_loop}
use Rattle.species_ranges.proofs.KeepLaws.{keeps_head, keeps_fits}
use Rattle.species_ranges.proofs.OutermostLaws.{each_contains}
use Rattle.species_classify.specs.Places.{StandsIn}
use Rattle.species_classify.proofs.SoundLemmas.{IsSound, sound_head}

-- a place among the arrays of a unit, in so many loops, whose ranges are small
pub record IsInside (u : Program) (w : Around) (n : Nesting) : Type 0 where
  pub arrays : w.arrays ≡ u.arrays
  pub level : w.level ≡ length n.path
  pub levels : n.level ≡ length n.path
  pub sound : Each IsSound n.path

-- a loop there
pub record IsThere (u : Program) (l : PlacedLoop) : Type 0 where
  pub around : Around
  pub inside : IsInside u around l.stands.around
  pub holds : (made (stmt.For l.head)).holds around ≡ true
  pub keeps : (made (stmt.For l.head)).keeps l.stands.around ≡ true

abbrev GoesThere : Program → Stmt → Type 0
GoesThere u x = (w : Around) (s : Standing) → IsInside u w s.around → (made x).holds w ≡ true → (made x).keeps s.around ≡ true → Each (IsThere u) (loops_in x s)

declared : (u : Program) (w : Around) (n : Nesting) (locals : List ℕ) → IsInside u w n → IsInside u (record w { locals = locals }) n
declared u w n locals at = record { arrays = at.arrays; level = at.level; levels = at.levels; sound = at.sound }

list_there : (u : Program) (xs : List Stmt) → Each (GoesThere u) xs → (w : Around) (s : Standing) (k : ℕ) → IsInside u w s.around → list_holds (map made xs) w ≡ true → list_keeps (map made xs) s.around ≡ true
    → Each (IsThere u) (list_loops (map loops_in xs) s k)
list_there u [] h w s k at holds keeps = tt
list_there u (x ∷ xs) h w s k at holds keeps =
    let locals = (made x).declares ++ w.locals in
    let p = and_parts ((made x).holds w) (list_holds (map made xs) (record w { locals = locals })) holds in
    let q = and_parts ((made x).keeps s.around) (list_keeps (map made xs) s.around) keeps in
    each_append (IsThere u) (loops_in x (numbered s k)) (list_loops (map loops_in xs) s (suc k)) (h.0 w (numbered s k) at p.0 q.0)
    (list_there u xs h.1 (record w { locals = locals }) s (suc k) (declared u w s.around locals at) p.1 q.1)

from_loops : (u : Program) (x : Stmt) (k : Placing) → loops_in x ≡ k
    → ((w : Around) (s : Standing) → IsInside u w s.around → (made x).holds w ≡ true → (made x).keeps s.around ≡ true → Each (IsThere u) (k s)) → GoesThere u x
from_loops u x k e h = λ w s at holds keeps. subst (λ (z : Placing). Each (IsThere u) (z s)) (sym e) (h w s at holds keeps)

entered_inside : (u : Program) (w : Around) (n : Nesting) (l : Loop-F Stmt Loop) → IsInside u w n → IsSound (range_of n.path l) → IsInside u (record w { level = suc w.level }) (entered l n)
entered_inside u w n l at own =
    let longer : length (n.path ++ range_of n.path l ∷ []) ≡ length n.path + 1 = length-append n.path (range_of n.path l ∷ []) in
    record {
      arrays = at.arrays;
      level = omega (arith, longer, at.level);
      levels = omega (arith, longer, at.levels);
      sound = each_append IsSound n.path (range_of n.path l ∷ []) at.sound (own, tt);
    }

goes_there : (u : Program) (x : Stmt) → GoesThere u x
goes_there u = stmt_ind (GoesThere u) (record {
  assign = λ place a subs value. from_loops u _ _ (loops_in-Assign place a subs value) (λ w s at holds keeps. tt);
  add_to = λ place a subs value atomic. from_loops u _ _ (loops_in-AddTo place a subs value atomic) (λ w s at holds keeps. tt);
  declare = λ place n init. from_loops u _ _ (loops_in-Declare place n init) (λ w s at holds keeps. tt);
  set_local = λ place n value. from_loops u _ _ (loops_in-SetLocal place n value) (λ w s at holds keeps. tt);
  choice = λ place test body otherwise p q. from_loops u _ _ (loops_in-If place test body otherwise) (λ w s at holds keeps.
      let opened : made (stmt.If place test body otherwise) ≡ _ = fold_stmt-If made_at made_loop place test body otherwise in
      let all : (is_made w test && (list_holds (map made body) w && list_holds (map made otherwise) w)) ≡ true = sym (ap (λ (m : Made). m.holds w) opened) ∙ holds in
      let lists = (and_parts (is_made w test) (list_holds (map made body) w && list_holds (map made otherwise) w) all).1 in
      let parts = and_parts (list_holds (map made body) w) (list_holds (map made otherwise) w) lists in
      let limits : (list_keeps (map made body) s.around && list_keeps (map made otherwise) s.around) ≡ true = sym (ap (λ (m : Made). m.keeps s.around) opened) ∙ keeps in
      let kept = and_parts (list_keeps (map made body) s.around) (list_keeps (map made otherwise) s.around) limits in
      each_append (IsThere u) _ _ (list_there u body p w s 0 at parts.0 kept.0) (list_there u otherwise q w s (length body) at parts.1 kept.1));
  loop = λ l p. from_loops u _ _ (loops_in-For l) (λ w s at holds keeps.
      let next = record w { level = suc w.level } in
      let all : (head_holds l w && list_holds (map made l.body) next) ≡ true = sym (ap (λ (m : Made). m.holds w) (fold_stmt-For made_at made_loop (roll-Loop l) ∙ fold_loop made_at made_loop l)) ∙ holds in
      let parts = and_parts (head_holds l w) (list_holds (map made l.body) next) all in
      let kept = keeps_head l s.around keeps in (
        record { around = w; inside = at; holds = holds; keeps = keeps },
        list_there u l.body p next (standing_in l s) 0 (entered_inside u w s.around l at (sound_head l w s.around parts.0 kept)) parts.1 kept.inner,
      ));
  block = λ body p. from_loops u _ _ (loops_in-Block body) (λ w s at holds keeps.
      let opened : made (stmt.Block body) ≡ _ = fold_stmt-Block made_at made_loop body in
      list_there u body p w s 0 at (sym (ap (λ (m : Made). m.holds w) opened) ∙ holds) (sym (ap (λ (m : Made). m.keeps s.around) opened) ∙ keeps));
})

-- each loop of a well made unit is there
pub unit_there : (u : Program) → IsWellMade u → Each (IsThere u) (placed_loops u)
unit_there u well = list_there u u.body (each_all (GoesThere u) (goes_there u) u.body) (outermost u) outside_loops 0 (record { arrays = refl; level = refl; levels = refl; sound = tt }) well.body well.limits

-- ---- a loop that stands in a unit

pub record StandsWell (u : Program) (head : Loop) (path : List Range) : Type 0 where
  pub around : Around
  pub nesting : Nesting
  pub ranges : nesting.path ≡ path
  pub arrays : around.arrays ≡ u.arrays
  pub level : around.level ≡ length path
  pub levels : nesting.level ≡ length path
  pub short : length path ≤ 8
  pub sound : Each IsSound path
  pub holds : (made (stmt.For head)).holds around ≡ true
  pub keeps : (made (stmt.For head)).keeps nesting ≡ true

few_levels : (level : ℕ) → is_too_deep level ≡ false → level < 8
few_levels level h = grind (arith, nat_tests, h)

not_true : (b : Bool) → not b ≡ true → b ≡ false
not_true true e = absurd cc
not_true false e = refl

loop_shallow : (head : Loop) (n : Nesting) → (made (stmt.For head)).keeps n ≡ true → n.level < 8
loop_shallow head n h =
    let l = out-Loop head in
    let front = front_with l.start l.limit (fronts_of (map made l.body)) in
    let whole : (head_keeps front l n && list_keeps (map made l.body) (entered l n)) ≡ true =
    sym (ap (λ (m : Made). m.keeps n) (fold_stmt-For made_at made_loop head ∙ fold_loop-out made_at made_loop head)) ∙ h in
    let own = (and_parts (head_keeps front l n) (list_keeps (map made l.body) (entered l n)) whole).0 in
    few_levels n.level (not_true (is_too_deep n.level) (and_parts (not (is_too_deep n.level)) _ own).0)

pub stands_well : (u : Program) (head : Loop) (path : List Range) → IsWellMade u → StandsIn u head path → StandsWell u head path
stands_well u head path well stands =
    let there = each_contains (IsThere u) (placed_loops u) (unit_there u well) stands.placed stands.there in
    let n = stands.placed.stands.around in
    let same : length n.path ≡ length path = ap length stands.path in
    let keeps = subst (λ (l : Loop). (made (stmt.For l)).keeps n ≡ true) stands.loop there.keeps in
    record {
      around = there.around;
      nesting = n;
      ranges = stands.path;
      arrays = there.inside.arrays;
      level = there.inside.level ∙ same;
      levels = there.inside.levels ∙ same;
      short = omega (arith, loop_shallow head n keeps, there.inside.levels, same);
      sound = subst (Each IsSound) stands.path there.inside.sound;
      holds = subst (λ (l : Loop). (made (stmt.For l)).holds there.around ≡ true) stands.loop there.holds;
      keeps = keeps;
    }

-- it fits there, and so do the loops in it
pub stands_fits : (u : Program) (head : Loop) (path : List Range) → IsWellMade u → StandsIn u head path → fits_in_loop head path ≡ true
stands_fits u head path well stands =
    let here = stands_well u head path well stands in
    let n = here.nesting in
    let level : n.level ≡ length n.path = here.levels ∙ sym (ap length here.ranges) in
    let fits : fits_in (stmt.For head) n.path ≡ true = keeps_fits (stmt.For head) n level here.keeps in
    subst (λ p. fits_in_loop head p ≡ true) here.ranges (sym (ap (λ k. k n.path) (fold_stmt-For fits_at fits_within head)) ∙ fits)

-- ---- at most 8 loops stand one in the other

abbrev KeepsShort : Stmt → Type 0
KeepsShort x = (n : Nesting) → n.level ≤ 8 → (made x).keeps n ≡ true → n.level + length (front_in x) ≤ 8

short_none : (x : Stmt) → front_in x ≡ [] → KeepsShort x
short_none x none n at keeps = omega (arith, at, ap length none)

list_short : (xs : List Stmt) → Each KeepsShort xs → (n : Nesting) → n.level ≤ 8 → list_keeps (map made xs) n ≡ true → n.level + length (only_loops (map front_in xs)) ≤ 8
list_short [] h n at keeps = omega (arith, at)
list_short (x ∷ []) h n at keeps = h.0 n at (and_parts ((made x).keeps n) true keeps).0
list_short (x ∷ y ∷ xs) h n at keeps = omega (arith, at)

keeps_short : (x : Stmt) → KeepsShort x
keeps_short = stmt_ind KeepsShort (record {
  assign = λ place a subs value. short_none _ (fold_stmt-Assign front_step front_layer place a subs value);
  add_to = λ place a subs value atomic. short_none _ (fold_stmt-AddTo front_step front_layer place a subs value atomic);
  declare = λ place x init. short_none _ (fold_stmt-Declare front_step front_layer place x init);
  set_local = λ place x value. short_none _ (fold_stmt-SetLocal front_step front_layer place x value);
  choice = λ place test body otherwise p q. short_none _ (fold_stmt-If front_step front_layer place test body otherwise);
  loop = λ l p n at keeps.
      let kept = keeps_head l n keeps in
      let few : n.level < 8 = few_levels n.level kept.shallow in
      let inner : suc n.level + length (only_loops (map front_in l.body)) ≤ 8 = list_short l.body p (entered l n) (omega (arith, few)) kept.inner in
      let loops : front_in (stmt.For (roll-Loop l)) ≡ _ = fold_stmt-For front_step front_layer (roll-Loop l) ∙ fold_loop front_step front_layer l in
      omega (arith, inner, ap length loops);
  block = λ body p n at keeps.
      let opened : list_keeps (map made body) n ≡ true = sym (ap (λ (m : Made). m.keeps n) (fold_stmt-Block made_at made_loop body)) ∙ keeps in
      subst (λ (bs : List Bounds). n.level + length bs ≤ 8) (sym (fold_stmt-Block front_step front_layer body)) (list_short body p n at opened);
})

pub stands_shallow : (u : Program) (head : Loop) (path : List Range) → IsWellMade u → StandsIn u head path → length path + length (front_of head) ≤ 8
stands_shallow u head path well stands =
    let here = stands_well u head path well stands in
    let few = keeps_short (stmt.For head) here.nesting (omega (arith, here.levels, here.short)) here.keeps in
    omega (arith, few, here.levels, ap length (fold_stmt-For front_step front_layer head))
