-- In a well made unit a marked nest has as many loops as its mark is deep.
use Rattle.std.proofs.Common.{◌≡◌, refl, ap, sym, ◌∙◌, subst, arith, ℕ, zero, suc, ◌-◌, ◌≤◌, Bool, true, false, ◌&&◌, ◌||◌, not, List, [], ◌∷◌, ◌++◌, map, length}
use Rattle.std.specs.Prelude.{nat_le}
use Rattle.std.specs.List.{Contains, list_all}
use Rattle.std.proofs.lemmas.Bool.{and_parts}
use Rattle.std.proofs.lemmas.Bool.Decides.{nat_tests}
use Rattle.species_ast.specs.declared.tree.Loop.{Loop, roll-Loop, out-Loop}
use Rattle.species_ast.specs.declared.tree.Mark.TheVariants.{Parallel}
use Rattle.species_ast.specs.declared.tree.Schedule.{Schedule}
use Rattle.species_ast.specs.declared.tree.Stmt.{Stmt}
use Rattle.species_ast.specs.declared.tree.Stmt.TheVariants as stmt
use Rattle.species_ast.specs.declared.tree.Unit.{Unit as Program}
use Rattle.species_ast.specs.Scope.Hulls.{passes_hull}
use Rattle.species_ast.specs.Scope.Limits.{is_too_deep, is_too_far}
use Rattle.species_ast.specs.Scope.Loops.{PlacedLoop, placed_loops}
use Rattle.species_ast.specs.Scope.Magnitudes.{passes_bound}
use Rattle.species_ast.specs.Scope.Nests.{front_of, is_unfit, is_bad_mark}
use Rattle.species_ast.specs.Scope.WellMade.{Around, list_holds, made, made_at, made_loop, has_depth, is_made_bound, outermost, IsWellMade}
use Rattle.species_ast.proofs.Folds.{fold_stmt-If, fold_stmt-For, fold_stmt-Block, fold_loop}
use Rattle.species_ast.proofs.Induction.{Each, each_all, stmt_ind}
use Rattle.species_ast.proofs.LimitLaws.{kept_unit}
use Rattle.species_ast.proofs.Paras.{para_stmt-Assign, para_stmt-AddTo, para_stmt-Declare, para_stmt-SetLocal}
use Rattle.species_nests.specs.Nests.{loops_at, loops_of, loops_in, nest_of}
use Rattle.species_nests.proofs.NestLaws.{body_loops, loops-Block, loops-If, loops-For}
use Rattle.species_occurrences.specs.Nesting.{MarkedNestsAreDeep, MarkedRunningsAreDeep}
use Rattle.species_occurrences.proofs.FrontLaws.{fitting_nests_are_deep}
use Rattle.species_occurrences.proofs.PositionLaws.{each_append}
use Rattle.species_occurrences.proofs.WalkLaws.{heads, placed_loops_are_loops, runnings_are_loops}

-- ---- no mark has the depth 0

abbrev HasDepth : Loop → Type 0
HasDepth l = has_depth (out-Loop l).mark ≡ true

abbrev HaveDepths : Stmt → Type 0
HaveDepths x = (w : Around) → (made x).holds w ≡ true → Each HasDepth (loops_of x)

list_depths : (xs : List Stmt) → Each HaveDepths xs → (w : Around) → list_holds (map made xs) w ≡ true → Each HasDepth (loops_in xs)
list_depths [] each w h = tt
list_depths (x ∷ xs) each w h =
    let next = record w { locals = (made x).declares ++ w.locals } in
    let both = and_parts ((made x).holds w) (list_holds (map made xs) next) h in
    each_append HasDepth (loops_of x) (loops_in xs) (each.0 w both.0) (list_depths xs each.1 next both.1)

no_depths : (x : Stmt) → loops_of x ≡ [] → HaveDepths x
no_depths x none w h = subst (Each HasDepth) (sym none) tt

have_depths : (x : Stmt) → HaveDepths x
have_depths = stmt_ind HaveDepths (record {
  assign = λ place a subs value. no_depths (stmt.Assign place a subs value) (para_stmt-Assign loops_at body_loops place a subs value);
  add_to = λ place a subs value atomic. no_depths (stmt.AddTo place a subs value atomic) (para_stmt-AddTo loops_at body_loops place a subs value atomic);
  declare = λ place x init. no_depths (stmt.Declare place x init) (para_stmt-Declare loops_at body_loops place x init);
  set_local = λ place x value. no_depths (stmt.SetLocal place x value) (para_stmt-SetLocal loops_at body_loops place x value);
  choice = λ place test body otherwise p q w h.
      let all = ap (λ m. m.holds w) (sym (fold_stmt-If made_at made_loop place test body otherwise)) ∙ h in
      let two = (and_parts _ (list_holds (map made body) w && list_holds (map made otherwise) w) all).1 in
      let both = and_parts (list_holds (map made body) w) (list_holds (map made otherwise) w) two in
      subst (Each HasDepth) (sym (loops-If place test body otherwise))
      (each_append HasDepth (loops_in body) (loops_in otherwise) (list_depths body p w both.0) (list_depths otherwise q w both.1));
  loop = λ l p w h.
      let all = ap (λ m. m.holds w) (sym (fold_stmt-For made_at made_loop (roll-Loop l) ∙ fold_loop made_at made_loop l)) ∙ h in
      let parts = and_parts _ (list_holds (map made l.body) (record w { level = suc w.level })) all in
      let limit = (and_parts (is_made_bound w.level l.start) _ parts.0).1 in
      let step = (and_parts (is_made_bound w.level l.limit) _ limit).1 in
      let depth : has_depth l.mark ≡ true = (and_parts _ (has_depth l.mark) step).1 in
      subst (Each HasDepth) (sym (loops-For l)) (depth, list_depths l.body p (record w { level = suc w.level }) parts.1);
  block = λ body p w h. subst (Each HasDepth) (sym (loops-Block body)) (list_depths body p w (ap (λ m. m.holds w) (sym (fold_stmt-Block made_at made_loop body)) ∙ h));
})

-- ---- marks fit

-- the mark fits, at some level
abbrev Fits : Loop → Type 0
Fits l = (inside : Bool) × (level : ℕ) × (is_bad_mark inside level (out-Loop l).mark (front_of l) ≡ false)

negated : (b : Bool) → not b ≡ true → b ≡ false
negated true h = absurd cc
negated false h = refl

all_fit : (fits : PlacedLoop → Bool) (xs : List PlacedLoop) → ((x : PlacedLoop) → fits x ≡ true → Fits x.head) → list_all fits xs ≡ true → Each Fits (heads xs)
all_fit fits [] each h = tt
all_fit fits (x ∷ xs) each h = let both = and_parts (fits x) (list_all fits xs) h in (each x both.0, all_fit fits xs each both.1)

unit_fits : (u : Program) → IsWellMade u → Each Fits (loops_in u.body)
unit_fits u made_well =
    subst (Each Fits) (placed_loops_are_loops u)
    (all_fit _ (placed_loops u)
    (λ x h.
    let far = (and_parts (not (is_too_deep x.stands.around.level)) _ h).1 in
    let hull = (and_parts (not (is_too_far (out-Loop x.head).step)) _ far).1 in
    let bound = (and_parts (not (not x.stands.passed && passes_hull x.stands.around.path (out-Loop x.head))) _ hull).1 in
    let mark = (and_parts (not (not x.stands.passed && passes_bound x.stands.around.path (out-Loop x.head))) _ bound).1 in
    (x.stands.around.in_nest, x.stands.around.level, negated (is_bad_mark x.stands.around.in_nest x.stands.around.level (out-Loop x.head).mark (front_of x.head)) mark))
    (kept_unit u ∙ made_well.limits))

-- ---- marked nests

either : (a b : Bool) → (a || b) ≡ false → b ≡ false
either true b h = absurd cc
either false b h = h

at_least_one : (n : ℕ) → nat_le 1 n ≡ true → 1 ≤ n
at_least_one n h = grind (arith, nat_tests, h)

-- wherever the loop stands
abbrev pub IsDeep : Loop → Type 0
IsDeep l = (depth : ℕ) (schedule : Schedule) (at : List ℕ) → (out-Loop l).mark ≡ Parallel depth schedule → length (nest_of (depth - 1) l at).loops ≡ depth

is_deep : (l : Loop) → HasDepth l → Fits l → IsDeep l
is_deep l some fits depth schedule at marked =
    let one : 1 ≤ depth = at_least_one depth (ap has_depth (sym marked) ∙ some) in
    let bad : is_bad_mark fits.0 fits.1 (Parallel depth schedule) (front_of l) ≡ false = ap (λ m. is_bad_mark fits.0 fits.1 m (front_of l)) (sym marked) ∙ fits.2 in
    fitting_nests_are_deep fits.1 depth schedule l at one (either (fits.0 && true) (is_unfit fits.1 (Parallel depth schedule) (front_of l)) bad)

each_deep : (ls : List Loop) → Each HasDepth ls → Each Fits ls → Each IsDeep ls
each_deep [] some fit = tt
each_deep (l ∷ ls) some fit = (is_deep l some.0 fit.0, each_deep ls some.1 fit.1)

-- each loop of the unit
pub unit_deep : (u : Program) → IsWellMade u → Each IsDeep (loops_in u.body)
unit_deep u made_well =
    each_deep (loops_in u.body) (list_depths u.body (each_all HaveDepths have_depths u.body) (outermost u) made_well.body) (unit_fits u made_well)

each_contains : {X : Type 0} (P : X → Type 0) (xs : List X) → Each P xs → (x : X) → Contains xs x → P x
each_contains P [] h x c = let below = c.1 in absurd (omega (arith, below))
each_contains P (y ∷ xs) h x (zero, below, is) = subst P is h.0
each_contains P (y ∷ xs) h x (suc k, below, is) = each_contains P xs h.1 x (k, omega (arith, below), is)

-- A marked nest has as many loops as its mark is deep.
pub marked_nests_are_deep : MarkedNestsAreDeep
marked_nests_are_deep u l depth schedule at made_well there marked = each_contains IsDeep (loops_in u.body) (unit_deep u made_well) l there depth schedule at marked

-- So has one to which a run comes.
pub marked_runnings_are_deep : MarkedRunningsAreDeep
marked_runnings_are_deep join u m r depth schedule made_well comes marked = marked_nests_are_deep u r.loop depth schedule r.at made_well (runnings_are_loops join u m r comes) marked
