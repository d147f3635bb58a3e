-- In a well made unit each loop keeps the limits, wherever it stands, and so do the loops in it: it fits.
use Rattle.std.proofs.Common.{◌≡◌, refl, ap, sym, ◌∙◌, subst, arith, ℕ, zero, suc, ◌+◌, ◌<◌, Bool, true, false, ◌&&◌, not, nat_lt, List, [], ◌∷◌, ◌++◌, map, length, length-append, Option}
use Rattle.std.specs.List.{flat_map}
use Rattle.std.proofs.lemmas.Bool.{and_parts}
use Rattle.std.proofs.lemmas.Bool.Decides.{nat_tests}
use Rattle.species_ast.specs.declared.tree.Expr.{Expr}
use Rattle.species_ast.specs.declared.tree.Stmt.{Stmt}
use Rattle.species_ast.specs.declared.tree.Stmt.TheOpen.{Loop-F}
use Rattle.species_ast.specs.declared.tree.Stmt.TheVariants as stmt
use Rattle.species_ast.specs.declared.tree.Loop.{Loop, roll-Loop}
use Rattle.species_ast.specs.declared.tree.Unit.{Unit as Program}
use Rattle.species_ast.specs.Scope.Hulls.{Range, range_of, passes_hull}
use Rattle.species_ast.specs.Scope.Limits.{is_too_deep, is_too_far}
use Rattle.species_ast.specs.Scope.Loops.{Nesting, no_loops, entered, Standing, numbered, standing_in, PlacedLoop, Placing, list_loops, loops_in, outside_loops, placed_loops, outermost_at, outermost_in, outermost_loops}
use Rattle.species_ast.specs.Scope.Nests.{Bounds, front_with}
use Rattle.species_ast.specs.Scope.WellMade.{Made, made, made_at, made_loop, list_keeps, fronts_of, head_keeps, IsWellMade}
use Rattle.species_ast.proofs.Folds.{fold_stmt-Assign, fold_stmt-AddTo, fold_stmt-Declare, fold_stmt-SetLocal, fold_stmt-If, fold_stmt-For, fold_stmt-Block, fold_loop}
use Rattle.species_ast.proofs.Induction.{Each, each_all, stmt_ind}
use Rattle.species_ast.proofs.Paras.{para_stmt-Assign, para_stmt-AddTo, para_stmt-Declare, para_stmt-SetLocal}
use Rattle.species_occurrences.proofs.PositionLaws.{each_append, each_weaker, loops_in-Assign, loops_in-AddTo, loops_in-Declare, loops_in-SetLocal, loops_in-If, loops_in-For, loops_in-Block}
use Rattle.species_references.proofs.TurnLaws.{each_to_all}
use Rattle.species_ranges.specs.Fitting.{fits_at, fits_within, fits_in, fits_in_list, fits_in_loop, list_fits}
use Rattle.species_ranges.specs.Law.{FitsThere, LoopsFit, OutermostLoopsFit}
use Rattle.species_ranges.proofs.OutermostLaws.{outermost-If, outermost-For, outermost-Block}

-- ---- one loop

-- as many levels as ranges
abbrev IsLevel : Nesting → Type 0
IsLevel n = n.level ≡ length n.path

-- the limits that a loop keeps: Loops, Step and Hull, and those of the loops in it
pub record KeepsHead (l : Loop-F Stmt Loop) (n : Nesting) : Type 0 where
  pub shallow : is_too_deep n.level ≡ false
  pub near : is_too_far l.step ≡ false
  pub hull : passes_hull n.path l ≡ false
  pub inner : list_keeps (map made l.body) (entered l n) ≡ true

first_three : (a b c d : Bool) → (not a && (not b && (not c && d))) ≡ true → (a ≡ false) × (b ≡ false) × (c ≡ false)
first_three true b c d h = absurd cc
first_three false true c d h = absurd cc
first_three false false true d h = absurd cc
first_three false false false d h = (refl, refl, refl)

pub keeps_head : (l : Loop-F Stmt Loop) (n : Nesting) → (made (stmt.For (roll-Loop l))).keeps n ≡ true → KeepsHead l n
keeps_head l n h =
    let front = front_with l.start l.limit (fronts_of (map made l.body)) in
    let opened : made (stmt.For (roll-Loop l)) ≡ _ = fold_stmt-For made_at made_loop (roll-Loop l) ∙ fold_loop made_at made_loop l in
    let whole : (head_keeps front l n && list_keeps (map made l.body) (entered l n)) ≡ true = sym (ap (λ (m : Made). m.keeps n) opened) ∙ h in
    let parts = and_parts (head_keeps front l n) (list_keeps (map made l.body) (entered l n)) whole in
    let limits = first_three (is_too_deep n.level) (is_too_far l.step) (passes_hull n.path l) _ parts.0 in
    record { shallow = limits.0; near = limits.1; hull = limits.2; inner = parts.1 }

level_entered : (l : Loop-F Stmt Loop) (n : Nesting) → IsLevel n → IsLevel (entered l n)
level_entered l n level = omega (arith, level, length-append n.path (range_of n.path l ∷ []))

-- ---- loops that keep the limits fit

abbrev KeepsFits : Stmt → Type 0
KeepsFits x = (n : Nesting) → IsLevel n → (made x).keeps n ≡ true → fits_in x n.path ≡ true

both_true : (a b : Bool) → a ≡ true → b ≡ true → (a && b) ≡ true
both_true true b h k = k
both_true false b h k = absurd cc

list_fit : (xs : List Stmt) → Each KeepsFits xs → (n : Nesting) → IsLevel n → list_keeps (map made xs) n ≡ true → list_fits (map fits_in xs) n.path ≡ true
list_fit [] h n level k = refl
list_fit (x ∷ xs) h n level k =
    let parts = and_parts ((made x).keeps n) (list_keeps (map made xs) n) k in
    both_true (fits_in x n.path) (list_fits (map fits_in xs) n.path) (h.0 n level parts.0) (list_fit xs h.1 n level parts.1)

fit_loop : (l : Loop-F Stmt Loop) → Each KeepsFits l.body → (n : Nesting) → IsLevel n → KeepsHead l n
    → (nat_lt (length n.path) 16 && (not (passes_hull n.path l) && list_fits (map fits_in l.body) (n.path ++ range_of n.path l ∷ []))) ≡ true
fit_loop l h n level keeps =
    let few : n.level < 8 = grind (arith, nat_tests, keeps.shallow) in
    let short : nat_lt (length n.path) 16 ≡ true = grind (arith, nat_tests, few, level) in
    both_true (nat_lt (length n.path) 16) (not (passes_hull n.path l) && list_fits (map fits_in l.body) (n.path ++ range_of n.path l ∷ [])) short
    (both_true (not (passes_hull n.path l)) (list_fits (map fits_in l.body) (n.path ++ range_of n.path l ∷ [])) (ap not keeps.hull)
    (list_fit l.body h (entered l n) (level_entered l n level) keeps.inner))

pub keeps_fits : (x : Stmt) → KeepsFits x
keeps_fits = stmt_ind KeepsFits (record {
  assign = λ place a subs value n level h. ap (λ k. k n.path) (fold_stmt-Assign fits_at fits_within place a subs value);
  add_to = λ place a subs value atomic n level h. ap (λ k. k n.path) (fold_stmt-AddTo fits_at fits_within place a subs value atomic);
  declare = λ place x init n level h. ap (λ k. k n.path) (fold_stmt-Declare fits_at fits_within place x init);
  set_local = λ place x value n level h. ap (λ k. k n.path) (fold_stmt-SetLocal fits_at fits_within place x value);
  choice = λ place test body otherwise p q n level h.
      let keeps : (list_keeps (map made body) n && list_keeps (map made otherwise) n) ≡ true = sym (ap (λ (m : Made). m.keeps n) (fold_stmt-If made_at made_loop place test body otherwise)) ∙ h in
      let parts = and_parts (list_keeps (map made body) n) (list_keeps (map made otherwise) n) keeps in
      ap (λ k. k n.path) (fold_stmt-If fits_at fits_within place test body otherwise)
      ∙ both_true (list_fits (map fits_in body) n.path) (list_fits (map fits_in otherwise) n.path) (list_fit body p n level parts.0) (list_fit otherwise q n level parts.1);
  loop = λ l p n level h.
      ap (λ k. k n.path) (fold_stmt-For fits_at fits_within (roll-Loop l) ∙ fold_loop fits_at fits_within l) ∙ fit_loop l p n level (keeps_head l n h);
  block = λ body p n level h.
      let keeps : list_keeps (map made body) n ≡ true = sym (ap (λ (m : Made). m.keeps n) (fold_stmt-Block made_at made_loop body)) ∙ h in
      ap (λ k. k n.path) (fold_stmt-Block fits_at fits_within body) ∙ list_fit body p n level keeps;
})

-- ---- loops where they stand

-- the loop keeps the limits there
abbrev pub KeepsThere : PlacedLoop → Type 0
KeepsThere l = IsLevel l.stands.around × ((made (stmt.For l.head)).keeps l.stands.around ≡ true)

abbrev KeepsInward : Stmt → Type 0
KeepsInward x = (s : Standing) → IsLevel s.around → (made x).keeps s.around ≡ true → Each KeepsThere (loops_in x s)

list_inward : (xs : List Stmt) → Each KeepsInward xs → (s : Standing) (k : ℕ) → IsLevel s.around → list_keeps (map made xs) s.around ≡ true → Each KeepsThere (list_loops (map loops_in xs) s k)
list_inward [] h s k level keeps = tt
list_inward (x ∷ xs) h s k level keeps =
    let parts = and_parts ((made x).keeps s.around) (list_keeps (map made xs) s.around) keeps in
    each_append KeepsThere (loops_in x (numbered s k)) (list_loops (map loops_in xs) s (suc k)) (h.0 (numbered s k) level parts.0) (list_inward xs h.1 s (suc k) level parts.1)

from_loops : (x : Stmt) (k : Placing) → loops_in x ≡ k → ((s : Standing) → IsLevel s.around → (made x).keeps s.around ≡ true → Each KeepsThere (k s)) → KeepsInward x
from_loops x k e h = λ s level keeps. subst (λ (z : Placing). Each KeepsThere (z s)) (sym e) (h s level keeps)

keeps_inward : (x : Stmt) → KeepsInward x
keeps_inward = stmt_ind KeepsInward (record {
  assign = λ place a subs value. from_loops _ _ (loops_in-Assign place a subs value) (λ s level h. tt);
  add_to = λ place a subs value atomic. from_loops _ _ (loops_in-AddTo place a subs value atomic) (λ s level h. tt);
  declare = λ place n init. from_loops _ _ (loops_in-Declare place n init) (λ s level h. tt);
  set_local = λ place n value. from_loops _ _ (loops_in-SetLocal place n value) (λ s level h. tt);
  choice = λ place test body otherwise p q. from_loops _ _ (loops_in-If place test body otherwise) (λ s level h.
      let keeps : (list_keeps (map made body) s.around && list_keeps (map made otherwise) s.around) ≡ true = sym (ap (λ (m : Made). m.keeps s.around) (fold_stmt-If made_at made_loop place test body otherwise)) ∙ h in
      let parts = and_parts (list_keeps (map made body) s.around) (list_keeps (map made otherwise) s.around) keeps in
      each_append KeepsThere _ _ (list_inward body p s 0 level parts.0) (list_inward otherwise q s (length body) level parts.1));
  loop = λ l p. from_loops _ _ (loops_in-For l) (λ s level h.
      let head = keeps_head l s.around h in
      ((level, h), list_inward l.body p (standing_in l s) 0 (level_entered l s.around level) head.inner));
  block = λ body p. from_loops _ _ (loops_in-Block body) (λ s level h.
      let keeps : list_keeps (map made body) s.around ≡ true = sym (ap (λ (m : Made). m.keeps s.around) (fold_stmt-Block made_at made_loop body)) ∙ h in
      list_inward body p s 0 level keeps);
})

-- each loop of a well made unit does
pub unit_keeps : (u : Program) → IsWellMade u → Each KeepsThere (placed_loops u)
unit_keeps u well = list_inward u.body (each_all KeepsInward keeps_inward u.body) outside_loops 0 refl well.limits

-- ---- loops that stand in no other

-- the loop keeps the limits in these loops
abbrev pub KeepsIn : Nesting → Loop → Type 0
KeepsIn n l = (made (stmt.For l)).keeps n ≡ true

abbrev KeepsOutermost : Stmt → Type 0
KeepsOutermost x = (n : Nesting) → (made x).keeps n ≡ true → Each (KeepsIn n) (outermost_in x)

list_outermost : (xs : List Stmt) → Each KeepsOutermost xs → (n : Nesting) → list_keeps (map made xs) n ≡ true → Each (KeepsIn n) (flat_map outermost_in xs)
list_outermost [] h n keeps = tt
list_outermost (x ∷ xs) h n keeps =
    let parts = and_parts ((made x).keeps n) (list_keeps (map made xs) n) keeps in
    each_append (KeepsIn n) (outermost_in x) (flat_map outermost_in xs) (h.0 n parts.0) (list_outermost xs h.1 n parts.1)

from_outermost : (x : Stmt) (ls : List Loop) → outermost_in x ≡ ls → ((n : Nesting) → (made x).keeps n ≡ true → Each (KeepsIn n) ls) → KeepsOutermost x
from_outermost x ls e h n keeps = subst (Each (KeepsIn n)) (sym e) (h n keeps)

keeps_outermost : (x : Stmt) → KeepsOutermost x
keeps_outermost = stmt_ind KeepsOutermost (record {
  assign = λ place a subs value. from_outermost _ [] (para_stmt-Assign outermost_at (λ l. []) place a subs value) (λ n h. tt);
  add_to = λ place a subs value atomic. from_outermost _ [] (para_stmt-AddTo outermost_at (λ l. []) place a subs value atomic) (λ n h. tt);
  declare = λ place x init. from_outermost _ [] (para_stmt-Declare outermost_at (λ l. []) place x init) (λ n h. tt);
  set_local = λ place x value. from_outermost _ [] (para_stmt-SetLocal outermost_at (λ l. []) place x value) (λ n h. tt);
  choice = λ place test body otherwise p q. from_outermost _ _ (outermost-If place test body otherwise) (λ n h.
      let keeps : (list_keeps (map made body) n && list_keeps (map made otherwise) n) ≡ true = sym (ap (λ (m : Made). m.keeps n) (fold_stmt-If made_at made_loop place test body otherwise)) ∙ h in
      let parts = and_parts (list_keeps (map made body) n) (list_keeps (map made otherwise) n) keeps in
      each_append (KeepsIn n) (flat_map outermost_in body) (flat_map outermost_in otherwise) (list_outermost body p n parts.0) (list_outermost otherwise q n parts.1));
  loop = λ l p. from_outermost _ (roll-Loop l ∷ []) (outermost-For (roll-Loop l)) (λ n h. (h, tt));
  block = λ body p. from_outermost _ _ (outermost-Block body) (λ n h.
      let keeps : list_keeps (map made body) n ≡ true = sym (ap (λ (m : Made). m.keeps n) (fold_stmt-Block made_at made_loop body)) ∙ h in
      list_outermost body p n keeps);
})

pub unit_outermost : (u : Program) → IsWellMade u → Each (KeepsIn no_loops) (outermost_loops u)
unit_outermost u well = list_outermost u.body (each_all KeepsOutermost keeps_outermost u.body) no_loops well.limits

-- ---- they fit

fits_there : (l : PlacedLoop) → KeepsThere l → FitsThere l
fits_there l h = sym (ap (λ k. k l.stands.around.path) (fold_stmt-For fits_at fits_within l.head)) ∙ keeps_fits (stmt.For l.head) l.stands.around h.0 h.1

pub fits_outermost : (l : Loop) → KeepsIn no_loops l → fits_in_loop l [] ≡ true
fits_outermost l h = sym (ap (λ k. k []) (fold_stmt-For fits_at fits_within l)) ∙ keeps_fits (stmt.For l) no_loops refl h

pub loops_fit : LoopsFit
loops_fit u well = each_to_all FitsThere (placed_loops u) (each_weaker KeepsThere FitsThere fits_there (placed_loops u) (unit_keeps u well))

pub outermost_fit : OutermostLoopsFit
outermost_fit u well = each_to_all (λ l. fits_in_loop l [] ≡ true) (outermost_loops u) (each_weaker (KeepsIn no_loops) (λ l. fits_in_loop l [] ≡ true) fits_outermost (outermost_loops u) (unit_outermost u well))
