-- The loops of a well made unit that stand in no other go from a constant to a constant, with small ends and a small step.
use Rattle.std.proofs.Common.{◌≡◌, refl, ap, sym, ◌∙◌, subst, arith, ℕ, ◌≤◌, Bool, true, false, ◌&&◌, if◌then◌else◌, List, [], ◌∷◌, ◌++◌, map, ℤ, Option, Some, None}
use Rattle.std.specs.Prelude.{nat_lt, is_some}
use Rattle.std.specs.Int.RustNames.{unsigned_abs}
use Rattle.std.specs.List.{list_all, flat_map, Contains}
use Rattle.std.proofs.lemmas.Bool.{and_parts}
use Rattle.std.proofs.lemmas.Bool.Decides.{nat_tests}
use Rattle.species_ast.specs.declared.tree.Expr.{Expr}
use Rattle.species_ast.specs.declared.tree.Loop.{Loop, roll-Loop, out-Loop, roll-out-Loop}
use Rattle.species_ast.specs.declared.tree.Stmt.{Stmt}
use Rattle.species_ast.specs.declared.tree.Stmt.TheVariants as stmt
use Rattle.species_ast.specs.declared.tree.Test.{Test}
use Rattle.species_ast.specs.declared.tree.Test.TheVariants.{Lt, Le, Gt, Ge}
use Rattle.species_ast.specs.declared.tree.Unit.{Unit as Program}
use Rattle.species_ast.specs.Scope.Forms.{Form, form_of, is_constant, iterators_in}
use Rattle.species_ast.specs.Scope.Hulls.{has_empty, bound_form, form_or_zero, last_form, fixed_range, no_range, wide_range, range_of}
use Rattle.species_ast.specs.Scope.Limits.{is_too_far}
use Rattle.species_ast.specs.Scope.Loops.{no_loops, outermost_at, outermost_in, outermost_loops}
use Rattle.species_ast.specs.Scope.WellMade.{Around, Made, made, made_at, made_loop, list_holds, head_holds, is_made, is_made_bound, outermost, IsWellMade}
use Rattle.species_ast.proofs.Folds.{fold_stmt-If, fold_stmt-For, fold_stmt-Block, fold_loop-out}
use Rattle.species_ast.proofs.Induction.{Each, each_all, stmt_ind}
use Rattle.species_ast.proofs.Paras.{para_stmt-Assign, para_stmt-AddTo, para_stmt-Declare, para_stmt-SetLocal}
use Rattle.species_merge.specs.Bounds.{range_ends, ends_by, ends_of}
use Rattle.species_occurrences.proofs.PositionLaws.{each_append}
use Rattle.species_ranges.proofs.KeepLaws.{keeps_head, unit_outermost}
use Rattle.species_ranges.proofs.OutermostLaws.{outermost-If, outermost-For, outermost-Block}
use Rattle.species_ranges.proofs.SmallLaws.{IsSmallRange, small_range}
use Rattle.species_truth.proofs.ConstantForms.{IsFixedForm, form_fixed}
use Rattle.species_truth.proofs.ListLemmas.{each_contains}

-- ---- what outermost loops name is there, outside all loops

-- in a place of this level
abbrev HoldsAt : ℕ → Loop → Type 0
HoldsAt level l = (w : Around) × (w.level ≡ level) × ((made (stmt.For l)).holds w ≡ true)

abbrev HoldsOutermost : Stmt → Type 0
HoldsOutermost x = (w : Around) → (made x).holds w ≡ true → Each (HoldsAt w.level) (outermost_in x)

list_outermost : (xs : List Stmt) → Each HoldsOutermost xs → (w : Around) → list_holds (map made xs) w ≡ true → Each (HoldsAt w.level) (flat_map outermost_in xs)
list_outermost [] h w holds = tt
list_outermost (x ∷ xs) h w holds =
    let next = record w { locals = (made x).declares ++ w.locals } in
    let parts = and_parts ((made x).holds w) (list_holds (map made xs) next) holds in
    each_append (HoldsAt w.level) (outermost_in x) (flat_map outermost_in xs) (h.0 w parts.0) (list_outermost xs h.1 next parts.1)

from_outermost : (x : Stmt) (ls : List Loop) → outermost_in x ≡ ls → ((w : Around) → (made x).holds w ≡ true → Each (HoldsAt w.level) ls) → HoldsOutermost x
from_outermost x ls e h w holds = subst (Each (HoldsAt w.level)) (sym e) (h w holds)

holds_outermost : (x : Stmt) → HoldsOutermost x
holds_outermost = stmt_ind HoldsOutermost (record {
  assign = λ place a subs value. from_outermost _ [] (para_stmt-Assign outermost_at (λ l. []) place a subs value) (λ w h. tt);
  add_to = λ place a subs value atomic. from_outermost _ [] (para_stmt-AddTo outermost_at (λ l. []) place a subs value atomic) (λ w h. tt);
  declare = λ place x init. from_outermost _ [] (para_stmt-Declare outermost_at (λ l. []) place x init) (λ w h. tt);
  set_local = λ place x value. from_outermost _ [] (para_stmt-SetLocal outermost_at (λ l. []) place x value) (λ w h. tt);
  choice = λ place test body otherwise p q. from_outermost _ _ (outermost-If place test body otherwise) (λ w h.
      let all : (is_made w test && (list_holds (map made body) w && list_holds (map made otherwise) w)) ≡ true = sym (ap (λ (m : Made). m.holds w) (fold_stmt-If made_at made_loop place test body otherwise)) ∙ h in
      let lists = and_parts (list_holds (map made body) w) (list_holds (map made otherwise) w) (and_parts (is_made w test) (list_holds (map made body) w && list_holds (map made otherwise) w) all).1 in
      each_append (HoldsAt w.level) (flat_map outermost_in body) (flat_map outermost_in otherwise) (list_outermost body p w lists.0) (list_outermost otherwise q w lists.1));
  loop = λ l p. from_outermost _ (roll-Loop l ∷ []) (outermost-For (roll-Loop l)) (λ w h. ((w, refl, h), tt));
  block = λ body p. from_outermost _ _ (outermost-Block body) (λ w h.
      let all : list_holds (map made body) w ≡ true = sym (ap (λ (m : Made). m.holds w) (fold_stmt-Block made_at made_loop body)) ∙ h in
      list_outermost body p w all);
})

unit_holds : (u : Program) → IsWellMade u → Each (HoldsAt 0) (outermost_loops u)
unit_holds u well = list_outermost u.body (each_all HoldsOutermost holds_outermost u.body) (outermost u) well.body

-- ---- constant bounds

fixed_or_zero : (o : Option Form) → IsFixedForm o → is_constant (form_or_zero o) ≡ true
fixed_or_zero (Some f) h = h
fixed_or_zero None h = refl

bound_constant : (x : Expr) → is_made_bound 0 x ≡ true → is_constant (bound_form x) ≡ true
bound_constant x h = fixed_or_zero (form_of x) (form_fixed x (and_parts (is_some (form_of x)) (list_all (λ i. nat_lt i 0) (iterators_in x)) h).1)

last_constant : (test : Test) (f : Form) → is_constant f ≡ true → is_constant (last_form test f) ≡ true
last_constant Lt f h = h
last_constant Le f h = h
last_constant Gt f h = h
last_constant Ge f h = h

-- ---- the law

-- the ends of a loop are those of its range, whatever the iterators around are
pub record HasConstantEnds (l : Loop) : Type 0 where
  pub ends : ends_of (out-Loop l) ≡ range_ends (range_of [] (out-Loop l))
  pub small : IsSmallRange (range_of [] (out-Loop l))
  pub step : unsigned_abs (out-Loop l).step ≤ 65536

near : (step : ℤ) → is_too_far step ≡ false → unsigned_abs step ≤ 65536
near step h = grind (arith, nat_tests, h)

constant_ends : (l : Loop) → HoldsAt 0 l → (made (stmt.For l)).keeps no_loops ≡ true → HasConstantEnds l
constant_ends l h keeps =
    let w = h.0 in
    let x = out-Loop l in
    let opened : made (stmt.For l) ≡ _ = fold_stmt-For made_at made_loop l ∙ fold_loop-out made_at made_loop l in
    let holds = and_parts (head_holds x w) _ (sym (ap (λ (m : Made). m.holds w) opened) ∙ h.2) in
    let start = and_parts (is_made_bound w.level x.start) _ holds.0 in
    let limit = and_parts (is_made_bound w.level x.limit) _ start.1 in
    let first = bound_form x.start in
    let last = last_form x.test (bound_form x.limit) in
    let kept = keeps_head x no_loops (ap (λ k. (made (stmt.For k)).keeps no_loops) (roll-out-Loop l) ∙ keeps) in
    record {
      ends = same x.step first last (bound_constant x.start (subst (λ n. is_made_bound n x.start ≡ true) h.1 start.0))
          (last_constant x.test (bound_form x.limit) (bound_constant x.limit (subst (λ n. is_made_bound n x.limit ≡ true) h.1 limit.0)));
      small = small_range [] x refl kept.hull kept.near;
      step = near x.step kept.near;
    }
  where
    same : (step : ℤ) (first last : Form) → is_constant first ≡ true → is_constant last ≡ true
        → (if is_constant first && is_constant last then range_ends (fixed_range step first.constant last.constant) else ends_by step first last)
        ≡ range_ends (if is_constant first && is_constant last then fixed_range step first.constant last.constant
        else (if has_empty [] then no_range step first last else wide_range [] step first last))
    same step first last p q = go (is_constant first && is_constant last) (ap (λ b. b && is_constant last) p ∙ q)
      where
        go : (b : Bool) → b ≡ true
            → (if b then range_ends (fixed_range step first.constant last.constant) else ends_by step first last)
            ≡ range_ends (if b then fixed_range step first.constant last.constant else (if has_empty [] then no_range step first last else wide_range [] step first last))
        go true e = refl
        go false e = absurd cc

pub outermost_constant : (u : Program) (head : Loop) → IsWellMade u → Contains (outermost_loops u) head → HasConstantEnds head
outermost_constant u head well there =
    constant_ends head (each_contains (HoldsAt 0) (outermost_loops u) (unit_holds u well) head there)
    (each_contains (λ l. (made (stmt.For l)).keeps no_loops ≡ true) (outermost_loops u) (unit_outermost u well) head there)
