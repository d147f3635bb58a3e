-- Statements of well made units are regular, where additions are counted as they are marked.
use Rattle.std.proofs.Common.{◌≡◌, refl, sym, ◌∙◌, subst, ℕ, suc, Bool, true, false, ◌&&◌, List, [], ◌∷◌, ◌++◌, map}
use Rattle.std.specs.Prelude.{is_some}
use Rattle.std.proofs.lemmas.Bool.{and_parts, and_from}
use Rattle.species_ast.specs.declared.tree.Expr.{Expr}
use Rattle.species_ast.specs.declared.tree.Loop.{roll-Loop}
use Rattle.species_ast.specs.declared.tree.Stmt.{Stmt}
use Rattle.species_ast.specs.declared.tree.Stmt.TheOpen.{Loop-F}
use Rattle.species_ast.specs.Marks.{all_true}
use Rattle.species_ast.specs.Scope.Forms.{form_of}
use Rattle.species_ast.specs.Scope.Limits.{goes}
use Rattle.species_ast.specs.Scope.WellMade.{Around, Made, made, made_at, made_loop, list_holds, is_made_bound, head_holds}
use Rattle.species_ast.proofs.Folds.{fold_stmt-Assign, fold_stmt-AddTo, fold_stmt-Declare, fold_stmt-SetLocal, fold_stmt-If, fold_stmt-For, fold_stmt-Block, fold_loop}
use Rattle.species_ast.proofs.Induction.{Each, each_all, stmt_ind}
use Rattle.species_occurrences.specs.Regular.{as_marked, agree, regular_at, regular_loop, is_regular}

abbrev IsRegular : Stmt → Type 0
IsRegular x = (w : Around) → (made x).holds w ≡ true → is_regular as_marked x ≡ true

agree_same : (b : Bool) → agree b b ≡ true
agree_same true = refl
agree_same false = refl

regular_list : (xs : List Stmt) → Each IsRegular xs → (w : Around) → list_holds (map made xs) w ≡ true → all_true (map (is_regular as_marked) xs) ≡ true
regular_list [] h w t = refl
regular_list (x ∷ xs) h w t =
    let v : Around = record w { locals = (made x).declares ++ w.locals } in
    let parts = and_parts ((made x).holds w) (list_holds (map made xs) v) t in
    and_from (is_regular as_marked x) (all_true (map (is_regular as_marked) xs)) (h.0 w parts.0) (regular_list xs h.1 v parts.1)

from_made : (x : Stmt) (m : Made) → made x ≡ m → ((w : Around) → m.holds w ≡ true → is_regular as_marked x ≡ true) → IsRegular x
from_made x m p h = subst (λ z. (w : Around) → z.holds w ≡ true → is_regular as_marked x ≡ true) (sym p) h

bound_form : (level : ℕ) (e : Expr) → is_made_bound level e ≡ true → is_some (form_of e) ≡ true
bound_form level e t = (and_parts (is_some (form_of e)) _ t).0

-- what 'well made' asks of the header of a loop
pub head_regular : {X Y : Type 0} (l : Loop-F X Y) (w : Around) (b : Bool) → head_holds l w ≡ true → b ≡ true
    → (is_some (form_of l.start) && (is_some (form_of l.limit) && (goes l.test l.step && b))) ≡ true
head_regular l w b t inner =
    let start = and_parts (is_made_bound w.level l.start) _ t in
    let limit = and_parts (is_made_bound w.level l.limit) _ start.1 in
    let steps = and_parts (goes l.test l.step) _ limit.1 in
    and_from (is_some (form_of l.start)) _ (bound_form w.level l.start start.0)
    (and_from (is_some (form_of l.limit)) _ (bound_form w.level l.limit limit.0) (and_from (goes l.test l.step) b steps.0 inner))

is_regular_made : (x : Stmt) → IsRegular x
is_regular_made = stmt_ind IsRegular (record {
  assign = λ place a subs value w t. fold_stmt-Assign (regular_at as_marked) regular_loop place a subs value;
  add_to = λ place a subs value atomic w t. fold_stmt-AddTo (regular_at as_marked) regular_loop place a subs value atomic ∙ agree_same atomic;
  declare = λ place n init w t. fold_stmt-Declare (regular_at as_marked) regular_loop place n init;
  set_local = λ place n value w t. fold_stmt-SetLocal (regular_at as_marked) regular_loop place n value;
  choice = λ place test body otherwise p q. from_made _ _ (fold_stmt-If made_at made_loop place test body otherwise) (λ w t.
      let both = (and_parts _ (list_holds (map made body) w && list_holds (map made otherwise) w) t).1 in
      let parts = and_parts (list_holds (map made body) w) (list_holds (map made otherwise) w) both in
      fold_stmt-If (regular_at as_marked) regular_loop place test body otherwise
      ∙ and_from (all_true (map (is_regular as_marked) body)) (all_true (map (is_regular as_marked) otherwise)) (regular_list body p w parts.0) (regular_list otherwise q w parts.1));
  loop = λ l p. from_made _ _ (fold_stmt-For made_at made_loop (roll-Loop l) ∙ fold_loop made_at made_loop l) (λ w t.
      let parts = and_parts (head_holds l w) (list_holds (map made l.body) (record w { level = suc w.level })) t in
      fold_stmt-For (regular_at as_marked) regular_loop (roll-Loop l) ∙ fold_loop (regular_at as_marked) regular_loop l
      ∙ head_regular l w (all_true (map (is_regular as_marked) l.body)) parts.0 (regular_list l.body p _ parts.1));
  block = λ body p. from_made _ _ (fold_stmt-Block made_at made_loop body) (λ w t. fold_stmt-Block (regular_at as_marked) regular_loop body ∙ regular_list body p w t);
})

-- the law, for a list whose statements are well made one behind the other
pub list_regular : (xs : List Stmt) (w : Around) → list_holds (map made xs) w ≡ true → all_true (map (is_regular as_marked) xs) ≡ true
list_regular xs w t = regular_list xs (each_all IsRegular is_regular_made xs) w t

pub stmt_regular : (x : Stmt) (w : Around) → (made x).holds w ≡ true → is_regular as_marked x ≡ true
stmt_regular x w t = is_regular_made x w t
