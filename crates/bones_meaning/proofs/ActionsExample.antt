-- The actions of `B[i] = 2 * A[i];` by computation, and that the unit in whose loop it stands is well made.
use Rattle.std.proofs.Common.{◌≡◌, refl, ap, sym, ◌∙◌, subst, suc, ◌<◌, ℕ, List, [], ◌∷◌, ◌++◌, length, true, false, pos, lit<}
use Rattle.std.specs.Prelude.{nat_lt}
use Rattle.species_ast.specs.declared.action.Action.TheVariants as action
use Rattle.species_ast.specs.declared.tree.Binary.TheVariants.{Mul}
use Rattle.species_ast.specs.declared.tree.Expr.TheVariants as expr
use Rattle.species_ast.specs.declared.tree.Loop.{out-Loop}
use Rattle.species_ast.specs.declared.tree.Stmt.{Stmt}
use Rattle.species_ast.specs.declared.tree.Stmt.TheOpen.{Stmt-F, Loop-F}
use Rattle.species_ast.specs.declared.tree.Stmt.TheVariants as stmt
use Rattle.species_ast.specs.declared.tree.Unit.{Unit as Program}
use Rattle.species_ast.specs.declared.tree.Value.{Value}
use Rattle.species_ast.specs.declared.tree.Value.TheVariants.{Int}
use Rattle.species_ast.specs.Accesses.{Writes}
use Rattle.species_ast.specs.Evaluation.{Frame, Context}
use Rattle.species_ast.specs.Run.{source_context, sums_take, actions}
use Rattle.species_ast.specs.Scope.Forms.{form_of}
use Rattle.species_ast.specs.Scope.Limits.{most_references_made}
use Rattle.species_ast.specs.Scope.Loops.{outermost_at, outermost_in, outermost_loops}
use Rattle.species_ast.specs.Scope.References.{Where, Elements, elements_at, elements_of, all_elements, then_elements, element_with, reference, Referring, no_adds, references_at, references_inside, stmt_references, reference_count, larger_than}
use Rattle.species_ast.specs.Scope.Refusals.{places_where}
use Rattle.species_ast.specs.Scope.WellMade.{IsWellMade}
use Rattle.species_ast.proofs.Folds.{fold_expr-Literal, fold_expr-Iter, fold_expr-Elem, fold_expr-Binary, fold_stmt-Assign, fold_stmt-For, fold_loop}
use Rattle.species_ast.proofs.Paras.{para_expr-Literal, para_expr-Iter, para_expr-Elem, para_expr-Binary, para_stmt-Assign, para_stmt-For, para_loop}
use Rattle.species_ast.proofs.RunLaws.{folds, locals}
use Rattle.bones_meaning.specs.Doubling.{element, twice, body, head, loop, unit, frame, doubling, DoublingActs}

-- ---- its actions

answered : (w : Context) → w ≡ source_context unit
    → actions sums_take w body frame (Int (pos 6) ∷ []) ≡ action.Read 0 1 ∷ action.Write 1 1 (Int (pos 12)) ∷ action.Done ∷ []
answered w same = simp folds (rw same refl)

unanswered : (w : Context) → w ≡ source_context unit → actions sums_take w body frame [] ≡ action.Read 0 1 ∷ []
unanswered w same = simp folds (rw same refl)

pub doubling_acts : DoublingActs
doubling_acts = (answered (source_context unit) refl, unanswered (source_context unit) refl)

pub three_answered : length (doubling (Int (pos 6) ∷ [])) ≡ 3
three_answered = ap length doubling_acts.0

pub one_unanswered : length (doubling []) ≡ 1
one_unanswered = ap length doubling_acts.1

-- ---- its unit has few references

outermost_is : outermost_loops unit ≡ loop ∷ []
outermost_is = let one : outermost_in (stmt.For loop) ≡ loop ∷ [] = para_stmt-For outermost_at (λ l. []) loop in ap (λ ls. ls ++ []) one

-- the head of the loop around what its statement becomes
abbrev around : Referring → Loop-F Referring Referring
around x = record {
  place = head.place;
  iter = head.iter;
  start = head.start;
  test = head.test;
  limit = head.limit;
  step = head.step;
  body = x ∷ [];
  line = head.line;
  mark = head.mark;
}

abbrev place : Where
place = record { statement = []; path = []; conditional = false }

-- what the statement becomes, by the elements of its subscript and of its value
abbrev by_parts : Elements → Elements → Referring
by_parts e v g band =
    (all_elements (e ∷ [])).references g 0
    ++ (v.references g (suc (all_elements (e ∷ [])).count) ++ reference g (all_elements (e ∷ [])).count Writes 1 (form_of (expr.Iter 0) ∷ []) ∷ [])

-- the elements of the value, by those of its parts
abbrev product_of : Elements → Elements → Elements
product_of two e = then_elements two (element_with 0 (form_of (expr.Iter 0) ∷ []) (all_elements (e ∷ [])))

twice_is : elements_of twice ≡ product_of (elements_of (expr.Literal (Int (pos 2)))) (elements_of (expr.Iter 0))
twice_is =
    para_expr-Binary elements_at Mul (expr.Literal (Int (pos 2))) element
    ∙ ap (then_elements (elements_of (expr.Literal (Int (pos 2))))) (para_expr-Elem elements_at 0 (expr.Iter 0 ∷ []))

few_inside : nat_lt most_references_made (length (references_inside no_adds (around (by_parts (elements_of (expr.Iter 0)) (elements_of twice))) place 1)) ≡ false
few_inside =
    let iter = para_expr-Iter elements_at 0 in
    let two = para_expr-Literal elements_at (Int (pos 2)) in
    ap (λ v. nat_lt most_references_made (length (references_inside no_adds (around (by_parts (elements_of (expr.Iter 0)) v)) place 1))) twice_is
    ∙ (λ i. nat_lt most_references_made (length (references_inside no_adds (around (by_parts (iter i) (product_of (two i) (iter i)))) place 1)))

few_in_loop : nat_lt most_references_made (reference_count loop) ≡ false
few_in_loop =
    let one : stmt_references no_adds (stmt.Assign 20 1 (expr.Iter 0 ∷ []) twice) ≡ references_at no_adds (Stmt-F.Assign 20 1 (expr.Iter 0 ∷ []) twice) =
    fold_stmt-Assign (references_at no_adds) (references_inside no_adds) 20 1 (expr.Iter 0 ∷ []) twice in
    let whole = fold_loop (references_at no_adds) (references_inside no_adds) head in
    ap (λ r. nat_lt most_references_made (length (r place 1))) whole
    ∙ (λ i. nat_lt most_references_made (length (references_inside no_adds (around (one i)) place 1)))
    ∙ few_inside

few_references : larger_than most_references_made unit ≡ []
few_references = ap (places_where (λ head. nat_lt most_references_made (reference_count head)) (λ head. (out-Loop head).place)) outermost_is ∙ rw few_in_loop refl

-- ---- it is well made

ruleset outer = (fold_stmt-Assign, fold_stmt-For, fold_loop, para_stmt-Assign, para_stmt-For, para_loop)

ruleset inner = (fold_stmt-Assign, fold_stmt-For, fold_loop, para_stmt-Assign, para_stmt-For, para_loop, fold_expr-Literal, fold_expr-Iter, fold_expr-Elem, fold_expr-Binary, para_expr-Literal, para_expr-Iter, para_expr-Elem, para_expr-Binary)

unit_made : IsWellMade unit
unit_made = record {
  few_arrays = lit< tt;
  few_locals = lit< tt;
  arrays = refl;
  locals = simp locals refl;
  body = simp outer (simp inner refl);
  limits = simp outer (simp inner refl);
  references = few_references;
}

pub made_so : (u : Program) → u ≡ unit → IsWellMade u
made_so u same = subst IsWellMade (sym same) unit_made

-- what is said of the example holds of what is equal to it
pub within_so : (u : Program) (b : List Stmt) (f : Frame) (answers : List Value) (done : ℕ) → u ≡ unit → b ≡ body → f ≡ frame
    → done < length (doubling answers) → done < length (actions sums_take (source_context u) b f answers)
within_so u b f answers done same_unit same_body same_frame h =
    subst (λ n. done < n) (λ i. length (actions sums_take (source_context (sym same_unit i)) (sym same_body i) (sym same_frame i) answers)) h
