-- Plain references read or write: each `+=` is a read and a write, and no add.
use Rattle.std.proofs.Common.{◌≡◌, sym, ◌∙◌, subst, ℕ, zero, suc, ◌+◌, ◌-◌, Bool, true, false, if◌then◌else◌, List, [], ◌∷◌, ◌++◌, map, length, Option, Some, None}
use Rattle.species_ast.specs.declared.tree.Expr.{Expr}
use Rattle.species_ast.specs.declared.tree.Loop.{Loop, roll-Loop}
use Rattle.species_ast.specs.declared.tree.Stmt.{Stmt}
use Rattle.species_ast.specs.declared.tree.Stmt.TheVariants as stmt
use Rattle.species_ast.specs.Accesses.{Direction, Reads, Writes, Adds}
use Rattle.species_ast.specs.Scope.Forms.{Form, form_of}
use Rattle.species_ast.specs.Scope.Hulls.{Range, has_empty}
use Rattle.species_ast.specs.Scope.References.{Where, Reference, reference, perhaps, placed, in_turn, Elements, no_elements, then_elements, on_condition, all_elements, element_with, elements_at, elements_of, subscripts, target_reference, value_references, init_references, no_adds, Referring, list_references, references_at, references_inside, stmt_references, references_of, unless_empty}
use Rattle.species_ast.proofs.Folds.{fold_stmt-Assign, fold_stmt-AddTo, fold_stmt-Declare, fold_stmt-SetLocal, fold_stmt-If, fold_stmt-For, fold_stmt-Block, fold_loop}
use Rattle.species_ast.proofs.Induction.{Each, each_all, expr_ind, stmt_ind}
use Rattle.species_ast.proofs.Paras.{para_expr-Literal, para_expr-Iter, para_expr-Local, para_expr-Unary, para_expr-Binary, para_expr-And, para_expr-Or, para_expr-Cond, para_expr-Cast}
use Rattle.species_ast.proofs.ReferenceLaws.{elements_of-Elem}
use Rattle.species_occurrences.proofs.PositionLaws.{each_append}

-- not an add
abbrev pub IsPlain : Direction → Type 0
IsPlain Reads = Unit {0}
IsPlain Writes = Unit {0}
IsPlain Adds = ⊥

abbrev pub IsPlainReference : Reference → Type 0
IsPlainReference q = IsPlain q.direction

abbrev ArePlain : List Reference → Type 0
ArePlain qs = Each IsPlainReference qs

-- ---- expressions

abbrev ReadsAlone : Elements → Type 0
ReadsAlone e = (g : Where) (n : ℕ) → ArePlain (e.references g n)

plain_then : (a b : Elements) → ReadsAlone a → ReadsAlone b → ReadsAlone (then_elements a b)
plain_then a b h k g n = each_append IsPlainReference (a.references g n) (b.references g (n + a.count)) (h g n) (k g (n + a.count))

plain_condition : (a : Elements) → ReadsAlone a → ReadsAlone (on_condition a)
plain_condition a h g n = h (perhaps g) n

plain_all : (es : List Expr) → Each (λ x. ReadsAlone (elements_of x)) es → ReadsAlone (all_elements (map elements_of es))
plain_all [] h = λ g n. tt
plain_all (x ∷ es) h = plain_then (elements_of x) (all_elements (map elements_of es)) h.0 (plain_all es h.1)

plain_element : (a : ℕ) (forms : List (Option Form)) (subs : Elements) → ReadsAlone subs → ReadsAlone (element_with a forms subs)
plain_element a forms subs h g n = each_append IsPlainReference (subs.references g n) (reference g (n + subs.count) Reads a forms ∷ []) (h g n) (tt, tt)

becomes : (x : Expr) (e : Elements) → elements_of x ≡ e → ReadsAlone e → ReadsAlone (elements_of x)
becomes x e p h = subst ReadsAlone (sym p) h

expr_plain : (x : Expr) → ReadsAlone (elements_of x)
expr_plain = expr_ind (λ x. ReadsAlone (elements_of x)) (record {
  literal = λ v. becomes _ no_elements (para_expr-Literal elements_at v) (λ g n. tt);
  iter = λ level. becomes _ no_elements (para_expr-Iter elements_at level) (λ g n. tt);
  local = λ x. becomes _ no_elements (para_expr-Local elements_at x) (λ g n. tt);
  elem = λ a subs h. becomes _ _ (elements_of-Elem a subs) (plain_element a (map form_of subs) (all_elements (map elements_of subs)) (plain_all subs h));
  unary = λ op a h. becomes _ _ (para_expr-Unary elements_at op a) h;
  binary = λ op a b h k. becomes _ _ (para_expr-Binary elements_at op a b) (plain_then (elements_of a) (elements_of b) h k);
  both = λ a b h k. becomes _ _ (para_expr-And elements_at a b) (plain_then (elements_of a) (on_condition (elements_of b)) h (plain_condition (elements_of b) k));
  either = λ a b h k. becomes _ _ (para_expr-Or elements_at a b) (plain_then (elements_of a) (on_condition (elements_of b)) h (plain_condition (elements_of b) k));
  cond = λ c a b l h k. becomes _ _ (para_expr-Cond elements_at c a b)
      (plain_then (elements_of c) (then_elements (on_condition (elements_of a)) (on_condition (elements_of b))) l
      (plain_then (on_condition (elements_of a)) (on_condition (elements_of b)) (plain_condition (elements_of a) h) (plain_condition (elements_of b) k)));
  cast = λ k a h. becomes _ _ (para_expr-Cast elements_at k a) h;
})

-- ---- statements

subscripts_plain : (subs : List Expr) (g : Where) → ArePlain ((subscripts subs).references g 0)
subscripts_plain subs g = plain_all subs (each_all (λ x. ReadsAlone (elements_of x)) expr_plain subs) g 0

last_plain : (subs : List Expr) (x : Expr) (a : ℕ) (g : Where) → ArePlain (value_references subs x g ++ target_reference subs Writes a g ∷ [])
last_plain subs x a g = each_append IsPlainReference (value_references subs x g) (target_reference subs Writes a g ∷ []) (expr_plain x g _) (tt, tt)

init_plain : (init : Option Expr) (g : Where) → ArePlain (init_references init g)
init_plain (Some x) g = expr_plain x g 0
init_plain None g = tt

abbrev IsStmtPlain : Stmt → Type 0
IsStmtPlain x = (g : Where) (band : ℕ) → ArePlain (stmt_references no_adds x g band)

list_plain : (xs : List Stmt) → Each IsStmtPlain xs → (g : Where) (k band : ℕ) → ArePlain (list_references (map (stmt_references no_adds) xs) g k band)
list_plain [] h g k band = tt
list_plain (x ∷ xs) h g k band =
    each_append IsPlainReference (stmt_references no_adds x (placed g k) band) (list_references (map (stmt_references no_adds) xs) g (suc k) band) (h.0 (placed g k) band) (list_plain xs h.1 g (suc k) band)

loop_plain : (path : List Range) (band : ℕ) (qs : List Reference) → ArePlain qs → ArePlain (unless_empty band path qs)
loop_plain path zero qs h = go (has_empty path)
  where
    go : (t : Bool) → ArePlain (if t then [] else qs)
    go true = tt
    go false = h
loop_plain path (suc band) qs h = h

plain_from : (x : Stmt) (k : Referring) → stmt_references no_adds x ≡ k → ((g : Where) (band : ℕ) → ArePlain (k g band)) → IsStmtPlain x
plain_from x k p h = subst (λ (z : Referring). (g : Where) (band : ℕ) → ArePlain (z g band)) (sym p) h

stmt_plain : (x : Stmt) → IsStmtPlain x
stmt_plain = stmt_ind IsStmtPlain (record {
  assign = λ place a subs value. plain_from _ _ (fold_stmt-Assign (references_at no_adds) (references_inside no_adds) place a subs value) (λ g band.
      each_append IsPlainReference ((subscripts subs).references g 0) _ (subscripts_plain subs g) (last_plain subs value a g));
  add_to = λ place a subs value atomic. plain_from _ _ (fold_stmt-AddTo (references_at no_adds) (references_inside no_adds) place a subs value atomic) (λ g band.
      each_append IsPlainReference ((subscripts subs).references g 0) _ (subscripts_plain subs g) (tt, last_plain subs value a g));
  declare = λ place n init. plain_from _ _ (fold_stmt-Declare (references_at no_adds) (references_inside no_adds) place n init) (λ g band. init_plain init g);
  set_local = λ place n value. plain_from _ _ (fold_stmt-SetLocal (references_at no_adds) (references_inside no_adds) place n value) (λ g band. expr_plain value g 0);
  choice = λ place test body otherwise p q. plain_from _ _ (fold_stmt-If (references_at no_adds) (references_inside no_adds) place test body otherwise) (λ g band.
      each_append IsPlainReference ((elements_of test).references g 0) _ (expr_plain test g 0)
      (each_append IsPlainReference (list_references (map (stmt_references no_adds) body) (perhaps g) 0 band) _ (list_plain body p (perhaps g) 0 band)
      (list_plain otherwise q (perhaps g) (length (map (stmt_references no_adds) body)) band)));
  loop = λ l p. plain_from _ _ (fold_stmt-For (references_at no_adds) (references_inside no_adds) (roll-Loop l) ∙ fold_loop (references_at no_adds) (references_inside no_adds) l) (λ g band.
      loop_plain (in_turn g l).path band _ (list_plain l.body p (in_turn g l) 0 (band - 1)));
  block = λ body p. plain_from _ _ (fold_stmt-Block (references_at no_adds) (references_inside no_adds) body) (λ g band. list_plain body p g 0 band);
})

-- ---- the law

pub references_plain : (head : Loop) (at : List ℕ) (path : List Range) (depth : ℕ) → Each IsPlainReference (references_of no_adds head at path depth)
references_plain head at path depth =
    let g : Where = record { statement = at; path = path; conditional = false } in
    subst (λ (k : Referring). ArePlain (k g depth)) (fold_stmt-For (references_at no_adds) (references_inside no_adds) head) (stmt_plain (stmt.For head) g depth)
