-- What the analysis sees of references is the same at every position.
use Rattle.std.proofs.Common.{◌≡◌, refl, ap, sym, ◌∙◌, subst, ℕ, zero, suc, ◌+◌, ◌-◌, Bool, true, false, if◌then◌else◌, List, [], ◌∷◌, ◌++◌, map, Option, Some, None}
use Rattle.species_ast.specs.declared.tree.Expr.{Expr}
use Rattle.species_ast.specs.declared.tree.Loop.{Loop, roll-Loop}
use Rattle.species_ast.specs.declared.tree.Stmt.{Stmt}
use Rattle.species_ast.specs.declared.tree.Stmt.TheVariants as stmt
use Rattle.species_ast.specs.Accesses.{Direction, Reads, Writes, Adds}
use Rattle.species_ast.specs.Scope.Forms.{Form, form_of}
use Rattle.species_ast.specs.Scope.Hulls.{Range, has_empty}
use Rattle.species_ast.specs.Scope.References.{Where, Reference, reference, perhaps, placed, in_turn, Elements, no_elements, then_elements, on_condition, all_elements, element_with, elements_at, elements_of, subscripts, target_reference, value_references, addition_references, init_references, Adding, Referring, list_references, references_at, references_inside, stmt_references, references_of, unless_empty}
use Rattle.species_ast.proofs.Folds.{fold_stmt-Assign, fold_stmt-AddTo, fold_stmt-Declare, fold_stmt-SetLocal, fold_stmt-If, fold_stmt-For, fold_stmt-Block, fold_loop}
use Rattle.species_ast.proofs.Induction.{Each, each_all, expr_ind, stmt_ind}
use Rattle.species_ast.proofs.Paras.{para_expr-Literal, para_expr-Iter, para_expr-Local, para_expr-Unary, para_expr-Binary, para_expr-And, para_expr-Or, para_expr-Cond, para_expr-Cast}
use Rattle.species_ast.proofs.ReferenceLaws.{elements_of-Elem}
use Rattle.species_occurrences.specs.Anywhere.{unplaced}
use Rattle.species_occurrences.proofs.NestLaws.{unconditional}

map_append : (xs ys : List Reference) → map unplaced (xs ++ ys) ≡ map unplaced xs ++ map unplaced ys
map_append [] ys = refl
map_append (x ∷ xs) ys = ap (λ l. unplaced x ∷ l) (map_append xs ys)

-- two lists that look like two others
both_alike : (xs ys us vs : List Reference) → map unplaced xs ≡ map unplaced us → map unplaced ys ≡ map unplaced vs → map unplaced (xs ++ ys) ≡ map unplaced (us ++ vs)
both_alike xs ys us vs h k = map_append xs ys ∙ (λ i. h i ++ k i) ∙ sym (map_append us vs)

-- here, and at another position
abbrev pub elsewhere : Where → List ℕ → Where
elsewhere g at = record g { statement = at }

abbrev IsAlike : Elements → Type 0
IsAlike e = (g : Where) (at : List ℕ) (n m : ℕ) → map unplaced (e.references g n) ≡ map unplaced (e.references (elsewhere g at) m)

alike_then : (a b : Elements) → IsAlike a → IsAlike b → IsAlike (then_elements a b)
alike_then a b h k g at n m =
    both_alike (a.references g n) (b.references g (n + a.count)) (a.references (elsewhere g at) m) (b.references (elsewhere g at) (m + a.count)) (h g at n m) (k g at (n + a.count) (m + a.count))

alike_condition : (a : Elements) → IsAlike a → IsAlike (on_condition a)
alike_condition a h g at n m = h (perhaps g) at n m

alike_all : (es : List Expr) → Each (λ x. IsAlike (elements_of x)) es → IsAlike (all_elements (map elements_of es))
alike_all [] h = λ g at n m. refl
alike_all (x ∷ es) h = alike_then (elements_of x) (all_elements (map elements_of es)) h.0 (alike_all es h.1)

alike_element : (a : ℕ) (forms : List (Option Form)) (subs : Elements) → IsAlike subs → IsAlike (element_with a forms subs)
alike_element a forms subs h g at n m =
    both_alike (subs.references g n) (reference g (n + subs.count) Reads a forms ∷ []) (subs.references (elsewhere g at) m) (reference (elsewhere g at) (m + subs.count) Reads a forms ∷ []) (h g at n m) refl

becomes : (x : Expr) (e : Elements) → elements_of x ≡ e → IsAlike e → IsAlike (elements_of x)
becomes x e p h = subst IsAlike (sym p) h

pub expr_alike : (x : Expr) → IsAlike (elements_of x)
expr_alike = expr_ind (λ x. IsAlike (elements_of x)) (record {
  literal = λ v. becomes _ no_elements (para_expr-Literal elements_at v) (λ g at n m. refl);
  iter = λ level. becomes _ no_elements (para_expr-Iter elements_at level) (λ g at n m. refl);
  local = λ x. becomes _ no_elements (para_expr-Local elements_at x) (λ g at n m. refl);
  elem = λ a subs h. becomes _ _ (elements_of-Elem a subs) (alike_element a (map form_of subs) (all_elements (map elements_of subs)) (alike_all subs h));
  unary = λ op a h. becomes _ _ (para_expr-Unary elements_at op a) h;
  binary = λ op a b h k. becomes _ _ (para_expr-Binary elements_at op a b) (alike_then (elements_of a) (elements_of b) h k);
  both = λ a b h k. becomes _ _ (para_expr-And elements_at a b) (alike_then (elements_of a) (on_condition (elements_of b)) h (alike_condition (elements_of b) k));
  either = λ a b h k. becomes _ _ (para_expr-Or elements_at a b) (alike_then (elements_of a) (on_condition (elements_of b)) h (alike_condition (elements_of b) k));
  cond = λ c a b l h k. becomes _ _ (para_expr-Cond elements_at c a b)
      (alike_then (elements_of c) (then_elements (on_condition (elements_of a)) (on_condition (elements_of b))) l
      (alike_then (on_condition (elements_of a)) (on_condition (elements_of b)) (alike_condition (elements_of a) h) (alike_condition (elements_of b) k)));
  cast = λ k a h. becomes _ _ (para_expr-Cast elements_at k a) h;
})

-- ---- statements

subscripts_alike : (subs : List Expr) → IsAlike (subscripts subs)
subscripts_alike subs = alike_all subs (each_all (λ x. IsAlike (elements_of x)) expr_alike subs)

abbrev AreAlike : (Where → List Reference) → Type 0
AreAlike k = (g : Where) (at : List ℕ) → map unplaced (k g) ≡ map unplaced (k (elsewhere g at))

value_alike : (subs : List Expr) (x : Expr) → AreAlike (value_references subs x)
value_alike subs x g at = expr_alike x g at _ _

last_alike : (subs : List Expr) (x : Expr) (d : Direction) (a : ℕ) → AreAlike (λ g. value_references subs x g ++ target_reference subs d a g ∷ [])
last_alike subs x d a g at =
    both_alike (value_references subs x g) (target_reference subs d a g ∷ []) (value_references subs x (elsewhere g at)) (target_reference subs d a (elsewhere g at) ∷ []) (value_alike subs x g at) refl

assignment_alike : (a : ℕ) (subs : List Expr) (x : Expr) → AreAlike (λ g. (subscripts subs).references g 0 ++ (value_references subs x g ++ target_reference subs Writes a g ∷ []))
assignment_alike a subs x g at = both_alike ((subscripts subs).references g 0) _ ((subscripts subs).references (elsewhere g at) 0) _ (subscripts_alike subs g at 0 0) (last_alike subs x Writes a g at)

addition_alike : (atomic : Bool) (a : ℕ) (subs : List Expr) (x : Expr) → AreAlike (addition_references atomic a subs x)
addition_alike true a subs x g at = last_alike subs x Adds a g at
addition_alike false a subs x g at = ap (λ l. unplaced (target_reference subs Reads a g) ∷ l) (last_alike subs x Writes a g at)

init_alike : (init : Option Expr) → AreAlike (init_references init)
init_alike (Some x) g at = expr_alike x g at 0 0
init_alike None g at = refl

abbrev IsStmtAlike : Adding → Stmt → Type 0
IsStmtAlike adds x = (band : ℕ) → AreAlike (λ g. stmt_references adds x g band)

list_alike : (adds : Adding) (xs : List Stmt) → Each (IsStmtAlike adds) xs → (band k j : ℕ) (g : Where) (at : List ℕ)
    → map unplaced (list_references (map (stmt_references adds) xs) g k band) ≡ map unplaced (list_references (map (stmt_references adds) xs) (elsewhere g at) j band)
list_alike adds [] h band k j g at = refl
list_alike adds (x ∷ xs) h band k j g at =
    both_alike (stmt_references adds x (placed g k) band) (list_references (map (stmt_references adds) xs) g (suc k) band) (stmt_references adds x (placed (elsewhere g at) j) band) (list_references (map (stmt_references adds) xs) (elsewhere g at) (suc j) band)
    (h.0 band (placed g k) (at ++ j ∷ [])) (list_alike adds xs h.1 band (suc k) (suc j) g at)

unless_alike : (band : ℕ) (path : List Range) (xs ys : List Reference) → map unplaced xs ≡ map unplaced ys → map unplaced (unless_empty band path xs) ≡ map unplaced (unless_empty band path ys)
unless_alike zero path xs ys h = go (has_empty path)
  where
    go : (t : Bool) → map unplaced (if t then [] else xs) ≡ map unplaced (if t then [] else ys)
    go true = refl
    go false = h
unless_alike (suc band) path xs ys h = h

alike_from : (adds : Adding) (x : Stmt) (k : Referring) → stmt_references adds x ≡ k → ((band : ℕ) → AreAlike (λ g. k g band)) → IsStmtAlike adds x
alike_from adds x k p h = subst (λ (z : Referring). (band : ℕ) → AreAlike (λ g. z g band)) (sym p) h

-- the law of statements
pub stmt_alike : (adds : Adding) (x : Stmt) → IsStmtAlike adds x
stmt_alike adds = stmt_ind (IsStmtAlike adds) (record {
  assign = λ place a subs value. alike_from adds _ _ (fold_stmt-Assign (references_at adds) (references_inside adds) place a subs value) (λ band. assignment_alike a subs value);
  add_to = λ place a subs value atomic. alike_from adds _ _ (fold_stmt-AddTo (references_at adds) (references_inside adds) place a subs value atomic) (λ band g at.
      both_alike ((subscripts subs).references g 0) _ ((subscripts subs).references (elsewhere g at) 0) _ (subscripts_alike subs g at 0 0) (addition_alike (adds a atomic) a subs value g at));
  declare = λ place n init. alike_from adds _ _ (fold_stmt-Declare (references_at adds) (references_inside adds) place n init) (λ band. init_alike init);
  set_local = λ place n value. alike_from adds _ _ (fold_stmt-SetLocal (references_at adds) (references_inside adds) place n value) (λ band g at. expr_alike value g at 0 0);
  choice = λ place test body otherwise p q. alike_from adds _ _ (fold_stmt-If (references_at adds) (references_inside adds) place test body otherwise) (λ band g at.
      both_alike ((elements_of test).references g 0) _ ((elements_of test).references (elsewhere g at) 0) _ (expr_alike test g at 0 0)
      (both_alike (list_references (map (stmt_references adds) body) (perhaps g) 0 band) _ (list_references (map (stmt_references adds) body) (perhaps (elsewhere g at)) 0 band) _
      (list_alike adds body p band 0 0 (perhaps g) at) (list_alike adds otherwise q band _ _ (perhaps g) at)));
  loop = λ l p. alike_from adds _ _ (fold_stmt-For (references_at adds) (references_inside adds) (roll-Loop l) ∙ fold_loop (references_at adds) (references_inside adds) l) (λ band g at.
      unless_alike band (in_turn g l).path _ _ (list_alike adds l.body p (band - 1) 0 0 (in_turn g l) at));
  block = λ body p. alike_from adds _ _ (fold_stmt-Block (references_at adds) (references_inside adds) body) (λ band g at. list_alike adds body p band 0 0 g at);
})

-- the law of nests
pub nest_alike : (adds : Adding) (l : Loop) (at other : List ℕ) (path : List Range) (depth : ℕ) → map unplaced (references_of adds l at path depth) ≡ map unplaced (references_of adds l other path depth)
nest_alike adds l at other path depth =
    let is = fold_stmt-For (references_at adds) (references_inside adds) l in
    sym (ap (λ k. map unplaced (k (unconditional at path) depth)) is) ∙ stmt_alike adds (stmt.For l) depth (unconditional at path) other ∙ ap (λ k. map unplaced (k (unconditional other path) depth)) is
