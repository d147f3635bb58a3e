-- Each reference of a nest stands in inner loops whose ranges are not empty.
use Rattle.std.proofs.Common.{◌≡◌, refl, ap, sym, ◌∙◌, subst, arith, ℕ, zero, suc, ◌+◌, ◌-◌, Bool, true, false, ◌||◌, if◌then◌else◌, List, [], ◌∷◌, ◌++◌, map, length, drop, append_assoc, append-nil, Option, Some, None, All}
use Rattle.species_ast.specs.declared.tree.Expr.{Expr}
use Rattle.species_ast.specs.declared.tree.Loop.{roll-Loop}
use Rattle.species_ast.specs.declared.tree.Stmt.{Stmt}
use Rattle.species_ast.specs.declared.tree.Stmt.TheVariants as stmt
use Rattle.species_ast.specs.Accesses.{Direction, Reads, Writes, Adds}
use Rattle.species_ast.specs.Scope.Forms.{Form, form_of}
use Rattle.species_ast.specs.Scope.Hulls.{Range, is_empty, has_empty, range_of}
use Rattle.species_ast.specs.Scope.References.{Where, Reference, reference, perhaps, placed, in_turn, Elements, no_elements, then_elements, on_condition, all_elements, element_with, elements_at, elements_of, subscripts, target_reference, value_references, addition_references, init_references, Adding, Referring, list_references, references_at, references_inside, stmt_references, references_of, unless_empty}
use Rattle.species_ast.proofs.Folds.{fold_stmt-Assign, fold_stmt-AddTo, fold_stmt-Declare, fold_stmt-SetLocal, fold_stmt-If, fold_stmt-For, fold_stmt-Block, fold_loop}
use Rattle.species_ast.proofs.Induction.{Each, each_all, expr_ind, stmt_ind}
use Rattle.species_ast.proofs.Paras.{para_expr-Literal, para_expr-Iter, para_expr-Local, para_expr-Unary, para_expr-Binary, para_expr-And, para_expr-Or, para_expr-Cond, para_expr-Cast}
use Rattle.species_ast.proofs.ReferenceLaws.{elements_of-Elem}
use Rattle.species_references.specs.Law.{HasTurns, ReferencesHaveTurns}

both : {X : Type 0} (P : X → Type 0) (xs ys : List X) → Each P xs → Each P ys → Each P (xs ++ ys)
both P [] ys h k = k
both P (x ∷ xs) ys h k = (h.0, both P xs ys h.1 k)

-- ---- expressions

-- in the loops that stand around the expression
abbrev HasPath : List Range → Reference → Type 0
HasPath path q = q.path ≡ path

abbrev KeepsPath : Elements → Type 0
KeepsPath e = (g : Where) (n : ℕ) → Each (HasPath g.path) (e.references g n)

keeps_then : (a b : Elements) → KeepsPath a → KeepsPath b → KeepsPath (then_elements a b)
keeps_then a b h k g n = both (HasPath g.path) (a.references g n) (b.references g (n + a.count)) (h g n) (k g (n + a.count))

keeps_condition : (a : Elements) → KeepsPath a → KeepsPath (on_condition a)
keeps_condition a h g n = h (perhaps g) n

keeps_all : (es : List Expr) → Each (λ x. KeepsPath (elements_of x)) es → KeepsPath (all_elements (map elements_of es))
keeps_all [] h = λ g n. tt
keeps_all (x ∷ es) h = keeps_then (elements_of x) (all_elements (map elements_of es)) h.0 (keeps_all es h.1)

keeps_element : (a : ℕ) (forms : List (Option Form)) (subs : Elements) → KeepsPath subs → KeepsPath (element_with a forms subs)
keeps_element a forms subs h g n = both (HasPath g.path) (subs.references g n) (reference g (n + subs.count) Reads a forms ∷ []) (h g n) (refl, tt)

becomes : (x : Expr) (e : Elements) → elements_of x ≡ e → KeepsPath e → KeepsPath (elements_of x)
becomes x e p h = subst KeepsPath (sym p) h

expr_keeps : (x : Expr) → KeepsPath (elements_of x)
expr_keeps = expr_ind (λ x. KeepsPath (elements_of x)) (record {
  literal = λ v. becomes _ no_elements (para_expr-Literal elements_at v) (λ g n. tt);
  iter = λ level. becomes _ no_elements (para_expr-Iter elements_at level) (λ g n. tt);
  local = λ x. becomes _ no_elements (para_expr-Local elements_at x) (λ g n. tt);
  elem = λ a subs h. becomes _ _ (elements_of-Elem a subs) (keeps_element a (map form_of subs) (all_elements (map elements_of subs)) (keeps_all subs h));
  unary = λ op a h. becomes _ _ (para_expr-Unary elements_at op a) h;
  binary = λ op a b h k. becomes _ _ (para_expr-Binary elements_at op a b) (keeps_then (elements_of a) (elements_of b) h k);
  both = λ a b h k. becomes _ _ (para_expr-And elements_at a b) (keeps_then (elements_of a) (on_condition (elements_of b)) h (keeps_condition (elements_of b) k));
  either = λ a b h k. becomes _ _ (para_expr-Or elements_at a b) (keeps_then (elements_of a) (on_condition (elements_of b)) h (keeps_condition (elements_of b) k));
  cond = λ c a b l h k. becomes _ _ (para_expr-Cond elements_at c a b)
      (keeps_then (elements_of c) (then_elements (on_condition (elements_of a)) (on_condition (elements_of b))) l
      (keeps_then (on_condition (elements_of a)) (on_condition (elements_of b)) (keeps_condition (elements_of a) h) (keeps_condition (elements_of b) k)));
  cast = λ k a h. becomes _ _ (para_expr-Cast elements_at k a) h;
})

-- ---- statements

-- in those loops and more, of which those below the band are not empty
abbrev IsBelow : List Range → ℕ → Reference → Type 0
IsBelow path band q = (more : List Range) × (q.path ≡ path ++ more) × (has_empty (drop band more) ≡ false)

dropped : (band : ℕ) → has_empty (drop band []) ≡ false
dropped zero = refl
dropped (suc band) = refl

here : (path : List Range) (band : ℕ) (q : Reference) → HasPath path q → IsBelow path band q
here path band q h = ([], h ∙ sym (append-nil path), dropped band)

each_here : (path : List Range) (band : ℕ) (qs : List Reference) → Each (HasPath path) qs → Each (IsBelow path band) qs
each_here path band [] h = tt
each_here path band (q ∷ qs) h = (here path band q h.0, each_here path band qs h.1)

abbrev AreHere : (Where → List Reference) → Type 0
AreHere k = (g : Where) → Each (HasPath g.path) (k g)

subscripts_here : (subs : List Expr) → AreHere (λ g. (subscripts subs).references g 0)
subscripts_here subs g = keeps_all subs (each_all (λ x. KeepsPath (elements_of x)) expr_keeps subs) g 0

last_here : (subs : List Expr) (x : Expr) (d : Direction) (a : ℕ) → AreHere (λ g. value_references subs x g ++ target_reference subs d a g ∷ [])
last_here subs x d a g = both (HasPath g.path) (value_references subs x g) (target_reference subs d a g ∷ []) (expr_keeps x g _) (refl, tt)

addition_here : (t : Bool) (a : ℕ) (subs : List Expr) (x : Expr) → AreHere (addition_references t a subs x)
addition_here true a subs x g = last_here subs x Adds a g
addition_here false a subs x g = (refl, last_here subs x Writes a g)

init_here : (init : Option Expr) → AreHere (init_references init)
init_here (Some x) g = expr_keeps x g 0
init_here None g = tt

abbrev IsStmtBelow : Adding → Stmt → Type 0
IsStmtBelow adds x = (g : Where) (band : ℕ) → Each (IsBelow g.path band) (stmt_references adds x g band)

list_below : (adds : Adding) (xs : List Stmt) → Each (IsStmtBelow adds) xs → (g : Where) (k band : ℕ) → Each (IsBelow g.path band) (list_references (map (stmt_references adds) xs) g k band)
list_below adds [] h g k band = tt
list_below adds (x ∷ xs) h g k band =
    both (IsBelow g.path band) (stmt_references adds x (placed g k) band) (list_references (map (stmt_references adds) xs) g (suc k) band) (h.0 (placed g k) band) (list_below adds xs h.1 g (suc k) band)

-- inside a loop of the band
within : (path : List Range) (r : Range) (band : ℕ) (q : Reference) → IsBelow (path ++ r ∷ []) band q → IsBelow path (suc band) q
within path r band q h = (r ∷ h.0, h.1 ∙ append_assoc path (r ∷ []) h.0, h.2)

each_within : (path : List Range) (r : Range) (band : ℕ) (qs : List Reference) → Each (IsBelow (path ++ r ∷ []) band) qs → Each (IsBelow path (suc band)) qs
each_within path r band [] h = tt
each_within path r band (q ∷ qs) h = (within path r band q h.0, each_within path r band qs h.1)

-- and of one below it, which is not empty
last_full : (path : List Range) (r : Range) → has_empty (path ++ r ∷ []) ≡ false → is_empty r ≡ false
last_full [] r h = go (is_empty r) h
  where
    go : (t : Bool) → (t || false) ≡ false → t ≡ false
    go true k = k
    go false k = k
last_full (p ∷ path) r h = go (is_empty p) (last_full path r) h
  where
    go : (t : Bool) → (has_empty (path ++ r ∷ []) ≡ false → is_empty r ≡ false) → (t || has_empty (path ++ r ∷ [])) ≡ false → is_empty r ≡ false
    go true rest k = absurd cc
    go false rest k = rest k

below : (path : List Range) (r : Range) (q : Reference) → is_empty r ≡ false → IsBelow (path ++ r ∷ []) 0 q → IsBelow path 0 q
below path r q full h = (r ∷ h.0, h.1 ∙ append_assoc path (r ∷ []) h.0, ap (λ (t : Bool). t || has_empty h.0) full ∙ h.2)

each_below : (path : List Range) (r : Range) (qs : List Reference) → is_empty r ≡ false → Each (IsBelow (path ++ r ∷ []) 0) qs → Each (IsBelow path 0) qs
each_below path r [] full h = tt
each_below path r (q ∷ qs) full h = (below path r q full h.0, each_below path r qs full h.1)

loop_below : (path : List Range) (r : Range) (band : ℕ) (qs : List Reference) → Each (IsBelow (path ++ r ∷ []) (band - 1)) qs → Each (IsBelow path band) (unless_empty band (path ++ r ∷ []) qs)
loop_below path r zero qs h = go (has_empty (path ++ r ∷ [])) refl
  where
    go : (t : Bool) → has_empty (path ++ r ∷ []) ≡ t → Each (IsBelow path 0) (if t then [] else qs)
    go true is = tt
    go false is = each_below path r qs (last_full path r is) h
loop_below path r (suc band) qs h =
    let less : suc band - 1 ≡ band = omega arith in
    each_within path r band qs (subst (λ n. Each (IsBelow (path ++ r ∷ []) n) qs) less h)

below_from : (adds : Adding) (x : Stmt) (k : Referring) → stmt_references adds x ≡ k → ((g : Where) (band : ℕ) → Each (IsBelow g.path band) (k g band)) → IsStmtBelow adds x
below_from adds x k p h = subst (λ (z : Referring). (g : Where) (band : ℕ) → Each (IsBelow g.path band) (z g band)) (sym p) h

stmt_below : (adds : Adding) (x : Stmt) → IsStmtBelow adds x
stmt_below adds = stmt_ind (IsStmtBelow adds) (record {
  assign = λ place a subs value. below_from adds _ _ (fold_stmt-Assign (references_at adds) (references_inside adds) place a subs value) (λ g band.
      each_here g.path band _ (both (HasPath g.path) ((subscripts subs).references g 0) _ (subscripts_here subs g) (last_here subs value Writes a g)));
  add_to = λ place a subs value atomic. below_from adds _ _ (fold_stmt-AddTo (references_at adds) (references_inside adds) place a subs value atomic) (λ g band.
      each_here g.path band _ (both (HasPath g.path) ((subscripts subs).references g 0) _ (subscripts_here subs g) (addition_here (adds a atomic) a subs value g)));
  declare = λ place n init. below_from adds _ _ (fold_stmt-Declare (references_at adds) (references_inside adds) place n init) (λ g band. each_here g.path band _ (init_here init g));
  set_local = λ place n value. below_from adds _ _ (fold_stmt-SetLocal (references_at adds) (references_inside adds) place n value) (λ g band. each_here g.path band _ (expr_keeps value g 0));
  choice = λ place test body otherwise p q. below_from adds _ _ (fold_stmt-If (references_at adds) (references_inside adds) place test body otherwise) (λ g band.
      both (IsBelow g.path band) ((elements_of test).references g 0) _ (each_here g.path band _ (expr_keeps test g 0))
      (both (IsBelow g.path band) (list_references (map (stmt_references adds) body) (perhaps g) 0 band) _ (list_below adds body p (perhaps g) 0 band)
      (list_below adds otherwise q (perhaps g) (length (map (stmt_references adds) body)) band)));
  loop = λ l p. below_from adds _ _ (fold_stmt-For (references_at adds) (references_inside adds) (roll-Loop l) ∙ fold_loop (references_at adds) (references_inside adds) l) (λ g band.
      loop_below g.path (range_of g.path l) band _ (list_below adds l.body p (in_turn g l) 0 (band - 1)));
  block = λ body p. below_from adds _ _ (fold_stmt-Block (references_at adds) (references_inside adds) body) (λ g band. list_below adds body p g 0 band);
})

-- ---- the law

drop_more : {X : Type 0} (xs ys : List X) (n : ℕ) → drop (length xs + n) (xs ++ ys) ≡ drop n ys
drop_more {X} [] ys n = let same : length {A = X} [] + n ≡ n = omega arith in ap (λ m. drop m ys) same
drop_more (x ∷ xs) ys n = let one : suc (length xs) + n ≡ suc (length xs + n) = omega arith in ap (λ m. drop m (x ∷ (xs ++ ys))) one ∙ drop_more xs ys n

each_has : (path : List Range) (depth : ℕ) (qs : List Reference) → Each (IsBelow path depth) qs → Each (HasTurns (length path + depth)) qs
each_has path depth [] h = tt
each_has path depth (q ∷ qs) h = (ap (λ p. has_empty (drop (length path + depth) p)) h.0.1 ∙ ap has_empty (drop_more path h.0.0 depth) ∙ h.0.2, each_has path depth qs h.1)

pub each_to_all : {X : Type 0} (P : X → Type 0) (xs : List X) → Each P xs → All P xs
each_to_all P [] h k d l = absurd (omega (arith, l))
each_to_all P (x ∷ xs) h zero d l = h.0
each_to_all P (x ∷ xs) h (suc k) d l = each_to_all P xs h.1 k d (omega (arith, l))

pub references_have_turns : ReferencesHaveTurns
references_have_turns adds head at path depth =
    let g : Where = record { statement = at; path = path; conditional = false } in
    each_to_all (HasTurns (length path + depth)) (references_of adds head at path depth)
    (each_has path depth (references_of adds head at path depth)
    (subst (λ (k : Referring). Each (IsBelow path depth) (k g depth)) (fold_stmt-For (references_at adds) (references_inside adds) head) (stmt_below adds (stmt.For head) g depth)))
