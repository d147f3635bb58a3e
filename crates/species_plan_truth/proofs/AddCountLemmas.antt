-- Each add of a nest is one to an array on which `+=` counts as an add.
use Rattle.std.proofs.Common.{◌≡◌, refl, ap, sym, ◌∙◌, subst, ℕ, zero, suc, ◌+◌, ◌-◌, Bool, true, false, nat_eq, if◌then◌else◌, List, [], ◌∷◌, ◌++◌, map, Option, Some, None}
use Rattle.std.specs.List.{list_any}
use Rattle.species_ast.specs.Accesses.{Access, Element, Reads, Writes, Adds}
use Rattle.species_ast.specs.declared.tree.Expr.{Expr}
use Rattle.species_ast.specs.declared.tree.Loop.{Loop, roll-Loop}
use Rattle.species_ast.specs.declared.tree.Stmt.{Stmt}
use Rattle.species_ast.specs.declared.tree.Stmt.TheVariants as stmt
use Rattle.species_ast.specs.Scope.Forms.{Form, form_of}
use Rattle.species_ast.specs.Scope.Hulls.{Range, has_empty}
use Rattle.species_ast.specs.Scope.References.{Where, Reference, reference, perhaps, placed, in_turn, Elements, no_elements, then_elements, on_condition, all_elements, element_with, elements_at, elements_of, subscripts, target_reference, value_references, addition_references, init_references, Referring, list_references, unless_empty, references_at, references_inside, stmt_references, references_of}
use Rattle.species_ast.proofs.Folds.{fold_stmt-Assign, fold_stmt-AddTo, fold_stmt-Declare, fold_stmt-SetLocal, fold_stmt-If, fold_stmt-For, fold_stmt-Block, fold_loop}
use Rattle.species_ast.proofs.Induction.{Each, each_all, expr_ind, stmt_ind}
use Rattle.species_ast.proofs.Paras.{para_expr-Literal, para_expr-Iter, para_expr-Local, para_expr-Unary, para_expr-Binary, para_expr-And, para_expr-Or, para_expr-Cond, para_expr-Cast}
use Rattle.species_ast.proofs.ReferenceLaws.{elements_of-Elem}
use Rattle.species_occurrences.specs.Made.{IsMadeAmong}
use Rattle.species_occurrences.proofs.NestLaws.{unconditional}
use Rattle.species_occurrences.proofs.PositionLaws.{each_append}
use Rattle.species_references.specs.References.{adds_of}
use Rattle.species_plan_truth.proofs.AddLemmas.{maker}

-- an add is one to an array of the list
abbrev pub IsCounted : List ℕ → Reference → Type 0
IsCounted gathered q = q.direction ≡ Adds → list_any (nat_eq q.array) gathered ≡ true

no_add : {X : Type 0} → Reads ≡ Adds → X
no_add e = absurd (apart e)
  where
    apart : Reads ≡ Adds → ⊥
    apart h = cc

not_written : {X : Type 0} → Writes ≡ Adds → X
not_written e = absurd (apart e)
  where
    apart : Writes ≡ Adds → ⊥
    apart h = cc

module _ (gathered : List ℕ) where
  abbrev Counted : Reference → Type 0
  Counted = IsCounted gathered

  -- ---- expressions

  abbrev AreCounted : Elements → Type 0
  AreCounted e = (g : Where) (n : ℕ) → Each Counted (e.references g n)

  counted_then : (a b : Elements) → AreCounted a → AreCounted b → AreCounted (then_elements a b)
  counted_then a b h k g n = each_append Counted (a.references g n) (b.references g (n + a.count)) (h g n) (k g (n + a.count))

  counted_condition : (a : Elements) → AreCounted a → AreCounted (on_condition a)
  counted_condition a h g n = h (perhaps g) n

  counted_all : (es : List Expr) → Each (λ x. AreCounted (elements_of x)) es → AreCounted (all_elements (map elements_of es))
  counted_all [] h = λ g n. tt
  counted_all (x ∷ es) h = counted_then (elements_of x) (all_elements (map elements_of es)) h.0 (counted_all es h.1)

  counted_element : (a : ℕ) (forms : List (Option Form)) (subs : Elements) → AreCounted subs → AreCounted (element_with a forms subs)
  counted_element a forms subs h g n = each_append Counted (subs.references g n) (reference g (n + subs.count) Reads a forms ∷ []) (h g n) ((λ e. no_add e), tt)

  becomes : (x : Expr) (e : Elements) → elements_of x ≡ e → AreCounted e → AreCounted (elements_of x)
  becomes x e p h = subst AreCounted (sym p) h

  in_expr : (x : Expr) → AreCounted (elements_of x)
  in_expr = expr_ind (λ x. AreCounted (elements_of x)) (record {
    literal = λ v. becomes _ no_elements (para_expr-Literal elements_at v) (λ g n. tt);
    iter = λ level. becomes _ no_elements (para_expr-Iter elements_at level) (λ g n. tt);
    local = λ x. becomes _ no_elements (para_expr-Local elements_at x) (λ g n. tt);
    elem = λ a subs h. becomes _ _ (elements_of-Elem a subs) (counted_element a (map form_of subs) (all_elements (map elements_of subs)) (counted_all subs h));
    unary = λ op a h. becomes _ _ (para_expr-Unary elements_at op a) h;
    binary = λ op a b h k. becomes _ _ (para_expr-Binary elements_at op a b) (counted_then (elements_of a) (elements_of b) h k);
    both = λ a b h k. becomes _ _ (para_expr-And elements_at a b) (counted_then (elements_of a) (on_condition (elements_of b)) h (counted_condition (elements_of b) k));
    either = λ a b h k. becomes _ _ (para_expr-Or elements_at a b) (counted_then (elements_of a) (on_condition (elements_of b)) h (counted_condition (elements_of b) k));
    cond = λ c a b l h k. becomes _ _ (para_expr-Cond elements_at c a b)
        (counted_then (elements_of c) (then_elements (on_condition (elements_of a)) (on_condition (elements_of b))) l
        (counted_then (on_condition (elements_of a)) (on_condition (elements_of b)) (counted_condition (elements_of a) h) (counted_condition (elements_of b) k)));
    cast = λ k a h. becomes _ _ (para_expr-Cast elements_at k a) h;
  })

  -- ---- statements

  in_subs : (subs : List Expr) (g : Where) → Each Counted ((subscripts subs).references g 0)
  in_subs subs g = counted_all subs (each_all (λ x. AreCounted (elements_of x)) in_expr subs) g 0

  in_init : (init : Option Expr) (g : Where) → Each Counted (init_references init g)
  in_init None g = tt
  in_init (Some x) g = in_expr x g 0

  in_addition : (adds : Bool) (array : ℕ) (subs : List Expr) (x : Expr) (g : Where) → list_any (nat_eq array) gathered ≡ adds → Each Counted (addition_references adds array subs x g)
  in_addition true array subs x g is = each_append Counted (value_references subs x g) (target_reference subs Adds array g ∷ []) (in_expr x g _) ((λ e. is), tt)
  in_addition false array subs x g is =
      ((λ e. no_add e), each_append Counted (value_references subs x g) (target_reference subs Writes array g ∷ []) (in_expr x g _) ((λ e. not_written e), tt))

  abbrev IsCountedIn : Stmt → Type 0
  IsCountedIn x = (g : Where) (band : ℕ) → Each Counted (stmt_references (adds_of gathered) x g band)

  from_references : (x : Stmt) (k : Referring) → stmt_references (adds_of gathered) x ≡ k → ((g : Where) (band : ℕ) → Each Counted (k g band)) → IsCountedIn x
  from_references x k p h = subst (λ (z : Referring). (g : Where) (band : ℕ) → Each Counted (z g band)) (sym p) h

  counted_list : (xs : List Stmt) → Each IsCountedIn xs → (g : Where) (k band : ℕ) → Each Counted (list_references (map (stmt_references (adds_of gathered)) xs) g k band)
  counted_list [] h g k band = tt
  counted_list (x ∷ xs) h g k band =
      each_append Counted (stmt_references (adds_of gathered) x (placed g k) band) (list_references (map (stmt_references (adds_of gathered)) xs) g (suc k) band) (h.0 (placed g k) band) (counted_list xs h.1 g (suc k) band)

  kept : (band : ℕ) (path : List Range) (rs : List Reference) → Each Counted rs → Each Counted (unless_empty band path rs)
  kept zero path rs h = go (has_empty path)
    where
      go : (t : Bool) → Each Counted (if t then [] else rs)
      go true = tt
      go false = h
  kept (suc band) path rs h = h

  counted_stmt : (x : Stmt) → IsCountedIn x
  counted_stmt =
      let step = references_at (adds_of gathered) in
      let inside = references_inside (adds_of gathered) in
      stmt_ind IsCountedIn (record {
        assign = λ place b subs value. from_references _ _ (fold_stmt-Assign step inside place b subs value) (λ g band.
            each_append Counted ((subscripts subs).references g 0) (value_references subs value g ++ target_reference subs Writes b g ∷ []) (in_subs subs g)
            (each_append Counted (value_references subs value g) (target_reference subs Writes b g ∷ []) (in_expr value g _) ((λ e. not_written e), tt)));
        add_to = λ place b subs value atomic. from_references _ _ (fold_stmt-AddTo step inside place b subs value atomic) (λ g band.
            each_append Counted ((subscripts subs).references g 0) (addition_references (adds_of gathered b atomic) b subs value g) (in_subs subs g) (in_addition (adds_of gathered b atomic) b subs value g refl));
        declare = λ place n init. from_references _ _ (fold_stmt-Declare step inside place n init) (λ g band. in_init init g);
        set_local = λ place n value. from_references _ _ (fold_stmt-SetLocal step inside place n value) (λ g band. in_expr value g 0);
        choice = λ place test body otherwise p q. from_references _ _ (fold_stmt-If step inside place test body otherwise) (λ g band.
            each_append Counted ((elements_of test).references g 0) _ (in_expr test g 0)
            (each_append Counted (list_references (map (stmt_references (adds_of gathered)) body) (perhaps g) 0 band) _ (counted_list body p (perhaps g) 0 band) (counted_list otherwise q (perhaps g) _ band)));
        loop = λ l p. from_references _ _ (fold_stmt-For step inside (roll-Loop l) ∙ fold_loop step inside l) (λ g band. kept band (in_turn g l).path _ (counted_list l.body p (in_turn g l) 0 (band - 1)));
        block = λ body p. from_references _ _ (fold_stmt-Block step inside body) (λ g band. counted_list body p g 0 band);
      })

  counted_nest : (l : Loop) (at : List ℕ) (path : List Range) (band : ℕ) → Each Counted (references_of (adds_of gathered) l at path band)
  counted_nest l at path band =
      subst (λ (k : Referring). Each Counted (k (unconditional at path) band)) (fold_stmt-For (references_at (adds_of gathered)) (references_inside (adds_of gathered)) l)
      (counted_stmt (stmt.For l) (unconditional at path) band)

-- an access of the nest that adds is one to such an array
pub add_counted : (sizes : ℕ → List ℕ) (gathered : List ℕ) (l : Loop) (at : List ℕ) (path : List Range) (band : ℕ) (a : Access) → IsMadeAmong sizes (references_of (adds_of gathered) l at path band) a
    → a.direction ≡ Adds → list_any (nat_eq a.element.array) gathered ≡ true
add_counted sizes gathered l at path band a made adds =
    let by = maker sizes (IsCounted gathered) (references_of (adds_of gathered) l at path band) a (counted_nest gathered l at path band) made in
    subst (λ (n : ℕ). list_any (nat_eq n) gathered ≡ true) (sym (ap (λ (e : Element). e.array) by.2.element)) (by.1 (sym by.2.direction ∙ adds))
