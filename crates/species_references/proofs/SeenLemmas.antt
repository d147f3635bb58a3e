-- What each expression and each statement shows, wherever it stands.
use Rattle.std.proofs.Common.{◌≡◌, refl, ap, ◌∙◌, ℕ, zero, suc, ◌+◌, ◌-◌, Bool, true, false, if◌then◌else◌, List, [], ◌∷◌, ◌++◌, map, length, Option, Some, None}
use Rattle.species_ast.specs.declared.tree.Binary.{Binary}
use Rattle.species_ast.specs.declared.tree.Expr.{Expr}
use Rattle.species_ast.specs.declared.tree.Expr.TheVariants as expr
use Rattle.species_ast.specs.declared.tree.Kind.{Kind}
use Rattle.species_ast.specs.declared.tree.Loop.{Loop, out-Loop}
use Rattle.species_ast.specs.declared.tree.Stmt.{Stmt}
use Rattle.species_ast.specs.declared.tree.Stmt.TheVariants as stmt
use Rattle.species_ast.specs.declared.tree.Unary.{Unary}
use Rattle.species_ast.specs.declared.tree.Value.{Value}
use Rattle.species_ast.specs.Accesses.{Direction, Reads, Writes, Adds}
use Rattle.species_ast.specs.Scope.Forms.{form_of}
use Rattle.species_ast.specs.Scope.Hulls.{Range, has_empty, range_of}
use Rattle.species_ast.specs.Scope.References.{Where, Reference, reference, in_turn, Elements, all_elements, elements_at, elements_of, subscripts, target_reference, value_references, addition_references, init_references, Adding, list_references, references_at, references_inside, stmt_references, references_of, unless_empty}
use Rattle.species_ast.proofs.Folds.{fold_stmt-Assign, fold_stmt-AddTo, fold_stmt-Declare, fold_stmt-SetLocal, fold_stmt-If, fold_stmt-For, fold_stmt-Block, fold_loop-out}
use Rattle.species_ast.proofs.Paras.{para_expr-Literal, para_expr-Iter, para_expr-Local, para_expr-Unary, para_expr-Binary, para_expr-And, para_expr-Or, para_expr-Cond, para_expr-Cast}
use Rattle.species_ast.proofs.ReferenceLaws.{elements_of-Elem}
use Rattle.species_occurrences.specs.Anywhere.{unplaced}
use Rattle.species_occurrences.proofs.AnywhereLaws.{expr_alike, stmt_alike, nest_alike}
use Rattle.species_references.specs.Occurrences.{there, one_seen, seen_in, seen_in_all, seen_addition, seen_in_stmt, seen_in_list, seen_in_loop}

pub map_append : {X Y : Type 0} (f : X → Y) (xs ys : List X) → map f (xs ++ ys) ≡ map f xs ++ map f ys
map_append f [] ys = refl
map_append f (x ∷ xs) ys = ap (λ l. f x ∷ l) (map_append f xs ys)

-- ---- expressions

shows : (x : Expr) (g : Where) (n : ℕ) → map unplaced ((elements_of x).references g n) ≡ seen_in x g.path g.conditional
shows x g n = expr_alike x g [] n 0

shows_all : (xs : List Expr) (g : Where) (n : ℕ) → map unplaced ((all_elements (map elements_of xs)).references g n) ≡ seen_in_all xs g.path g.conditional
shows_all [] g n = refl
shows_all (x ∷ xs) g n =
    map_append unplaced ((elements_of x).references g n) ((all_elements (map elements_of xs)).references g (n + (elements_of x).count))
    ∙ (λ i. shows x g n i ++ shows_all xs g (n + (elements_of x).count) i)

-- of elements of this form
from : (x : Expr) (e : Elements) (path : List Range) (c : Bool) → elements_of x ≡ e → seen_in x path c ≡ map unplaced (e.references (there path c) 0)
from x e path c h = ap (λ z. map unplaced (z.references (there path c) 0)) h

pub seen-Literal : (v : Value) (path : List Range) (c : Bool) → seen_in (expr.Literal v) path c ≡ []
seen-Literal v path c = from _ _ path c (para_expr-Literal elements_at v)

pub seen-Iter : (level : ℕ) (path : List Range) (c : Bool) → seen_in (expr.Iter level) path c ≡ []
seen-Iter level path c = from _ _ path c (para_expr-Iter elements_at level)

pub seen-Local : (n : ℕ) (path : List Range) (c : Bool) → seen_in (expr.Local n) path c ≡ []
seen-Local n path c = from _ _ path c (para_expr-Local elements_at n)

pub seen-Elem : (a : ℕ) (subs : List Expr) (path : List Range) (c : Bool) → seen_in (expr.Elem a subs) path c ≡ seen_in_all subs path c ++ one_seen Reads a subs path c ∷ []
seen-Elem a subs path c =
    let inner = all_elements (map elements_of subs) in
    from _ _ path c (elements_of-Elem a subs)
    ∙ map_append unplaced (inner.references (there path c) 0) (reference (there path c) (0 + inner.count) Reads a (map form_of subs) ∷ [])
    ∙ ap (λ l. l ++ one_seen Reads a subs path c ∷ []) (shows_all subs (there path c) 0)

pub seen-Unary : (op : Unary) (a : Expr) (path : List Range) (c : Bool) → seen_in (expr.Unary op a) path c ≡ seen_in a path c
seen-Unary op a path c = from _ _ path c (para_expr-Unary elements_at op a)

pub seen-Cast : (k : Kind) (a : Expr) (path : List Range) (c : Bool) → seen_in (expr.Cast k a) path c ≡ seen_in a path c
seen-Cast k a path c = from _ _ path c (para_expr-Cast elements_at k a)

pub seen-Binary : (op : Binary) (a b : Expr) (path : List Range) (c : Bool) → seen_in (expr.Binary op a b) path c ≡ seen_in a path c ++ seen_in b path c
seen-Binary op a b path c =
    from _ _ path c (para_expr-Binary elements_at op a b)
    ∙ map_append unplaced ((elements_of a).references (there path c) 0) _ ∙ ap (λ l. seen_in a path c ++ l) (shows b (there path c) (0 + (elements_of a).count))

pub seen-And : (a b : Expr) (path : List Range) (c : Bool) → seen_in (expr.And a b) path c ≡ seen_in a path c ++ seen_in b path true
seen-And a b path c =
    from _ _ path c (para_expr-And elements_at a b)
    ∙ map_append unplaced ((elements_of a).references (there path c) 0) _ ∙ ap (λ l. seen_in a path c ++ l) (shows b (there path true) (0 + (elements_of a).count))

pub seen-Or : (a b : Expr) (path : List Range) (c : Bool) → seen_in (expr.Or a b) path c ≡ seen_in a path c ++ seen_in b path true
seen-Or a b path c =
    from _ _ path c (para_expr-Or elements_at a b)
    ∙ map_append unplaced ((elements_of a).references (there path c) 0) _ ∙ ap (λ l. seen_in a path c ++ l) (shows b (there path true) (0 + (elements_of a).count))

pub seen-Cond : (t a b : Expr) (path : List Range) (c : Bool) → seen_in (expr.Cond t a b) path c ≡ seen_in t path c ++ (seen_in a path true ++ seen_in b path true)
seen-Cond t a b path c =
    let n = 0 + (elements_of t).count in
    from _ _ path c (para_expr-Cond elements_at t a b)
    ∙ map_append unplaced ((elements_of t).references (there path c) 0) _
    ∙ ap (λ l. seen_in t path c ++ l) (map_append unplaced ((elements_of a).references (there path true) n) _ ∙ (λ i. shows a (there path true) n i ++ shows b (there path true) (n + (elements_of a).count) i))

-- ---- statements

shows_value : (subs : List Expr) (x : Expr) (g : Where) → map unplaced (value_references subs x g) ≡ seen_in x g.path g.conditional
shows_value subs x g = shows x g _

-- the elements of the value and then the target
shows_last : (subs : List Expr) (x : Expr) (d : Direction) (a : ℕ) (g : Where)
    → map unplaced (value_references subs x g ++ target_reference subs d a g ∷ []) ≡ seen_in x g.path g.conditional ++ one_seen d a subs g.path g.conditional ∷ []
shows_last subs x d a g =
    map_append unplaced (value_references subs x g) (target_reference subs d a g ∷ []) ∙ ap (λ l. l ++ one_seen d a subs g.path g.conditional ∷ []) (shows_value subs x g)

shows_addition : (t : Bool) (a : ℕ) (subs : List Expr) (x : Expr) (g : Where) → map unplaced (addition_references t a subs x g) ≡ seen_addition t a subs x g.path g.conditional
shows_addition true a subs x g = shows_last subs x Adds a g
shows_addition false a subs x g = ap (λ l. one_seen Reads a subs g.path g.conditional ∷ l) (shows_last subs x Writes a g)

abbrev pub seen_init : Option Expr → List Range → Bool → List Reference
seen_init None path c = []
seen_init (Some x) path c = seen_in x path c

shows_init : (init : Option Expr) (g : Where) → map unplaced (init_references init g) ≡ seen_init init g.path g.conditional
shows_init None g = refl
shows_init (Some x) g = shows x g 0

abbrev pub unless_left_out : ℕ → Bool → List Reference → List Reference
unless_left_out zero empty l = if empty then [] else l
unless_left_out (suc band) empty l = l

shows_unless : (band : ℕ) (path : List Range) (rs : List Reference) → map unplaced (unless_empty band path rs) ≡ unless_left_out band (has_empty path) (map unplaced rs)
shows_unless zero path rs = go (has_empty path)
  where
    go : (t : Bool) → map unplaced (if t then [] else rs) ≡ (if t then [] else map unplaced rs)
    go true = refl
    go false = refl
shows_unless (suc band) path rs = refl

-- a statement of a list
shows_stmt : (adds : Adding) (x : Stmt) (g : Where) (band : ℕ) → map unplaced (stmt_references adds x g band) ≡ seen_in_stmt adds x g.path g.conditional band
shows_stmt adds x g band = stmt_alike adds x band g []

shows_list : (adds : Adding) (xs : List Stmt) (g : Where) (k band : ℕ) → map unplaced (list_references (map (stmt_references adds) xs) g k band) ≡ seen_in_list adds xs g.path g.conditional band
shows_list adds [] g k band = refl
shows_list adds (x ∷ xs) g k band =
    map_append unplaced (stmt_references adds x (record g { statement = g.statement ++ k ∷ [] }) band) (list_references (map (stmt_references adds) xs) g (suc k) band)
    ∙ (λ i. shows_stmt adds x (record g { statement = g.statement ++ k ∷ [] }) band i ++ shows_list adds xs g (suc k) band i)

abbrev At : (Where → ℕ → List Reference) → List Range → Bool → ℕ → List Reference
At k path c band = map unplaced (k (there path c) band)

pub seen-Assign : (adds : Adding) (place a : ℕ) (subs : List Expr) (value : Expr) (path : List Range) (c : Bool) (band : ℕ)
    → seen_in_stmt adds (stmt.Assign place a subs value) path c band ≡ seen_in_all subs path c ++ (seen_in value path c ++ one_seen Writes a subs path c ∷ [])
seen-Assign adds place a subs value path c band =
    ap (λ k. At k path c band) (fold_stmt-Assign (references_at adds) (references_inside adds) place a subs value)
    ∙ map_append unplaced ((subscripts subs).references (there path c) 0) _ ∙ (λ i. shows_all subs (there path c) 0 i ++ shows_last subs value Writes a (there path c) i)

pub seen-AddTo : (adds : Adding) (place a : ℕ) (subs : List Expr) (value : Expr) (atomic : Bool) (path : List Range) (c : Bool) (band : ℕ)
    → seen_in_stmt adds (stmt.AddTo place a subs value atomic) path c band ≡ seen_in_all subs path c ++ seen_addition (adds a atomic) a subs value path c
seen-AddTo adds place a subs value atomic path c band =
    ap (λ k. At k path c band) (fold_stmt-AddTo (references_at adds) (references_inside adds) place a subs value atomic)
    ∙ map_append unplaced ((subscripts subs).references (there path c) 0) _ ∙ (λ i. shows_all subs (there path c) 0 i ++ shows_addition (adds a atomic) a subs value (there path c) i)

pub seen-Declare : (adds : Adding) (place n : ℕ) (init : Option Expr) (path : List Range) (c : Bool) (band : ℕ) → seen_in_stmt adds (stmt.Declare place n init) path c band ≡ seen_init init path c
seen-Declare adds place n init path c band =
    ap (λ k. At k path c band) (fold_stmt-Declare (references_at adds) (references_inside adds) place n init) ∙ shows_init init (there path c)

pub seen-SetLocal : (adds : Adding) (place n : ℕ) (value : Expr) (path : List Range) (c : Bool) (band : ℕ) → seen_in_stmt adds (stmt.SetLocal place n value) path c band ≡ seen_in value path c
seen-SetLocal adds place n value path c band =
    ap (λ k. At k path c band) (fold_stmt-SetLocal (references_at adds) (references_inside adds) place n value) ∙ shows value (there path c) 0

pub seen-If : (adds : Adding) (place : ℕ) (test : Expr) (body otherwise : List Stmt) (path : List Range) (c : Bool) (band : ℕ)
    → seen_in_stmt adds (stmt.If place test body otherwise) path c band ≡ seen_in test path c ++ (seen_in_list adds body path true band ++ seen_in_list adds otherwise path true band)
seen-If adds place test body otherwise path c band =
    let more = list_references (map (stmt_references adds) otherwise) (there path true) (length (map (stmt_references adds) body)) band in
    ap (λ k. At k path c band) (fold_stmt-If (references_at adds) (references_inside adds) place test body otherwise)
    ∙ map_append unplaced ((elements_of test).references (there path c) 0) _
    ∙ ap (λ l. seen_in test path c ++ l) (map_append unplaced (list_references (map (stmt_references adds) body) (there path true) 0 band) more
    ∙ (λ i. shows_list adds body (there path true) 0 band i ++ shows_list adds otherwise (there path true) (length (map (stmt_references adds) body)) band i))

pub seen-Block : (adds : Adding) (body : List Stmt) (path : List Range) (c : Bool) (band : ℕ) → seen_in_stmt adds (stmt.Block body) path c band ≡ seen_in_list adds body path c band
seen-Block adds body path c band =
    ap (λ k. At k path c band) (fold_stmt-Block (references_at adds) (references_inside adds) body) ∙ shows_list adds body (there path c) 0 band

pub seen-For : (adds : Adding) (l : Loop) (path : List Range) (c : Bool) (band : ℕ) → seen_in_stmt adds (stmt.For l) path c band ≡ seen_in_loop adds l path c band
seen-For adds l path c band = ap (λ k. At k path c band) (fold_stmt-For (references_at adds) (references_inside adds) l)

pub seen-Loop : (adds : Adding) (l : Loop) (path : List Range) (c : Bool) (band : ℕ)
    → seen_in_loop adds l path c band ≡ unless_left_out band (has_empty (path ++ range_of path (out-Loop l) ∷ [])) (seen_in_list adds (out-Loop l).body (path ++ range_of path (out-Loop l) ∷ []) c (band - 1))
seen-Loop adds l path c band =
    let deep = path ++ range_of path (out-Loop l) ∷ [] in
    ap (λ k. At k path c band) (fold_loop-out (references_at adds) (references_inside adds) l)
    ∙ shows_unless band deep (list_references (map (stmt_references adds) (out-Loop l).body) (in_turn (there path c) (out-Loop l)) 0 (band - 1))
    ∙ ap (unless_left_out band (has_empty deep)) (shows_list adds (out-Loop l).body (in_turn (there path c) (out-Loop l)) 0 (band - 1))

-- the references of a nest show the same at every position
pub nest_anywhere : (adds : Adding) (l : Loop) (at : List ℕ) (path : List Range) (depth : ℕ) → map unplaced (references_of adds l at path depth) ≡ seen_in_loop adds l path false depth
nest_anywhere adds l at path depth = nest_alike adds l at [] path depth
