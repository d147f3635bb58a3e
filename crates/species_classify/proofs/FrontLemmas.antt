-- The references of a nest stand in the loops that are perfectly nested there, so that each two may be tested at each of their levels.
use Rattle.std.proofs.Common.{◌≡◌, refl, sym, ◌∙◌, subst, arith, ℕ, zero, suc, ◌-◌, ◌≤◌, Bool, true, false, if◌then◌else◌, List, [], ◌∷◌, ◌++◌, map, length, Option, Some, None, append_assoc}
use Rattle.species_ast.specs.declared.tree.Expr.{Expr}
use Rattle.species_ast.specs.declared.tree.Stmt.{Stmt, fold-Stmt}
use Rattle.species_ast.specs.declared.tree.Stmt.TheOpen.{Loop-F}
use Rattle.species_ast.specs.declared.tree.Stmt.TheVariants as stmt
use Rattle.species_ast.specs.declared.tree.Loop.{Loop, roll-Loop}
use Rattle.species_ast.specs.Scope.Hulls.{Range, range_of, has_empty}
use Rattle.species_ast.specs.Scope.Nests.{Bounds, only_loops, front_step, front_layer, front_of}
use Rattle.species_ast.specs.Scope.References.{Where, Reference, perhaps, elements_of, subscripts, value_references, addition_references, init_references, Referring, placed, list_references, references_at, unless_empty, in_turn, references_inside, Adding, stmt_references, references_of}
use Rattle.species_ast.proofs.Induction.{Each, each_all, stmt_ind}
use Rattle.species_ast.proofs.Folds.{fold_stmt-Assign, fold_stmt-AddTo, fold_stmt-Declare, fold_stmt-SetLocal, fold_stmt-If, fold_stmt-For, fold_stmt-Block, fold_loop}
use Rattle.species_occurrences.specs.Made.{Begins}
use Rattle.species_occurrences.proofs.PositionLaws.{each_append, each_weaker, none_behind, IsOf, IsStated, stated, stated_all}

-- ---- the path of each reference begins with that of its place

abbrev In : Where → Reference → Type 0
In g r = Begins g.path r.path

of_place : (g : Where) (r : Reference) → IsOf g r → In g r
of_place g r is = subst (λ (p : List Range). Begins g.path p) (sym is.path) (none_behind g.path)

here : (g : Where) (rs : List Reference) → Each (IsOf g) rs → Each (In g) rs
here g rs h = each_weaker (IsOf g) (In g) (of_place g) rs h

in_expr : (x : Expr) (g : Where) (n : ℕ) → Each (In g) ((elements_of x).references g n)
in_expr x g n = here g ((elements_of x).references g n) (stated x g n)

in_subs : (subs : List Expr) (g : Where) → Each (In g) ((subscripts subs).references g 0)
in_subs subs g = here g ((subscripts subs).references g 0) (stated_all subs (each_all (λ x. IsStated (elements_of x)) stated subs) g 0)

one : (g : Where) (r : Reference) → r.path ≡ g.path → Each (In g) (r ∷ [])
one g r same = (subst (λ (p : List Range). Begins g.path p) (sym same) (none_behind g.path), tt)

in_addition : (adds : Bool) (a : ℕ) (subs : List Expr) (x : Expr) (g : Where) → Each (In g) (addition_references adds a subs x g)
in_addition true a subs x g = each_append (In g) (value_references subs x g) _ (in_expr x g _) (none_behind g.path, tt)
in_addition false a subs x g = (none_behind g.path, each_append (In g) (value_references subs x g) _ (in_expr x g _) (none_behind g.path, tt))

in_init : (init : Option Expr) (g : Where) → Each (In g) (init_references init g)
in_init None g = tt
in_init (Some x) g = in_expr x g 0

-- ---- and with the ranges of the loops that are perfectly nested

abbrev front : Stmt → List Bounds
front = fold-Stmt (List Bounds) (List Bounds) front_step front_layer

-- so many ranges behind the path
abbrev pub SharesFront : List Range → ℕ → List Reference → Type 0
SharesFront path d rs = (more : List Range) × (length more ≡ d) × Each (λ r. Begins (path ++ more) r.path) rs

abbrev Deep : Adding → Stmt → Type 0
Deep adds x = (g : Where) (band : ℕ) → Each (In g) (stmt_references adds x g band)

abbrev Fronted : Adding → Stmt → Type 0
Fronted adds x = (g : Where) (band d : ℕ) → d ≤ length (front x) → SharesFront g.path d (stmt_references adds x g band)

abbrev Both : Adding → Stmt → Type 0
Both adds x = Deep adds x × Fronted adds x

path_and_none : (path : List Range) (r : Reference) → Begins path r.path → Begins (path ++ []) r.path
path_and_none path r b = (b.0, b.1 ∙ sym (append_assoc path [] b.0))

no_front : (path : List Range) (d : ℕ) (rs : List Reference) → d ≤ 0 → Each (λ r. Begins path r.path) rs → SharesFront path d rs
no_front path d rs none h = ([], omega (arith, none), each_weaker (λ (r : Reference). Begins path r.path) (λ (r : Reference). Begins (path ++ []) r.path) (path_and_none path) rs h)

from_plain : (adds : Adding) (x : Stmt) (k : Referring) (bs : List Bounds) → stmt_references adds x ≡ k → front x ≡ bs → bs ≡ [] → ((g : Where) (band : ℕ) → Each (In g) (k g band)) → Both adds x
from_plain adds x k bs p q none h =
    let deep : Deep adds x = λ g band. subst (λ (z : Referring). Each (In g) (z g band)) (sym p) (h g band) in
    (deep, λ g band d few. no_front g.path d (stmt_references adds x g band) (subst (λ (l : List Bounds). d ≤ length l) (q ∙ none) few) (deep g band))

deep_list : (adds : Adding) (xs : List Stmt) → Each (Both adds) xs → (g : Where) (k band : ℕ) → Each (In g) (list_references (map (stmt_references adds) xs) g k band)
deep_list adds [] h g k band = tt
deep_list adds (x ∷ xs) h g k band =
    each_append (In g) (stmt_references adds x (placed g k) band) (list_references (map (stmt_references adds) xs) g (suc k) band) (h.0.0 (placed g k) band) (deep_list adds xs h.1 g (suc k) band)

fronted_list : (adds : Adding) (xs : List Stmt) → Each (Both adds) xs → (g : Where) (k band d : ℕ) → d ≤ length (only_loops (map front xs)) → SharesFront g.path d (list_references (map (stmt_references adds) xs) g k band)
fronted_list adds [] h g k band d few = no_front g.path d [] few tt
fronted_list adds (x ∷ []) h g k band d few =
    let sole = h.0.1 (placed g k) band d few in
    (sole.0, sole.1, each_append (λ (r : Reference). Begins (g.path ++ sole.0) r.path) (stmt_references adds x (placed g k) band) [] sole.2 tt)
fronted_list adds (x ∷ (y ∷ xs)) h g k band d few = no_front g.path d _ few (deep_list adds (x ∷ (y ∷ xs)) h g k band)

kept : (band : ℕ) (path : List Range) (P : Reference → Type 0) (rs : List Reference) → Each P rs → Each P (unless_empty band path rs)
kept zero path P rs h = go (has_empty path)
  where
    go : (t : Bool) → Each P (if t then [] else rs)
    go true = tt
    go false = h
kept (suc band) path P rs h = h

longer : (path : List Range) (x : Range) (r : Reference) → Begins (path ++ x ∷ []) r.path → Begins path r.path
longer path x r b = (x ∷ b.0, b.1 ∙ append_assoc path (x ∷ []) b.0)

in_loop : (adds : Adding) (l : Loop-F Stmt Loop) → Each (Both adds) l.body → (g : Where) (band d : ℕ) → d ≤ suc (length (only_loops (map front l.body))) →
    SharesFront g.path d (references_inside adds (record { place = l.place; iter = l.iter; start = l.start; test = l.test; limit = l.limit; step = l.step; body = map (stmt_references adds) l.body; line = l.line; mark = l.mark }) g band)
in_loop adds l h g band zero few =
    let x = range_of g.path l in
    no_front g.path 0 _ (omega arith) (kept band _ (λ (r : Reference). Begins g.path r.path) _
    (each_weaker (λ (r : Reference). Begins (g.path ++ x ∷ []) r.path) (λ (r : Reference). Begins g.path r.path) (longer g.path x) _ (deep_list adds l.body h (in_turn g l) 0 (band - 1))))
in_loop adds l h g band (suc d) few =
    let x = range_of g.path l in
    let rest = fronted_list adds l.body h (in_turn g l) 0 (band - 1) d (omega (arith, few)) in (
      x ∷ rest.0,
      omega (arith, rest.1),
      kept band _ (λ (r : Reference). Begins (g.path ++ x ∷ rest.0) r.path) _
          (subst (λ (p : List Range). Each (λ r. Begins p r.path) (list_references (map (stmt_references adds) l.body) (in_turn g l) 0 (band - 1))) (append_assoc g.path (x ∷ []) rest.0) rest.2),
    )

pub both : (adds : Adding) (x : Stmt) → Both adds x
both adds = stmt_ind (Both adds) (record {
  assign = λ place a subs value. from_plain adds _ _ _ (fold_stmt-Assign (references_at adds) (references_inside adds) place a subs value) (fold_stmt-Assign front_step front_layer place a subs value) refl (λ g band.
      each_append (In g) ((subscripts subs).references g 0) _ (in_subs subs g) (each_append (In g) (value_references subs value g) _ (in_expr value g _) (none_behind g.path, tt)));
  add_to = λ place a subs value atomic. from_plain adds _ _ _ (fold_stmt-AddTo (references_at adds) (references_inside adds) place a subs value atomic) (fold_stmt-AddTo front_step front_layer place a subs value atomic) refl (λ g band.
      each_append (In g) ((subscripts subs).references g 0) _ (in_subs subs g) (in_addition (adds a atomic) a subs value g));
  declare = λ place n init. from_plain adds _ _ _ (fold_stmt-Declare (references_at adds) (references_inside adds) place n init) (fold_stmt-Declare front_step front_layer place n init) refl (λ g band. in_init init g);
  set_local = λ place n value. from_plain adds _ _ _ (fold_stmt-SetLocal (references_at adds) (references_inside adds) place n value) (fold_stmt-SetLocal front_step front_layer place n value) refl (λ g band. in_expr value g 0);
  choice = λ place test body otherwise p q. from_plain adds _ _ _ (fold_stmt-If (references_at adds) (references_inside adds) place test body otherwise) (fold_stmt-If front_step front_layer place test body otherwise) refl (λ g band.
      each_append (In g) ((elements_of test).references g 0) _ (in_expr test g 0) (each_append (In g) _ _ (deep_list adds body p (perhaps g) 0 band) (deep_list adds otherwise q (perhaps g) _ band)));
  loop = λ l p.
      let whole : stmt_references adds (stmt.For (roll-Loop l)) ≡ _ = fold_stmt-For (references_at adds) (references_inside adds) (roll-Loop l) ∙ fold_loop (references_at adds) (references_inside adds) l in
      let loops : front (stmt.For (roll-Loop l)) ≡ _ = fold_stmt-For front_step front_layer (roll-Loop l) ∙ fold_loop front_step front_layer l in
      let fronted : Fronted adds (stmt.For (roll-Loop l)) = λ g band d few.
      subst (λ (z : Referring). SharesFront g.path d (z g band)) (sym whole) (in_loop adds l p g band d (subst (λ (bs : List Bounds). d ≤ length bs) loops few))
      in
      ((λ g band. let none = fronted g band 0 (omega arith) in each_weaker (λ (r : Reference). Begins (g.path ++ none.0) r.path) (In g) (λ r b. (none.0 ++ b.0, b.1 ∙ append_assoc g.path none.0 b.0)) _ none.2), fronted);
  block = λ body p. (
    (λ g band. subst (λ (z : Referring). Each (In g) (z g band)) (sym (fold_stmt-Block (references_at adds) (references_inside adds) body)) (deep_list adds body p g 0 band)),
    (λ g band d few. subst (λ (z : Referring). SharesFront g.path d (z g band)) (sym (fold_stmt-Block (references_at adds) (references_inside adds) body))
        (fronted_list adds body p g 0 band d (subst (λ (bs : List Bounds). d ≤ length bs) (fold_stmt-Block front_step front_layer body) few))),
  );
})

-- The references of a nest share as many loops as are perfectly nested.
pub nest_front : (adds : Adding) (l : Loop) (at : List ℕ) (path : List Range) (band d : ℕ) → d ≤ length (front_of l) → SharesFront path d (references_of adds l at path band)
nest_front adds l at path band d few =
    let bare : Where = record { statement = at; path = path; conditional = false } in
    subst (λ (z : Referring). SharesFront path d (z bare band)) (fold_stmt-For (references_at adds) (references_inside adds) l)
    ((both adds (stmt.For l)).1 bare band d (subst (λ (bs : List Bounds). d ≤ length bs) (sym (fold_stmt-For front_step front_layer l)) few))
