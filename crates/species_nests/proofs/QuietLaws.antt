-- The headers of a well made unit touch no array, since their bounds are affine.
use Rattle.std.proofs.Common.{◌≡◌, arith, refl, ap, sym, ◌∙◌, subst, ℕ, zero, suc, List, [], ◌∷◌, ◌++◌, map, Bool, true, false, ◌&&◌, Option, Some, None}
use Rattle.std.specs.Prelude.{is_some, option_and_then, Ok, Err}
use Rattle.std.specs.List.{Contains}
use Rattle.species_ast.specs.declared.tree.Unary.{Unary}
use Rattle.species_ast.specs.declared.tree.Unary.TheVariants as unary
use Rattle.species_ast.specs.declared.tree.Binary.{Binary}
use Rattle.species_ast.specs.declared.tree.Binary.TheVariants as binary
use Rattle.species_ast.specs.declared.tree.Expr.{Expr}
use Rattle.species_ast.specs.declared.tree.Expr.TheVariants as e
use Rattle.species_ast.specs.declared.tree.Expr.TheOpen.{Expr-F}
use Rattle.species_ast.specs.declared.tree.Loop.{Loop, roll-Loop}
use Rattle.species_ast.specs.declared.tree.Stmt.{Stmt}
use Rattle.species_ast.specs.declared.tree.Stmt.TheVariants as stmt
use Rattle.species_ast.specs.declared.tree.Stmt.TheOpen.{Loop-F}
use Rattle.species_ast.specs.declared.tree.Unit.{Unit as Program}
use Rattle.species_ast.specs.Operators.{Answer, unary_of, binary_of}
use Rattle.species_ast.specs.Accesses.{Site, Tree, then_do}
use Rattle.species_ast.specs.Evaluation.{Frame, Context, Spot, sense, site_at, answered}
use Rattle.species_ast.specs.Run.{source_context}
use Rattle.species_ast.specs.Scope.Forms.{Form, form_step, form_of, of_both}
use Rattle.species_ast.specs.Scope.WellMade.{Around, list_holds, made_at, made_loop, made, is_made_bound, outermost, IsWellMade}
use Rattle.species_ast.proofs.Folds.{fold_expr-Local, fold_expr-Elem, fold_expr-Unary, fold_expr-Binary, fold_expr-And, fold_expr-Or, fold_expr-Cond, fold_expr-Cast, fold_stmt-If, fold_stmt-For, fold_stmt-Block, fold_loop}
use Rattle.species_ast.proofs.Induction.{Each, each_all, expr_ind, stmt_ind}
use Rattle.species_ast.proofs.RunLaws.{sense-Literal, sense-Iter, sense-Unary, sense-Binary}
use Rattle.species_nests.specs.Nests.{loops_at, loops_of, loops_in}
use Rattle.species_nests.proofs.NestLaws.{loops-Block, loops-If, loops-For, body_loops}
use Rattle.species_ast.proofs.Paras.{para_stmt-Assign, para_stmt-AddTo, para_stmt-Declare, para_stmt-SetLocal}
use Rattle.species_nests.specs.Effects.{HasQuietHeader, HasQuietHeaders}
use Rattle.species_runs.specs.Every.{Anything, IsQuiet}
use Rattle.species_runs.proofs.EveryLaws.{every-then_do}

quiet_then : {X Y : Type 0} (t : Tree X) (next : X → Tree Y) → IsQuiet t → ((x : X) → IsQuiet (next x)) → IsQuiet (then_do t next)
quiet_then t next q h = every-then_do (λ a. ⊥) Anything Anything t next q (λ x _. h x)

quiet_answered : (s : Site) (a : Answer) → IsQuiet (answered s a)
quiet_answered s (Ok v) = tt
quiet_answered s (Err why) = tt

-- ---- affine expressions

abbrev IsAffine : Expr → Type 0
IsAffine x = is_some (form_of x) ≡ true

abbrev QuietIf : Context → Expr → Type 0
QuietIf w x = IsAffine x → (s : Spot) (n : ℕ) (f : Frame) → IsQuiet ((sense w x).does s n f)

some_first : (a : Option Form) (next : Form → Option Form) → is_some (option_and_then next a) ≡ true → is_some a ≡ true
some_first None next h = h
some_first (Some f) next h = refl

some_second : (meet : Form → Form → Option Form) (a b : Option Form) → is_some (of_both meet a b) ≡ true → is_some b ≡ true
some_second meet None b h = absurd cc
some_second meet (Some f) None h = h
some_second meet (Some f) (Some g) h = refl

unary_part : (op : Unary) (a : Option Form) → is_some (form_step (Expr-F.Unary op a)) ≡ true → is_some a ≡ true
unary_part unary.Neg a h = some_first a _ h
unary_part unary.Not a h = absurd cc
unary_part unary.LogNot a h = absurd cc

both_parts : (meet : Form → Form → Option Form) (a b : Option Form) → is_some (of_both meet a b) ≡ true → (is_some a ≡ true) × (is_some b ≡ true)
both_parts meet a b h = (some_first a (λ f. option_and_then (λ g. meet f g) b) h, some_second meet a b h)

binary_parts : (op : Binary) (a b : Option Form) → is_some (form_step (Expr-F.Binary op a b)) ≡ true → (is_some a ≡ true) × (is_some b ≡ true)
binary_parts binary.Mul a b h = both_parts _ a b h
binary_parts binary.Div a b h = absurd cc
binary_parts binary.Rem a b h = absurd cc
binary_parts binary.Add a b h = both_parts _ a b h
binary_parts binary.Sub a b h = both_parts _ a b h
binary_parts binary.Shl a b h = absurd cc
binary_parts binary.Shr a b h = absurd cc
binary_parts binary.Lt a b h = absurd cc
binary_parts binary.Le a b h = absurd cc
binary_parts binary.Gt a b h = absurd cc
binary_parts binary.Ge a b h = absurd cc
binary_parts binary.Eq a b h = absurd cc
binary_parts binary.Ne a b h = absurd cc
binary_parts binary.BitAnd a b h = absurd cc
binary_parts binary.BitXor a b h = absurd cc
binary_parts binary.BitOr a b h = absurd cc

not_affine : (x : Expr) → form_of x ≡ None → IsAffine x → ⊥
not_affine x none h = let both = ap (λ o. is_some o) (sym none) ∙ h in absurd cc

pub affine_quiet : (w : Context) (x : Expr) → QuietIf w x
affine_quiet w = expr_ind (QuietIf w) (record {
  literal = λ v h s n f. subst (λ t. IsQuiet (t.does s n f)) (sym (sense-Literal w v)) tt;
  iter = λ level h s n f. subst (λ t. IsQuiet (t.does s n f)) (sym (sense-Iter w level)) tt;
  local = λ x h. absurd (not_affine (e.Local x) (fold_expr-Local form_step x) h);
  elem = λ a subs each h. absurd (not_affine (e.Elem a subs) (fold_expr-Elem form_step a subs) h);
  unary = λ op a p h s n f. subst (λ t. IsQuiet (t.does s n f)) (sym (sense-Unary w op a))
      (quiet_then ((sense w a).does s n f) (λ x. answered (site_at s n f []) (unary_of op x)) (p (unary_part op (form_of a) (ap (λ o. is_some o) (sym (fold_expr-Unary form_step op a)) ∙ h)) s n f)
      (λ x. quiet_answered (site_at s n f []) (unary_of op x)));
  binary = λ op a b p q h s n f.
      let parts = binary_parts op (form_of a) (form_of b) (ap (λ o. is_some o) (sym (fold_expr-Binary form_step op a b)) ∙ h) in
      subst (λ t. IsQuiet (t.does s n f)) (sym (sense-Binary w op a b))
      (quiet_then ((sense w a).does s n f) _ (p parts.0 s n f) (λ x. quiet_then ((sense w b).does s _ f) (λ y. answered (site_at s n f []) (binary_of op x y)) (q parts.1 s _ f) (λ y. quiet_answered (site_at s n f []) (binary_of op x y))));
  both = λ a b p q h. absurd (not_affine (e.And a b) (fold_expr-And form_step a b) h);
  either = λ a b p q h. absurd (not_affine (e.Or a b) (fold_expr-Or form_step a b) h);
  cond = λ c a b o p q h. absurd (not_affine (e.Cond c a b) (fold_expr-Cond form_step c a b) h);
  cast = λ k a p h. absurd (not_affine (e.Cast k a) (fold_expr-Cast form_step k a) h);
})

affine_header : (w : Context) (l : Loop-F Stmt Loop) → IsAffine l.start → IsAffine l.limit → HasQuietHeader w (roll-Loop l)
affine_header w l p q at f =
    quiet_then ((sense w l.start).does _ 0 f) _ (affine_quiet w l.start p _ 0 f) (λ a.
    quiet_then ((sense w l.limit).does _ (sense w l.start).elements f) _ (affine_quiet w l.limit q _ _ f) (λ b. tt))

-- ---- statements

and_both : (a b : Bool) → (a && b) ≡ true → (a ≡ true) × (b ≡ true)
and_both true b h = (refl, h)
and_both false b h = absurd cc

each-join : {X : Type 0} (P : X → Type 0) (xs ys : List X) → Each P xs → Each P ys → Each P (xs ++ ys)
each-join P [] ys p q = q
each-join P (x ∷ xs) ys p q = (p.0, each-join P xs ys p.1 q)

abbrev pub QuietIn : Context → Stmt → Type 0
QuietIn c x = (w : Around) → (made x).holds w ≡ true → Each (HasQuietHeader c) (loops_of x)

pub list_quiet : (c : Context) (xs : List Stmt) → Each (QuietIn c) xs → (w : Around) → list_holds (map made xs) w ≡ true → Each (HasQuietHeader c) (loops_in xs)
list_quiet c [] each w h = tt
list_quiet c (x ∷ xs) each w h =
    let next = record w { locals = (made x).declares ++ w.locals } in
    let both = and_both ((made x).holds w) (list_holds (map made xs) next) h in
    each-join (HasQuietHeader c) (loops_of x) (loops_in xs) (each.0 w both.0) (list_quiet c xs each.1 next both.1)

no_loop : (c : Context) (x : Stmt) → loops_of x ≡ [] → Each (HasQuietHeader c) (loops_of x)
no_loop c x h = subst (Each (HasQuietHeader c)) (sym h) tt

pub made_quiet : (c : Context) (x : Stmt) → QuietIn c x
made_quiet c = stmt_ind (QuietIn c) (record {
  assign = λ place a subs value w h. no_loop c (stmt.Assign place a subs value) (para_stmt-Assign loops_at body_loops place a subs value);
  add_to = λ place a subs value atomic w h. no_loop c (stmt.AddTo place a subs value atomic) (para_stmt-AddTo loops_at body_loops place a subs value atomic);
  declare = λ place x init w h. no_loop c (stmt.Declare place x init) (para_stmt-Declare loops_at body_loops place x init);
  set_local = λ place x value w h. no_loop c (stmt.SetLocal place x value) (para_stmt-SetLocal loops_at body_loops place x value);
  choice = λ place test body otherwise p q w h.
      let all = ap (λ m. m.holds w) (sym (fold_stmt-If made_at made_loop place test body otherwise)) ∙ h in
      let two = (and_both _ (list_holds (map made body) w && list_holds (map made otherwise) w) all).1 in
      let both = and_both (list_holds (map made body) w) (list_holds (map made otherwise) w) two in
      subst (Each (HasQuietHeader c)) (sym (loops-If place test body otherwise))
      (each-join (HasQuietHeader c) (loops_in body) (loops_in otherwise) (list_quiet c body p w both.0) (list_quiet c otherwise q w both.1));
  loop = λ l p w h.
      let all = ap (λ m. m.holds w) (sym (fold_stmt-For made_at made_loop (roll-Loop l) ∙ fold_loop made_at made_loop l)) ∙ h in
      let parts = and_both _ (list_holds (map made l.body) (record w { level = suc w.level })) all in
      let start = and_both (is_made_bound w.level l.start) _ parts.0 in
      let limit = and_both (is_made_bound w.level l.limit) _ start.1 in
      subst (Each (HasQuietHeader c)) (sym (loops-For l))
      (affine_header c l (and_both (is_some (form_of l.start)) _ start.0).0 (and_both (is_some (form_of l.limit)) _ limit.0).0, list_quiet c l.body p (record w { level = suc w.level }) parts.1);
  block = λ body p w h.
      subst (Each (HasQuietHeader c)) (sym (loops-Block body)) (list_quiet c body p w (ap (λ m. m.holds w) (sym (fold_stmt-Block made_at made_loop body)) ∙ h));
})

each_contains : {X : Type 0} (P : X → Type 0) (xs : List X) → Each P xs → (x : X) → Contains xs x → P x
each_contains P [] h x c = let below = c.1 in absurd (omega (arith, below))
each_contains P (y ∷ xs) h x (zero, below, is) = subst P is h.0
each_contains P (y ∷ xs) h x (suc k, below, is) = each_contains P xs h.1 x (k, omega (arith, below), is)

pub well_made_quiet : (u : Program) → IsWellMade u → HasQuietHeaders u
well_made_quiet u made_well l c =
    each_contains (HasQuietHeader (source_context u)) (loops_in u.body)
    (list_quiet (source_context u) u.body (each_all (QuietIn (source_context u)) (made_quiet (source_context u)) u.body) (outermost u) made_well.body) l c
