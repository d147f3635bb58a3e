-- Where references and loops stand.
use Rattle.std.proofs.Common.{◌≡◌, refl, ap, sym, ◌∙◌, subst, arith, ℕ, suc, ◌+◌, ◌<◌, ◌≤◌, List, [], ◌∷◌, ◌++◌, map, length, Bool, true, Option, ◌⊎◌, inl, inr}
use Rattle.std.proofs.lemmas.List.{length-map, append_assoc, append-nil}
use Rattle.species_ast.specs.declared.tree.Expr.{Expr}
use Rattle.species_ast.specs.declared.tree.Loop.{Loop, roll-Loop}
use Rattle.species_ast.specs.declared.tree.Stmt.{Stmt}
use Rattle.species_ast.specs.declared.tree.Stmt.TheOpen.{Loop-F}
use Rattle.species_ast.specs.declared.tree.Stmt.TheVariants as stmt
use Rattle.species_ast.specs.Scope.Loops.{Standing, PlacedLoop, standing_in, numbered, Placing, list_loops, loops_at, loops_inside, loops_in}
use Rattle.species_ast.specs.Scope.References.{Where, Reference, perhaps, Elements, no_elements, then_elements, on_condition, all_elements, elements_at, elements_of}
use Rattle.species_ast.proofs.Induction.{Each, each_all, expr_ind, stmt_ind}
use Rattle.species_ast.proofs.Paras.{beside, seconds, para_expr-Literal, para_expr-Iter, para_expr-Local, para_expr-Unary, para_expr-Binary, para_expr-And, para_expr-Or, para_expr-Cond, para_expr-Cast, para_stmt-Assign, para_stmt-AddTo, para_stmt-Declare, para_stmt-SetLocal, para_stmt-If, para_stmt-For, para_stmt-Block, para_loop}
use Rattle.species_ast.proofs.ReferenceLaws.{elements_of-Elem}
use Rattle.species_occurrences.specs.Made.{Begins}

pub each_append : {X : Type 0} (P : X → Type 0) (xs ys : List X) → Each P xs → Each P ys → Each P (xs ++ ys)
each_append P [] ys h k = k
each_append P (x ∷ xs) ys h k = (h.0, each_append P xs ys h.1 k)

pub each_weaker : {X : Type 0} (P Q : X → Type 0) → ((x : X) → P x → Q x) → (xs : List X) → Each P xs → Each Q xs
each_weaker P Q w [] h = tt
each_weaker P Q w (x ∷ xs) h = (w x h.0, each_weaker P Q w xs h.1)

-- ---- positions

pub none_behind : {X : Type 0} (xs : List X) → Begins xs xs
none_behind xs = ([], sym (append-nil xs))

-- inside a statement of a list, of number lo to hi - 1
abbrev pub IsAmongThose : List ℕ → ℕ → ℕ → List ℕ → Type 0
IsAmongThose at lo hi whole = (j : ℕ) × (more : List ℕ) × (lo ≤ j) × (j < hi) × (whole ≡ at ++ j ∷ more)

pub one_of_those : (at : List ℕ) (k : ℕ) (whole : List ℕ) → Begins (at ++ k ∷ []) whole → IsAmongThose at k (suc k) whole
one_of_those at k whole h = (k, h.0, omega arith, omega arith, h.1 ∙ append_assoc at (k ∷ []) h.0)

pub those_wider : (at : List ℕ) (lo hi low high : ℕ) → low ≤ lo → hi ≤ high → (whole : List ℕ) → IsAmongThose at lo hi whole → IsAmongThose at low high whole
those_wider at lo hi low high p q whole h = (h.0, h.1, omega (arith, p, h.2), omega (arith, q, h.3), h.4)

pub those_begin : (at : List ℕ) (lo hi : ℕ) (whole : List ℕ) → IsAmongThose at lo hi whole → Begins at whole
those_begin at lo hi whole h = (h.0 ∷ h.1, h.4)

abbrev first_of : List ℕ → ℕ
first_of [] = 0
first_of (x ∷ xs) = x

abbrev rest_of : List ℕ → List ℕ
rest_of [] = []
rest_of (x ∷ xs) = xs

same_number : (at : List ℕ) (j k : ℕ) (m l more : List ℕ) → at ++ j ∷ m ≡ (at ++ k ∷ l) ++ more → j ≡ k
same_number [] j k m l more h = ap first_of h
same_number (a ∷ at) j k m l more h = same_number at j k m l more (ap rest_of h)

-- what stands in one statement of a list begins with no position in another
pub apart : (at : List ℕ) (lo hi low high : ℕ) (whole front : List ℕ) → (hi ≤ low) ⊎ (high ≤ lo) → IsAmongThose at lo hi whole → IsAmongThose at low high front
    → Begins front whole → ⊥
apart at lo hi low high whole front order p q b =
    let same : p.0 ≡ q.0 = same_number at p.0 q.0 p.1 q.1 b.0 (sym p.4 ∙ b.1 ∙ ap (λ l. l ++ b.0) q.4) in
    go order same
  where
    go : (hi ≤ low) ⊎ (high ≤ lo) → p.0 ≡ q.0 → ⊥
    go (inl o) same = omega (arith, o, same, p.3, q.2)
    go (inr o) same = omega (arith, o, same, p.2, q.3)

-- nor does the position around them
pub not_longer : (at : List ℕ) (k : ℕ) (l more : List ℕ) → at ≡ (at ++ k ∷ l) ++ more → ⊥
not_longer [] k l more h = none_is h
  where
    none_is : [] ≡ k ∷ (l ++ more) → ⊥
    none_is e = cc
not_longer (a ∷ at) k l more h = not_longer at k l more (ap rest_of h)

-- ---- the references of an expression stand in its statement, and in the loops around it

pub record IsOf (g : Where) (r : Reference) : Type 0 where
  pub statement : r.statement ≡ g.statement
  pub path : r.path ≡ g.path
  pub conditional : g.conditional ≡ true → r.conditional ≡ true

abbrev pub IsStated : Elements → Type 0
IsStated e = (g : Where) (n : ℕ) → Each (IsOf g) (e.references g n)

stated_then : (a b : Elements) → IsStated a → IsStated b → IsStated (then_elements a b)
stated_then a b h k g n = each_append (IsOf g) (a.references g n) (b.references g (n + a.count)) (h g n) (k g (n + a.count))

stated_condition : (a : Elements) → IsStated a → IsStated (on_condition a)
stated_condition a h g n =
    each_weaker (IsOf (perhaps g)) (IsOf g) (λ r o. record { statement = o.statement; path = o.path; conditional = λ _. o.conditional refl }) (a.references (perhaps g) n) (h (perhaps g) n)

pub stated_all : (es : List Expr) → Each (λ x. IsStated (elements_of x)) es → IsStated (all_elements (map elements_of es))
stated_all [] h = λ g n. tt
stated_all (x ∷ es) h = stated_then (elements_of x) (all_elements (map elements_of es)) h.0 (stated_all es h.1)

becomes : (x : Expr) (e : Elements) → elements_of x ≡ e → IsStated e → IsStated (elements_of x)
becomes x e p h = subst IsStated (sym p) h

pub stated : (x : Expr) → IsStated (elements_of x)
stated = expr_ind (λ x. IsStated (elements_of x)) (record {
  literal = λ v. becomes _ no_elements (para_expr-Literal elements_at v) (λ g n. tt);
  iter = λ level. becomes _ no_elements (para_expr-Iter elements_at level) (λ g n. tt);
  local = λ x. becomes _ no_elements (para_expr-Local elements_at x) (λ g n. tt);
  elem = λ a subs h. becomes _ _ (elements_of-Elem a subs) (λ g n.
      each_append (IsOf g) ((all_elements (map elements_of subs)).references g n) _ (stated_all subs h g n) (record { statement = refl; path = refl; conditional = λ c. c }, tt));
  unary = λ op a h. becomes _ _ (para_expr-Unary elements_at op a) h;
  binary = λ op a b h k. becomes _ _ (para_expr-Binary elements_at op a b) (stated_then (elements_of a) (elements_of b) h k);
  both = λ a b h k. becomes _ _ (para_expr-And elements_at a b) (stated_then (elements_of a) (on_condition (elements_of b)) h (stated_condition (elements_of b) k));
  either = λ a b h k. becomes _ _ (para_expr-Or elements_at a b) (stated_then (elements_of a) (on_condition (elements_of b)) h (stated_condition (elements_of b) k));
  cond = λ c a b l h k. becomes _ _ (para_expr-Cond elements_at c a b)
      (stated_then (elements_of c) (then_elements (on_condition (elements_of a)) (on_condition (elements_of b))) l
      (stated_then (on_condition (elements_of a)) (on_condition (elements_of b)) (stated_condition (elements_of a) h) (stated_condition (elements_of b) k)));
  cast = λ k a h. becomes _ _ (para_expr-Cast elements_at k a) h;
})

-- ---- the loops in a statement

pub loops_in-Assign : (place a : ℕ) (subs : List Expr) (value : Expr) → loops_in (stmt.Assign place a subs value) ≡ (λ s. [])
loops_in-Assign place a subs value = para_stmt-Assign loops_at loops_inside place a subs value

pub loops_in-AddTo : (place a : ℕ) (subs : List Expr) (value : Expr) (atomic : Bool) → loops_in (stmt.AddTo place a subs value atomic) ≡ (λ s. [])
loops_in-AddTo place a subs value atomic = para_stmt-AddTo loops_at loops_inside place a subs value atomic

pub loops_in-Declare : (place x : ℕ) (init : Option Expr) → loops_in (stmt.Declare place x init) ≡ (λ s. [])
loops_in-Declare place x init = para_stmt-Declare loops_at loops_inside place x init

pub loops_in-SetLocal : (place x : ℕ) (value : Expr) → loops_in (stmt.SetLocal place x value) ≡ (λ s. [])
loops_in-SetLocal place x value = para_stmt-SetLocal loops_at loops_inside place x value

pub loops_in-If : (place : ℕ) (test : Expr) (body otherwise : List Stmt)
    → loops_in (stmt.If place test body otherwise) ≡ (λ s. list_loops (map loops_in body) s 0 ++ list_loops (map loops_in otherwise) s (length body))
loops_in-If place test body otherwise =
    para_stmt-If loops_at loops_inside place test body otherwise
    ∙ (λ i s. list_loops (seconds loops_in body i) s 0 ++ list_loops (seconds loops_in otherwise i) s (length-map body (beside loops_in) i))

pub loops_in-Block : (body : List Stmt) → loops_in (stmt.Block body) ≡ (λ s. list_loops (map loops_in body) s 0)
loops_in-Block body = para_stmt-Block loops_at loops_inside body ∙ (λ i s. list_loops (seconds loops_in body i) s 0)

pub loops_in-For : (l : Loop-F Stmt Loop)
    → loops_in (stmt.For (roll-Loop l)) ≡ (λ s. record { head = roll-Loop l; stands = s } ∷ list_loops (map loops_in l.body) (standing_in l s) 0)
loops_in-For l =
    para_stmt-For loops_at loops_inside (roll-Loop l)
    ∙ (λ i s. record { head = roll-Loop l; stands = s } ∷ para_loop loops_at loops_inside l i s)
    ∙ (λ i s. record { head = roll-Loop l; stands = s } ∷ list_loops (seconds loops_in l.body i) (standing_in l s) 0)

-- ---- the loops in a statement stand in it

abbrev pub StandsIn : List ℕ → PlacedLoop → Type 0
StandsIn at l = Begins at l.stands.statement

abbrev pub IsNested : Stmt → Type 0
IsNested x = (s : Standing) → Each (StandsIn s.statement) (loops_in x s)

from_loops : (x : Stmt) (k : Placing) → loops_in x ≡ k → ((s : Standing) → Each (StandsIn s.statement) (k s)) → IsNested x
from_loops x k e h = subst (λ z. (s : Standing) → Each (StandsIn s.statement) (z s)) (sym e) h

-- in one of these statements of a list
abbrev pub StandsAmong : List ℕ → ℕ → ℕ → PlacedLoop → Type 0
StandsAmong at lo hi l = IsAmongThose at lo hi l.stands.statement

nested_each : (xs : List Stmt) → Each IsNested xs → (s : Standing) (k : ℕ) → Each (StandsAmong s.statement k (k + length xs)) (list_loops (map loops_in xs) s k)
nested_each [] h s k = tt
nested_each (x ∷ xs) h s k =
    let P = StandsAmong s.statement k (k + suc (length xs)) in
    each_append P (loops_in x (numbered s k)) (list_loops (map loops_in xs) s (suc k))
    (each_weaker (StandsIn (s.statement ++ k ∷ [])) P (λ l b. those_wider s.statement k (suc k) k (k + suc (length xs)) (omega arith) (omega arith) l.stands.statement (one_of_those s.statement k l.stands.statement b)) _ (h.0 (numbered s k)))
    (each_weaker (StandsAmong s.statement (suc k) (suc k + length xs)) P (λ l b. those_wider s.statement (suc k) (suc k + length xs) k (k + suc (length xs)) (omega arith) (omega arith) l.stands.statement b) _ (nested_each xs h.1 s (suc k)))

nested_begin : (xs : List Stmt) → Each IsNested xs → (s : Standing) (k : ℕ) → Each (StandsIn s.statement) (list_loops (map loops_in xs) s k)
nested_begin xs h s k =
    each_weaker (StandsAmong s.statement k (k + length xs)) (StandsIn s.statement) (λ l b. those_begin s.statement k (k + length xs) l.stands.statement b) _ (nested_each xs h s k)

pub nested : (x : Stmt) → IsNested x
nested = stmt_ind IsNested (record {
  assign = λ place a subs value. from_loops _ _ (loops_in-Assign place a subs value) (λ s. tt);
  add_to = λ place a subs value atomic. from_loops _ _ (loops_in-AddTo place a subs value atomic) (λ s. tt);
  declare = λ place n init. from_loops _ _ (loops_in-Declare place n init) (λ s. tt);
  set_local = λ place n value. from_loops _ _ (loops_in-SetLocal place n value) (λ s. tt);
  choice = λ place test body otherwise h k. from_loops _ _ (loops_in-If place test body otherwise) (λ s.
      each_append (StandsIn s.statement) _ _ (nested_begin body h s 0) (nested_begin otherwise k s (length body)));
  loop = λ l h. from_loops _ _ (loops_in-For l) (λ s. (none_behind s.statement, nested_begin l.body h (standing_in l s) 0));
  block = λ body h. from_loops _ _ (loops_in-Block body) (λ s. nested_begin body h s 0);
})

pub nested_list : (xs : List Stmt) (s : Standing) (k : ℕ) → Each (StandsAmong s.statement k (k + length xs)) (list_loops (map loops_in xs) s k)
nested_list xs s k = nested_each xs (each_all IsNested nested xs) s k
