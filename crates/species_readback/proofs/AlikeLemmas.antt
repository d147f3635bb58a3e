-- Units with the same arrays and locals: the same statements can be written in them, and names mean the same.
use Rattle.std.proofs.Common.{◌≡◌, ◌∙◌, ap, sym, refl, subst, ℕ, Bool, List, [], ◌∷◌, ◌++◌, map, Option, Some, None, nat_eq}
use Rattle.std.specs.Prelude.{◌&&◌, not, option_map, unwrap_or, slice_get, is_some}
use Rattle.std.specs.List.{list_all}
use Rattle.species_ast.specs.Marks.{all_true}
use Rattle.species_ast.specs.Names.{is_name}
use Rattle.species_ast.specs.declared.tree.Array.{Array}
use Rattle.species_ast.specs.declared.tree.Kind.TheVariants as of_kind
use Rattle.species_ast.specs.declared.tree.LocalInfo.{LocalInfo}
use Rattle.species_ast.specs.declared.tree.Expr.{Expr, fold-Expr}
use Rattle.species_ast.specs.declared.tree.Expr.TheOpen.{Expr-F}
use Rattle.species_ast.specs.declared.tree.Loop.{Loop, roll-Loop}
use Rattle.species_ast.specs.declared.tree.Stmt.{Stmt}
use Rattle.species_ast.specs.declared.tree.Stmt.TheOpen.{Stmt-F, Loop-F}
use Rattle.species_ast.specs.declared.tree.Stmt.TheVariants as stmt
use Rattle.species_ast.specs.declared.tree.Unit.{Unit}
use Rattle.species_ast.specs.Scope.Meanings.{Scope, scope_with_local, behind, is_among, local_number, meaning_in}
use Rattle.species_ast.proofs.Folds.{fold_expr-Literal, fold_expr-Iter, fold_expr-Local, fold_expr-Elem, fold_expr-Unary, fold_expr-Binary, fold_expr-And, fold_expr-Or, fold_expr-Cond, fold_expr-Cast, fold_stmt-Assign, fold_stmt-AddTo, fold_stmt-Declare, fold_stmt-SetLocal, fold_stmt-If, fold_stmt-For, fold_stmt-Block, fold_loop, folded_layer}
use Rattle.species_ast.proofs.Induction.{Each, each_all, ExprCases, expr_ind, StmtCases, stmt_ind, map-each}
use Rattle.species_print.specs.Expressions.{array_name, local_name}
use Rattle.species_print.specs.Statements.{local_kind}
use Rattle.species_readback.specs.Spelt.{is_spelt, expr_spelt, is_int_step, line_spelt, mark_spelt, init_spelt, stmt_spelt, loop_spelt, spelt}
use Rattle.species_readback.specs.Meant.{means_array, means_local, is_meant, expr_meant, Meant, list_next, list_locals, list_holds, spell, declared, init_meant, inner_scope, stmt_meant, loop_meant, meant}

pub record SameNames (u w : Unit) : Type 0 where
  pub arrays : u.arrays ≡ w.arrays
  pub locals : u.locals ≡ w.locals

array_same : (u w : Unit) → SameNames u w → (n : ℕ) → array_name u n ≡ array_name w n
array_same u w s n = ap (λ (xs : List Array). unwrap_or (option_map (λ a. a.name) (slice_get xs n)) []) s.arrays

local_same : (u w : Unit) → SameNames u w → (n : ℕ) → local_name u n ≡ local_name w n
local_same u w s n = ap (λ (xs : List LocalInfo). unwrap_or (option_map (λ l. l.name) (slice_get xs n)) []) s.locals

kind_same : (u w : Unit) → SameNames u w → (n : ℕ) → local_kind u n ≡ local_kind w n
kind_same u w s n = ap (λ (xs : List LocalInfo). unwrap_or (option_map (λ l. l.kind) (slice_get xs n)) of_kind.Int) s.locals

-- ---- expressions

-- a fold by steps that agree
module _ (f g : Expr-F Bool → Bool) (same : (x : Expr-F Bool) → f x ≡ g x) where
  abbrev Folded : Expr → Type 0
  Folded e = fold-Expr Bool f e ≡ fold-Expr Bool g e

  folded_cases : ExprCases Folded
  folded_cases = record {
    literal = λ v. fold_expr-Literal f v ∙ same (Expr-F.Literal v) ∙ sym (fold_expr-Literal g v);
    iter = λ n. fold_expr-Iter f n ∙ same (Expr-F.Iter n) ∙ sym (fold_expr-Iter g n);
    local = λ n. fold_expr-Local f n ∙ same (Expr-F.Local n) ∙ sym (fold_expr-Local g n);
    elem = λ n subs h.
        fold_expr-Elem f n subs
        ∙ ap (λ bs. f (Expr-F.Elem n bs)) (map-each (fold-Expr Bool f) (fold-Expr Bool g) subs h)
        ∙ same (Expr-F.Elem n (map (fold-Expr Bool g) subs)) ∙ sym (fold_expr-Elem g n subs);
    unary = λ op a h. fold_expr-Unary f op a ∙ ap (λ b. f (Expr-F.Unary op b)) h ∙ same (Expr-F.Unary op (fold-Expr Bool g a)) ∙ sym (fold_expr-Unary g op a);
    binary = λ op a b h k.
        fold_expr-Binary f op a b ∙ (λ i. f (Expr-F.Binary op (h i) (k i))) ∙ same (Expr-F.Binary op (fold-Expr Bool g a) (fold-Expr Bool g b)) ∙ sym (fold_expr-Binary g op a b);
    both = λ a b h k. fold_expr-And f a b ∙ (λ i. f (Expr-F.And (h i) (k i))) ∙ same (Expr-F.And (fold-Expr Bool g a) (fold-Expr Bool g b)) ∙ sym (fold_expr-And g a b);
    either = λ a b h k. fold_expr-Or f a b ∙ (λ i. f (Expr-F.Or (h i) (k i))) ∙ same (Expr-F.Or (fold-Expr Bool g a) (fold-Expr Bool g b)) ∙ sym (fold_expr-Or g a b);
    cond = λ c a b j h k.
        fold_expr-Cond f c a b ∙ (λ i. f (Expr-F.Cond (j i) (h i) (k i))) ∙ same (Expr-F.Cond (fold-Expr Bool g c) (fold-Expr Bool g a) (fold-Expr Bool g b)) ∙ sym (fold_expr-Cond g c a b);
    cast = λ t a h. fold_expr-Cast f t a ∙ ap (λ b. f (Expr-F.Cast t b)) h ∙ same (Expr-F.Cast t (fold-Expr Bool g a)) ∙ sym (fold_expr-Cast g t a);
  }

  fold_same : (e : Expr) → fold-Expr Bool f e ≡ fold-Expr Bool g e
  fold_same = expr_ind Folded folded_cases

spelt_step : (u w : Unit) → SameNames u w → (it : List (List ℕ)) (x : Expr-F Bool) → expr_spelt u it x ≡ expr_spelt w it x
spelt_step u w s it (Expr-F.Literal v) = refl
spelt_step u w s it (Expr-F.Iter level) = refl
spelt_step u w s it (Expr-F.Local n) = ap is_name (local_same u w s n)
spelt_step u w s it (Expr-F.Elem n bs) = ap (λ z. is_name z && all_true bs) (array_same u w s n)
spelt_step u w s it (Expr-F.Unary op a) = refl
spelt_step u w s it (Expr-F.Binary op a b) = refl
spelt_step u w s it (Expr-F.And a b) = refl
spelt_step u w s it (Expr-F.Or a b) = refl
spelt_step u w s it (Expr-F.Cond c a b) = refl
spelt_step u w s it (Expr-F.Cast k a) = refl

meant_step : (u w : Unit) → SameNames u w → (it : List (List ℕ)) (t : Scope) (x : Expr-F Bool) → expr_meant u it t x ≡ expr_meant w it t x
meant_step u w s it t (Expr-F.Literal v) = refl
meant_step u w s it t (Expr-F.Iter level) = refl
meant_step u w s it t (Expr-F.Local n) = ap (λ z. means_local t n (meaning_in t.names z)) (local_same u w s n)
meant_step u w s it t (Expr-F.Elem n bs) = ap (λ z. means_array n (meaning_in t.names z) && all_true bs) (array_same u w s n)
meant_step u w s it t (Expr-F.Unary op a) = refl
meant_step u w s it t (Expr-F.Binary op a b) = refl
meant_step u w s it t (Expr-F.And a b) = refl
meant_step u w s it t (Expr-F.Or a b) = refl
meant_step u w s it t (Expr-F.Cond c a b) = refl
meant_step u w s it t (Expr-F.Cast k a) = refl

spelt_same : (u w : Unit) → SameNames u w → (it : List (List ℕ)) (e : Expr) → is_spelt u it e ≡ is_spelt w it e
spelt_same u w s it = fold_same (expr_spelt u it) (expr_spelt w it) (spelt_step u w s it)

meant_same : (u w : Unit) → SameNames u w → (it : List (List ℕ)) (t : Scope) (e : Expr) → is_meant u it t e ≡ is_meant w it t e
meant_same u w s it t = fold_same (expr_meant u it t) (expr_meant w it t) (meant_step u w s it t)

all_spelt : (u w : Unit) → SameNames u w → (it : List (List ℕ)) (es : List Expr) → list_all (is_spelt u it) es ≡ list_all (is_spelt w it) es
all_spelt u w s it [] = refl
all_spelt u w s it (e ∷ es) = (λ i. spelt_same u w s it e i && all_spelt u w s it es i)

all_meant : (u w : Unit) → SameNames u w → (it : List (List ℕ)) (t : Scope) (es : List Expr) → list_all (is_meant u it t) es ≡ list_all (is_meant w it t) es
all_meant u w s it t [] = refl
all_meant u w s it t (e ∷ es) = (λ i. meant_same u w s it t e i && all_meant u w s it t es i)

-- ---- what can be written

abbrev WrittenAlike : Unit → Unit → Stmt → Type 0
WrittenAlike u w x = (it : List (List ℕ)) → spelt u x it ≡ spelt w x it

written_list : (u w : Unit) (it : List (List ℕ)) (xs : List Stmt) → Each (WrittenAlike u w) xs → list_all (λ s. s it) (map (spelt u) xs) ≡ list_all (λ s. s it) (map (spelt w) xs)
written_list u w it [] h = refl
written_list u w it (x ∷ xs) h = (λ i. h.0 it i && written_list u w it xs h.1 i)

by_folds : (u w : Unit) (x : Stmt) (f g : List (List ℕ) → Bool) → spelt u x ≡ f → spelt w x ≡ g → ((it : List (List ℕ)) → f it ≡ g it) → WrittenAlike u w x
by_folds u w x f g a b h it = ap (λ z. z it) a ∙ h it ∙ sym (ap (λ z. z it) b)

init_written : (u w : Unit) → SameNames u w → (it : List (List ℕ)) (init : Option Expr) → init_spelt u it init ≡ init_spelt w it init
init_written u w s it None = refl
init_written u w s it (Some e) = spelt_same u w s it e

written_loop : (u w : Unit) → SameNames u w → (l : Loop-F Stmt Loop) → Each (WrittenAlike u w) l.body → WrittenAlike u w (stmt.For (roll-Loop l))
written_loop u w s l h =
    by_folds u w (stmt.For (roll-Loop l)) (loop_spelt u (folded_layer (stmt_spelt u) (loop_spelt u) l)) (loop_spelt w (folded_layer (stmt_spelt w) (loop_spelt w) l))
    (fold_stmt-For (stmt_spelt u) (loop_spelt u) (roll-Loop l) ∙ ap (λ z. stmt_spelt u (Stmt-F.For z)) (fold_loop (stmt_spelt u) (loop_spelt u) l))
    (fold_stmt-For (stmt_spelt w) (loop_spelt w) (roll-Loop l) ∙ ap (λ z. stmt_spelt w (Stmt-F.For z)) (fold_loop (stmt_spelt w) (loop_spelt w) l))
    (λ it.
    let jt = it ++ l.iter ∷ [] in
    (λ i. (line_spelt l.line && mark_spelt l.mark)
    && ((is_name l.iter && is_int_step l.step)
    && ((spelt_same u w s it l.start i && spelt_same u w s jt l.limit i) && written_list u w jt l.body h i))))

written_cases : (u w : Unit) → SameNames u w → StmtCases (WrittenAlike u w)
written_cases u w s = record {
  assign = λ place a es e.
      by_folds u w (stmt.Assign place a es e) (stmt_spelt u (Stmt-F.Assign place a es e)) (stmt_spelt w (Stmt-F.Assign place a es e))
      (fold_stmt-Assign (stmt_spelt u) (loop_spelt u) place a es e) (fold_stmt-Assign (stmt_spelt w) (loop_spelt w) place a es e)
      (λ it. (λ i. is_name (array_same u w s a i) && (all_spelt u w s it es i && spelt_same u w s it e i)));
  add_to = λ place a es e atomic.
      by_folds u w (stmt.AddTo place a es e atomic) (stmt_spelt u (Stmt-F.AddTo place a es e atomic)) (stmt_spelt w (Stmt-F.AddTo place a es e atomic))
      (fold_stmt-AddTo (stmt_spelt u) (loop_spelt u) place a es e atomic) (fold_stmt-AddTo (stmt_spelt w) (loop_spelt w) place a es e atomic)
      (λ it. (λ i. is_name (array_same u w s a i) && (all_spelt u w s it es i && spelt_same u w s it e i)));
  declare = λ place n init.
      by_folds u w (stmt.Declare place n init) (stmt_spelt u (Stmt-F.Declare place n init)) (stmt_spelt w (Stmt-F.Declare place n init))
      (fold_stmt-Declare (stmt_spelt u) (loop_spelt u) place n init) (fold_stmt-Declare (stmt_spelt w) (loop_spelt w) place n init)
      (λ it. (λ i. is_name (local_same u w s n i) && init_written u w s it init i));
  set_local = λ place n e.
      by_folds u w (stmt.SetLocal place n e) (stmt_spelt u (Stmt-F.SetLocal place n e)) (stmt_spelt w (Stmt-F.SetLocal place n e))
      (fold_stmt-SetLocal (stmt_spelt u) (loop_spelt u) place n e) (fold_stmt-SetLocal (stmt_spelt w) (loop_spelt w) place n e)
      (λ it. (λ i. is_name (local_same u w s n i) && spelt_same u w s it e i));
  choice = λ place e body otherwise h j.
      by_folds u w (stmt.If place e body otherwise) (stmt_spelt u (Stmt-F.If place e (map (spelt u) body) (map (spelt u) otherwise))) (stmt_spelt w (Stmt-F.If place e (map (spelt w) body) (map (spelt w) otherwise)))
      (fold_stmt-If (stmt_spelt u) (loop_spelt u) place e body otherwise) (fold_stmt-If (stmt_spelt w) (loop_spelt w) place e body otherwise)
      (λ it. (λ i. spelt_same u w s it e i && (written_list u w it body h i && written_list u w it otherwise j i)));
  loop = written_loop u w s;
  block = λ body h.
      by_folds u w (stmt.Block body) (stmt_spelt u (Stmt-F.Block (map (spelt u) body))) (stmt_spelt w (Stmt-F.Block (map (spelt w) body)))
      (fold_stmt-Block (stmt_spelt u) (loop_spelt u) body) (fold_stmt-Block (stmt_spelt w) (loop_spelt w) body)
      (λ it. written_list u w it body h);
}

pub written_alike : (u w : Unit) → SameNames u w → (it : List (List ℕ)) (xs : List Stmt) → list_all (λ s. s it) (map (spelt u) xs) ≡ list_all (λ s. s it) (map (spelt w) xs)
written_alike u w s it xs = written_list u w it xs (each_all (WrittenAlike u w) (stmt_ind (WrittenAlike u w) (written_cases u w s)) xs)

-- ---- what names mean

record AlikeMeant (m k : Meant) : Type 0 where
  next : (s : Scope) → m.next s ≡ k.next s
  locals : m.locals ≡ k.locals
  holds : (it : List (List ℕ)) (s : Scope) → m.holds it s ≡ k.holds it s

-- the same of lists
pub record AlikeAll (ms ks : List Meant) : Type 0 where
  pub next : (s : Scope) → list_next ms s ≡ list_next ks s
  pub locals : list_locals ms ≡ list_locals ks
  pub holds : (it : List (List ℕ)) (s : Scope) → list_holds ms it s ≡ list_holds ks it s

abbrev MeantAlike : Unit → Unit → Stmt → Type 0
MeantAlike u w x = AlikeMeant (meant u x) (meant w x)

alike_then : (m k : Meant) (ms ks : List Meant) → AlikeMeant m k → AlikeAll ms ks → AlikeAll (m ∷ ms) (k ∷ ks)
alike_then m k ms ks a b = record {
  next = λ s. ap (list_next ms) (a.next s) ∙ b.next (k.next s);
  locals = (λ i. a.locals i ++ b.locals i);
  holds = λ it s.
      ap (λ c. c && list_holds ms it (m.next s)) (a.holds it s)
      ∙ ap (λ t. k.holds it s && list_holds ms it t) (a.next s)
      ∙ ap (λ c. k.holds it s && c) (b.holds it (k.next s));
}

meant_list : (u w : Unit) (xs : List Stmt) → Each (MeantAlike u w) xs → AlikeAll (map (meant u) xs) (map (meant w) xs)
meant_list u w [] h = record { next = λ s. refl; locals = refl; holds = λ it s. refl }
meant_list u w (x ∷ xs) h = alike_then (meant u x) (meant w x) (map (meant u) xs) (map (meant w) xs) h.0 (meant_list u w xs h.1)

by_meant : (u w : Unit) (x : Stmt) (m k : Meant) → meant u x ≡ m → meant w x ≡ k → AlikeMeant m k → MeantAlike u w x
by_meant u w x m k a b h = subst (λ z. AlikeMeant z (meant w x)) (sym a) (subst (λ z. AlikeMeant m z) (sym b) h)

declared_same : (u w : Unit) → SameNames u w → (n : ℕ) (initialised : Bool) (s : Scope) → declared u n initialised s ≡ declared w n initialised s
declared_same u w e n initialised s =
    (λ i. scope_with_local (spell (local_same u w e n i)) (record { serial = s.serials; kind = kind_same u w e n i; initialised = initialised }) s)

init_alike : (u w : Unit) → SameNames u w → (it : List (List ℕ)) (t : Scope) (init : Option Expr) → init_meant u it t init ≡ init_meant w it t init
init_alike u w s it t None = refl
init_alike u w s it t (Some e) = meant_same u w s it t e

element_alike : (u w : Unit) → SameNames u w → (a : ℕ) (es : List Expr) (e : Expr) (it : List (List ℕ)) (t : Scope)
    → (means_array a (meaning_in t.names (array_name u a)) && (list_all (is_meant u it t) es && is_meant u it t e)) ≡ (means_array a (meaning_in t.names (array_name w a)) && (list_all (is_meant w it t) es && is_meant w it t e))
element_alike u w s a es e it t = (λ i. means_array a (meaning_in t.names (array_same u w s a i)) && (all_meant u w s it t es i && meant_same u w s it t e i))

loop_alike : (u w : Unit) → SameNames u w → (l : Loop-F Stmt Loop) → Each (MeantAlike u w) l.body → MeantAlike u w (stmt.For (roll-Loop l))
loop_alike u w s l h =
    let b = meant_list u w l.body h in
    by_meant u w (stmt.For (roll-Loop l)) (loop_meant u (folded_layer (stmt_meant u) (loop_meant u) l)) (loop_meant w (folded_layer (stmt_meant w) (loop_meant w) l))
    (fold_stmt-For (stmt_meant u) (loop_meant u) (roll-Loop l) ∙ ap (λ z. stmt_meant u (Stmt-F.For z)) (fold_loop (stmt_meant u) (loop_meant u) l))
    (fold_stmt-For (stmt_meant w) (loop_meant w) (roll-Loop l) ∙ ap (λ z. stmt_meant w (Stmt-F.For z)) (fold_loop (stmt_meant w) (loop_meant w) l))
    (record {
      next = λ t. ap (behind t) (b.next (inner_scope l t));
      locals = b.locals;
      holds = λ it t.
          let jt = it ++ l.iter ∷ [] in
          let inner = inner_scope l t in
          (λ i. meant_same u w s it t l.start i && (meant_same u w s jt inner l.limit i && (is_int_step l.step && b.holds jt inner i)));
    })

meant_cases : (u w : Unit) → SameNames u w → StmtCases (MeantAlike u w)
meant_cases u w s = record {
  assign = λ place a es e.
      by_meant u w (stmt.Assign place a es e) (stmt_meant u (Stmt-F.Assign place a es e)) (stmt_meant w (Stmt-F.Assign place a es e))
      (fold_stmt-Assign (stmt_meant u) (loop_meant u) place a es e) (fold_stmt-Assign (stmt_meant w) (loop_meant w) place a es e)
      (record { next = λ t. refl; locals = refl; holds = element_alike u w s a es e });
  add_to = λ place a es e atomic.
      by_meant u w (stmt.AddTo place a es e atomic) (stmt_meant u (Stmt-F.AddTo place a es e atomic)) (stmt_meant w (Stmt-F.AddTo place a es e atomic))
      (fold_stmt-AddTo (stmt_meant u) (loop_meant u) place a es e atomic) (fold_stmt-AddTo (stmt_meant w) (loop_meant w) place a es e atomic)
      (record { next = λ t. refl; locals = refl; holds = element_alike u w s a es e });
  declare = λ place n init.
      by_meant u w (stmt.Declare place n init) (stmt_meant u (Stmt-F.Declare place n init)) (stmt_meant w (Stmt-F.Declare place n init))
      (fold_stmt-Declare (stmt_meant u) (loop_meant u) place n init) (fold_stmt-Declare (stmt_meant w) (loop_meant w) place n init)
      (record {
        next = declared_same u w s n (is_some init);
        locals = (λ i. record { name = local_same u w s n i; kind = kind_same u w s n i } ∷ []);
        holds = λ it t.
            ap (λ c. not (is_among t.iterators t.serials) && (nat_eq (local_number t t.serials) n && c))
            (init_alike u w s it (declared u n (is_some init) t) init ∙ ap (λ z. init_meant w it z init) (declared_same u w s n (is_some init) t));
      });
  set_local = λ place n e.
      by_meant u w (stmt.SetLocal place n e) (stmt_meant u (Stmt-F.SetLocal place n e)) (stmt_meant w (Stmt-F.SetLocal place n e))
      (fold_stmt-SetLocal (stmt_meant u) (loop_meant u) place n e) (fold_stmt-SetLocal (stmt_meant w) (loop_meant w) place n e)
      (record { next = λ t. refl; locals = refl; holds = λ it t. (λ i. means_local t n (meaning_in t.names (local_same u w s n i)) && meant_same u w s it t e i) });
  choice = λ place e body otherwise h j.
      let a = meant_list u w body h in
      let b = meant_list u w otherwise j in
      let ms = map (meant u) body in
      let ks = map (meant w) body in
      let ns = map (meant u) otherwise in
      by_meant u w (stmt.If place e body otherwise) (stmt_meant u (Stmt-F.If place e ms ns)) (stmt_meant w (Stmt-F.If place e ks (map (meant w) otherwise)))
      (fold_stmt-If (stmt_meant u) (loop_meant u) place e body otherwise) (fold_stmt-If (stmt_meant w) (loop_meant w) place e body otherwise)
      (record {
        next = λ t.
            ap (λ z. behind (behind t z) (list_next ns (behind t z))) (a.next t)
            ∙ ap (behind (behind t (list_next ks t))) (b.next (behind t (list_next ks t)));
        locals = (λ i. a.locals i ++ b.locals i);
        holds = λ it t.
            (λ i. meant_same u w s it t e i && (a.holds it t i && list_holds ns it (behind t (a.next t i))))
            ∙ ap (λ c. is_meant w it t e && (list_holds ks it t && c)) (b.holds it (behind t (list_next ks t)));
      });
  loop = loop_alike u w s;
  block = λ body h.
      let a = meant_list u w body h in
      by_meant u w (stmt.Block body) (stmt_meant u (Stmt-F.Block (map (meant u) body))) (stmt_meant w (Stmt-F.Block (map (meant w) body)))
      (fold_stmt-Block (stmt_meant u) (loop_meant u) body) (fold_stmt-Block (stmt_meant w) (loop_meant w) body)
      (record { next = λ t. ap (behind t) (a.next t); locals = a.locals; holds = a.holds });
}

pub meant_alike : (u w : Unit) → SameNames u w → (xs : List Stmt) → AlikeAll (map (meant u) xs) (map (meant w) xs)
meant_alike u w s xs = meant_list u w xs (each_all (MeantAlike u w) (stmt_ind (MeantAlike u w) (meant_cases u w s)) xs)
