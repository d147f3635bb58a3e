-- In a well made statement a local that is not in scope has no value.
use Rattle.std.proofs.Common.{◌≡◌, refl, ap, sym, ◌∙◌, subst, arith, ℕ, zero, suc, List, [], ◌∷◌, ◌++◌, map, length, Option, Some, None, Bool, true, false, if◌then◌else◌, ◌||◌, ◌&&◌, nat_eq, ℤ}
use Rattle.std.specs.Prelude.{slice_get, slice_set, unwrap_or}
use Rattle.std.proofs.lemmas.Bool.Decides.{nat_tests}
use Rattle.species_ast.specs.declared.tree.Binary.TheVariants as binary
use Rattle.species_ast.specs.declared.tree.Kind.TheVariants as kind
use Rattle.species_ast.specs.declared.tree.Loop.{roll-Loop}
use Rattle.species_ast.specs.declared.tree.Stmt.{Stmt}
use Rattle.species_ast.specs.declared.tree.Value.{Value}
use Rattle.species_ast.specs.Operators.{number_of, reduced, is_true, converted, binary_of}
use Rattle.species_ast.specs.Accesses.{Forbidden, Tree, Ret, Stop, Write, Add}
use Rattle.species_ast.specs.Evaluation.{Frame, Context, Spot, Sense, sense, local_of, with_local, local_kind, array_kind, site_at, element_at, target_of, elements_in, answered}
use Rattle.species_ast.specs.Run.{Step, cleared, step, does_list, does_scope, declared_in, iterator_values, inside, outside, turns, addition, initial, spot}
use Rattle.species_ast.specs.Scope.Meanings.{is_among}
use Rattle.species_ast.specs.Scope.WellMade.{Around, Made, list_holds, made, made_at, made_loop}
use Rattle.species_ast.proofs.Folds.{fold_stmt-Assign, fold_stmt-AddTo, fold_stmt-Declare, fold_stmt-SetLocal, fold_stmt-If, fold_stmt-For, fold_stmt-Block, fold_loop}
use Rattle.species_ast.proofs.Induction.{Each, each_all, stmt_ind}
use Rattle.species_ast.proofs.RunLaws.{step-Assign, step-AddTo, step-Declare, step-SetLocal, step-If, step-For, step-Block, loop-roll}
use Rattle.species_runs.specs.Every.{Anything, Gives}
use Rattle.species_runs.specs.Scopes.{HasOnly}
use Rattle.species_runs.proofs.EveryLaws.{every-then_do, every_one, gives_behind}

-- ---- tests

pub or_false : (a b : Bool) → (a || b) ≡ false → (a ≡ false) × (b ≡ false)
or_false true b h = absurd cc
or_false false b h = (refl, h)

pub both_false : (a b : Bool) → a ≡ false → b ≡ false → (a || b) ≡ false
both_false true b p q = absurd cc
both_false false b p q = q

pub and_true : (a b : Bool) → (a && b) ≡ true → (a ≡ true) × (b ≡ true)
and_true true b h = (refl, h)
and_true false b h = absurd cc

pub never_both : (b : Bool) → b ≡ true → b ≡ false → ⊥
never_both true p q = cc
never_both false p q = cc

-- ---- lists of locals

pub out_left : (xs ys : List ℕ) (y : ℕ) → is_among (xs ++ ys) y ≡ false → is_among xs y ≡ false
out_left [] ys y h = refl
out_left (x ∷ xs) ys y h =
    let o = or_false (nat_eq y x) (is_among (xs ++ ys) y) h in
    both_false (nat_eq y x) (is_among xs y) o.0 (out_left xs ys y o.1)

pub out_right : (xs ys : List ℕ) (y : ℕ) → is_among (xs ++ ys) y ≡ false → is_among ys y ≡ false
out_right [] ys y h = h
out_right (x ∷ xs) ys y h = let o = or_false (nat_eq y x) (is_among (xs ++ ys) y) h in out_right xs ys y o.1

pub out_both : (xs ys : List ℕ) (y : ℕ) → is_among xs y ≡ false → is_among ys y ≡ false → is_among (xs ++ ys) y ≡ false
out_both [] ys y p q = q
out_both (x ∷ xs) ys y p q =
    let o = or_false (nat_eq y x) (is_among xs y) p in
    both_false (nat_eq y x) (is_among (xs ++ ys) y) o.0 (out_both xs ys y o.1 q)

-- ---- a local is set or cleared

pub set_other : (ls : List (Option Value)) (x y : ℕ) (o : Option Value) → nat_eq y x ≡ false
    → unwrap_or (slice_get (slice_set ls x o) y) None ≡ unwrap_or (slice_get ls y) None
set_other [] x y o h = refl
set_other (l ∷ ls) zero zero o h = absurd (never_both (nat_eq 0 0) refl h)
set_other (l ∷ ls) zero (suc y) o h = refl
set_other (l ∷ ls) (suc x) zero o h = refl
set_other (l ∷ ls) (suc x) (suc y) o h = let less : nat_eq y x ≡ false = grind (arith, nat_tests) in set_other ls x y o less

at_self : (ls : List (Option Value)) (x : ℕ) → unwrap_or (slice_get (slice_set ls x None) x) None ≡ None
at_self [] x = refl
at_self (l ∷ ls) zero = refl
at_self (l ∷ ls) (suc x) = at_self ls x

-- a cleared local, and any other
after_clearing : (f : Frame) (x y : ℕ) → (nat_eq y x ≡ false → local_of f y ≡ None) → local_of (with_local f x None) y ≡ None
after_clearing f x y other = go (nat_eq y x) refl
  where
    go : (b : Bool) → nat_eq y x ≡ b → local_of (with_local f x None) y ≡ None
    go true same = let is : y ≡ x = grind (arith, nat_tests) in subst (λ z. local_of (with_local f x None) z ≡ None) (sym is) (at_self f.locals x)
    go false same = set_other f.locals x y None same ∙ other same

pub only_cleared : (xs scope : List ℕ) (f : Frame) → HasOnly (xs ++ scope) f → HasOnly scope (cleared xs f)
only_cleared [] scope f h = h
only_cleared (x ∷ xs) scope f h =
    only_cleared xs scope (with_local f x None) (λ y out. after_clearing f x y (λ other. h y (both_false (nat_eq y x) (is_among (xs ++ scope) y) other out)))

only_set : (scope : List ℕ) (f : Frame) (x : ℕ) (o : Option Value) → is_among scope x ≡ true → HasOnly scope f → HasOnly scope (with_local f x o)
only_set scope f x o there h y out = set_other f.locals x y o (differs (nat_eq y x) refl) ∙ h y out
  where
    differs : (b : Bool) → nat_eq y x ≡ b → nat_eq y x ≡ false
    differs true same =
        let is : y ≡ x = grind (arith, nat_tests) in
        absurd (never_both (is_among scope x) there (subst (λ z. is_among scope z ≡ false) is out))
    differs false same = same

self_among : (x : ℕ) (xs : List ℕ) → is_among (x ∷ xs) x ≡ true
self_among x xs = let same : nat_eq x x ≡ true = grind (arith, nat_tests) in ap (λ b. b || is_among xs x) same

pub only_wider : (xs scope : List ℕ) (f : Frame) → HasOnly scope f → HasOnly (xs ++ scope) f
only_wider xs scope f h y out = h y (out_right xs scope y out)

-- ---- lists of statements

-- the locals that are in scope behind a list
abbrev pub behind : List Stmt → List ℕ → List ℕ
behind [] scope = scope
behind (s ∷ ss) scope = behind ss ((made s).declares ++ scope)

-- where a well made statement begins with values in locals in scope alone, it ends so
abbrev pub KeepsScope : Made → Step → Type 0
KeepsScope m s = (w : Around) → m.holds w ≡ true → (at : List ℕ) (f : Frame) → HasOnly w.locals f → Gives (HasOnly (m.declares ++ w.locals)) (s.does at f)

abbrev pub StepKeepsScope : Context → Stmt → Type 0
StepKeepsScope c x = KeepsScope (made x) (step c x)

list_keeps_scope : (c : Context) (ss : List Stmt) → Each (StepKeepsScope c) ss → (w : Around) → list_holds (map made ss) w ≡ true → (at : List ℕ) (k : ℕ) (f : Frame)
    → HasOnly w.locals f → Gives (HasOnly (behind ss w.locals)) (does_list c ss at k f)
list_keeps_scope c [] h w t at k f p = p
list_keeps_scope c (s ∷ ss) h w t at k f p =
    let next = record w { locals = (made s).declares ++ w.locals } in
    let both = and_true ((made s).holds w) (list_holds (map made ss) next) t in
    every-then_do Anything (HasOnly ((made s).declares ++ w.locals)) (HasOnly (behind (s ∷ ss) w.locals)) ((step c s).does (at ++ k ∷ []) f) _
    (h.0 w both.0 (at ++ k ∷ []) f p) (λ g q. list_keeps_scope c ss h.1 next both.1 at (suc k) g q)

pub same_declares : (c : Context) (x : Stmt) → (step c x).declares ≡ (made x).declares
same_declares c = stmt_ind (λ x. (step c x).declares ≡ (made x).declares) (record {
  assign = λ place a subs value. ap (λ s. s.declares) (step-Assign c place a subs value) ∙ sym (ap (λ m. m.declares) (fold_stmt-Assign made_at made_loop place a subs value));
  add_to = λ place a subs value atomic.
      ap (λ s. s.declares) (step-AddTo c place a subs value atomic) ∙ sym (ap (λ m. m.declares) (fold_stmt-AddTo made_at made_loop place a subs value atomic));
  declare = λ place x init. ap (λ s. s.declares) (step-Declare c place x init) ∙ sym (ap (λ m. m.declares) (fold_stmt-Declare made_at made_loop place x init));
  set_local = λ place x value. ap (λ s. s.declares) (step-SetLocal c place x value) ∙ sym (ap (λ m. m.declares) (fold_stmt-SetLocal made_at made_loop place x value));
  choice = λ place test body otherwise p q.
      ap (λ s. s.declares) (step-If c place test body otherwise) ∙ sym (ap (λ m. m.declares) (fold_stmt-If made_at made_loop place test body otherwise));
  loop = λ l p. ap (λ s. s.declares) (step-For c (roll-Loop l)) ∙ sym (ap (λ m. m.declares) (fold_stmt-For made_at made_loop (roll-Loop l) ∙ fold_loop made_at made_loop l));
  block = λ body p. ap (λ s. s.declares) (step-Block c body) ∙ sym (ap (λ m. m.declares) (fold_stmt-Block made_at made_loop body));
})

-- what is in scope behind a list is declared in it, or was in scope before
out_behind : (c : Context) (ss : List Stmt) (scope : List ℕ) (f : Frame) → HasOnly (behind ss scope) f → HasOnly (declared_in (map (step c) ss) ++ scope) f
out_behind c [] scope f h = h
out_behind c (s ∷ ss) scope f h = λ y out.
    let ds = (step c s).declares in
    let rest = declared_in (map (step c) ss) in
    let all = out_left (ds ++ rest) scope y out in
    let here : is_among (made s).declares y ≡ false = subst (λ xs. is_among xs y ≡ false) (same_declares c s) (out_left ds rest y all) in
    out_behind c ss ((made s).declares ++ scope) f h y
    (out_both rest ((made s).declares ++ scope) y (out_right ds rest y all) (out_both (made s).declares scope y here (out_right (ds ++ rest) scope y out)))

pub scope_keeps_scope : (c : Context) (ss : List Stmt) → Each (StepKeepsScope c) ss → (w : Around) → list_holds (map made ss) w ≡ true → (at : List ℕ) (k : ℕ) (f : Frame)
    → HasOnly w.locals f → Gives (HasOnly w.locals) (does_scope c ss at k f)
scope_keeps_scope c ss h w t at k f p =
    every-then_do Anything (HasOnly (behind ss w.locals)) (HasOnly w.locals) (does_list c ss at k f) _ (list_keeps_scope c ss h w t at k f p)
    (λ g q. only_cleared (declared_in (map (step c) ss)) w.locals g (out_behind c ss w.locals g q))

pub turns_keep_scope : (scope : List ℕ) (is : List ℤ) (body : Frame → Tree Frame) → ((f : Frame) → HasOnly scope f → Gives (HasOnly scope) (body f)) → (f : Frame) → HasOnly scope f
    → Gives (HasOnly scope) (turns is body f)
turns_keep_scope scope [] body h f p = p
turns_keep_scope scope (i ∷ is) body h f p =
    every-then_do Anything (HasOnly scope) (HasOnly scope) (body (inside f i)) _ (h (inside f i) p) (λ g q. turns_keep_scope scope is body h (outside f g) q)

-- ---- statements

by_parts : (m n : Made) (s t : Step) → m ≡ n → s ≡ t → KeepsScope n t → KeepsScope m s
by_parts m n s t p q h = subst (λ x. KeepsScope x s) (sym p) (subst (λ x. KeepsScope n x) (sym q) h)

gives_one : {X : Type 0} (Q : X → Type 0) (b : Bool) (t u : Tree X) → Gives Q t → Gives Q u → Gives Q (if b then t else u)
gives_one Q b t u p q = every_one Anything Q b t u (λ _. p) (λ _. q)

adds_keep : (c : Context) (scope : List ℕ) (a : ℕ) (atomic : Bool) (n : ℕ) (value : Sense) (s : Spot) (is : List ℕ) (f : Frame) → HasOnly scope f
    → Gives (HasOnly scope) (addition c a atomic n value s is f)
adds_keep c scope a false n value s is f p = λ old. (
  tt,
  gives_behind (HasOnly scope) (value.does s (suc n) f) _ (λ v.
      gives_behind (HasOnly scope) (answered (site_at s n f is) (binary_of binary.Add old v))
      (λ sum. Write (site_at s n f is) (element_at c a is) (converted (array_kind c a) sum) (Ret f)) (λ sum. (tt, p))),
)
adds_keep c scope a true n value s is f p =
    gives_behind (HasOnly scope) (value.does s (suc n) f) _ (λ v.
    gives_one (HasOnly scope) (c.may_add a (array_kind c a)) (Add (site_at s n f is) (element_at c a is) (converted (array_kind c a) v) (Ret f))
    (Stop (site_at s n f is) Forbidden) (tt, p) tt)

-- the law
pub keeps_scope : (c : Context) (x : Stmt) → StepKeepsScope c x
keeps_scope c = stmt_ind (StepKeepsScope c) (record {
  assign = λ place a subs value. by_parts _ _ _ _ (fold_stmt-Assign made_at made_loop place a subs value) (step-Assign c place a subs value) (λ w t at f p.
      gives_behind (HasOnly w.locals) (target_of c a (map (sense c) subs) (spot place at) 0 f) _ (λ is.
      gives_behind (HasOnly w.locals) ((sense c value).does (spot place at) (suc (elements_in (map (sense c) subs))) f) _ (λ v. (tt, p))));
  add_to = λ place a subs value atomic. by_parts _ _ _ _ (fold_stmt-AddTo made_at made_loop place a subs value atomic) (step-AddTo c place a subs value atomic) (λ w t at f p.
      gives_behind (HasOnly w.locals) (target_of c a (map (sense c) subs) (spot place at) 0 f) _ (λ is.
      adds_keep c w.locals a atomic (elements_in (map (sense c) subs)) (sense c value) (spot place at) is f p));
  declare = λ place x init. by_parts _ _ _ _ (fold_stmt-Declare made_at made_loop place x init) (step-Declare c place x init) (λ w t at f p.
      gives_behind (HasOnly (x ∷ w.locals)) (initial c (local_kind c x) (spot place at) init (with_local f x None)) _ (λ v.
      only_set (x ∷ w.locals) f x v (self_among x w.locals) (only_wider (x ∷ []) w.locals f p)));
  set_local = λ place x value. by_parts _ _ _ _ (fold_stmt-SetLocal made_at made_loop place x value) (step-SetLocal c place x value) (λ w t at f p.
      let there = and_true (is_among w.locals x) _ t in
      gives_behind (HasOnly w.locals) ((sense c value).does (spot place at) 0 f) _ (λ v.
      gives_one (HasOnly w.locals) (c.may_set x) (Ret (with_local f x (Some (converted (local_kind c x) v)))) (Stop (site_at (spot place at) (sense c value).elements f []) Forbidden)
      (only_set w.locals f x _ there.0 p) tt));
  choice = λ place test body otherwise p q. by_parts _ _ _ _ (fold_stmt-If made_at made_loop place test body otherwise) (step-If c place test body otherwise) (λ w t at f r.
      let both = and_true (list_holds (map made body) w) (list_holds (map made otherwise) w) (and_true _ _ t).1 in
      gives_behind (HasOnly w.locals) ((sense c test).does (spot place at) 0 f) _ (λ v.
      gives_one (HasOnly w.locals) (is_true v) (does_scope c body at 0 f) (does_scope c otherwise at (length (map (step c) body)) f)
      (scope_keeps_scope c body p w both.0 at 0 f r) (scope_keeps_scope c otherwise q w both.1 at _ f r)));
  loop = λ l p. by_parts _ _ _ _ (fold_stmt-For made_at made_loop (roll-Loop l) ∙ fold_loop made_at made_loop l) (step-For c (roll-Loop l)) (λ w t at f r.
      subst (Gives (HasOnly w.locals)) (sym (loop-roll c l at f))
      (gives_behind (HasOnly w.locals) ((sense c l.start).does (spot l.place at) 0 f) _ (λ a.
      gives_behind (HasOnly w.locals) ((sense c l.limit).does (spot l.place at) (sense c l.start).elements f) _ (λ b.
      turns_keep_scope w.locals (iterator_values l.test (reduced kind.Int (number_of a)) (reduced kind.Int (number_of b)) l.step) (does_scope c l.body at 0)
      (λ g q. scope_keeps_scope c l.body p (record w { level = suc w.level }) (and_true _ _ t).1 at 0 g q) f r))));
  block = λ body p. by_parts _ _ _ _ (fold_stmt-Block made_at made_loop body) (step-Block c body) (λ w t at f r. scope_keeps_scope c body p w t at 0 f r);
})

pub body_keeps_scope : (c : Context) (ss : List Stmt) (w : Around) → list_holds (map made ss) w ≡ true → (at : List ℕ) (k : ℕ) (f : Frame)
    → HasOnly w.locals f → Gives (HasOnly w.locals) (does_scope c ss at k f)
body_keeps_scope c ss w t at k f p = scope_keeps_scope c ss (each_all (StepKeepsScope c) (keeps_scope c) ss) w t at k f p
