-- What a statement leaves of the frame: the iterators, and each local that it neither sets nor declares. A well made scope that
-- sets no local of the outside leaves the frame as it was.
use Rattle.std.proofs.Common.{◌≡◌, arith, refl, ap, sym, ◌∙◌, subst, ℕ, zero, suc, List, [], ◌∷◌, ◌++◌, map, flat_map, length, Bool, true, false, ◌||◌, not, if◌then◌else◌, ℤ, Option, Some, None, ◌⊎◌, inl, inr, ⊎_elim}
use Rattle.std.specs.Prelude.{slice_get, slice_set, unwrap_or, nat_eq}
use Rattle.std.proofs.lemmas.Bool.Decides.{nat_tests}
use Rattle.species_ast.specs.declared.tree.Binary.TheVariants as binary
use Rattle.species_ast.specs.declared.tree.Kind.TheVariants as kind
use Rattle.species_ast.specs.declared.tree.Loop.{roll-Loop}
use Rattle.species_ast.specs.declared.tree.Stmt.{Stmt}
use Rattle.species_ast.specs.declared.tree.Stmt.TheOpen.{Loop-F}
use Rattle.species_ast.specs.declared.tree.Value.{Value}
use Rattle.species_ast.specs.Operators.{number_of, reduced, is_true, converted, binary_of}
use Rattle.species_ast.specs.Accesses.{Forbidden, Tree, Ret, Stop, Write, Add}
use Rattle.species_ast.specs.Evaluation.{Frame, Context, Spot, Sense, sense, local_of, local_kind, array_kind, with_local, target_of, elements_in, answered, site_at, element_at}
use Rattle.species_ast.specs.Run.{Step, inside, outside, turns, addition, initial, does_list, does_scope, cleared, declared_in, iterator_values, spot, step, locals_of, locals_in}
use Rattle.species_ast.specs.Scope.Meanings.{is_among}
use Rattle.species_ast.specs.Scope.WellMade.{Around, list_holds, made}
use Rattle.species_ast.proofs.Folds.{fold_stmt-SetLocal, fold_stmt-If, fold_stmt-For, fold_stmt-Block, fold_loop}
use Rattle.species_ast.proofs.Induction.{Each, each_all, stmt_ind}
use Rattle.species_ast.proofs.RunLaws.{step-Assign, step-AddTo, step-Declare, step-SetLocal, step-If, step-For, step-Block, loop-roll, locals-Declare, locals-If, locals-For, locals-Block}
use Rattle.species_runs.specs.Every.{Anything, Gives}
use Rattle.species_runs.specs.Scopes.{without, sets_at, sets_of, sets_in, outer_locals_set, HasOnly, IsBut, AreApart}
use Rattle.species_runs.proofs.EveryLaws.{every-then_do, every_weaker, every_both, every_one, gives_behind}
use Rattle.species_runs.proofs.ScopeLaws.{or_false, both_false, never_both, set_other, body_keeps_scope}

-- ---- frames

pub but_same : (may : ℕ → Bool) (f : Frame) → IsBut may f f
but_same may f = record { iters = refl; size = refl; rest = λ y free. refl }

pub but_again : (may : ℕ → Bool) (f g h : Frame) → IsBut may f g → IsBut may g h → IsBut may f h
but_again may f g h p q = record { iters = q.iters ∙ p.iters; size = q.size ∙ p.size; rest = λ y free. q.rest y free ∙ p.rest y free }

set_length : (ls : List (Option Value)) (x : ℕ) (o : Option Value) → length (slice_set ls x o) ≡ length ls
set_length [] x o = refl
set_length (l ∷ ls) zero o = refl
set_length (l ∷ ls) (suc x) o = ap suc (set_length ls x o)

pub but_set : (may : ℕ → Bool) (f : Frame) (x : ℕ) (o : Option Value) → may x ≡ true → IsBut may f (with_local f x o)
but_set may f x o there = record {
  iters = refl;
  size = set_length f.locals x o;
  rest = λ y free. set_other f.locals x y o (differs y free (nat_eq y x) refl);
}
  where
    differs : (y : ℕ) → may y ≡ false → (b : Bool) → nat_eq y x ≡ b → nat_eq y x ≡ false
    differs y free true same = let is : y ≡ x = grind (arith, nat_tests) in absurd (never_both (may x) there (subst (λ z. may z ≡ false) is free))
    differs y free false same = same

-- `may` is true of all these locals
abbrev pub AllMay : (ℕ → Bool) → List ℕ → Type 0
AllMay may [] = Unit {0}
AllMay may (x ∷ xs) = (may x ≡ true) × AllMay may xs

pub may_left : (may : ℕ → Bool) (xs ys : List ℕ) → AllMay may (xs ++ ys) → AllMay may xs
may_left may [] ys h = tt
may_left may (x ∷ xs) ys h = (h.0, may_left may xs ys h.1)

pub may_right : (may : ℕ → Bool) (xs ys : List ℕ) → AllMay may (xs ++ ys) → AllMay may ys
may_right may [] ys h = h
may_right may (x ∷ xs) ys h = may_right may xs ys h.1

may_both : (may : ℕ → Bool) (xs ys : List ℕ) → AllMay may xs → AllMay may ys → AllMay may (xs ++ ys)
may_both may [] ys p q = q
may_both may (x ∷ xs) ys p q = (p.0, may_both may xs ys p.1 q)

but_cleared : (may : ℕ → Bool) (xs : List ℕ) (f g : Frame) → AllMay may xs → IsBut may f g → IsBut may f (cleared xs g)
but_cleared may [] f g all h = h
but_cleared may (x ∷ xs) f g all h = but_cleared may xs f (with_local g x None) all.1 (but_again may f g (with_local g x None) h (but_set may g x None all.0))

-- ---- statements

abbrev pub DoesBut : (ℕ → Bool) → (Frame → Tree Frame) → Type 0
DoesBut may does = (f : Frame) → Gives (IsBut may f) (does f)

-- where it may set what it sets and declares, it sets nothing else
pub record LeavesFrame (may : ℕ → Bool) (w : Context) (x : Stmt) : Type 0 where
  pub declares : AllMay may (locals_of x) → AllMay may (step w x).declares
  pub does : AllMay may (locals_of x) → AllMay may (sets_of x) → (at : List ℕ) → DoesBut may ((step w x).does at)

leaves_list : (may : ℕ → Bool) (w : Context) (ss : List Stmt) → Each (LeavesFrame may w) ss → AllMay may (locals_in ss) → AllMay may (sets_in ss)
    → (at : List ℕ) (k : ℕ) → DoesBut may (does_list w ss at k)
leaves_list may w [] h all sets at k f = but_same may f
leaves_list may w (x ∷ ss) h all sets at k f =
    every-then_do Anything (IsBut may f) (IsBut may f) ((step w x).does (at ++ k ∷ []) f) _
    (h.0.does (may_left may (locals_of x) (locals_in ss) all) (may_left may (sets_of x) (sets_in ss) sets) (at ++ k ∷ []) f)
    (λ g p. every_weaker Anything Anything (IsBut may g) (IsBut may f) (does_list w ss at (suc k) g) (λ a _. tt) (λ e q. but_again may f g e p q)
    (leaves_list may w ss h.1 (may_right may (locals_of x) (locals_in ss) all) (may_right may (sets_of x) (sets_in ss) sets) at (suc k) g))

all_declared : (may : ℕ → Bool) (w : Context) (ss : List Stmt) → Each (LeavesFrame may w) ss → AllMay may (locals_in ss) → AllMay may (declared_in (map (step w) ss))
all_declared may w [] h all = tt
all_declared may w (x ∷ ss) h all =
    may_both may (step w x).declares (declared_in (map (step w) ss)) (h.0.declares (may_left may (locals_of x) (locals_in ss) all))
    (all_declared may w ss h.1 (may_right may (locals_of x) (locals_in ss) all))

leaves_scope : (may : ℕ → Bool) (w : Context) (ss : List Stmt) → Each (LeavesFrame may w) ss → AllMay may (locals_in ss) → AllMay may (sets_in ss)
    → (at : List ℕ) (k : ℕ) → DoesBut may (does_scope w ss at k)
leaves_scope may w ss h all sets at k f =
    every-then_do Anything (IsBut may f) (IsBut may f) (does_list w ss at k f) _ (leaves_list may w ss h all sets at k f)
    (λ g p. but_cleared may (declared_in (map (step w) ss)) f g (all_declared may w ss h all) p)

pub leaves_turns : (may : ℕ → Bool) (is : List ℤ) (body : Frame → Tree Frame) → DoesBut may body → DoesBut may (turns is body)
leaves_turns may [] body h f = but_same may f
leaves_turns may (i ∷ is) body h f =
    every-then_do Anything (IsBut may (inside f i)) (IsBut may f) (body (inside f i)) _ (h (inside f i)) (λ g p.
    let back : IsBut may f (outside f g) = record { iters = refl; size = p.size; rest = p.rest } in
    every_weaker Anything Anything (IsBut may (outside f g)) (IsBut may f) (turns is body (outside f g)) (λ a _. tt) (λ e q. but_again may f (outside f g) e back q)
    (leaves_turns may is body h (outside f g)))

leaves_addition : (may : ℕ → Bool) (w : Context) (a : ℕ) (atomic : Bool) (n : ℕ) (value : Sense) (s : Spot) (is : List ℕ) → DoesBut may (addition w a atomic n value s is)
leaves_addition may w a false n value s is f = λ old. (
  tt,
  gives_behind (IsBut may f) (value.does s (suc n) f) _ (λ v.
      gives_behind (IsBut may f) (answered (site_at s n f is) (binary_of binary.Add old v))
      (λ sum. Write (site_at s n f is) (element_at w a is) (converted (array_kind w a) sum) (Ret f)) (λ sum. (tt, but_same may f))),
)
leaves_addition may w a true n value s is f =
    gives_behind (IsBut may f) (value.does s (suc n) f) _ (λ v.
    every_one Anything (IsBut may f) (w.may_add a (array_kind w a)) (Add (site_at s n f is) (element_at w a is) (converted (array_kind w a) v) (Ret f))
    (Stop (site_at s n f is) Forbidden) (λ _. (tt, but_same may f)) (λ _. tt))

-- a statement that does this, and declares these locals
by_step : (may : ℕ → Bool) (w : Context) (x : Stmt) (s : Step) → step w x ≡ s → (AllMay may (locals_of x) → AllMay may s.declares)
    → (AllMay may (locals_of x) → AllMay may (sets_of x) → (at : List ℕ) → DoesBut may (s.does at)) → LeavesFrame may w x
by_step may w x s is declares does = record {
  declares = subst (λ t. AllMay may (locals_of x) → AllMay may t.declares) (sym is) declares;
  does = subst (λ t. AllMay may (locals_of x) → AllMay may (sets_of x) → (at : List ℕ) → DoesBut may (t.does at)) (sym is) does;
}

abbrev body_sets : Loop-F (List ℕ) (List ℕ) → List ℕ
body_sets l = flat_map (λ xs. xs) l.body

pub leaves_frame : (may : ℕ → Bool) (w : Context) (x : Stmt) → LeavesFrame may w x
leaves_frame may w = stmt_ind (LeavesFrame may w) (record {
  assign = λ place a subs value. by_step may w _ _ (step-Assign w place a subs value) (λ all. tt) (λ all sets at f.
      gives_behind (IsBut may f) (target_of w a (map (sense w) subs) (spot place at) 0 f) _ (λ is.
      gives_behind (IsBut may f) ((sense w value).does (spot place at) (suc (elements_in (map (sense w) subs))) f) _ (λ v. (tt, but_same may f))));
  add_to = λ place a subs value atomic. by_step may w _ _ (step-AddTo w place a subs value atomic) (λ all. tt) (λ all sets at f.
      gives_behind (IsBut may f) (target_of w a (map (sense w) subs) (spot place at) 0 f) _ (λ is.
      leaves_addition may w a atomic (elements_in (map (sense w) subs)) (sense w value) (spot place at) is f));
  declare = λ place x init. by_step may w _ _ (step-Declare w place x init) (λ all. subst (AllMay may) (locals-Declare place x init) all) (λ all sets at f.
      gives_behind (IsBut may f) (initial w (local_kind w x) (spot place at) init (with_local f x None)) _ (λ v.
      but_set may f x v (subst (AllMay may) (locals-Declare place x init) all).0));
  set_local = λ place x value. by_step may w _ _ (step-SetLocal w place x value) (λ all. tt) (λ all sets at f.
      gives_behind (IsBut may f) ((sense w value).does (spot place at) 0 f) _ (λ v.
      every_one Anything (IsBut may f) (w.may_set x) (Ret (with_local f x (Some (converted (local_kind w x) v)))) (Stop (site_at (spot place at) (sense w value).elements f []) Forbidden)
      (λ _. but_set may f x (Some (converted (local_kind w x) v)) (subst (AllMay may) (fold_stmt-SetLocal sets_at body_sets place x value) sets).0) (λ _. tt)));
  choice = λ place test body otherwise p q. by_step may w _ _ (step-If w place test body otherwise) (λ all. tt) (λ all sets at f.
      let declared : AllMay may (locals_in body ++ locals_in otherwise) = subst (AllMay may) (locals-If place test body otherwise) all in
      let set : AllMay may (sets_in body ++ sets_in otherwise) = subst (AllMay may) (fold_stmt-If sets_at body_sets place test body otherwise) sets in
      gives_behind (IsBut may f) ((sense w test).does (spot place at) 0 f) _ (λ v.
      every_one Anything (IsBut may f) (is_true v) (does_scope w body at 0 f) (does_scope w otherwise at (length (map (step w) body)) f)
      (λ _. leaves_scope may w body p (may_left may (locals_in body) (locals_in otherwise) declared) (may_left may (sets_in body) (sets_in otherwise) set) at 0 f)
      (λ _. leaves_scope may w otherwise q (may_right may (locals_in body) (locals_in otherwise) declared) (may_right may (sets_in body) (sets_in otherwise) set) at _ f)));
  loop = λ l p. by_step may w _ _ (step-For w (roll-Loop l)) (λ all. tt) (λ all sets at f.
      let set : AllMay may (sets_in l.body) = subst (AllMay may) (fold_stmt-For sets_at body_sets (roll-Loop l) ∙ fold_loop sets_at body_sets l) sets in
      subst (Gives (IsBut may f)) (sym (loop-roll w l at f))
      (gives_behind (IsBut may f) ((sense w l.start).does (spot l.place at) 0 f) _ (λ a.
      gives_behind (IsBut may f) ((sense w l.limit).does (spot l.place at) (sense w l.start).elements f) _ (λ b.
      leaves_turns may (iterator_values l.test (reduced kind.Int (number_of a)) (reduced kind.Int (number_of b)) l.step) (does_scope w l.body at 0)
      (leaves_scope may w l.body p (subst (AllMay may) (locals-For l) all) set at 0) f))));
  block = λ body p. by_step may w _ _ (step-Block w body) (λ all. tt) (λ all sets at f.
      leaves_scope may w body p (subst (AllMay may) (locals-Block body) all) (subst (AllMay may) (fold_stmt-Block sets_at body_sets body) sets) at 0 f);
})

-- ---- a well made scope

-- either of two lists
abbrev in_either : List ℕ → List ℕ → ℕ → Bool
in_either xs ys y = is_among xs y || is_among ys y

or_left : (a b : Bool) → a ≡ true → (a || b) ≡ true
or_left true b h = refl
or_left false b h = absurd cc

or_right : (a b : Bool) → b ≡ true → (a || b) ≡ true
or_right true b h = refl
or_right false b h = h

pub all_in : (may : ℕ → Bool) (xs : List ℕ) → ((y : ℕ) → is_among xs y ≡ true → may y ≡ true) → AllMay may xs
all_in may [] h = tt
all_in may (x ∷ xs) h = (h x (or_left (nat_eq x x) (is_among xs x) (itself x)), all_in may xs (λ y there. h y (or_right (nat_eq y x) (is_among xs y) there)))
  where
    itself : (x : ℕ) → nat_eq x x ≡ true
    itself x = grind (arith, nat_tests)

-- what is not among those that are left was not there, or is among those taken away
pub among_without : (xs ys : List ℕ) (y : ℕ) → is_among (without xs ys) y ≡ false → (is_among xs y ≡ false) ⊎ (is_among ys y ≡ true)
among_without [] ys y h = inl refl
among_without (x ∷ xs) ys y h = go (among_without xs ys y) (nat_eq y x) (is_among ys x) refl refl
  where
    go : (is_among (without xs ys) y ≡ false → (is_among xs y ≡ false) ⊎ (is_among ys y ≡ true)) → (same there : Bool) → nat_eq y x ≡ same → is_among ys x ≡ there
        → ((nat_eq y x || is_among xs y) ≡ false) ⊎ (is_among ys y ≡ true)
    go ih true true e t = let is : y ≡ x = grind (arith, nat_tests) in inr (subst (λ z. is_among ys z ≡ true) (sym is) t)
    go ih true false e t =
        let kept : (nat_eq y x || is_among (without xs ys) y) ≡ false = subst (λ b. is_among (if not b then x ∷ without xs ys else without xs ys) y ≡ false) t h in
        absurd (never_both (nat_eq y x) e (or_false (nat_eq y x) (is_among (without xs ys) y) kept).0)
    go ih false true e t =
        let left : is_among (without xs ys) y ≡ false = subst (λ b. is_among (if not b then x ∷ without xs ys else without xs ys) y ≡ false) t h in
        ⊎_elim (λ k. inl (both_false (nat_eq y x) (is_among xs y) e k)) (λ k. inr k) (ih left)
    go ih false false e t =
        let kept : (nat_eq y x || is_among (without xs ys) y) ≡ false = subst (λ b. is_among (if not b then x ∷ without xs ys else without xs ys) y ≡ false) t h in
        ⊎_elim (λ k. inl (both_false (nat_eq y x) (is_among xs y) e k)) (λ k. inr k) (ih (or_false (nat_eq y x) (is_among (without xs ys) y) kept).1)

-- the law: a well made scope changes the locals of the outside that it sets, and no others
pub scope_leaves : (c : Context) (ss : List Stmt) (w : Around) → list_holds (map made ss) w ≡ true → AreApart (locals_in ss) w.locals
    → (at : List ℕ) (k : ℕ) (f : Frame) → HasOnly w.locals f → Gives (IsBut (is_among (outer_locals_set ss)) f) (does_scope c ss at k f)
scope_leaves c ss w t apart at k f only =
    let may = in_either (sets_in ss) (locals_in ss) in
    every_weaker (λ a. Anything a × Anything a) Anything (λ g. IsBut may f g × HasOnly w.locals g) (IsBut (is_among (outer_locals_set ss)) f) (does_scope c ss at k f)
    (λ a _. tt) (λ g p. but g p.0 p.1)
    (every_both Anything Anything (IsBut may f) (HasOnly w.locals) (does_scope c ss at k f)
    (leaves_scope may c ss (each_all (LeavesFrame may c) (leaves_frame may c) ss) (all_in may (locals_in ss) (λ y there. or_right (is_among (sets_in ss) y) (is_among (locals_in ss) y) there))
    (all_in may (sets_in ss) (λ y there. or_left (is_among (sets_in ss) y) (is_among (locals_in ss) y) there)) at k f)
    (body_keeps_scope c ss w t at k f only))
  where
    but : (g : Frame) → IsBut (in_either (sets_in ss) (locals_in ss)) f g → HasOnly w.locals g → IsBut (is_among (outer_locals_set ss)) f g
    but g p q = record { iters = p.iters; size = p.size; rest = λ y free. by_local y free (is_among (locals_in ss) y) refl }
      where
        by_local : (y : ℕ) → is_among (outer_locals_set ss) y ≡ false → (b : Bool) → is_among (locals_in ss) y ≡ b → local_of g y ≡ local_of f y
        by_local y free true there = let out = apart y there in q y out ∙ sym (only y out)
        by_local y free false there =
            ⊎_elim (λ unset. p.rest y (both_false (is_among (sets_in ss) y) (is_among (locals_in ss) y) unset there))
            (λ declared. absurd (never_both (is_among (locals_in ss) y) declared there)) (among_without (sets_in ss) (locals_in ss) y free)

-- a frame of which nothing is changed is the frame
same_locals : (ls fs : List (Option Value)) → length ls ≡ length fs → ((y : ℕ) → unwrap_or (slice_get ls y) None ≡ unwrap_or (slice_get fs y) None) → ls ≡ fs
same_locals [] [] h k = refl
same_locals [] (f ∷ fs) h k = absurd cc
same_locals (l ∷ ls) [] h k = absurd cc
same_locals (l ∷ ls) (f ∷ fs) h k = λ i. k 0 i ∷ same_locals ls fs (omega (arith, h)) (λ y. k (suc y)) i

pub but_none : (f g : Frame) → IsBut (is_among []) f g → g ≡ f
but_none f g p = λ i. record { iters = p.iters i; locals = same_locals g.locals f.locals p.size (λ y. p.rest y refl) i }

-- the law: a well made scope that sets no local of the outside leaves the frame as it was
pub scope_keeps : (c : Context) (ss : List Stmt) (w : Around) → list_holds (map made ss) w ≡ true → AreApart (locals_in ss) w.locals → outer_locals_set ss ≡ []
    → (at : List ℕ) (k : ℕ) (f : Frame) → HasOnly w.locals f → Gives (λ g. g ≡ f) (does_scope c ss at k f)
scope_keeps c ss w t apart none at k f only =
    every_weaker Anything Anything (IsBut (is_among []) f) (λ g. g ≡ f) (does_scope c ss at k f) (λ a _. tt) (λ g p. but_none f g p)
    (subst (λ xs. Gives (IsBut (is_among xs) f) (does_scope c ss at k f)) none (scope_leaves c ss w t apart at k f only))
