-- A body that sets no local that is declared outside it, and adds atomically only to arrays that take it, does nothing that is
-- forbidden to an iteration.
use Rattle.std.proofs.Common.{◌≡◌, refl, ap, sym, ◌∙◌, subst, ℕ, List, [], ◌∷◌, ◌++◌, map, flat_map, Bool, true, false, ◌&&◌, ⊎_elim}
use Rattle.std.specs.List.{list_all}
use Rattle.species_ast.specs.declared.tree.Expr.{Expr}
use Rattle.species_ast.specs.declared.tree.Loop.{roll-Loop}
use Rattle.species_ast.specs.declared.tree.Stmt.{Stmt}
use Rattle.species_ast.specs.declared.tree.Stmt.TheOpen.{Stmt-F, Loop-F}
use Rattle.species_ast.specs.Evaluation.{Context, array_kind}
use Rattle.species_ast.specs.Run.{Takes, locals_in, iteration_in, does_scope}
use Rattle.species_ast.specs.Scope.Meanings.{is_among}
use Rattle.species_ast.proofs.Folds.{fold_stmt-Assign, fold_stmt-AddTo, fold_stmt-Declare, fold_stmt-SetLocal, fold_stmt-If, fold_stmt-For, fold_stmt-Block, fold_loop}
use Rattle.species_ast.proofs.Induction.{Each, each_all, stmt_ind}
use Rattle.species_ast.specs.Marks.{all_true}
use Rattle.species_ast.proofs.IterationLaws.{Allowing, stays, stays_at, stays_in_loop, iteration_same}
use Rattle.species_runs.specs.Scopes.{sets_at, sets_of, sets_in, outer_locals_set}
use Rattle.species_runs.proofs.FrameLaws.{AllMay, may_left, may_right, all_in, among_without}
use Rattle.species_runs.proofs.ScopeLaws.{and_true, never_both}
use Rattle.species_nests.specs.Effects.{adds_at, adds_taken}

abbrev loop_sets : Loop-F (List ℕ) (List ℕ) → List ℕ
loop_sets l = flat_map (λ xs. xs) l.body

abbrev loop_adds : Loop-F Bool Bool → Bool
loop_adds l = list_all (λ b. b) l.body

both_true : (a b : Bool) → a ≡ true → b ≡ true → (a && b) ≡ true
both_true true b h k = k
both_true false b h k = absurd cc

-- a statement that may set what it sets, and that adds to arrays that take it, stays within its leave
abbrev pub Stays : Takes → Context → Stmt → Type 0
Stays takes c x = AllMay c.may_set (sets_of x) → adds_taken takes c x ≡ true → stays c x ≡ true

-- what the arrays take may be added to them
abbrev pub MayAdd : Takes → Context → Type 0
MayAdd takes c = (a : ℕ) → takes a (array_kind c a) ≡ true → c.may_add a (array_kind c a) ≡ true

list_stays : (takes : Takes) (c : Context) (ss : List Stmt) → Each (Stays takes c) ss → AllMay c.may_set (sets_in ss) → list_all (λ b. b) (map (adds_taken takes c) ss) ≡ true
    → all_true (map (stays c) ss) ≡ true
list_stays takes c [] h sets adds = refl
list_stays takes c (x ∷ ss) h sets adds =
    let both = and_true (adds_taken takes c x) (list_all (λ b. b) (map (adds_taken takes c) ss)) adds in
    both_true (stays c x) (all_true (map (stays c) ss)) (h.0 (may_left c.may_set (sets_of x) (sets_in ss) sets) both.0)
    (list_stays takes c ss h.1 (may_right c.may_set (sets_of x) (sets_in ss) sets) both.1)

add_stays : (takes : Takes) (c : Context) → MayAdd takes c → (place a : ℕ) (subs : List Expr) (value : Expr) (atomic : Bool)
    → adds_at takes c (Stmt-F.AddTo place a subs value atomic) ≡ true → stays_at c (Stmt-F.AddTo place a subs value atomic) ≡ true
add_stays takes c ok place a subs value true h = ok a h
add_stays takes c ok place a subs value false h = refl

pub statement_stays : (takes : Takes) (c : Context) → MayAdd takes c → (x : Stmt) → Stays takes c x
statement_stays takes c ok = stmt_ind (Stays takes c) (record {
  assign = λ place a subs value sets adds. fold_stmt-Assign (stays_at c) stays_in_loop place a subs value;
  add_to = λ place a subs value atomic sets adds. fold_stmt-AddTo (stays_at c) stays_in_loop place a subs value atomic
      ∙ add_stays takes c ok place a subs value atomic (sym (fold_stmt-AddTo (adds_at takes c) loop_adds place a subs value atomic) ∙ adds);
  declare = λ place x init sets adds. fold_stmt-Declare (stays_at c) stays_in_loop place x init;
  set_local = λ place x value sets adds.
      fold_stmt-SetLocal (stays_at c) stays_in_loop place x value ∙ (subst (AllMay c.may_set) (fold_stmt-SetLocal sets_at loop_sets place x value) sets).0;
  choice = λ place test body otherwise p q sets adds.
      let set : AllMay c.may_set (sets_in body ++ sets_in otherwise) = subst (AllMay c.may_set) (fold_stmt-If sets_at loop_sets place test body otherwise) sets in
      let both = and_true (list_all (λ b. b) (map (adds_taken takes c) body)) (list_all (λ b. b) (map (adds_taken takes c) otherwise))
      (sym (fold_stmt-If (adds_at takes c) loop_adds place test body otherwise) ∙ adds) in
      fold_stmt-If (stays_at c) stays_in_loop place test body otherwise
      ∙ both_true (all_true (map (stays c) body)) (all_true (map (stays c) otherwise))
      (list_stays takes c body p (may_left c.may_set (sets_in body) (sets_in otherwise) set) both.0)
      (list_stays takes c otherwise q (may_right c.may_set (sets_in body) (sets_in otherwise) set) both.1);
  loop = λ l p sets adds.
      let set : AllMay c.may_set (sets_in l.body) =
      subst (AllMay c.may_set) (fold_stmt-For sets_at loop_sets (roll-Loop l) ∙ fold_loop sets_at loop_sets l) sets in
      fold_stmt-For (stays_at c) stays_in_loop (roll-Loop l) ∙ fold_loop (stays_at c) stays_in_loop l
      ∙ list_stays takes c l.body p set (sym (fold_stmt-For (adds_at takes c) loop_adds (roll-Loop l) ∙ fold_loop (adds_at takes c) loop_adds l) ∙ adds);
  block = λ body p sets adds.
      fold_stmt-Block (stays_at c) stays_in_loop body
      ∙ list_stays takes c body p (subst (AllMay c.may_set) (fold_stmt-Block sets_at loop_sets body) sets) (sym (fold_stmt-Block (adds_at takes c) loop_adds body) ∙ adds);
})

-- what is set in a body that sets no local of the outside is declared in it
sets_own : (body : List Stmt) → outer_locals_set body ≡ [] → AllMay (is_among (locals_in body)) (sets_in body)
sets_own body none = all_in (is_among (locals_in body)) (sets_in body) (λ y set.
    ⊎_elim (λ unset. absurd (never_both (is_among (sets_in body) y) set unset)) (λ declared. declared)
    (among_without (sets_in body) (locals_in body) y (ap (λ xs. is_among xs y) none)))

-- the law
pub body_stays : (takes : Takes) (w : Context) (body : List Stmt) → outer_locals_set body ≡ [] → list_all (λ b. b) (map (adds_taken takes w) body) ≡ true
    → all_true (map (stays (iteration_in takes w body)) body) ≡ true
body_stays takes w body none adds =
    let c = iteration_in takes w body in
    list_stays takes c body (each_all (Stays takes c) (statement_stays takes c (λ a h. h)) body) (sets_own body none) adds

-- so it does as an iteration what it does in the source
pub iteration_does : (takes : Takes) (w : Context) (body : List Stmt) → outer_locals_set body ≡ [] → list_all (λ b. b) (map (adds_taken takes w) body) ≡ true
    → does_scope (iteration_in takes w body) body ≡ does_scope (Allowing w) body
iteration_does takes w body none adds = iteration_same takes w body (body_stays takes w body none adds)
