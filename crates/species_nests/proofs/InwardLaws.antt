-- What goes over from statements to those in them holds of each statement to which a run comes, and of the body of a nest.
use Rattle.std.proofs.Common.{◌≡◌, refl, ap, sym, ◌∙◌, subst, ℕ, zero, suc, List, [], ◌∷◌, ◌++◌, map, length, Bool, true, Option, Some, None}
use Rattle.std.specs.List.{list_all}
use Rattle.species_ast.specs.declared.tree.Expr.{Expr}
use Rattle.species_ast.specs.declared.tree.Loop.{Loop, out-Loop, roll-Loop}
use Rattle.species_ast.specs.declared.tree.Stmt.{Stmt}
use Rattle.species_ast.specs.declared.tree.Stmt.TheOpen.{Loop-F}
use Rattle.species_ast.specs.declared.tree.Stmt.TheVariants as stmt
use Rattle.species_ast.specs.declared.tree.Unit.{Unit as Program}
use Rattle.species_ast.specs.Accesses.{Joins, Cells}
use Rattle.species_ast.specs.Evaluation.{Frame, Context}
use Rattle.species_ast.specs.Run.{Takes, source_context, iteration_in}
use Rattle.species_ast.proofs.Folds.{fold_stmt-If, fold_stmt-For, fold_stmt-Block, fold_loop-out}
use Rattle.species_ast.proofs.Induction.{Each, each_all, stmt_ind}
use Rattle.species_ast.specs.Marks.{all_true}
use Rattle.species_ast.proofs.IterationLaws.{stays}
use Rattle.species_ast.proofs.Paras.{para_stmt-Assign, para_stmt-AddTo, para_stmt-Declare, para_stmt-SetLocal, para_stmt-If}
use Rattle.species_runs.specs.Scopes.{outer_locals_set}
use Rattle.species_runs.proofs.ScopeLaws.{and_true}
use Rattle.species_nests.specs.Arrivals.{Moment, Reaches, here, in_turn, in_body, in_otherwise, in_block, ReachesIn, first, later, Running, moment, ComesTo}
use Rattle.species_nests.specs.Effects.{adds_at, adds_taken, AddsTaken}
use Rattle.species_nests.specs.Nests.{Placed, sole_at, sole, only, nest_in, nest_of}
use Rattle.species_nests.proofs.NestLaws.{under, no_loops, not_some, sole-For, sole-Block}
use Rattle.species_nests.proofs.StaysLaws.{body_stays}

-- P goes over to the statements inside
pub record GoesInward (P : Stmt → Type 0) : Type 0 where
  pub loop : (l : Loop) → P (stmt.For l) → Each P (out-Loop l).body
  pub choice : (place : ℕ) (test : Expr) (body otherwise : List Stmt) → P (stmt.If place test body otherwise) → Each P body × Each P otherwise
  pub block : (body : List Stmt) → P (stmt.Block body) → Each P body

-- ---- to the statements to which a run comes

mutual
  pub reaches_has : (join : Joins) (P : Stmt → Type 0) → GoesInward P → (c : Context) (q : Moment) (x : Stmt) (around : List Loop) (at : List ℕ) (f : Frame) (m : Cells)
      → Reaches join c q x around at f m → P x → P q.statement
  reaches_has join P goes c q x around at f m here h = h
  reaches_has join P goes c q x around at f m (in_turn l _ _ _ g _ begun n before i behind is ended inner) h = reaches_in_has join P goes c q (out-Loop l).body (around ++ l ∷ []) at 0 _ n inner (goes.loop l h)
  reaches_has join P goes c q x around at f m (in_body place test body otherwise _ _ _ _ n v is taken inner) h =
      reaches_in_has join P goes c q body around at 0 f n inner (goes.choice place test body otherwise h).0
  reaches_has join P goes c q x around at f m (in_otherwise place test body otherwise _ _ _ _ n v is taken inner) h =
      reaches_in_has join P goes c q otherwise around at (length body) f n inner (goes.choice place test body otherwise h).1
  reaches_has join P goes c q x around at f m (in_block body _ _ _ _ inner) h = reaches_in_has join P goes c q body around at 0 f m inner (goes.block body h)

  pub reaches_in_has : (join : Joins) (P : Stmt → Type 0) → GoesInward P → (c : Context) (q : Moment) (xs : List Stmt) (around : List Loop) (at : List ℕ) (k : ℕ) (f : Frame) (m : Cells)
      → ReachesIn join c q xs around at k f m → Each P xs → P q.statement
  reaches_in_has join P goes c q xs around at k f m (first x rest _ _ _ _ _ inner) h = reaches_has join P goes c q x around (at ++ k ∷ []) f m inner h.0
  reaches_in_has join P goes c q xs around at k f m (later x rest _ _ _ _ g _ n ended inner) h = reaches_in_has join P goes c q rest around at (suc k) g n inner h.1

-- ---- to the body of a nest

abbrev SoleHasBody : (Stmt → Type 0) → Stmt → Type 0
SoleHasBody P x = (at : List ℕ) (p : Placed) → sole x at ≡ Some p → P x → Each P (out-Loop p.loop).body

only_has_body : (P : Stmt → Type 0) (ss : List Stmt) → Each (SoleHasBody P) ss → (at : List ℕ) (p : Placed) → only ss at ≡ Some p → Each P ss → Each P (out-Loop p.loop).body
only_has_body P [] h at p is all = absurd cc
only_has_body P (x ∷ []) h at p is all = h.0 (at ++ 0 ∷ []) p is all.0
only_has_body P (x ∷ y ∷ ss) h at p is all = absurd cc

sole_has_body : (P : Stmt → Type 0) → GoesInward P → (x : Stmt) → SoleHasBody P x
sole_has_body P goes = stmt_ind (SoleHasBody P) (record {
  assign = λ place a subs value at p is. absurd (not_some _ at p (para_stmt-Assign sole_at no_loops place a subs value) is);
  add_to = λ place a subs value atomic at p is. absurd (not_some _ at p (para_stmt-AddTo sole_at no_loops place a subs value atomic) is);
  declare = λ place x init at p is. absurd (not_some _ at p (para_stmt-Declare sole_at no_loops place x init) is);
  set_local = λ place x value at p is. absurd (not_some _ at p (para_stmt-SetLocal sole_at no_loops place x value) is);
  choice = λ place test body otherwise h k at p is. absurd (not_some _ at p (para_stmt-If sole_at no_loops place test body otherwise) is);
  loop = λ l h at p is has.
      let same : Some (record { loop = roll-Loop l; at = at }) ≡ Some p = ap (λ s. s at) (sym (sole-For (roll-Loop l))) ∙ is in
      let it : record { loop = roll-Loop l; at = at } ≡ p = cc in
      subst (λ q. Each P (out-Loop q.loop).body) it (goes.loop (roll-Loop l) has);
  block = λ body h at p is has. only_has_body P body h at p (ap (λ s. s at) (sym (sole-Block body)) ∙ is) (goes.block body has);
})

pub nest_in_has_body : (P : Stmt → Type 0) → GoesInward P → (d : ℕ) (body : List Stmt) (at : List ℕ) → Each P body → Each P (nest_in d body at).body
nest_in_has_body P goes zero body at all = all
nest_in_has_body P goes (suc d) body at all = go (λ body at all. nest_in_has_body P goes d body at all) (only body at) refl
  where
    go : ((body : List Stmt) (at : List ℕ) → Each P body → Each P (nest_in d body at).body) → (o : Option Placed) → only body at ≡ o → Each P (under d body at o).body
    go ih None is = all
    go ih (Some p) is = ih (out-Loop p.loop).body p.at (only_has_body P body (each_all (SoleHasBody P) (sole_has_body P goes) body) at p is all)

-- the law
pub nest_has_body : (join : Joins) (P : Stmt → Type 0) → GoesInward P → (u : Program) (m : Cells) (d : ℕ) (r : Running) → ComesTo join u m r → Each P u.body
    → Each P (nest_of d r.loop r.at).body
nest_has_body join P goes u m d r comes all =
    let loop = reaches_in_has join P goes (source_context u) (moment r) u.body [] [] 0 _ m comes all in
    nest_in_has_body P goes d (out-Loop r.loop).body r.at (goes.loop r.loop loop)

-- ---- atomic additions

abbrev AddsTakenIn : Takes → Context → Stmt → Type 0
AddsTakenIn takes c x = adds_taken takes c x ≡ true

each_true : (takes : Takes) (c : Context) (xs : List Stmt) → list_all (λ b. b) (map (adds_taken takes c) xs) ≡ true → Each (AddsTakenIn takes c) xs
each_true takes c [] h = tt
each_true takes c (x ∷ xs) h = let both = and_true (adds_taken takes c x) (list_all (λ b. b) (map (adds_taken takes c) xs)) h in (both.0, each_true takes c xs both.1)

all_of_each : (takes : Takes) (c : Context) (xs : List Stmt) → Each (AddsTakenIn takes c) xs → list_all (λ b. b) (map (adds_taken takes c) xs) ≡ true
all_of_each takes c [] h = refl
all_of_each takes c (x ∷ xs) h = rw (h.0, all_of_each takes c xs h.1) refl

abbrev loop_adds : Loop-F Bool Bool → Bool
loop_adds l = list_all (λ b. b) l.body

adds_inward : (takes : Takes) (c : Context) → GoesInward (AddsTakenIn takes c)
adds_inward takes c = record {
  loop = λ l h. each_true takes c (out-Loop l).body (sym (fold_stmt-For (adds_at takes c) loop_adds l ∙ fold_loop-out (adds_at takes c) loop_adds l) ∙ h);
  choice = λ place test body otherwise h.
      let both = and_true (list_all (λ b. b) (map (adds_taken takes c) body)) (list_all (λ b. b) (map (adds_taken takes c) otherwise))
      (sym (fold_stmt-If (adds_at takes c) loop_adds place test body otherwise) ∙ h) in
      (each_true takes c body both.0, each_true takes c otherwise both.1);
  block = λ body h. each_true takes c body (sym (fold_stmt-Block (adds_at takes c) loop_adds body) ∙ h);
}

-- in a unit whose additions are to arrays that take them, the body of each nest that sets no local of the outside may do all that
-- it does
pub nest_stays : (join : Joins) (takes : Takes) (u : Program) (m : Cells) (d : ℕ) (r : Running) → ComesTo join u m r → AddsTaken takes u
    → outer_locals_set (nest_of d r.loop r.at).body ≡ []
    → all_true (map (stays (iteration_in takes (source_context u) (nest_of d r.loop r.at).body)) (nest_of d r.loop r.at).body) ≡ true
nest_stays join takes u m d r comes adds none =
    let c = source_context u in
    let body = (nest_of d r.loop r.at).body in
    body_stays takes c body none
    (all_of_each takes c body (nest_has_body join (AddsTakenIn takes c) (adds_inward takes c) u m d r comes (each_true takes c u.body adds)))
