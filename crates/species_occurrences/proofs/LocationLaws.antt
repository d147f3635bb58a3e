-- Each access that a unit makes inside one of its loops is made by a reference of the loop.
use Rattle.std.proofs.Common.{◌≡◌, refl, ap, sym, ◌∙◌, subst, arith, ℕ, suc, ◌+◌, ◌≤◌, Bool, true, ◌&&◌, List, [], ◌∷◌, ◌++◌, map, length, ℤ, ◌⊎◌, inl, inr}
use Rattle.std.specs.Prelude.{is_some}
use Rattle.std.proofs.lemmas.Bool.{and_parts}
use Rattle.std.proofs.lemmas.List.{length-map}
use Rattle.species_ast.specs.declared.tree.Expr.{Expr}
use Rattle.species_ast.specs.declared.tree.Loop.{Loop, roll-Loop}
use Rattle.species_ast.specs.declared.tree.Stmt.{Stmt}
use Rattle.species_ast.specs.declared.tree.Stmt.TheOpen.{Loop-F}
use Rattle.species_ast.specs.declared.tree.Stmt.TheVariants as stmt
use Rattle.species_ast.specs.declared.tree.Unit.{Unit as Program}
use Rattle.species_ast.specs.Marks.{all_true}
use Rattle.species_ast.specs.Operators.{is_true}
use Rattle.species_ast.specs.Accesses.{Access, Tree}
use Rattle.species_ast.specs.Evaluation.{Frame, Context, sense, sizes_of}
use Rattle.species_ast.specs.Run.{Step, step, does_list, does_scope, declared_in, spot, loop_of, source_context, first_frame, program_of}
use Rattle.species_ast.specs.Scope.Forms.{form_of}
use Rattle.species_ast.specs.Scope.Hulls.{range_of}
use Rattle.species_ast.specs.Scope.Limits.{goes}
use Rattle.species_ast.specs.Scope.Loops.{Standing, PlacedLoop, standing_in, numbered, Placing, list_loops, loops_in, outside_loops, placed_loops}
use Rattle.species_ast.specs.Scope.References.{Where, Reference, Adding, elements_of, references_of}
use Rattle.species_ast.proofs.Folds.{fold_stmt-If, fold_stmt-For, fold_stmt-Block, fold_loop}
use Rattle.species_ast.proofs.Induction.{Each, each_all, stmt_ind}
use Rattle.species_ast.proofs.RunLaws.{step-If, step-For, step-Block, loop-roll}
use Rattle.species_runs.specs.Every.{Every, Anything}
use Rattle.species_runs.specs.Sites.{IsMadeAt}
use Rattle.species_runs.proofs.EveryLaws.{every-then_do, every_weaker, every_one, every_both}
use Rattle.species_runs.proofs.SiteLaws as site
use Rattle.species_occurrences.specs.Iterators.{AreInts, AreTaken}
use Rattle.species_occurrences.specs.Made.{IsMadeAmong, IsMade, Begins, IsMadeInEach}
use Rattle.species_occurrences.specs.Regular.{regular_at, regular_loop, is_regular}
use Rattle.species_occurrences.proofs.HeaderLaws.{HasIters, looping_every}
use Rattle.species_occurrences.proofs.MadeLaws.{every_all}
use Rattle.species_occurrences.proofs.NestLaws.{unconditional, nest_made}
use Rattle.species_occurrences.proofs.PositionLaws.{each_weaker, IsAmongThose, one_of_those, those_wider, apart, not_longer, IsOf, stated, loops_in-Assign, loops_in-AddTo, loops_in-Declare, loops_in-SetLocal, loops_in-If, loops_in-For, loops_in-Block, StandsIn, StandsAmong, nested, nested_list}
use Rattle.species_occurrences.proofs.SimpleLaws.{any_in}
use Rattle.species_occurrences.proofs.StatementLaws.{cleared_iters, bounds_of}
use Rattle.species_occurrences.proofs.TakenLaws.{taken_inside, ints_inside}

-- ---- accesses that stand elsewhere

-- an access that is made by references of one statement stands in it
among_statement : (g : Where) (rs : List Reference) (sizes : ℕ → List ℕ) (a : Access) → Each (IsOf g) rs → IsMadeAmong sizes rs a → a.site.statement ≡ g.statement
among_statement g [] sizes a h m = absurd m
among_statement g (r ∷ rs) sizes a h (inl m) = m.statement ∙ h.0.statement
among_statement g (r ∷ rs) sizes a h (inr m) = among_statement g rs sizes a h.1 m

-- no access that stands elsewhere is inside these loops
elsewhere : (adds : Adding) (sizes : ℕ → List ℕ) (ls : List PlacedLoop) (a : Access) → Each (λ l. Begins l.stands.statement a.site.statement → ⊥) ls → IsMadeInEach adds sizes ls a
elsewhere adds sizes [] a h = tt
elsewhere adds sizes (l ∷ ls) a h = (λ b. absurd (h.0 b), elsewhere adds sizes ls a h.1)

made_append : (adds : Adding) (sizes : ℕ → List ℕ) (ms ls : List PlacedLoop) (a : Access) → IsMadeInEach adds sizes ms a → IsMadeInEach adds sizes ls a → IsMadeInEach adds sizes (ms ++ ls) a
made_append adds sizes [] ls a h k = k
made_append adds sizes (m ∷ ms) ls a h k = (h.0, made_append adds sizes ms ls a h.1 k)

those_elsewhere : (adds : Adding) (sizes : ℕ → List ℕ) (at : List ℕ) (lo hi low high : ℕ) (ls : List PlacedLoop) (a : Access) → (hi ≤ low) ⊎ (high ≤ lo)
    → IsAmongThose at lo hi a.site.statement → Each (StandsAmong at low high) ls → IsMadeInEach adds sizes ls a
those_elsewhere adds sizes at lo hi low high ls a order p h =
    elsewhere adds sizes ls a (each_weaker (StandsAmong at low high) (λ l. Begins l.stands.statement a.site.statement → ⊥) (λ l q b. apart at lo hi low high a.site.statement l.stands.statement order p q b) ls h)

-- nor is one of the statement around them
around_elsewhere : (adds : Adding) (sizes : ℕ → List ℕ) (at : List ℕ) (lo hi : ℕ) (ls : List PlacedLoop) (a : Access) → a.site.statement ≡ at → Each (StandsAmong at lo hi) ls
    → IsMadeInEach adds sizes ls a
around_elsewhere adds sizes at lo hi ls a same h =
    elsewhere adds sizes ls a (each_weaker (StandsAmong at lo hi) (λ l. Begins l.stands.statement a.site.statement → ⊥)
    (λ l q b. not_longer at q.0 q.1 b.0 (sym same ∙ b.1 ∙ ap (λ z. z ++ b.0) q.4)) ls h)

-- ---- what is claimed

abbrev pub IsLocated : Context → Adding → Placing → (List ℕ → Frame → Tree Frame) → Type 0
IsLocated w adds k does = (s : Standing) (iters : List ℤ) → AreTaken s.around.path iters → AreInts iters → (f : Frame) → HasIters iters f
    → Every (IsMadeInEach adds (sizes_of w) (k s)) (HasIters iters) (does s.statement f)

abbrev pub IsStmtLocated : Context → Adding → Stmt → Type 0
IsStmtLocated w adds x = is_regular adds x ≡ true → IsLocated w adds (loops_in x) (step w x).does

-- each access of a statement stands in it
inside_done : (w : Context) (x : Stmt) (at : List ℕ) (f : Frame) → Every (λ a. Begins at a.site.statement) Anything ((step w x).does at f)
inside_done w x at f =
    every_weaker (IsMadeAt w at f.iters) (λ a. Begins at a.site.statement) (site.HasIters f) Anything ((step w x).does at f) (λ a m. m.inside) (λ v _. tt) (site.sits w x at f)

-- ---- lists and scopes

-- in a list, with the numbers of its statements
abbrev InList : Adding → (ℕ → List ℕ) → List ℕ → ℕ → ℕ → List PlacedLoop → Access → Type 0
InList adds sizes at lo hi ls a = IsAmongThose at lo hi a.site.statement × IsMadeInEach adds sizes ls a

abbrev ListLocated : Context → Adding → List Stmt → (Context → List Stmt → List ℕ → ℕ → Frame → Tree Frame) → Type 0
ListLocated w adds xs does = (s : Standing) (k : ℕ) (iters : List ℤ) → AreTaken s.around.path iters → AreInts iters → (f : Frame) → HasIters iters f
    → Every (InList adds (sizes_of w) s.statement k (k + length xs) (list_loops (map loops_in xs) s k)) (HasIters iters) (does w xs s.statement k f)

first_located : (w : Context) (adds : Adding) (x : Stmt) (xs : List Stmt) → IsStmtLocated w adds x → is_regular adds x ≡ true
    → (s : Standing) (k : ℕ) (iters : List ℤ) → AreTaken s.around.path iters → AreInts iters → (f : Frame) → HasIters iters f
    → Every (InList adds (sizes_of w) s.statement k (k + suc (length xs)) (loops_in x (numbered s k) ++ list_loops (map loops_in xs) s (suc k))) (HasIters iters) ((step w x).does (s.statement ++ k ∷ []) f)
first_located w adds x xs h t s k iters taken ints f p =
    let z = sizes_of w in
    let at = s.statement in
    let here = at ++ k ∷ [] in
    let own = loops_in x (numbered s k) in
    let others = list_loops (map loops_in xs) s (suc k) in
    let B : Access → Type 0 = λ a. Begins here a.site.statement in
    let M = IsMadeInEach adds z own in
    every_weaker (λ a. B a × M a) (InList adds z at k (k + suc (length xs)) (own ++ others)) (λ e. Anything e × HasIters iters e) (HasIters iters) ((step w x).does here f)
    (λ a m.
    let placed = one_of_those at k a.site.statement m.0 in (
      those_wider at k (suc k) k (k + suc (length xs)) (omega arith) (omega arith) a.site.statement placed,
      made_append adds z own others a m.1 (those_elsewhere adds z at k (suc k) (suc k) (suc k + length xs) others a (inl (omega arith)) placed (nested_list xs s (suc k))),
    )) (λ e q. q.1)
    (every_both B M Anything (HasIters iters) ((step w x).does here f) (inside_done w x here f) (h t (numbered s k) iters taken ints f p))

list_located : (w : Context) (adds : Adding) (xs : List Stmt) → Each (IsStmtLocated w adds) xs → all_true (map (is_regular adds) xs) ≡ true → ListLocated w adds xs does_list
list_located w adds [] h t s k iters taken ints f p = p
list_located w adds (x ∷ xs) h t s k iters taken ints f p =
    let parts = and_parts (is_regular adds x) (all_true (map (is_regular adds) xs)) t in
    let z = sizes_of w in
    let at = s.statement in
    let own = loops_in x (numbered s k) in
    let others = list_loops (map loops_in xs) s (suc k) in
    let P = InList adds z at k (k + suc (length xs)) (own ++ others) in
    every-then_do P (HasIters iters) (HasIters iters) ((step w x).does (at ++ k ∷ []) f) _ (first_located w adds x xs h.0 parts.0 s k iters taken ints f p) (λ e q.
    every_weaker (InList adds z at (suc k) (suc k + length xs) others) P (HasIters iters) (HasIters iters) (does_list w xs at (suc k) e)
    (λ a m. (
      those_wider at (suc k) (suc k + length xs) k (k + suc (length xs)) (omega arith) (omega arith) a.site.statement m.0,
      made_append adds z own others a
          (those_elsewhere adds z at (suc k) (suc k + length xs) k (suc k) own a (inr (omega arith)) m.0
          (each_weaker (StandsIn (at ++ k ∷ [])) (StandsAmong at k (suc k)) (λ l b. one_of_those at k l.stands.statement b) own (nested x (numbered s k)))) m.1,
    )) (λ v r. r) (list_located w adds xs h.1 parts.1 s (suc k) iters taken ints e q))

scope_located : (w : Context) (adds : Adding) (xs : List Stmt) → Each (IsStmtLocated w adds) xs → all_true (map (is_regular adds) xs) ≡ true → ListLocated w adds xs does_scope
scope_located w adds xs h t s k iters taken ints f p =
    every-then_do (InList adds (sizes_of w) s.statement k (k + length xs) (list_loops (map loops_in xs) s k)) (HasIters iters) (HasIters iters) (does_list w xs s.statement k f) _
    (list_located w adds xs h t s k iters taken ints f p) (λ e q. cleared_iters (declared_in (map (step w) xs)) e ∙ q)

-- ---- each statement

located_from : (w : Context) (adds : Adding) (x : Stmt) (r : Bool) (k : Placing) (y : Step) → is_regular adds x ≡ r → loops_in x ≡ k → step w x ≡ y
    → (r ≡ true → IsLocated w adds k y.does) → IsStmtLocated w adds x
located_from w adds x r k y p q s h regular =
    subst (λ z. IsLocated w adds z (step w x).does) (sym q) (subst (λ z. IsLocated w adds k z.does) (sym s) (h (sym p ∙ regular)))

-- a statement with no loop inside
no_loop : (w : Context) (adds : Adding) (x : Stmt) → loops_in x ≡ (λ s. []) → IsStmtLocated w adds x
no_loop w adds x e regular = subst (λ z. IsLocated w adds z (step w x).does) (sym e) (λ s iters taken ints f p.
    every_weaker (IsMadeAt w s.statement f.iters) (λ a. Unit {0}) (site.HasIters f) (HasIters iters) ((step w x).does s.statement f) (λ a m. tt) (λ v q. q ∙ p) (site.sits w x s.statement f))

-- the accesses of an `if`'s test are inside none of its loops
test_located : (w : Context) (adds : Adding) (x : Expr) (place : ℕ) (s : Standing) (iters : List ℤ) (f : Frame) (ls : List PlacedLoop) (lo hi : ℕ) → AreTaken s.around.path iters → AreInts iters
    → HasIters iters f → Each (StandsAmong s.statement lo hi) ls → Every (IsMadeInEach adds (sizes_of w) ls) Anything ((sense w x).does (spot place s.statement) 0 f)
test_located w adds x place s iters f ls lo hi taken ints p among =
    let g = unconditional s.statement s.around.path in
    let rs = (elements_of x).references g 0 in
    every_weaker (IsMade (sizes_of w) iters rs) (IsMadeInEach adds (sizes_of w) ls) Anything Anything ((sense w x).does (spot place s.statement) 0 f)
    (λ a m. around_elsewhere adds (sizes_of w) s.statement lo hi ls a (among_statement g rs (sizes_of w) a (stated x g 0) m.0) among) (λ v q. q)
    (any_in w x (spot place s.statement) 0 g iters f p (refl, taken, ints))

choice_located : (w : Context) (adds : Adding) (place : ℕ) (test : Expr) (body otherwise : List Stmt) → Each (IsStmtLocated w adds) body → Each (IsStmtLocated w adds) otherwise
    → all_true (map (is_regular adds) body) ≡ true → all_true (map (is_regular adds) otherwise) ≡ true
    → (s : Standing) (iters : List ℤ) → AreTaken s.around.path iters → AreInts iters → (f : Frame) → HasIters iters f
    → Every (IsMadeInEach adds (sizes_of w) (list_loops (map loops_in body) s 0 ++ list_loops (map loops_in otherwise) s (length body))) (HasIters iters) ((step w (stmt.If place test body otherwise)).does s.statement f)
choice_located w adds place test body otherwise h k t u s iters taken ints f p =
    let z = sizes_of w in
    let at = s.statement in
    let ms = list_loops (map loops_in body) s 0 in
    let ls = list_loops (map loops_in otherwise) s (length body) in
    let P = IsMadeInEach adds z (ms ++ ls) in
    let first = nested_list body s 0 in
    let second = nested_list otherwise s (length body) in
    let one : Every P (HasIters iters) (does_scope w body at 0 f) =
    every_weaker (InList adds z at 0 (0 + length body) ms) P (HasIters iters) (HasIters iters) (does_scope w body at 0 f)
    (λ a m. made_append adds z ms ls a m.1 (those_elsewhere adds z at 0 (0 + length body) (length body) (length body + length otherwise) ls a (inl (omega arith)) m.0 second))
    (λ v q. q) (scope_located w adds body h t s 0 iters taken ints f p)
    in
    let two : Every P (HasIters iters) (does_scope w otherwise at (length body) f) =
    every_weaker (InList adds z at (length body) (length body + length otherwise) ls) P (HasIters iters) (HasIters iters) (does_scope w otherwise at (length body) f)
    (λ a m. made_append adds z ms ls a (those_elsewhere adds z at (length body) (length body + length otherwise) 0 (0 + length body) ms a (inr (omega arith)) m.0 first) m.1)
    (λ v q. q) (scope_located w adds otherwise k u s (length body) iters taken ints f p)
    in
    let tested : Every P Anything ((sense w test).does (spot place at) 0 f) =
    every_weaker (λ a. IsMadeInEach adds z ms a × IsMadeInEach adds z ls a) P (λ v. Anything v × Anything v) Anything ((sense w test).does (spot place at) 0 f)
    (λ a m. made_append adds z ms ls a m.0 m.1) (λ v q. tt)
    (every_both (IsMadeInEach adds z ms) (IsMadeInEach adds z ls) Anything Anything ((sense w test).does (spot place at) 0 f)
    (test_located w adds test place s iters f ms 0 (0 + length body) taken ints p first) (test_located w adds test place s iters f ls (length body) (length body + length otherwise) taken ints p second))
    in
    let moved : Every P (HasIters iters) (does_scope w otherwise at (length (map (step w) body)) f) =
    subst (λ i. Every P (HasIters iters) (does_scope w otherwise at i f)) (sym (length-map body (step w))) two
    in
    subst (λ y. Every P (HasIters iters) (y.does at f)) (sym (step-If w place test body otherwise))
    (every-then_do P Anything (HasIters iters) ((sense w test).does (spot place at) 0 f) _ tested (λ v _. every_one P (HasIters iters) (is_true v) _ _ (λ _. one) (λ _. moved)))

-- the accesses of a loop are made by its own references, and inside the loops in it by theirs
loop_located : (w : Context) (adds : Adding) (l : Loop-F Stmt Loop) → Each (IsStmtLocated w adds) l.body
    → (is_some (form_of l.start) && (is_some (form_of l.limit) && (goes l.test l.step && all_true (map (is_regular adds) l.body)))) ≡ true
    → (s : Standing) (iters : List ℤ) → AreTaken s.around.path iters → AreInts iters → (f : Frame) → HasIters iters f
    → Every (IsMadeInEach adds (sizes_of w) (record { head = roll-Loop l; stands = s } ∷ list_loops (map loops_in l.body) (standing_in l s) 0)) (HasIters iters) (loop_of w (roll-Loop l) s.statement f)
loop_located w adds l h t s iters taken ints f p =
    let z = sizes_of w in
    let at = s.statement in
    let path = s.around.path in
    let this : PlacedLoop = record { head = roll-Loop l; stands = s } in
    let regular : is_regular adds (stmt.For (roll-Loop l)) ≡ true = fold_stmt-For (regular_at adds) regular_loop (roll-Loop l) ∙ fold_loop (regular_at adds) regular_loop l ∙ t in
    let O : ℕ → Access → Type 0 = λ depth. IsMadeAmong z (references_of adds (roll-Loop l) at path depth) in
    let own : Every (λ a. (depth : ℕ) → O depth a) (HasIters iters) (loop_of w (roll-Loop l) at f) =
    every_all O (HasIters iters) (loop_of w (roll-Loop l) at f) (λ depth.
    every_weaker (IsMade z iters (references_of adds (roll-Loop l) at path depth)) (O depth) (HasIters iters) (HasIters iters) (loop_of w (roll-Loop l) at f) (λ a m. m.0) (λ v q. q)
    (nest_made w adds (roll-Loop l) at path depth iters f regular taken ints p))
    in
    let inner = standing_in l s in
    let ls = list_loops (map loops_in l.body) inner 0 in
    let asked = bounds_of l (all_true (map (is_regular adds) l.body)) t in
    let deeper : Every (IsMadeInEach adds z ls) (HasIters iters) (loop_of w (roll-Loop l) at f) =
    subst (Every (IsMadeInEach adds z ls) (HasIters iters)) (sym (loop-roll w l at f))
    (looping_every w (IsMadeInEach adds z ls) l asked.0 (does_scope w l.body at 0) (spot l.place at) (unconditional at path) iters (refl, taken, ints)
    (λ i takes int e q.
    let now = iters ++ i ∷ [] in
    every_weaker (InList adds z at 0 (0 + length l.body) ls) (IsMadeInEach adds z ls) (HasIters now) Anything (does_scope w l.body at 0 e) (λ a m. m.1) (λ v _. tt)
    (scope_located w adds l.body h asked.1 inner 0 now (taken_inside path iters (range_of path l) i taken takes) (ints_inside iters i ints int) e q)) f p)
    in
    every_weaker (λ a. ((depth : ℕ) → O depth a) × IsMadeInEach adds z ls a) (IsMadeInEach adds z (this ∷ ls)) (λ e. HasIters iters e × HasIters iters e) (HasIters iters) (loop_of w (roll-Loop l) at f)
    (λ a m. (λ _ depth. m.0 depth, m.1)) (λ v q. q.0)
    (every_both (λ a. (depth : ℕ) → O depth a) (IsMadeInEach adds z ls) (HasIters iters) (HasIters iters) (loop_of w (roll-Loop l) at f) own deeper)

pub stmt_located : (w : Context) (adds : Adding) (x : Stmt) → IsStmtLocated w adds x
stmt_located w adds = stmt_ind (IsStmtLocated w adds) (record {
  assign = λ place a subs value. no_loop w adds _ (loops_in-Assign place a subs value);
  add_to = λ place a subs value atomic. no_loop w adds _ (loops_in-AddTo place a subs value atomic);
  declare = λ place n init. no_loop w adds _ (loops_in-Declare place n init);
  set_local = λ place n value. no_loop w adds _ (loops_in-SetLocal place n value);
  choice = λ place test body otherwise h k. located_from w adds _ _ _ _ (fold_stmt-If (regular_at adds) regular_loop place test body otherwise) (loops_in-If place test body otherwise) refl
      (λ t s iters taken ints f p.
      let parts = and_parts (all_true (map (is_regular adds) body)) (all_true (map (is_regular adds) otherwise)) t in
      choice_located w adds place test body otherwise h k parts.0 parts.1 s iters taken ints f p);
  loop = λ l h. located_from w adds _ _ _ _ (fold_stmt-For (regular_at adds) regular_loop (roll-Loop l) ∙ fold_loop (regular_at adds) regular_loop l) (loops_in-For l) (step-For w (roll-Loop l))
      (λ t s iters taken ints f p. loop_located w adds l h t s iters taken ints f p);
  block = λ body h. located_from w adds _ _ _ _ (fold_stmt-Block (regular_at adds) regular_loop body) (loops_in-Block body) (step-Block w body)
      (λ t s iters taken ints f p.
      let ls = list_loops (map loops_in body) s 0 in
      every_weaker (InList adds (sizes_of w) s.statement 0 (0 + length body) ls) (IsMadeInEach adds (sizes_of w) ls) (HasIters iters) (HasIters iters) (does_scope w body s.statement 0 f)
      (λ a m. m.1) (λ v q. q) (scope_located w adds body h t s 0 iters taken ints f p));
})

-- the law of units
pub unit_located : (u : Program) (adds : Adding) → all_true (map (is_regular adds) u.body) ≡ true
    → Every (IsMadeInEach adds (sizes_of (source_context u)) (placed_loops u)) Anything (program_of u)
unit_located u adds regular =
    let w = source_context u in
    every_weaker (InList adds (sizes_of w) [] 0 (0 + length u.body) (placed_loops u)) (IsMadeInEach adds (sizes_of w) (placed_loops u)) (HasIters []) Anything (program_of u) (λ a h. h.1) (λ v q. tt)
    (list_located w adds u.body (each_all (IsStmtLocated w adds) (stmt_located w adds) u.body) regular outside_loops 0 [] tt tt (first_frame u) refl)
