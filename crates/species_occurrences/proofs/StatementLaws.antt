-- All accesses of a statement are made by its references.
use Rattle.std.proofs.Common.{◌≡◌, refl, ap, sym, ◌∙◌, subst, ℕ, zero, suc, ◌-◌, Bool, true, false, ◌&&◌, if◌then◌else◌, List, [], ◌∷◌, ◌++◌, map, length, ℤ}
use Rattle.std.specs.Prelude.{is_some}
use Rattle.std.proofs.lemmas.Bool.{and_parts}
use Rattle.std.proofs.lemmas.List.{length-map}
use Rattle.species_ast.specs.declared.tree.Loop.{Loop, roll-Loop}
use Rattle.species_ast.specs.declared.tree.Stmt.{Stmt}
use Rattle.species_ast.specs.declared.tree.Stmt.TheOpen.{Loop-F}
use Rattle.species_ast.specs.Marks.{all_true}
use Rattle.species_ast.specs.Evaluation.{Frame, Context, sense, sizes_of}
use Rattle.species_ast.specs.Run.{Step, step, does_list, does_scope, cleared, declared_in, looping, branching, adding, spot}
use Rattle.species_ast.specs.Scope.Forms.{form_of}
use Rattle.species_ast.specs.Scope.Hulls.{Range, range_of}
use Rattle.species_ast.specs.Scope.Limits.{goes}
use Rattle.species_ast.specs.Scope.References.{Where, Reference, perhaps, placed, in_turn, subscripts, elements_of, Referring, list_references, addition_references, Adding, references_at, references_inside, stmt_references, unless_empty}
use Rattle.species_ast.proofs.Folds.{fold_stmt-Assign, fold_stmt-AddTo, fold_stmt-Declare, fold_stmt-SetLocal, fold_stmt-If, fold_stmt-For, fold_stmt-Block, fold_loop}
use Rattle.species_ast.proofs.Induction.{Each, each_all, stmt_ind}
use Rattle.species_ast.proofs.RunLaws.{step-Assign, step-AddTo, step-Declare, step-SetLocal, step-If, step-For, step-Block, loop-roll}
use Rattle.species_runs.specs.Every.{Every, Anything}
use Rattle.species_runs.proofs.EveryLaws.{every-then_do, every_weaker}
use Rattle.species_occurrences.specs.Iterators.{AreTaken}
use Rattle.species_occurrences.specs.Made.{IsMade}
use Rattle.species_occurrences.specs.Regular.{agree, regular_at, regular_loop, is_regular}
use Rattle.species_occurrences.proofs.HeaderLaws.{StandsAt, HasIters, some_is, HasBounds, looping_every}
use Rattle.species_occurrences.proofs.MadeLaws.{every_then, begins_outer}
use Rattle.species_occurrences.proofs.SimpleLaws.{IsDoneBy, assignment_done, adding_done, declaring_done, setting_done, branching_done}
use Rattle.species_occurrences.proofs.TakenLaws.{not_empty, taken_inside, ints_inside}

-- all accesses of a statement, where it stands, are made by its references
abbrev pub IsStmtMade : Context → Adding → Stmt → Type 0
IsStmtMade w adds x = is_regular adds x ≡ true → (at : List ℕ) (g : Where) (iters : List ℤ) (band : ℕ) → StandsAt at g iters
    → IsDoneBy (sizes_of w) (stmt_references adds x g band) iters ((step w x).does at)

-- ---- lists and scopes

pub cleared_iters : (xs : List ℕ) (f : Frame) → (cleared xs f).iters ≡ f.iters
cleared_iters [] f = refl
cleared_iters (x ∷ xs) f = cleared_iters xs _

pub list_made : (w : Context) (adds : Adding) (xs : List Stmt) → Each (IsStmtMade w adds) xs → all_true (map (is_regular adds) xs) ≡ true
    → (at : List ℕ) (k : ℕ) (g : Where) (iters : List ℤ) (band : ℕ) → StandsAt at g iters
    → IsDoneBy (sizes_of w) (list_references (map (stmt_references adds) xs) g k band) iters (does_list w xs at k)
list_made w adds [] h t at k g iters band st f p = p
list_made w adds (x ∷ xs) h t at k g iters band st f p =
    let parts = and_parts (is_regular adds x) (all_true (map (is_regular adds) xs)) t in
    every_then (sizes_of w) iters (stmt_references adds x (placed g k) band) (list_references (map (stmt_references adds) xs) g (suc k) band) (HasIters iters) (HasIters iters) ((step w x).does (at ++ k ∷ []) f) _
    (h.0 parts.0 (at ++ k ∷ []) (placed g k) iters band (ap (λ l. l ++ k ∷ []) st.0, st.1, st.2) f p)
    (λ e q. list_made w adds xs h.1 parts.1 at (suc k) g iters band st e q)

pub scope_made : (w : Context) (adds : Adding) (xs : List Stmt) → Each (IsStmtMade w adds) xs → all_true (map (is_regular adds) xs) ≡ true
    → (at : List ℕ) (k : ℕ) (g : Where) (iters : List ℤ) (band : ℕ) → StandsAt at g iters
    → IsDoneBy (sizes_of w) (list_references (map (stmt_references adds) xs) g k band) iters (does_scope w xs at k)
scope_made w adds xs h t at k g iters band st f p =
    every-then_do (IsMade (sizes_of w) iters (list_references (map (stmt_references adds) xs) g k band)) (HasIters iters) (HasIters iters) (does_list w xs at k f) _
    (list_made w adds xs h t at k g iters band st f p) (λ e q. cleared_iters (declared_in (map (step w) xs)) e ∙ q)

-- ---- loops

-- what is asked of the header of a regular loop, and what of its body
pub bounds_of : {X Y : Type 0} (l : Loop-F X Y) (b : Bool) → (is_some (form_of l.start) && (is_some (form_of l.limit) && (goes l.test l.step && b))) ≡ true
    → HasBounds l × (b ≡ true)
bounds_of l b t =
    let one = and_parts (is_some (form_of l.start)) _ t in
    let two = and_parts (is_some (form_of l.limit)) _ one.1 in
    let three = and_parts (goes l.test l.step) b two.1 in
    let first = some_is (form_of l.start) one.0 in
    let last = some_is (form_of l.limit) two.0 in
    (record { start = first.0; limit = last.0; start_is = first.1; limit_is = last.1; steps = three.0 }, three.1)

-- where a turn is, no range around is empty
kept_all : (band : ℕ) (path : List Range) (iters : List ℤ) (found : List Reference) → AreTaken path iters → unless_empty band path found ≡ found
kept_all zero path iters found h = ap (λ (t : Bool). if t then [] else found) (not_empty path iters h)
kept_all (suc band) path iters found h = refl

loop_made : (w : Context) (adds : Adding) (l : Loop-F Stmt Loop) → Each (IsStmtMade w adds) l.body
    → (is_some (form_of l.start) && (is_some (form_of l.limit) && (goes l.test l.step && all_true (map (is_regular adds) l.body)))) ≡ true
    → (at : List ℕ) (g : Where) (iters : List ℤ) (band : ℕ) → StandsAt at g iters
    → IsDoneBy (sizes_of w) (unless_empty band (in_turn g l).path (list_references (map (stmt_references adds) l.body) (in_turn g l) 0 (band - 1))) iters
    (looping l.test l.step (sense w l.start) (sense w l.limit) (does_scope w l.body at 0) (spot l.place at))
loop_made w adds l each t at g iters band st =
    let asked = bounds_of l (all_true (map (is_regular adds) l.body)) t in
    let inner = in_turn g l in
    let found = list_references (map (stmt_references adds) l.body) inner 0 (band - 1) in
    let kept = unless_empty band inner.path found in
    let P = IsMade (sizes_of w) iters kept in
    looping_every w P l asked.0 (does_scope w l.body at 0) (spot l.place at) g iters st
    (λ i takes int e q.
    let now = iters ++ i ∷ [] in
    let taken = taken_inside g.path iters (range_of g.path l) i st.1 takes in
    let done = scope_made w adds l.body each asked.1 at 0 inner now (band - 1) (st.0, taken, ints_inside iters i st.2 int) e q in
    every_weaker (IsMade (sizes_of w) now kept) P (HasIters now) Anything (does_scope w l.body at 0 e) (λ a m. (m.0, begins_outer iters i a.site.iters m.1)) (λ v _. tt)
    (subst (λ rs. Every (IsMade (sizes_of w) now rs) (HasIters now) (does_scope w l.body at 0 e)) (sym (kept_all band inner.path now found taken)) done))

-- ---- each statement

stmt_from : (w : Context) (adds : Adding) (x : Stmt) (r : Bool) (k : Referring) (y : Step) → is_regular adds x ≡ r → stmt_references adds x ≡ k → step w x ≡ y
    → (r ≡ true → (at : List ℕ) (g : Where) (iters : List ℤ) (band : ℕ) → StandsAt at g iters → IsDoneBy (sizes_of w) (k g band) iters (y.does at)) → IsStmtMade w adds x
stmt_from w adds x r k y p q s h regular at g iters band st =
    subst (λ z. IsDoneBy (sizes_of w) (z g band) iters ((step w x).does at)) (sym q) (subst (λ z. IsDoneBy (sizes_of w) (k g band) iters (z.does at)) (sym s) (h (sym p ∙ regular) at g iters band st))

pub agreed : (a b : Bool) → agree a b ≡ true → b ≡ a
agreed true true h = refl
agreed true false h = absurd cc
agreed false true h = absurd cc
agreed false false h = refl

-- the law of statements
pub stmt_made : (w : Context) (adds : Adding) (x : Stmt) → IsStmtMade w adds x
stmt_made w adds = stmt_ind (IsStmtMade w adds) (record {
  assign = λ place a subs value. stmt_from w adds _ _ _ _ (fold_stmt-Assign (regular_at adds) regular_loop place a subs value) (fold_stmt-Assign (references_at adds) (references_inside adds) place a subs value) (step-Assign w place a subs value)
      (λ t at g iters band st. assignment_done w a subs value (spot place at) g iters st);
  add_to = λ place a subs value atomic. stmt_from w adds _ _ _ _ (fold_stmt-AddTo (regular_at adds) regular_loop place a subs value atomic) (fold_stmt-AddTo (references_at adds) (references_inside adds) place a subs value atomic) (step-AddTo w place a subs value atomic)
      (λ t at g iters band st.
      subst (λ z. IsDoneBy (sizes_of w) ((subscripts subs).references g 0 ++ addition_references z a subs value g) iters (adding w a atomic (map (sense w) subs) (sense w value) (spot place at))) (agreed (adds a atomic) atomic t)
      (adding_done w a atomic subs value (spot place at) g iters st));
  declare = λ place n init. stmt_from w adds _ _ _ _ (fold_stmt-Declare (regular_at adds) regular_loop place n init) (fold_stmt-Declare (references_at adds) (references_inside adds) place n init) (step-Declare w place n init)
      (λ t at g iters band st. declaring_done w n init (spot place at) g iters st);
  set_local = λ place n value. stmt_from w adds _ _ _ _ (fold_stmt-SetLocal (regular_at adds) regular_loop place n value) (fold_stmt-SetLocal (references_at adds) (references_inside adds) place n value) (step-SetLocal w place n value)
      (λ t at g iters band st. setting_done w n value (spot place at) g iters st);
  choice = λ place test body otherwise p q. stmt_from w adds _ _ _ _ (fold_stmt-If (regular_at adds) regular_loop place test body otherwise) (fold_stmt-If (references_at adds) (references_inside adds) place test body otherwise) (step-If w place test body otherwise)
      (λ t at g iters band st.
      let parts = and_parts (all_true (map (is_regular adds) body)) (all_true (map (is_regular adds) otherwise)) t in
      let same : length (map (step w) body) ≡ length (map (stmt_references adds) body) = length-map body (step w) ∙ sym (length-map body (stmt_references adds)) in
      subst (λ k. IsDoneBy (sizes_of w) ((elements_of test).references g 0 ++ (list_references (map (stmt_references adds) body) (perhaps g) 0 band ++ list_references (map (stmt_references adds) otherwise) (perhaps g) k band)) iters
      (branching (sense w test) (does_scope w body at 0) (does_scope w otherwise at (length (map (step w) body))) (spot place at))) same
      (branching_done w test _ _ (does_scope w body at 0) (does_scope w otherwise at (length (map (step w) body))) (spot place at) g iters st
      (scope_made w adds body p parts.0 at 0 (perhaps g) iters band st) (scope_made w adds otherwise q parts.1 at (length (map (step w) body)) (perhaps g) iters band st)));
  loop = λ l p. stmt_from w adds _ _ _ _ (fold_stmt-For (regular_at adds) regular_loop (roll-Loop l) ∙ fold_loop (regular_at adds) regular_loop l) (fold_stmt-For (references_at adds) (references_inside adds) (roll-Loop l) ∙ fold_loop (references_at adds) (references_inside adds) l) (step-For w (roll-Loop l))
      (λ t at g iters band st f same. subst (Every (IsMade (sizes_of w) iters _) (HasIters iters)) (sym (loop-roll w l at f)) (loop_made w adds l p t at g iters band st f same));
  block = λ body p. stmt_from w adds _ _ _ _ (fold_stmt-Block (regular_at adds) regular_loop body) (fold_stmt-Block (references_at adds) (references_inside adds) body) (step-Block w body)
      (λ t at g iters band st. scope_made w adds body p t at 0 g iters band st);
})

pub each_made : (w : Context) (adds : Adding) (xs : List Stmt) → Each (IsStmtMade w adds) xs
each_made w adds xs = each_all (IsStmtMade w adds) (stmt_made w adds) xs
