-- Where the run of a unit's source ends, the run of the unit with its marks ends in the same frame and the same arrays, if it adds
-- atomically to unsigned arrays alone. (Where the source is undefined, the unit with its marks need not be: a sum in a signed kind of
-- more bits may overflow in the source.)
use Rattle.std.proofs.Common.{◌≡◌, refl, ap, sym, ◌∙◌, subst, ℕ, zero, suc, List, [], ◌∷◌, ◌++◌, map, length, ℤ, Bool, true, false, not, if◌then◌else◌, Some, None, Ok, Err}
use Rattle.std.specs.Prelude.{slice_get, option_and_then, unwrap_or}
use Rattle.std.specs.List.{list_all}
use Rattle.std.proofs.lemmas.List.{length-map}
use Rattle.species_ast.specs.declared.tree.Binary.TheVariants as binary
use Rattle.species_ast.specs.declared.tree.Expr.{Expr}
use Rattle.species_ast.specs.declared.tree.Kind.TheVariants as kind
use Rattle.species_ast.specs.declared.tree.Loop.{Loop, roll-Loop}
use Rattle.species_ast.specs.declared.tree.Mark.TheVariants.{Plain}
use Rattle.species_ast.specs.declared.tree.Stmt.{Stmt}
use Rattle.species_ast.specs.declared.tree.Stmt.TheOpen.{Stmt-F, Loop-F}
use Rattle.species_ast.specs.declared.tree.Stmt.TheVariants as stmt
use Rattle.species_ast.specs.declared.tree.Test.{Test}
use Rattle.species_ast.specs.declared.tree.Unit.{Unit as Program}
use Rattle.species_ast.specs.declared.tree.Value.{Value}
use Rattle.species_ast.specs.Operators.{Answer, is_signed, is_true, converted, binary_of, number_of, reduced}
use Rattle.species_ast.specs.Strip.{strip_step, strip_layer, strip_stmt, source_of}
use Rattle.species_ast.specs.Accesses.{sums, Element, Cells, look, cell, change, changed, Site, Forbidden, Tree, Ret, Stop, Write, Add, then_do, Ended, run}
use Rattle.species_ast.specs.Evaluation.{Frame, Context, Spot, sense, answered, site_at, element_at, target_of, elements_in, array_kind, sizes_of, row_order}
use Rattle.species_ast.specs.Run.{inside, outside, turns, iterator_values, looping, adding, addition, cleared, declared_in, spot, step, does_list, does_scope, AreArraysOf, source_context, first_frame, source_run, sums_take}
use Rattle.species_ast.proofs.ArrayLaws.{HasElements, has_elements, OutcomeKeeps, run_keeps, sums_keep}
use Rattle.species_ast.proofs.Folds.{fold_stmt-Assign, fold_stmt-AddTo, fold_stmt-Declare, fold_stmt-SetLocal, fold_stmt-If, fold_stmt-For, fold_stmt-Block, fold_loop}
use Rattle.species_ast.proofs.Induction.{Each, each_all, stmt_ind}
use Rattle.species_ast.proofs.KindLaws.{HasKind, Keeps, Within, FrameOf, AllowsAll, HasItsKind, has_its_kind, keeps_target, step_keeps}
use Rattle.species_ast.proofs.RunLaws.{step-AddTo, step-If, step-For, step-Block, loop-roll}
use Rattle.species_runs.proofs.AppliedLaws.{only_reads_end}
use Rattle.species_runs.proofs.EveryLaws.{ended_parts, ended_then}
use Rattle.species_runs.proofs.ReadLaws.{only_reads}
use Rattle.species_runs.proofs.ScopeLaws.{and_true}
use Rattle.species_nests.specs.Effects.{adds_at, adds_taken, AddsTaken}
use Rattle.species_nests.proofs.ArrivalLaws.{does_Block, does_If, branch}
use Rattle.species_nests.proofs.FitLaws.{no_values}
use Rattle.species_nests.proofs.SumLaws.{sum_is}

-- from arrays of the right sizes and kinds, where the one ends, the other ends so
abbrev pub EndsSame : {X : Type 0} → Context → Tree X → Tree X → Type 0
EndsSame {X} w t u = (m : Cells) → HasElements w m → (x : X) (n : Cells) → run sums t m ≡ Ended x n → run sums u m ≡ Ended x n

ends_itself : {X : Type 0} (w : Context) (t : Tree X) → EndsSame w t t
ends_itself w t m has x n h = h

ends_by : {X : Type 0} (w : Context) (t t2 u u2 : Tree X) → t ≡ t2 → u ≡ u2 → EndsSame w t2 u2 → EndsSame w t u
ends_by w t t2 u u2 p q e m has x n h = ap (λ z. run sums z m) q ∙ e m has x n (ap (λ z. run sums z m) (sym p) ∙ h)

ends_then : {X Y : Type 0} (w : Context) (P : X → Type 0) (t u : Tree X) (next after : X → Tree Y) → Keeps w P t → EndsSame w t u → ((x : X) → P x → EndsSame w (next x) (after x))
    → EndsSame w (then_do t next) (then_do u after)
ends_then w P t u next after keeps same rest m has y n h =
    let parts = ended_parts sums t next m y n h in
    let kept : OutcomeKeeps w P (Ended parts.0 parts.1) = subst (OutcomeKeeps w P) parts.2 (run_keeps sums sums_keep w P t m has keeps) in
    ended_then sums u after m parts.0 parts.1 (same m has parts.0 parts.1 parts.2) ∙ rest parts.0 kept.0 parts.1 kept.1 y n parts.3

-- ---- an atomic addition

change_at : {A : Type 0} (xs : List A) (i : ℕ) (x : A) (f g : A → A) → slice_get xs i ≡ Some x → f x ≡ g x → change xs i f ≡ change xs i g
change_at [] i x f g at h = refl
change_at (y ∷ xs) zero x f g at h = let same : y ≡ x = cc in ap (λ z. z ∷ xs) (ap f same ∙ h ∙ ap g (sym same))
change_at (y ∷ xs) (suc i) x f g at h = ap (λ l. y ∷ l) (change_at xs i x f g at h)

changed_row : (m : Cells) (a i : ℕ) (v : Value) (f g : Value → Value) → option_and_then (λ row. slice_get row i) (slice_get m a) ≡ Some v → f v ≡ g v
    → change m a (λ row. change row i f) ≡ change m a (λ row. change row i g)
changed_row [] a i v f g at h = refl
changed_row (r ∷ m) zero i v f g at h = ap (λ z. z ∷ m) (change_at r i v f g at h)
changed_row (r ∷ m) (suc a) i v f g at h = ap (λ l. r ∷ l) (changed_row m a i v f g at h)

changed_at : (m : Cells) (el : Element) (v : Value) (f g : Value → Value) → look m el ≡ Some v → f v ≡ g v → changed m el f ≡ changed m el g
changed_at m el v f g at h = changed_row m el.array el.at v f g at h

there_cell : (m : Cells) (el : Element) (v : Value) → look m el ≡ Some v → cell m el ≡ v
there_cell m el v at = ap (λ o. unwrap_or o (cell [] el)) at

module _ (w : Context) (all : AllowsAll w) (a n : ℕ) (value : Expr) (s : Spot) (is : List ℕ) (f : Frame) (unsigned : is_signed (array_kind w a) ≡ false) where
  abbrev el : Element
  el = element_at w a is

  abbrev site : Site
  site = site_at s n f is

  abbrev V : Tree Value
  V = (sense w value).does s (suc n) f

  abbrev atomic : Value → Tree Frame
  atomic v = if w.may_add a (array_kind w a) then Add site el (converted (array_kind w a) v) (Ret f) else Stop site Forbidden

  abbrev plainly : Value → Value → Tree Frame
  plainly old v = then_do (answered site (binary_of binary.Add old v)) (λ sum. Write site el (converted (array_kind w a) sum) (Ret f))

  sum_ends : (m : Cells) (old v : Value) → look m el ≡ Some old → HasKind (array_kind w a) old → (r : Answer) → binary_of binary.Add old v ≡ r → (x : Frame) (last : Cells)
      → run sums (then_do (answered site r) (λ sum. Write site el (converted (array_kind w a) sum) (Ret f))) m ≡ Ended x last
      → run sums (Add site el (converted (array_kind w a) v) (Ret f)) m ≡ Ended x last
  sum_ends m old v at of (Ok sum) is_sum x last h =
      ap (Ended f) (changed_at m el old (λ c. sums el.array c (converted (array_kind w a) v)) (λ c. converted (array_kind w a) sum) at (sum_is (array_kind w a) old v sum unsigned of is_sum)) ∙ h
  sum_ends m old v at of (Err why) is_sum x last h = absurd cc

  add_ends : Within w a is → EndsSame w (addition w a false n (sense w value) s is f) (addition w a true n (sense w value) s is f)
  add_ends within m has x last h =
      let there = has a (row_order (sizes_of w a) is) within in
      let parts = ended_parts sums V (plainly (cell m el)) m x last h in
      let kept : parts.1 ≡ m = only_reads_end sums V m parts.0 parts.1 (only_reads w value s (suc n) f) parts.2 in
      let ended : run sums (plainly there.0 parts.0) m ≡ Ended x last =
      (λ i. run sums (plainly (sym (there_cell m el there.0 there.1) i) parts.0) (sym kept i)) ∙ parts.3
      in
      ended_then sums V atomic m parts.0 parts.1 parts.2
      ∙ ap (λ k. run sums (atomic parts.0) k) kept
      ∙ (λ i. run sums (if all.1 a (array_kind w a) i then Add site el (converted (array_kind w a) parts.0) (Ret f) else Stop site Forbidden) m)
      ∙ sum_ends m there.0 parts.0 there.1 there.2 (binary_of binary.Add there.0 parts.0) refl x last ended

-- ---- statements without their marks

abbrev bare : Stmt → Stmt
bare = strip_stmt false

bare-AddTo : (place a : ℕ) (subs : List Expr) (value : Expr) (atomic : Bool) → bare (stmt.AddTo place a subs value atomic) ≡ stmt.AddTo place a subs value false
bare-AddTo place a subs value atomic = fold_stmt-AddTo strip_step (strip_layer false) place a subs value atomic ∙ stmt.rolls-AddTo place a subs value false

bare-If : (place : ℕ) (test : Expr) (body otherwise : List Stmt) → bare (stmt.If place test body otherwise) ≡ stmt.If place test (map bare body) (map bare otherwise)
bare-If place test body otherwise =
    fold_stmt-If strip_step (strip_layer false) place test body otherwise ∙ stmt.rolls-If place test (map bare body) (map bare otherwise)

bare-Block : (body : List Stmt) → bare (stmt.Block body) ≡ stmt.Block (map bare body)
bare-Block body = fold_stmt-Block strip_step (strip_layer false) body ∙ stmt.rolls-Block (map bare body)

abbrev bare_loop : Loop-F Stmt Loop → Loop-F Stmt Loop
bare_loop l = record {
  place = l.place;
  iter = l.iter;
  start = l.start;
  test = l.test;
  limit = l.limit;
  step = l.step;
  body = map bare l.body;
  line = None;
  mark = Plain;
}

bare-For : (l : Loop-F Stmt Loop) → bare (stmt.For (roll-Loop l)) ≡ stmt.For (roll-Loop (bare_loop l))
bare-For l = fold_stmt-For strip_step (strip_layer false) (roll-Loop l) ∙ stmt.rolls-For _ ∙ ap (λ x. stmt.For x) (fold_loop strip_step (strip_layer false) l)

-- ---- the runs

module _ (w : Context) (all : AllowsAll w) where
  record EndsStep (x : Stmt) : Type 0 where
    declares : (step w (bare x)).declares ≡ (step w x).declares
    does : adds_taken sums_take w x ≡ true → (at : List ℕ) (f : Frame) → FrameOf w f → EndsSame w ((step w (bare x)).does at f) ((step w x).does at f)

  leaf : (x : Stmt) → bare x ≡ x → EndsStep x
  leaf x same = record {
    declares = ap (λ y. (step w y).declares) same;
    does = λ adds at f ok m has g n h. ap (λ y. run sums ((step w y).does at f) m) (sym same) ∙ h;
  }

  list_ends : (xs : List Stmt) → Each EndsStep xs → list_all (λ b. b) (map (adds_taken sums_take w) xs) ≡ true → (at : List ℕ) (k : ℕ) (f : Frame) → FrameOf w f
      → EndsSame w (does_list w (map bare xs) at k f) (does_list w xs at k f)
  list_ends [] each adds at k f ok = ends_itself w (Ret f)
  list_ends (x ∷ xs) each adds at k f ok =
      let both = and_true (adds_taken sums_take w x) (list_all (λ b. b) (map (adds_taken sums_take w) xs)) adds in
      ends_then w (FrameOf w) ((step w (bare x)).does (at ++ k ∷ []) f) ((step w x).does (at ++ k ∷ []) f) (does_list w (map bare xs) at (suc k)) (does_list w xs at (suc k))
      (step_keeps w all (bare x) (at ++ k ∷ []) f ok) (each.0.does both.0 (at ++ k ∷ []) f ok) (λ g ok_g. list_ends xs each.1 both.1 at (suc k) g ok_g)

  same_declared : (xs : List Stmt) → Each EndsStep xs → declared_in (map (step w) (map bare xs)) ≡ declared_in (map (step w) xs)
  same_declared [] each = refl
  same_declared (x ∷ xs) each = λ i. each.0.declares i ++ same_declared xs each.1 i

  scope_ends : (xs : List Stmt) → Each EndsStep xs → list_all (λ b. b) (map (adds_taken sums_take w) xs) ≡ true → (at : List ℕ) (k : ℕ) (f : Frame) → FrameOf w f
      → EndsSame w (does_scope w (map bare xs) at k f) (does_scope w xs at k f)
  scope_ends xs each adds at k f ok m has g n h =
      let parts = ended_parts sums (does_list w (map bare xs) at k f) (λ g. Ret (cleared (declared_in (map (step w) (map bare xs))) g)) m g n h in
      ended_then sums (does_list w xs at k f) (λ g. Ret (cleared (declared_in (map (step w) xs)) g)) m parts.0 parts.1 (list_ends xs each adds at k f ok m has parts.0 parts.1 parts.2)
      ∙ ap (λ ds. Ended (cleared ds parts.0) parts.1) (sym (same_declared xs each)) ∙ parts.3

  scope_keeps : (xs : List Stmt) (at : List ℕ) (f : Frame) → FrameOf w f → Keeps w (FrameOf w) (does_scope w xs at 0 f)
  scope_keeps xs at f ok = subst (Keeps w (FrameOf w)) (does_Block w xs at f) (step_keeps w all (stmt.Block xs) at f ok)

  turns_end : (is : List ℤ) (body other : Frame → Tree Frame) → ((f : Frame) → FrameOf w f → Keeps w (FrameOf w) (body f)) → ((f : Frame) → FrameOf w f → EndsSame w (body f) (other f))
      → (f : Frame) → FrameOf w f → EndsSame w (turns is body f) (turns is other f)
  turns_end [] body other keeps same f ok = ends_itself w (Ret f)
  turns_end (i ∷ is) body other keeps same f ok =
      ends_then w (FrameOf w) (body (inside f i)) (other (inside f i)) (λ g. turns is body (outside f g)) (λ g. turns is other (outside f g)) (keeps (inside f i) ok) (same (inside f i) ok)
      (λ g ok_g. turns_end is body other keeps same (outside f g) ok_g)

  looping_ends : (test : Test) (by : ℤ) (start limit : Expr) (body other : Frame → Tree Frame) (s : Spot) → ((f : Frame) → FrameOf w f → Keeps w (FrameOf w) (body f))
      → ((f : Frame) → FrameOf w f → EndsSame w (body f) (other f)) → (f : Frame) → FrameOf w f
      → EndsSame w (looping test by (sense w start) (sense w limit) body s f) (looping test by (sense w start) (sense w limit) other s f)
  looping_ends test by start limit body other s keeps same f ok =
      ends_then w (HasKind (sense w start).kind) ((sense w start).does s 0 f) ((sense w start).does s 0 f) _ _ (has_its_kind w start s 0 f ok) (ends_itself w ((sense w start).does s 0 f)) (λ a of_a.
      ends_then w (HasKind (sense w limit).kind) ((sense w limit).does s (sense w start).elements f) ((sense w limit).does s (sense w start).elements f) _ _
      (has_its_kind w limit s (sense w start).elements f ok) (ends_itself w ((sense w limit).does s (sense w start).elements f)) (λ b of_b.
      turns_end (iterator_values test (reduced kind.Int (number_of a)) (reduced kind.Int (number_of b)) by) body other keeps same f ok))

  branch_ends : (body otherwise : List Stmt) → Each EndsStep body → Each EndsStep otherwise → list_all (λ b. b) (map (adds_taken sums_take w) body) ≡ true
      → list_all (λ b. b) (map (adds_taken sums_take w) otherwise) ≡ true → (at : List ℕ) (f : Frame) → FrameOf w f → (b : Bool)
      → EndsSame w (if b then does_scope w (map bare body) at 0 f else does_scope w (map bare otherwise) at (length (map bare body)) f) (if b then does_scope w body at 0 f else does_scope w otherwise at (length body) f)
  branch_ends body otherwise p q adds more at f ok true = scope_ends body p adds at 0 f ok
  branch_ends body otherwise p q adds more at f ok false =
      ends_by w _ (does_scope w (map bare otherwise) at (length body) f) _ (does_scope w otherwise at (length body) f)
      (ap (λ k. does_scope w (map bare otherwise) at k f) (length-map body bare)) refl (scope_ends otherwise q more at (length body) f ok)

  adding_ends : (place a : ℕ) (subs : List Expr) (value : Expr) (atomic : Bool) → adds_at sums_take w (Stmt-F.AddTo place a subs value atomic) ≡ true → (s : Spot) (f : Frame) → FrameOf w f
      → EndsSame w (adding w a false (map (sense w) subs) (sense w value) s f) (adding w a atomic (map (sense w) subs) (sense w value) s f)
  adding_ends place a subs value false adds s f ok = ends_itself w (adding w a false (map (sense w) subs) (sense w value) s f)
  adding_ends place a subs value true adds s f ok =
      ends_then w (Within w a) (target_of w a (map (sense w) subs) s 0 f) (target_of w a (map (sense w) subs) s 0 f) _ _
      (keeps_target w a subs (each_all (λ x. HasItsKind w (sense w x)) (has_its_kind w) subs) s 0 f ok) (ends_itself w (target_of w a (map (sense w) subs) s 0 f))
      (λ is within. add_ends w all a (elements_in (map (sense w) subs)) value s is f (not_signed (is_signed (array_kind w a)) adds) within)
    where
      not_signed : (b : Bool) → not b ≡ true → b ≡ false
      not_signed true h = absurd cc
      not_signed false h = refl

  step_ends : (x : Stmt) → EndsStep x
  step_ends = stmt_ind EndsStep (record {
    assign = λ place a subs value. leaf (stmt.Assign place a subs value) (fold_stmt-Assign strip_step (strip_layer false) place a subs value ∙ stmt.rolls-Assign place a subs value);
    add_to = λ place a subs value atomic. record {
      declares = ap (λ y. (step w y).declares) (bare-AddTo place a subs value atomic) ∙ ap (λ t. t.declares) (step-AddTo w place a subs value false) ∙ sym (ap (λ t. t.declares) (step-AddTo w place a subs value atomic));
      does = λ adds at f ok.
          ends_by w _ (adding w a false (map (sense w) subs) (sense w value) (spot place at) f) _ (adding w a atomic (map (sense w) subs) (sense w value) (spot place at) f)
          (ap (λ y. (step w y).does at f) (bare-AddTo place a subs value atomic) ∙ ap (λ t. t.does at f) (step-AddTo w place a subs value false))
          (ap (λ t. t.does at f) (step-AddTo w place a subs value atomic))
          (adding_ends place a subs value atomic (sym (fold_stmt-AddTo (adds_at sums_take w) (λ l. list_all (λ b. b) l.body) place a subs value atomic) ∙ adds) (spot place at) f ok);
    };
    declare = λ place x init. leaf (stmt.Declare place x init) (fold_stmt-Declare strip_step (strip_layer false) place x init ∙ stmt.rolls-Declare place x init);
    set_local = λ place x value. leaf (stmt.SetLocal place x value) (fold_stmt-SetLocal strip_step (strip_layer false) place x value ∙ stmt.rolls-SetLocal place x value);
    choice = λ place test body otherwise p q. record {
      declares = ap (λ y. (step w y).declares) (bare-If place test body otherwise) ∙ ap (λ t. t.declares) (step-If w place test (map bare body) (map bare otherwise)) ∙ sym (ap (λ t. t.declares) (step-If w place test body otherwise));
      does = λ adds at f ok.
          let both = and_true (list_all (λ b. b) (map (adds_taken sums_take w) body)) (list_all (λ b. b) (map (adds_taken sums_take w) otherwise))
          (sym (fold_stmt-If (adds_at sums_take w) (λ l. list_all (λ b. b) l.body) place test body otherwise) ∙ adds) in
          ends_by w _ (then_do ((sense w test).does (spot place at) 0 f) (branch w (map bare body) (map bare otherwise) at f)) _ (then_do ((sense w test).does (spot place at) 0 f) (branch w body otherwise at f))
          (ap (λ y. (step w y).does at f) (bare-If place test body otherwise) ∙ does_If w place test (map bare body) (map bare otherwise) at f)
          (does_If w place test body otherwise at f)
          (ends_then w (HasKind (sense w test).kind) ((sense w test).does (spot place at) 0 f) ((sense w test).does (spot place at) 0 f) (branch w (map bare body) (map bare otherwise) at f) (branch w body otherwise at f)
          (has_its_kind w test (spot place at) 0 f ok) (ends_itself w ((sense w test).does (spot place at) 0 f)) (λ v of. branch_ends body otherwise p q both.0 both.1 at f ok (is_true v)));
    };
    loop = λ l p. record {
      declares = ap (λ y. (step w y).declares) (bare-For l) ∙ ap (λ t. t.declares) (step-For w (roll-Loop (bare_loop l))) ∙ sym (ap (λ t. t.declares) (step-For w (roll-Loop l)));
      does = λ adds at f ok.
          let inner = sym (fold_stmt-For (adds_at sums_take w) (λ l. list_all (λ b. b) l.body) (roll-Loop l) ∙ fold_loop (adds_at sums_take w) (λ l. list_all (λ b. b) l.body) l) ∙ adds in
          ends_by w _ (looping l.test l.step (sense w l.start) (sense w l.limit) (does_scope w (map bare l.body) at 0) (spot l.place at) f) _
          (looping l.test l.step (sense w l.start) (sense w l.limit) (does_scope w l.body at 0) (spot l.place at) f)
          (ap (λ y. (step w y).does at f) (bare-For l) ∙ ap (λ t. t.does at f) (step-For w (roll-Loop (bare_loop l))) ∙ loop-roll w (bare_loop l) at f)
          (ap (λ t. t.does at f) (step-For w (roll-Loop l)) ∙ loop-roll w l at f)
          (looping_ends l.test l.step l.start l.limit (does_scope w (map bare l.body) at 0) (does_scope w l.body at 0) (spot l.place at)
          (λ g ok_g. scope_keeps (map bare l.body) at g ok_g) (λ g ok_g. scope_ends l.body p inner at 0 g ok_g) f ok);
    };
    block = λ body p. record {
      declares = ap (λ y. (step w y).declares) (bare-Block body) ∙ ap (λ t. t.declares) (step-Block w (map bare body)) ∙ sym (ap (λ t. t.declares) (step-Block w body));
      does = λ adds at f ok.
          ends_by w _ (does_scope w (map bare body) at 0 f) _ (does_scope w body at 0 f)
          (ap (λ y. (step w y).does at f) (bare-Block body) ∙ does_Block w (map bare body) at f) (does_Block w body at f)
          (scope_ends body p (sym (fold_stmt-Block (adds_at sums_take w) (λ l. list_all (λ b. b) l.body) body) ∙ adds) at 0 f ok);
    };
  })

first_frame_of : (u : Program) → FrameOf (source_context u) (first_frame u)
first_frame_of u x v same = absurd (none_is_some v (sym (no_values u.locals x) ∙ same))
  where
    none_is_some : (v : Value) → None ≡ Some v → ⊥
    none_is_some v h = cc

-- the law
pub source_ends : (u : Program) (m : Cells) → AreArraysOf u.arrays m → AddsTaken sums_take u → (g : Frame) (n : Cells) → source_run sums (source_of u) m ≡ Ended g n
    → source_run sums u m ≡ Ended g n
source_ends u m are adds g n h =
    let w = source_context u in
    let all : AllowsAll w = (λ x. refl, λ a k. refl) in
    list_ends w all u.body (each_all (EndsStep w all) (step_ends w all) u.body) adds [] 0 (first_frame u) (first_frame_of u) m (has_elements w m are) g n h
