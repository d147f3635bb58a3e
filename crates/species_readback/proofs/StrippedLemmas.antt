-- What can be written, and what names mean, where species lines, marks and atomic additions are left out.
use Rattle.std.proofs.Common.{◌≡◌, ◌∙◌, ap, sym, refl, ℕ, Bool, true, false, List, [], ◌∷◌, ◌++◌, map, Option, None}
use Rattle.std.proofs.lemmas.Bool.{and_parts, and_from}
use Rattle.std.specs.Prelude.{◌&&◌}
use Rattle.std.specs.List.{list_all}
use Rattle.species_ast.specs.Marks.{all_true, test_step, test_layer}
use Rattle.species_ast.specs.Names.{is_name}
use Rattle.species_ast.specs.Strip.{strip_stmt, strip_step, strip_layer}
use Rattle.species_ast.specs.declared.tree.Expr.{Expr}
use Rattle.species_ast.specs.declared.tree.Mark.TheVariants.{Plain}
use Rattle.species_ast.specs.declared.tree.Loop.{Loop, roll-Loop, fold-Loop}
use Rattle.species_ast.specs.declared.tree.Stmt.{Stmt, fold-Stmt, fold-roll-Stmt}
use Rattle.species_ast.specs.declared.tree.Stmt.TheOpen.{Stmt-F, Loop-F}
use Rattle.species_ast.specs.declared.tree.Stmt.TheVariants as stmt
use Rattle.species_ast.specs.declared.tree.Unit.{Unit}
use Rattle.species_ast.proofs.Folds.{fold_stmt-Assign, fold_stmt-AddTo, fold_stmt-Declare, fold_stmt-SetLocal, fold_stmt-If, fold_stmt-For, fold_stmt-Block, fold_loop, folded_layer}
use Rattle.species_ast.proofs.Induction.{Each, each_all, StmtCases, stmt_ind}
use Rattle.species_readback.specs.Spelt.{is_spelt, is_int_step, line_spelt, mark_spelt, stmt_spelt, loop_spelt, spelt, marks_spelt}
use Rattle.species_readback.specs.Meant.{stmt_meant, loop_meant, meant}
use Rattle.species_readback.proofs.KeptLemmas.{all_same}

-- ---- folds at stripped statements

abbrev pub strip : Stmt → Stmt
strip = strip_stmt false

-- a loop without its line and mark, with its body stripped
abbrev bare : Loop-F Stmt Loop → Loop-F Stmt Loop
bare l = record l { line = None; mark = Plain; body = map strip l.body }

stripped-Assign : {X Y : Type 0} (step : Stmt-F X Y → X) (at : Loop-F X Y → Y) (place a : ℕ) (es : List Expr) (e : Expr)
    → fold-Stmt X Y step at (strip (stmt.Assign place a es e)) ≡ step (Stmt-F.Assign place a es e)
stripped-Assign {X} {Y} step at place a es e =
    ap (fold-Stmt X Y step at) (fold_stmt-Assign strip_step (strip_layer false) place a es e) ∙ fold-roll-Stmt X Y step at (Stmt-F.Assign place a es e)

stripped-AddTo : {X Y : Type 0} (step : Stmt-F X Y → X) (at : Loop-F X Y → Y) (place a : ℕ) (es : List Expr) (e : Expr) (atomic : Bool)
    → fold-Stmt X Y step at (strip (stmt.AddTo place a es e atomic)) ≡ step (Stmt-F.AddTo place a es e false)
stripped-AddTo {X} {Y} step at place a es e atomic =
    ap (fold-Stmt X Y step at) (fold_stmt-AddTo strip_step (strip_layer false) place a es e atomic) ∙ fold-roll-Stmt X Y step at (Stmt-F.AddTo place a es e false)

stripped-Declare : {X Y : Type 0} (step : Stmt-F X Y → X) (at : Loop-F X Y → Y) (place n : ℕ) (init : Option Expr)
    → fold-Stmt X Y step at (strip (stmt.Declare place n init)) ≡ step (Stmt-F.Declare place n init)
stripped-Declare {X} {Y} step at place n init =
    ap (fold-Stmt X Y step at) (fold_stmt-Declare strip_step (strip_layer false) place n init) ∙ fold-roll-Stmt X Y step at (Stmt-F.Declare place n init)

stripped-SetLocal : {X Y : Type 0} (step : Stmt-F X Y → X) (at : Loop-F X Y → Y) (place n : ℕ) (e : Expr)
    → fold-Stmt X Y step at (strip (stmt.SetLocal place n e)) ≡ step (Stmt-F.SetLocal place n e)
stripped-SetLocal {X} {Y} step at place n e =
    ap (fold-Stmt X Y step at) (fold_stmt-SetLocal strip_step (strip_layer false) place n e) ∙ fold-roll-Stmt X Y step at (Stmt-F.SetLocal place n e)

stripped-If : {X Y : Type 0} (step : Stmt-F X Y → X) (at : Loop-F X Y → Y) (place : ℕ) (e : Expr) (body otherwise : List Stmt)
    → fold-Stmt X Y step at (strip (stmt.If place e body otherwise)) ≡ step (Stmt-F.If place e (map (fold-Stmt X Y step at) (map strip body)) (map (fold-Stmt X Y step at) (map strip otherwise)))
stripped-If {X} {Y} step at place e body otherwise =
    ap (fold-Stmt X Y step at) (fold_stmt-If strip_step (strip_layer false) place e body otherwise)
    ∙ fold-roll-Stmt X Y step at (Stmt-F.If place e (map strip body) (map strip otherwise))

stripped-Block : {X Y : Type 0} (step : Stmt-F X Y → X) (at : Loop-F X Y → Y) (body : List Stmt)
    → fold-Stmt X Y step at (strip (stmt.Block body)) ≡ step (Stmt-F.Block (map (fold-Stmt X Y step at) (map strip body)))
stripped-Block {X} {Y} step at body =
    ap (fold-Stmt X Y step at) (fold_stmt-Block strip_step (strip_layer false) body) ∙ fold-roll-Stmt X Y step at (Stmt-F.Block (map strip body))

stripped-For : {X Y : Type 0} (step : Stmt-F X Y → X) (at : Loop-F X Y → Y) (l : Loop-F Stmt Loop)
    → fold-Stmt X Y step at (strip (stmt.For (roll-Loop l))) ≡ step (Stmt-F.For (at (folded_layer step at (bare l))))
stripped-For {X} {Y} step at l =
    ap (fold-Stmt X Y step at) (fold_stmt-For strip_step (strip_layer false) (roll-Loop l))
    ∙ fold-roll-Stmt X Y step at (Stmt-F.For (fold-Loop Stmt Loop strip_step (strip_layer false) (roll-Loop l)))
    ∙ ap (λ z. step (Stmt-F.For z)) (ap (fold-Loop X Y step at) (fold_loop strip_step (strip_layer false) l) ∙ fold_loop step at (bare l))

pub whole-For : {X Y : Type 0} (step : Stmt-F X Y → X) (at : Loop-F X Y → Y) (l : Loop-F Stmt Loop)
    → fold-Stmt X Y step at (stmt.For (roll-Loop l)) ≡ step (Stmt-F.For (at (folded_layer step at l)))
whole-For step at l = fold_stmt-For step at (roll-Loop l) ∙ ap (λ z. step (Stmt-F.For z)) (fold_loop step at l)

-- ---- what names mean does not depend on lines and marks

abbrev MeansSame : Unit → Stmt → Type 0
MeansSame u x = meant u (strip x) ≡ meant u x

all_mean : (u : Unit) (xs : List Stmt) → Each (MeansSame u) xs → map (meant u) (map strip xs) ≡ map (meant u) xs
all_mean u [] h = refl
all_mean u (x ∷ xs) h = (λ i. h.0 i ∷ all_mean u xs h.1 i)

mean_cases : (u : Unit) → StmtCases (MeansSame u)
mean_cases u = record {
  assign = λ place a es e. stripped-Assign (stmt_meant u) (loop_meant u) place a es e ∙ sym (fold_stmt-Assign (stmt_meant u) (loop_meant u) place a es e);
  add_to = λ place a es e atomic. stripped-AddTo (stmt_meant u) (loop_meant u) place a es e atomic ∙ sym (fold_stmt-AddTo (stmt_meant u) (loop_meant u) place a es e atomic);
  declare = λ place n init. stripped-Declare (stmt_meant u) (loop_meant u) place n init ∙ sym (fold_stmt-Declare (stmt_meant u) (loop_meant u) place n init);
  set_local = λ place n e. stripped-SetLocal (stmt_meant u) (loop_meant u) place n e ∙ sym (fold_stmt-SetLocal (stmt_meant u) (loop_meant u) place n e);
  choice = λ place e body otherwise h k.
      stripped-If (stmt_meant u) (loop_meant u) place e body otherwise
      ∙ (λ i. stmt_meant u (Stmt-F.If place e (all_mean u body h i) (all_mean u otherwise k i)))
      ∙ sym (fold_stmt-If (stmt_meant u) (loop_meant u) place e body otherwise);
  loop = λ l h.
      stripped-For (stmt_meant u) (loop_meant u) l
      ∙ (λ i. stmt_meant u (Stmt-F.For (loop_meant u (record (folded_layer (stmt_meant u) (loop_meant u) l) { body = all_mean u l.body h i }))))
      ∙ sym (whole-For (stmt_meant u) (loop_meant u) l);
  block = λ body h.
      stripped-Block (stmt_meant u) (loop_meant u) body
      ∙ (λ i. stmt_meant u (Stmt-F.Block (all_mean u body h i)))
      ∙ sym (fold_stmt-Block (stmt_meant u) (loop_meant u) body);
}

pub meant_stripped : (u : Unit) (xs : List Stmt) → map (meant u) (map strip xs) ≡ map (meant u) xs
meant_stripped u xs = all_mean u xs (each_all (MeansSame u) (stmt_ind (MeansSame u) (mean_cases u)) xs)

-- ---- what can be written can be written without lines and marks

abbrev Bare : Unit → Stmt → Type 0
Bare u x = (it : List (List ℕ)) → spelt u x it ≡ true → spelt u (strip x) it ≡ true

all_bare : (u : Unit) (it : List (List ℕ)) (xs : List Stmt) → Each (Bare u) xs → list_all (λ s. s it) (map (spelt u) xs) ≡ true → list_all (λ s. s it) (map (spelt u) (map strip xs)) ≡ true
all_bare u it [] h w = refl
all_bare u it (x ∷ xs) h w =
    let k = and_parts (spelt u x it) (list_all (λ s. s it) (map (spelt u) xs)) w in
    and_from _ _ (h.0 it k.0) (all_bare u it xs h.1 k.1)

-- by what the folds give at a statement and at the stripped one
turned : (u : Unit) (x : Stmt) (f g : List (List ℕ) → Bool) → spelt u x ≡ f → spelt u (strip x) ≡ g → ((it : List (List ℕ)) → f it ≡ true → g it ≡ true) → Bare u x
turned u x f g a b h it w = ap (λ z. z it) b ∙ h it (sym (ap (λ z. z it) a) ∙ w)

bare_loop : (u : Unit) (l : Loop-F Stmt Loop) → Each (Bare u) l.body → Bare u (stmt.For (roll-Loop l))
bare_loop u l h =
    turned u (stmt.For (roll-Loop l)) (loop_spelt u (folded_layer (stmt_spelt u) (loop_spelt u) l)) (loop_spelt u (folded_layer (stmt_spelt u) (loop_spelt u) (bare l)))
    (whole-For (stmt_spelt u) (loop_spelt u) l) (stripped-For (stmt_spelt u) (loop_spelt u) l)
    (λ it w.
    let jt = it ++ l.iter ∷ [] in
    let k = and_parts (line_spelt l.line && mark_spelt l.mark) ((is_name l.iter && is_int_step l.step) && ((is_spelt u it l.start && is_spelt u jt l.limit) && list_all (λ s. s jt) (map (spelt u) l.body))) w in
    let n = and_parts (is_name l.iter && is_int_step l.step) ((is_spelt u it l.start && is_spelt u jt l.limit) && list_all (λ s. s jt) (map (spelt u) l.body)) k.1 in
    let p = and_parts (is_spelt u it l.start && is_spelt u jt l.limit) (list_all (λ s. s jt) (map (spelt u) l.body)) n.1 in
    and_from _ _ n.0 (and_from _ _ p.0 (all_bare u jt l.body h p.1)))

bare_cases : (u : Unit) → StmtCases (Bare u)
bare_cases u = record {
  assign = λ place a es e.
      turned u (stmt.Assign place a es e) (stmt_spelt u (Stmt-F.Assign place a es e)) (stmt_spelt u (Stmt-F.Assign place a es e))
      (fold_stmt-Assign (stmt_spelt u) (loop_spelt u) place a es e) (stripped-Assign (stmt_spelt u) (loop_spelt u) place a es e) (λ it w. w);
  add_to = λ place a es e atomic.
      turned u (stmt.AddTo place a es e atomic) (stmt_spelt u (Stmt-F.AddTo place a es e atomic)) (stmt_spelt u (Stmt-F.AddTo place a es e false))
      (fold_stmt-AddTo (stmt_spelt u) (loop_spelt u) place a es e atomic) (stripped-AddTo (stmt_spelt u) (loop_spelt u) place a es e atomic) (λ it w. w);
  declare = λ place n init.
      turned u (stmt.Declare place n init) (stmt_spelt u (Stmt-F.Declare place n init)) (stmt_spelt u (Stmt-F.Declare place n init))
      (fold_stmt-Declare (stmt_spelt u) (loop_spelt u) place n init) (stripped-Declare (stmt_spelt u) (loop_spelt u) place n init) (λ it w. w);
  set_local = λ place n e.
      turned u (stmt.SetLocal place n e) (stmt_spelt u (Stmt-F.SetLocal place n e)) (stmt_spelt u (Stmt-F.SetLocal place n e))
      (fold_stmt-SetLocal (stmt_spelt u) (loop_spelt u) place n e) (stripped-SetLocal (stmt_spelt u) (loop_spelt u) place n e) (λ it w. w);
  choice = λ place e body otherwise h j.
      turned u (stmt.If place e body otherwise) (stmt_spelt u (Stmt-F.If place e (map (spelt u) body) (map (spelt u) otherwise)))
      (stmt_spelt u (Stmt-F.If place e (map (spelt u) (map strip body)) (map (spelt u) (map strip otherwise))))
      (fold_stmt-If (stmt_spelt u) (loop_spelt u) place e body otherwise) (stripped-If (stmt_spelt u) (loop_spelt u) place e body otherwise)
      (λ it w.
      let k = and_parts (is_spelt u it e) (list_all (λ s. s it) (map (spelt u) body) && list_all (λ s. s it) (map (spelt u) otherwise)) w in
      let l = and_parts (list_all (λ s. s it) (map (spelt u) body)) (list_all (λ s. s it) (map (spelt u) otherwise)) k.1 in
      and_from _ _ k.0 (and_from _ _ (all_bare u it body h l.0) (all_bare u it otherwise j l.1)));
  loop = bare_loop u;
  block = λ body h.
      turned u (stmt.Block body) (stmt_spelt u (Stmt-F.Block (map (spelt u) body))) (stmt_spelt u (Stmt-F.Block (map (spelt u) (map strip body))))
      (fold_stmt-Block (stmt_spelt u) (loop_spelt u) body) (stripped-Block (stmt_spelt u) (loop_spelt u) body) (λ it w. all_bare u it body h w);
}

pub spelt_stripped : (u : Unit) (it : List (List ℕ)) (xs : List Stmt) → list_all (λ s. s it) (map (spelt u) xs) ≡ true → list_all (λ s. s it) (map (spelt u) (map strip xs)) ≡ true
spelt_stripped u it xs = all_bare u it xs (each_all (Bare u) (stmt_ind (Bare u) (bare_cases u)) xs)

-- ---- and with lines and marks that can be written

abbrev marks_at : Stmt-F Bool Bool → Bool
marks_at = test_step (λ atomic. true)

abbrev marks_loop : Loop-F Bool Bool → Bool
marks_loop = test_layer (λ l. line_spelt l.line && mark_spelt l.mark)

abbrev Marked : Unit → Stmt → Type 0
Marked u x = (it : List (List ℕ)) → spelt u (strip x) it ≡ true → marks_spelt x ≡ true → spelt u x it ≡ true

all_marked : (u : Unit) (it : List (List ℕ)) (xs : List Stmt) → Each (Marked u) xs → list_all (λ s. s it) (map (spelt u) (map strip xs)) ≡ true → list_all marks_spelt xs ≡ true
    → list_all (λ s. s it) (map (spelt u) xs) ≡ true
all_marked u it [] h w m = refl
all_marked u it (x ∷ xs) h w m =
    let k = and_parts (spelt u (strip x) it) (list_all (λ s. s it) (map (spelt u) (map strip xs))) w in
    let n = and_parts (marks_spelt x) (list_all marks_spelt xs) m in
    and_from _ _ (h.0 it k.0 n.0) (all_marked u it xs h.1 k.1 n.1)

set : (u : Unit) (x : Stmt) (f g : List (List ℕ) → Bool) (m : Bool) → spelt u (strip x) ≡ f → spelt u x ≡ g → marks_spelt x ≡ m → ((it : List (List ℕ)) → f it ≡ true → m ≡ true → g it ≡ true) → Marked u x
set u x f g m a b c h it w k = ap (λ z. z it) b ∙ h it (sym (ap (λ z. z it) a) ∙ w) (sym c ∙ k)

marked_loop : (u : Unit) (l : Loop-F Stmt Loop) → Each (Marked u) l.body → Marked u (stmt.For (roll-Loop l))
marked_loop u l h =
    set u (stmt.For (roll-Loop l)) (loop_spelt u (folded_layer (stmt_spelt u) (loop_spelt u) (bare l))) (loop_spelt u (folded_layer (stmt_spelt u) (loop_spelt u) l))
    (marks_loop (folded_layer marks_at marks_loop l))
    (stripped-For (stmt_spelt u) (loop_spelt u) l) (whole-For (stmt_spelt u) (loop_spelt u) l) (whole-For marks_at marks_loop l)
    (λ it w m.
    let jt = it ++ l.iter ∷ [] in
    let bodies = list_all (λ s. s jt) (map (spelt u) (map strip l.body)) in
    let n = and_parts (is_name l.iter && is_int_step l.step) ((is_spelt u it l.start && is_spelt u jt l.limit) && bodies) w in
    let p = and_parts (is_spelt u it l.start && is_spelt u jt l.limit) bodies n.1 in
    let q = and_parts (line_spelt l.line && mark_spelt l.mark) (all_true (map marks_spelt l.body)) m in
    and_from _ _ q.0 (and_from _ _ n.0 (and_from _ _ p.0 (all_marked u jt l.body h p.1 (sym (all_same marks_spelt l.body) ∙ q.1)))))

marked_cases : (u : Unit) → StmtCases (Marked u)
marked_cases u = record {
  assign = λ place a es e.
      set u (stmt.Assign place a es e) (stmt_spelt u (Stmt-F.Assign place a es e)) (stmt_spelt u (Stmt-F.Assign place a es e)) true
      (stripped-Assign (stmt_spelt u) (loop_spelt u) place a es e) (fold_stmt-Assign (stmt_spelt u) (loop_spelt u) place a es e) (fold_stmt-Assign marks_at marks_loop place a es e) (λ it w m. w);
  add_to = λ place a es e atomic.
      set u (stmt.AddTo place a es e atomic) (stmt_spelt u (Stmt-F.AddTo place a es e false)) (stmt_spelt u (Stmt-F.AddTo place a es e atomic)) true
      (stripped-AddTo (stmt_spelt u) (loop_spelt u) place a es e atomic) (fold_stmt-AddTo (stmt_spelt u) (loop_spelt u) place a es e atomic) (fold_stmt-AddTo marks_at marks_loop place a es e atomic) (λ it w m. w);
  declare = λ place n init.
      set u (stmt.Declare place n init) (stmt_spelt u (Stmt-F.Declare place n init)) (stmt_spelt u (Stmt-F.Declare place n init)) true
      (stripped-Declare (stmt_spelt u) (loop_spelt u) place n init) (fold_stmt-Declare (stmt_spelt u) (loop_spelt u) place n init) (fold_stmt-Declare marks_at marks_loop place n init) (λ it w m. w);
  set_local = λ place n e.
      set u (stmt.SetLocal place n e) (stmt_spelt u (Stmt-F.SetLocal place n e)) (stmt_spelt u (Stmt-F.SetLocal place n e)) true
      (stripped-SetLocal (stmt_spelt u) (loop_spelt u) place n e) (fold_stmt-SetLocal (stmt_spelt u) (loop_spelt u) place n e) (fold_stmt-SetLocal marks_at marks_loop place n e) (λ it w m. w);
  choice = λ place e body otherwise h j.
      set u (stmt.If place e body otherwise) (stmt_spelt u (Stmt-F.If place e (map (spelt u) (map strip body)) (map (spelt u) (map strip otherwise))))
      (stmt_spelt u (Stmt-F.If place e (map (spelt u) body) (map (spelt u) otherwise))) (marks_at (Stmt-F.If place e (map marks_spelt body) (map marks_spelt otherwise)))
      (stripped-If (stmt_spelt u) (loop_spelt u) place e body otherwise) (fold_stmt-If (stmt_spelt u) (loop_spelt u) place e body otherwise) (fold_stmt-If marks_at marks_loop place e body otherwise)
      (λ it w m.
      let bodies = list_all (λ s. s it) (map (spelt u) (map strip body)) in
      let others = list_all (λ s. s it) (map (spelt u) (map strip otherwise)) in
      let k = and_parts (is_spelt u it e) (bodies && others) w in
      let l = and_parts bodies others k.1 in
      let n = and_parts (all_true (map marks_spelt body)) (all_true (map marks_spelt otherwise)) m in
      and_from _ _ k.0 (and_from _ _ (all_marked u it body h l.0 (sym (all_same marks_spelt body) ∙ n.0)) (all_marked u it otherwise j l.1 (sym (all_same marks_spelt otherwise) ∙ n.1))));
  loop = marked_loop u;
  block = λ body h.
      set u (stmt.Block body) (stmt_spelt u (Stmt-F.Block (map (spelt u) (map strip body)))) (stmt_spelt u (Stmt-F.Block (map (spelt u) body))) (marks_at (Stmt-F.Block (map marks_spelt body)))
      (stripped-Block (stmt_spelt u) (loop_spelt u) body) (fold_stmt-Block (stmt_spelt u) (loop_spelt u) body) (fold_stmt-Block marks_at marks_loop body)
      (λ it w m. all_marked u it body h w (sym (all_same marks_spelt body) ∙ m));
}

pub spelt_marked : (u : Unit) (it : List (List ℕ)) (xs : List Stmt) → list_all (λ s. s it) (map (spelt u) (map strip xs)) ≡ true → list_all marks_spelt xs ≡ true
    → list_all (λ s. s it) (map (spelt u) xs) ≡ true
spelt_marked u it xs = all_marked u it xs (each_all (Marked u) (stmt_ind (Marked u) (marked_cases u)) xs)
