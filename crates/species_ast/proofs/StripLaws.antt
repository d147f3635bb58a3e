-- What stripping leaves: no mark, no line that is not kept, and nothing for a second stripping to do.
use Rattle.std.proofs.Common.{◌≡◌, ◌∙◌, ap, refl, sym, List, [], ◌∷◌, Bool, true, false, map, not, is_none, if◌then◌else◌, None}
use Rattle.std.specs.List.{list_all}
use Rattle.species_ast.specs.Marks.{all_true, test_step, test_layer, is_plain, unmarked_stmt, without_lines_stmt, IsUnmarked, HasNoLine}
use Rattle.species_ast.specs.Strip.{strip_stmt, strip_step, strip_layer, strip_of}
use Rattle.species_ast.specs.declared.tree.Loop.{Loop, roll-Loop, fold-Loop}
use Rattle.species_ast.specs.declared.tree.Mark.TheVariants.{Plain}
use Rattle.species_ast.specs.declared.tree.Stmt.{Stmt, roll-Stmt, fold-Stmt, fold-roll-Stmt}
use Rattle.species_ast.specs.declared.tree.Stmt.TheOpen.{Stmt-F, Loop-F}
use Rattle.species_ast.specs.declared.tree.Unit.{Unit}
use Rattle.species_ast.proofs.Folds.{fold_stmt-Assign, fold_stmt-AddTo, fold_stmt-Declare, fold_stmt-SetLocal, fold_stmt-If, fold_stmt-For, fold_stmt-Block, fold_loop}
use Rattle.species_ast.proofs.Induction.{Each, each_all, StmtCases, stmt_ind}

-- a test that passes after f at each element passes at each of `map f xs`
list_all-map : {X : Type 0} (p : X → Bool) (f : X → X) (xs : List X) → Each (λ x. p (f x) ≡ true) xs → list_all p (map f xs) ≡ true
list_all-map p f [] h = refl
list_all-map p f (x ∷ xs) h = rw (h.0, list_all-map p f xs h.1) refl

all_true-map : {X : Type 0} (p : X → Bool) (f : X → X) (xs : List X) → Each (λ x. p (f x) ≡ true) xs → all_true (map p (map f xs)) ≡ true
all_true-map p f [] h = refl
all_true-map p f (x ∷ xs) h = rw (h.0, all_true-map p f xs h.1) refl

-- a loop's layer as stripping leaves it
abbrev stripped_layer : {X Y : Type 0} → Bool → Loop-F X Y → Loop-F X Y
stripped_layer keep l = record l { line = if keep then l.line else None; mark = Plain }

-- a test that every plain addition and every stripped loop passes is passed by each stripped statement
tests : (add : Bool → Bool) (head : Loop-F Bool Bool → Bool) (keep : Bool) → add false ≡ true →
    ((l : Loop-F Bool Bool) → head (stripped_layer keep l) ≡ true) →
    StmtCases (λ s. fold-Stmt Bool Bool (test_step add) (test_layer head) (strip_stmt keep s) ≡ true)
tests add head keep added headed =
    let test : Stmt → Bool = fold-Stmt Bool Bool (test_step add) (test_layer head) in
    let rolled : (f : Stmt-F Stmt Loop) → _ = fold-roll-Stmt Bool Bool (test_step add) (test_layer head) in
    let at : Loop-F Stmt Loop → Loop = strip_layer keep in
    record {
      assign = λ place array subs value.
          ap test (fold_stmt-Assign strip_step at place array subs value) ∙ rolled (Stmt-F.Assign place array subs value);
      add_to = λ place array subs value atomic.
          ap test (fold_stmt-AddTo strip_step at place array subs value atomic) ∙ rolled (Stmt-F.AddTo place array subs value false) ∙ added;
      declare = λ place n init. ap test (fold_stmt-Declare strip_step at place n init) ∙ rolled (Stmt-F.Declare place n init);
      set_local = λ place n value. ap test (fold_stmt-SetLocal strip_step at place n value) ∙ rolled (Stmt-F.SetLocal place n value);
      choice = λ place c body otherwise h k.
          ap test (fold_stmt-If strip_step at place c body otherwise) ∙
          rolled (Stmt-F.If place c (map (strip_stmt keep) body) (map (strip_stmt keep) otherwise)) ∙
          rw (all_true-map test (strip_stmt keep) body h, all_true-map test (strip_stmt keep) otherwise k) refl;
      loop = λ l h.
          ap test (fold_stmt-For strip_step at (roll-Loop l)) ∙
          rolled (Stmt-F.For (fold-Loop Stmt Loop strip_step at (roll-Loop l))) ∙
          ap (fold-Loop Bool Bool (test_step add) (test_layer head)) (fold_loop strip_step at l) ∙
          fold_loop (test_step add) (test_layer head) (stripped_layer keep (record l { body = map (strip_stmt keep) l.body })) ∙
          rw (headed (record { place = l.place; iter = l.iter; start = l.start; test = l.test; limit = l.limit; step = l.step; body = map test (map (strip_stmt keep) l.body); line = l.line; mark = l.mark }), all_true-map test (strip_stmt keep) l.body h) refl;
      block = λ body h.
          ap test (fold_stmt-Block strip_step at body) ∙ rolled (Stmt-F.Block (map (strip_stmt keep) body)) ∙ all_true-map test (strip_stmt keep) body h;
    }

-- a stripped unit has no mark
pub strip_of-IsUnmarked : (keep : Bool) (u : Unit) → IsUnmarked (strip_of keep u)
strip_of-IsUnmarked keep u =
    rw (list_all-map unmarked_stmt (strip_stmt keep) u.body (each_all _ (stmt_ind _ (tests not (λ l. is_plain l.mark) keep refl (λ l. refl))) u.body)) refl

-- and no species line where lines are not kept
pub strip_of-HasNoLine : (u : Unit) → HasNoLine (strip_of false u)
strip_of-HasNoLine u =
    rw (list_all-map without_lines_stmt (strip_stmt false) u.body
    (each_all _ (stmt_ind _ (tests (λ atomic. true) (λ l. is_none l.line) false refl (λ l. refl))) u.body)) refl

-- a function that does nothing more the second time does nothing more to a list
map-again : {X : Type 0} (f : X → X) (xs : List X) → Each (λ x. f (f x) ≡ f x) xs → map f (map f xs) ≡ map f xs
map-again f [] h = refl
map-again f (x ∷ xs) h = rw (h.0, map-again f xs h.1) refl

-- a choice that was made stays made
choose-again : {X : Type 0} (keep : Bool) (x y : X) → (if keep then (if keep then x else y) else y) ≡ (if keep then x else y)
choose-again true x y = refl
choose-again false x y = refl

again : (keep : Bool) → StmtCases (λ s. strip_stmt keep (strip_stmt keep s) ≡ strip_stmt keep s)
again keep =
    let at : Loop-F Stmt Loop → Loop = strip_layer keep in
    let strip : Stmt → Stmt = strip_stmt keep in
    let rolled : (f : Stmt-F Stmt Loop) → _ = fold-roll-Stmt Stmt Loop strip_step at in
    record {
      assign = λ place array subs value.
          let e = fold_stmt-Assign strip_step at place array subs value in ap strip e ∙ rolled (Stmt-F.Assign place array subs value) ∙ sym e;
      add_to = λ place array subs value atomic.
          let e = fold_stmt-AddTo strip_step at place array subs value atomic in
          ap strip e ∙ rolled (Stmt-F.AddTo place array subs value false) ∙ sym e;
      declare = λ place n init. let e = fold_stmt-Declare strip_step at place n init in ap strip e ∙ rolled (Stmt-F.Declare place n init) ∙ sym e;
      set_local = λ place n value.
          let e = fold_stmt-SetLocal strip_step at place n value in ap strip e ∙ rolled (Stmt-F.SetLocal place n value) ∙ sym e;
      choice = λ place c body otherwise h k.
          let e = fold_stmt-If strip_step at place c body otherwise in
          ap strip e ∙ rolled (Stmt-F.If place c (map strip body) (map strip otherwise)) ∙
          ap (λ z. roll-Stmt (Stmt-F.If place c z (map strip (map strip otherwise)))) (map-again strip body h) ∙
          ap (λ z. roll-Stmt (Stmt-F.If place c (map strip body) z)) (map-again strip otherwise k) ∙
          sym e;
      loop = λ l h.
          let e = fold_stmt-For strip_step at (roll-Loop l) in
          let body : Loop-F Stmt Loop = record l { body = map strip l.body } in
          let f = fold_loop strip_step at l in
          ap strip e ∙ rolled (Stmt-F.For (fold-Loop Stmt Loop strip_step at (roll-Loop l))) ∙
          ap (λ z. roll-Stmt (Stmt-F.For z)) (
          ap (fold-Loop Stmt Loop strip_step at) f ∙ fold_loop strip_step at (stripped_layer keep body) ∙
          ap (λ z. roll-Loop (record (stripped_layer keep body) { body = z; line = if keep then (if keep then l.line else None) else None })) (map-again strip l.body h) ∙
          ap (λ z. roll-Loop (record (stripped_layer keep body) { line = z })) (choose-again keep l.line None) ∙
          sym f) ∙
          sym e;
      block = λ body h.
          let e = fold_stmt-Block strip_step at body in
          ap strip e ∙ rolled (Stmt-F.Block (map strip body)) ∙ ap (λ z. roll-Stmt (Stmt-F.Block z)) (map-again strip body h) ∙ sym e;
    }

-- stripping a stripped unit changes nothing
pub strip_of-again : (keep : Bool) (u : Unit) → strip_of keep (strip_of keep u) ≡ strip_of keep u
strip_of-again keep u = ap (λ body. record u { body = body }) (map-again (strip_stmt keep) u.body (each_all _ (stmt_ind _ (again keep)) u.body))
