-- What is folded over a statement without marks, atomic additions and lines.
use Rattle.std.proofs.Common.{◌≡◌, ◌∙◌, ap, refl, sym, ℕ, Bool, false, List, [], ◌∷◌, map, None}
use Rattle.species_ast.specs.declared.tree.Expr.{Expr}
use Rattle.species_ast.specs.declared.tree.Mark.TheVariants.{Plain}
use Rattle.species_ast.specs.declared.tree.Stmt.{Stmt, fold-Stmt, fold-roll-Stmt}
use Rattle.species_ast.specs.declared.tree.Stmt.TheOpen.{Stmt-F, Loop-F}
use Rattle.species_ast.specs.declared.tree.Loop.{Loop, roll-Loop, fold-Loop}
use Rattle.species_ast.specs.Strip.{strip_step, strip_layer, strip_stmt, strip_loop}
use Rattle.species_ast.proofs.Folds.{fold_stmt-Assign, fold_stmt-AddTo, fold_stmt-Declare, fold_stmt-SetLocal, fold_stmt-If, fold_stmt-For, fold_stmt-Block, fold_loop}
use Rattle.species_ast.proofs.Induction.{Each, stmt_ind}

abbrev pub bare : Stmt → Stmt
bare = strip_stmt false

abbrev pub layer : Loop-F Stmt Loop → Loop
layer = strip_layer false

abbrev pub bare_layer : {X Y : Type 0} → Loop-F X Y → Loop-F X Y
bare_layer l = record l { line = None; mark = Plain }

abbrev pub with_body : {X Y Z W : Type 0} → Loop-F X Y → List Z → Loop-F Z W
with_body l body = record { place = l.place; iter = l.iter; start = l.start; test = l.test; limit = l.limit; step = l.step; body = body; line = l.line; mark = l.mark }

pub mapped : {X : Type 0} (f : Stmt → X) (xs : List Stmt) → Each (λ x. f (bare x) ≡ f x) xs → map f (map bare xs) ≡ map f xs
mapped f [] h = refl
mapped f (x ∷ xs) h = λ i. h.0 i ∷ mapped f xs h.1 i

-- A fold that sees neither marks nor atomic additions nor lines is the same of the source.
pub bare_fold : {X Y : Type 0} (step : Stmt-F X Y → X) (at : Loop-F X Y → Y)
    → ((place a : ℕ) (subs : List Expr) (value : Expr) (atomic : Bool) → step (Stmt-F.AddTo place a subs value false) ≡ step (Stmt-F.AddTo place a subs value atomic))
    → ((l : Loop-F X Y) → at (bare_layer l) ≡ at l) → (s : Stmt) → fold-Stmt X Y step at (bare s) ≡ fold-Stmt X Y step at s
bare_fold {X} {Y} step at added headed =
    let fold : Stmt → X = fold-Stmt X Y step at in
    let rolled : (f : Stmt-F Stmt Loop) → _ = fold-roll-Stmt X Y step at in
    stmt_ind (λ s. fold-Stmt X Y step at (bare s) ≡ fold-Stmt X Y step at s) (record {
      assign = λ place a subs value. ap fold (fold_stmt-Assign strip_step layer place a subs value) ∙ rolled (Stmt-F.Assign place a subs value) ∙ sym (fold_stmt-Assign step at place a subs value);
      add_to = λ place a subs value atomic.
          ap fold (fold_stmt-AddTo strip_step layer place a subs value atomic) ∙ rolled (Stmt-F.AddTo place a subs value false) ∙ added place a subs value atomic
          ∙ sym (fold_stmt-AddTo step at place a subs value atomic);
      declare = λ place n init. ap fold (fold_stmt-Declare strip_step layer place n init) ∙ rolled (Stmt-F.Declare place n init) ∙ sym (fold_stmt-Declare step at place n init);
      set_local = λ place n value. ap fold (fold_stmt-SetLocal strip_step layer place n value) ∙ rolled (Stmt-F.SetLocal place n value) ∙ sym (fold_stmt-SetLocal step at place n value);
      choice = λ place c body otherwise h k.
          ap fold (fold_stmt-If strip_step layer place c body otherwise) ∙ rolled (Stmt-F.If place c (map bare body) (map bare otherwise))
          ∙ (λ i. step (Stmt-F.If place c (mapped fold body h i) (mapped fold otherwise k i))) ∙ sym (fold_stmt-If step at place c body otherwise);
      loop = λ l h.
          ap fold (fold_stmt-For strip_step layer (roll-Loop l)) ∙ rolled (Stmt-F.For (strip_loop false (roll-Loop l)))
          ∙ ap (λ z. step (Stmt-F.For z)) (
          ap (fold-Loop X Y step at) (fold_loop strip_step layer l)
          ∙ fold_loop step at (bare_layer (with_body l (map bare l.body)))
          ∙ headed (with_body l (map fold (map bare l.body)))
          ∙ ap (λ b. at (with_body l b)) (mapped fold l.body h)
          ∙ sym (fold_loop step at l))
          ∙ sym (fold_stmt-For step at (roll-Loop l));
      block = λ body h.
          ap fold (fold_stmt-Block strip_step layer body) ∙ rolled (Stmt-F.Block (map bare body)) ∙ ap (λ b. step (Stmt-F.Block b)) (mapped fold body h)
          ∙ sym (fold_stmt-Block step at body);
    })
