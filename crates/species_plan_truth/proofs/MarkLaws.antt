-- What marks change in the references of a nest: nothing, where `+=` counts by its array. Where it counts as it is marked, the references are
-- those in which what is marked counts.
use Rattle.std.proofs.Common.{◌≡◌, refl, ap, sym, ◌∙◌, ℕ, ◌-◌, Bool, true, false, List, [], ◌∷◌, ◌++◌, map, length, None}
use Rattle.std.proofs.lemmas.Bool.{and_parts}
use Rattle.species_ast.specs.Marks.{all_true}
use Rattle.species_ast.specs.Strip.{strip_step, strip_layer, strip_stmt, strip_loop}
use Rattle.species_ast.specs.declared.tree.Expr.{Expr}
use Rattle.species_ast.specs.declared.tree.Loop.{Loop, roll-Loop, fold-Loop}
use Rattle.species_ast.specs.declared.tree.Mark.TheVariants.{Plain}
use Rattle.species_ast.specs.declared.tree.Stmt.{Stmt, fold-Stmt, fold-roll-Stmt}
use Rattle.species_ast.specs.declared.tree.Stmt.TheOpen.{Stmt-F, Loop-F}
use Rattle.species_ast.specs.declared.tree.Stmt.TheVariants as stmt
use Rattle.species_ast.specs.Scope.Hulls.{Range}
use Rattle.species_ast.specs.Scope.References.{Adding, Referring, perhaps, in_turn, elements_of, subscripts, addition_references, list_references, unless_empty, references_at, references_inside, stmt_references, loop_references, references_of}
use Rattle.species_ast.proofs.Folds.{fold_stmt-Assign, fold_stmt-AddTo, fold_stmt-Declare, fold_stmt-SetLocal, fold_stmt-If, fold_stmt-For, fold_stmt-Block, fold_loop}
use Rattle.species_ast.proofs.Induction.{Each, StmtCases, stmt_ind}
use Rattle.species_occurrences.specs.Regular.{as_marked, agree, regular_at, regular_loop, is_regular}
use Rattle.species_occurrences.proofs.NestLaws.{unconditional}
use Rattle.species_occurrences.proofs.RunningTaken.{loop_regular}
use Rattle.species_references.specs.References.{adds_of}

-- ---- without marks

-- a loop's layer as stripping leaves it, and with another body
abbrev stripped_layer : {X Y : Type 0} → Loop-F X Y → Loop-F X Y
stripped_layer l = record l { line = None; mark = Plain }

abbrev with_body : {X Y Z W : Type 0} → Loop-F X Y → List Z → Loop-F Z W
with_body l body = record { place = l.place; iter = l.iter; start = l.start; test = l.test; limit = l.limit; step = l.step; body = body; line = l.line; mark = l.mark }

map_same : {X Y : Type 0} (f : X → Y) (g : X → X) (xs : List X) → Each (λ x. f (g x) ≡ f x) xs → map f (map g xs) ≡ map f xs
map_same f g [] h = refl
map_same f g (x ∷ xs) h = λ i. h.0 i ∷ map_same f g xs h.1 i

-- a fold that sees neither marks nor lines is that of the statement without them
unseen : {X Y : Type 0} (step : Stmt-F X Y → X) (at : Loop-F X Y → Y)
    → ((place array : ℕ) (subs : List Expr) (value : Expr) (atomic : Bool) → step (Stmt-F.AddTo place array subs value false) ≡ step (Stmt-F.AddTo place array subs value atomic))
    → ((l : Loop-F X Y) → at (stripped_layer l) ≡ at l)
    → StmtCases (λ s. fold-Stmt X Y step at (strip_stmt false s) ≡ fold-Stmt X Y step at s)
unseen {X} {Y} step at added headed =
    let fold : Stmt → X = fold-Stmt X Y step at in
    let rolled : (f : Stmt-F Stmt Loop) → _ = fold-roll-Stmt X Y step at in
    let layer : Loop-F Stmt Loop → Loop = strip_layer false in
    record {
      assign = λ place array subs value.
          ap fold (fold_stmt-Assign strip_step layer place array subs value) ∙ rolled (Stmt-F.Assign place array subs value) ∙ sym (fold_stmt-Assign step at place array subs value);
      add_to = λ place array subs value atomic.
          ap fold (fold_stmt-AddTo strip_step layer place array subs value atomic) ∙ rolled (Stmt-F.AddTo place array subs value false)
          ∙ added place array subs value atomic ∙ sym (fold_stmt-AddTo step at place array subs value atomic);
      declare = λ place n init. ap fold (fold_stmt-Declare strip_step layer place n init) ∙ rolled (Stmt-F.Declare place n init) ∙ sym (fold_stmt-Declare step at place n init);
      set_local = λ place n value.
          ap fold (fold_stmt-SetLocal strip_step layer place n value) ∙ rolled (Stmt-F.SetLocal place n value) ∙ sym (fold_stmt-SetLocal step at place n value);
      choice = λ place c body otherwise h k.
          ap fold (fold_stmt-If strip_step layer place c body otherwise)
          ∙ rolled (Stmt-F.If place c (map (strip_stmt false) body) (map (strip_stmt false) otherwise))
          ∙ (λ i. step (Stmt-F.If place c (map_same fold (strip_stmt false) body h i) (map_same fold (strip_stmt false) otherwise k i)))
          ∙ sym (fold_stmt-If step at place c body otherwise);
      loop = λ l h.
          ap fold (fold_stmt-For strip_step layer (roll-Loop l)) ∙ rolled (Stmt-F.For (strip_loop false (roll-Loop l)))
          ∙ ap (λ z. step (Stmt-F.For z)) (
          ap (fold-Loop X Y step at) (fold_loop strip_step layer l)
          ∙ fold_loop step at (stripped_layer (with_body l (map (strip_stmt false) l.body)))
          ∙ headed (with_body l (map fold (map (strip_stmt false) l.body)))
          ∙ ap (λ b. at (with_body l b)) (map_same fold (strip_stmt false) l.body h)
          ∙ sym (fold_loop step at l))
          ∙ sym (fold_stmt-For step at (roll-Loop l));
      block = λ body h.
          ap fold (fold_stmt-Block strip_step layer body) ∙ rolled (Stmt-F.Block (map (strip_stmt false) body))
          ∙ ap (λ b. step (Stmt-F.Block b)) (map_same fold (strip_stmt false) body h)
          ∙ sym (fold_stmt-Block step at body);
    }

stripped : (gathered : List ℕ) (s : Stmt) → stmt_references (adds_of gathered) (strip_stmt false s) ≡ stmt_references (adds_of gathered) s
stripped gathered = stmt_ind _ (unseen (references_at (adds_of gathered)) (references_inside (adds_of gathered)) (λ place a subs value atomic. refl) (λ l. refl))

stripped_nest : (gathered : List ℕ) (l : Loop) → loop_references (adds_of gathered) (strip_loop false l) ≡ loop_references (adds_of gathered) l
stripped_nest gathered l =
    let step : Stmt-F Referring Referring → Referring = references_at (adds_of gathered) in
    let at : Loop-F Referring Referring → Referring = references_inside (adds_of gathered) in
    sym (ap (stmt_references (adds_of gathered)) (fold_stmt-For strip_step (strip_layer false) l) ∙ fold-roll-Stmt Referring Referring step at (Stmt-F.For (strip_loop false l)))
    ∙ stripped gathered (stmt.For l) ∙ fold_stmt-For step at l

-- nests that differ in their marks and lines alone have the same references, where `+=` counts by its array
pub unmarked_same : (gathered : List ℕ) (l k : Loop) (at : List ℕ) (path : List Range) (band : ℕ) → strip_loop false l ≡ strip_loop false k
    → references_of (adds_of gathered) l at path band ≡ references_of (adds_of gathered) k at path band
unmarked_same gathered l k at path band same =
    let whole : loop_references (adds_of gathered) l ≡ loop_references (adds_of gathered) k =
    sym (stripped_nest gathered l) ∙ ap (loop_references (adds_of gathered)) same ∙ stripped_nest gathered k in
    ap (λ (f : Referring). f (unconditional at path) band) whole

-- ---- as it is marked

agreed : (a b : Bool) → agree a b ≡ true → b ≡ a
agreed true true h = refl
agreed true false h = absurd cc
agreed false true h = absurd cc
agreed false false h = refl

abbrev IsMarked : Adding → Stmt → Type 0
IsMarked adds x = is_regular adds x ≡ true → stmt_references as_marked x ≡ stmt_references adds x

marked_list : (adds : Adding) (xs : List Stmt) → Each (IsMarked adds) xs → all_true (map (is_regular adds) xs) ≡ true → map (stmt_references as_marked) xs ≡ map (stmt_references adds) xs
marked_list adds [] h t = refl
marked_list adds (x ∷ xs) h t =
    let p = and_parts (is_regular adds x) (all_true (map (is_regular adds) xs)) t in
    λ i. h.0 p.0 i ∷ marked_list adds xs h.1 p.1 i

marked_stmt : (adds : Adding) (x : Stmt) → IsMarked adds x
marked_stmt adds = stmt_ind (IsMarked adds) (record {
  assign = λ place a subs value t.
      fold_stmt-Assign (references_at as_marked) (references_inside as_marked) place a subs value ∙ sym (fold_stmt-Assign (references_at adds) (references_inside adds) place a subs value);
  add_to = λ place a subs value atomic t.
      let same : atomic ≡ adds a atomic = agreed (adds a atomic) atomic (sym (fold_stmt-AddTo (regular_at adds) regular_loop place a subs value atomic) ∙ t) in
      fold_stmt-AddTo (references_at as_marked) (references_inside as_marked) place a subs value atomic
      ∙ (λ i g band. (subscripts subs).references g 0 ++ addition_references (same i) a subs value g)
      ∙ sym (fold_stmt-AddTo (references_at adds) (references_inside adds) place a subs value atomic);
  declare = λ place n init t.
      fold_stmt-Declare (references_at as_marked) (references_inside as_marked) place n init ∙ sym (fold_stmt-Declare (references_at adds) (references_inside adds) place n init);
  set_local = λ place n value t.
      fold_stmt-SetLocal (references_at as_marked) (references_inside as_marked) place n value ∙ sym (fold_stmt-SetLocal (references_at adds) (references_inside adds) place n value);
  choice = λ place test body otherwise p q t.
      let both = and_parts (all_true (map (is_regular adds) body)) (all_true (map (is_regular adds) otherwise)) (sym (fold_stmt-If (regular_at adds) regular_loop place test body otherwise) ∙ t) in
      let bodies = marked_list adds body p both.0 in
      let others = marked_list adds otherwise q both.1 in
      fold_stmt-If (references_at as_marked) (references_inside as_marked) place test body otherwise
      ∙ (λ i g band. (elements_of test).references g 0 ++ (list_references (bodies i) (perhaps g) 0 band ++ list_references (others i) (perhaps g) (length (bodies i)) band))
      ∙ sym (fold_stmt-If (references_at adds) (references_inside adds) place test body otherwise);
  loop = λ l p t.
      let bodies = marked_list adds l.body p (loop_regular adds (roll-Loop l) t).1 in
      (fold_stmt-For (references_at as_marked) (references_inside as_marked) (roll-Loop l) ∙ fold_loop (references_at as_marked) (references_inside as_marked) l)
      ∙ (λ i g band. unless_empty band (in_turn g l).path (list_references (bodies i) (in_turn g l) 0 (band - 1)))
      ∙ sym (fold_stmt-For (references_at adds) (references_inside adds) (roll-Loop l) ∙ fold_loop (references_at adds) (references_inside adds) l);
  block = λ body p t.
      let bodies = marked_list adds body p (sym (fold_stmt-Block (regular_at adds) regular_loop body) ∙ t) in
      fold_stmt-Block (references_at as_marked) (references_inside as_marked) body
      ∙ (λ i g band. list_references (bodies i) g 0 band)
      ∙ sym (fold_stmt-Block (references_at adds) (references_inside adds) body);
})

-- the references of a nest, where `+=` counts as it is marked, if it is marked where it counts
pub marked_same : (adds : Adding) (l : Loop) (at : List ℕ) (path : List Range) (band : ℕ) → is_regular adds (stmt.For l) ≡ true → references_of as_marked l at path band ≡ references_of adds l at path band
marked_same adds l at path band t =
    let whole : loop_references as_marked l ≡ loop_references adds l =
    sym (fold_stmt-For (references_at as_marked) (references_inside as_marked) l) ∙ marked_stmt adds (stmt.For l) t ∙ fold_stmt-For (references_at adds) (references_inside adds) l in
    ap (λ (f : Referring). f (unconditional at path) band) whole
