-- A unit without marks is well made where its source is.
use Rattle.std.proofs.Common.{◌≡◌, ◌∙◌, ap, refl, sym, subst, ℕ, suc, Bool, true, false, ◌&&◌, ◌||◌, not, List, [], ◌∷◌, ◌++◌, map, flat_map, length}
use Rattle.std.specs.Prelude.{IsTrue}
use Rattle.std.specs.List.{list_all}
use Rattle.std.proofs.lemmas.Bool.{and_parts, and_from}
use Rattle.species_ast.specs.declared.tree.Mark.{Mark}
use Rattle.species_ast.specs.declared.tree.Mark.TheVariants.{Plain, Parallel}
use Rattle.species_ast.specs.declared.tree.Stmt.{Stmt, fold-roll-Stmt}
use Rattle.species_ast.specs.declared.tree.Stmt.TheOpen.{Stmt-F, Loop-F}
use Rattle.species_ast.specs.declared.tree.Loop.{Loop, roll-Loop, fold-Loop}
use Rattle.species_ast.specs.declared.tree.Unit.{Unit as Program}
use Rattle.species_ast.specs.Marks.{all_true, test_step, test_layer, is_plain, unmarked_stmt, IsUnmarked}
use Rattle.species_ast.specs.Strip.{strip_step, strip_loop, source_of}
use Rattle.species_ast.specs.Run.{locals_at, locals_of}
use Rattle.species_ast.specs.Scope.References.{HasReadSize}
use Rattle.species_ast.specs.Scope.Nests.{Bounds, only_loops, front_with, is_parallel, is_bad_mark}
use Rattle.species_ast.specs.Scope.Hulls.{Range, range_of, passes_hull}
use Rattle.species_ast.specs.Scope.Magnitudes.{passes_bound}
use Rattle.species_ast.specs.Scope.Limits.{goes, is_too_deep, is_too_far, most_references, most_references_made}
use Rattle.species_ast.specs.Scope.WellMade.{Around, Made, made, made_at, made_loop, list_holds, list_keeps, fronts_of, has_depth, head_holds, head_keeps, is_made, is_made_bound, is_declared_once, outermost, IsWellMade}
use Rattle.species_ast.proofs.Folds.{fold_stmt-Assign, fold_stmt-AddTo, fold_stmt-Declare, fold_stmt-SetLocal, fold_stmt-If, fold_stmt-For, fold_stmt-Block, fold_loop}
use Rattle.species_ast.proofs.Induction.{Each, each_all, stmt_ind}
use Rattle.species_ast.proofs.StripKeeps.{Stays, strip-larger_than}
use Rattle.species_annotate.proofs.FoldLaws.{bare, layer, bare_layer, with_body, mapped, bare_fold}

-- ---- locals

abbrev inner_locals : Loop-F (List ℕ) (List ℕ) → List ℕ
inner_locals l = flat_map (λ xs. xs) l.body

locals_same : (s : Stmt) → locals_of (bare s) ≡ locals_of s
locals_same = bare_fold locals_at inner_locals (λ place a subs value atomic. refl) (λ l. refl)

-- ---- statements without marks

abbrev at_stmt : Stmt-F Bool Bool → Bool
at_stmt = test_step not

abbrev at_loop : Loop-F Bool Bool → Bool
at_loop = test_layer (λ l. is_plain l.mark)

-- what the source of the statement keeps, it keeps too
abbrev Back : Stmt → Type 0
Back s = Stays (made (bare s)) (made s)

abbrev IsBack : Stmt → Type 0
IsBack s = unmarked_stmt s ≡ true → Back s

each_back : (xs : List Stmt) → Each IsBack xs → all_true (map unmarked_stmt xs) ≡ true → Each Back xs
each_back [] h t = tt
each_back (x ∷ xs) h t = let parts = and_parts (unmarked_stmt x) (all_true (map unmarked_stmt xs)) t in (h.0 parts.0, each_back xs h.1 parts.1)

between : (s : Stmt) (m k : Made) → made (bare s) ≡ m → made s ≡ k → Stays m k → Back s
between s m k p q h = subst (λ z. Stays z (made s)) (sym p) (subst (Stays m) (sym q) h)

same : (m : Made) → ((level : ℕ) (path : List Range) (a b : Bool) → m.keeps (record { level = level; path = path; in_nest = a }) ≡ true → m.keeps (record { level = level; path = path; in_nest = b }) ≡ true) → Stays m m
same m h = record { declares = refl; front = refl; holds = λ w t. t; keeps = h }

back_holds : (xs : List Stmt) → Each Back xs → (w : Around) → list_holds (map made (map bare xs)) w ≡ true → list_holds (map made xs) w ≡ true
back_holds [] h w t = refl
back_holds (x ∷ xs) h w t =
    let parts = and_parts ((made (bare x)).holds w) _ t in
    and_from _ _ (h.0.holds w parts.0)
    (subst (λ d. list_holds (map made xs) (record w { locals = d ++ w.locals }) ≡ true) (sym h.0.declares)
    (back_holds xs h.1 (record w { locals = (made (bare x)).declares ++ w.locals }) parts.1))

back_keeps : (xs : List Stmt) → Each Back xs → (level : ℕ) (path : List Range) (a b : Bool)
    → list_keeps (map made (map bare xs)) (record { level = level; path = path; in_nest = a }) ≡ true → list_keeps (map made xs) (record { level = level; path = path; in_nest = b }) ≡ true
back_keeps [] h level path a b t = refl
back_keeps (x ∷ xs) h level path a b t =
    let parts = and_parts ((made (bare x)).keeps (record { level = level; path = path; in_nest = a })) _ t in
    and_from _ _ (h.0.keeps level path a b parts.0) (back_keeps xs h.1 level path a b parts.1)

back_fronts : (xs : List Stmt) → Each Back xs → fronts_of (map made xs) ≡ fronts_of (map made (map bare xs))
back_fronts [] h = refl
back_fronts (x ∷ xs) h = λ i. h.0.front i ∷ back_fronts xs h.1 i

plain_mark : (m : Mark) → is_plain m ≡ true → m ≡ Plain
plain_mark Plain h = refl
plain_mark (Parallel depth schedule) h = absurd cc

no_mark : (level : ℕ) (b : Bool) (front : List Bounds) → not (is_bad_mark b level Plain front) ≡ true
no_mark level true front = refl
no_mark level false front = refl

loop_back : (l : Loop-F Stmt Loop) → l.mark ≡ Plain → Each Back l.body
    → Stays (made_loop (bare_layer (with_body l (map made (map bare l.body))))) (made_loop (with_body l (map made l.body)))
loop_back l plain h =
    let old : Loop-F Made Made = bare_layer (with_body l (map made (map bare l.body))) in
    record {
      declares = refl;
      front = ap (front_with l.start l.limit) (back_fronts l.body h);
      holds = λ w t.
          let parts = and_parts (head_holds old w) _ t in
          let start = and_parts (is_made_bound w.level l.start) _ parts.0 in
          let limit = and_parts (is_made_bound w.level l.limit) _ start.1 in
          let step = and_parts (goes l.test l.step) _ limit.1 in
          and_from _ _ (and_from _ _ start.0 (and_from _ _ limit.0 (and_from _ _ step.0 (ap has_depth plain)))) (back_holds l.body h _ parts.1);
      keeps = λ level path a b t.
          let parts = and_parts (head_keeps (front_with l.start l.limit (fronts_of (map made (map bare l.body)))) old (record { level = level; path = path; in_nest = a })) _ t in
          let deep = and_parts (not (is_too_deep level)) _ parts.0 in
          let far = and_parts (not (is_too_far l.step)) _ deep.1 in
          let hull = and_parts (not (passes_hull path l)) _ far.1 in
          let bound = and_parts (not (passes_bound path l)) _ hull.1 in
          let front : List Bounds = front_with l.start l.limit (fronts_of (map made l.body)) in
          and_from _ _ (and_from _ _ deep.0 (and_from _ _ far.0 (and_from _ _ hull.0 (and_from _ _ bound.0 (ap (λ m. not (is_bad_mark b level m front)) plain ∙ no_mark level b front)))))
          (back_keeps l.body h (suc level) (path ++ range_of path l ∷ []) (a || false) (b || is_parallel l.mark) parts.1);
    }

is_back : (s : Stmt) → IsBack s
is_back =
    let rolled : (f : Stmt-F Stmt Loop) → _ = fold-roll-Stmt Made Made made_at made_loop in
    stmt_ind IsBack (record {
      assign = λ place array subs value t. between _ _ _ (ap made (fold_stmt-Assign strip_step layer place array subs value) ∙ rolled (Stmt-F.Assign place array subs value))
          (fold_stmt-Assign made_at made_loop place array subs value) (same _ (λ level path a b t. refl));
      add_to = λ place array subs value atomic t. between _ _ _ (ap made (fold_stmt-AddTo strip_step layer place array subs value atomic) ∙ rolled (Stmt-F.AddTo place array subs value false))
          (fold_stmt-AddTo made_at made_loop place array subs value atomic) (same _ (λ level path a b t. refl));
      declare = λ place n init t. between _ _ _ (ap made (fold_stmt-Declare strip_step layer place n init) ∙ rolled (Stmt-F.Declare place n init))
          (fold_stmt-Declare made_at made_loop place n init) (same _ (λ level path a b t. refl));
      set_local = λ place n value t. between _ _ _ (ap made (fold_stmt-SetLocal strip_step layer place n value) ∙ rolled (Stmt-F.SetLocal place n value))
          (fold_stmt-SetLocal made_at made_loop place n value) (same _ (λ level path a b t. refl));
      choice = λ place c body otherwise h k t.
          let tests : (all_true (map unmarked_stmt body) && all_true (map unmarked_stmt otherwise)) ≡ true = sym (fold_stmt-If at_stmt at_loop place c body otherwise) ∙ t in
          let both = and_parts (all_true (map unmarked_stmt body)) (all_true (map unmarked_stmt otherwise)) tests in
          let p : Each Back body = each_back body h both.0 in
          let q : Each Back otherwise = each_back otherwise k both.1 in
          between _ _ _ (ap made (fold_stmt-If strip_step layer place c body otherwise) ∙ rolled (Stmt-F.If place c (map bare body) (map bare otherwise)))
          (fold_stmt-If made_at made_loop place c body otherwise) (record {
            declares = refl;
            front = refl;
            holds = λ w t.
                let parts = and_parts (is_made w c) _ t in
                let lists = and_parts (list_holds (map made (map bare body)) w) _ parts.1 in
                and_from _ _ parts.0 (and_from _ _ (back_holds body p w lists.0) (back_holds otherwise q w lists.1));
            keeps = λ level path a b t.
                let parts = and_parts (list_keeps (map made (map bare body)) (record { level = level; path = path; in_nest = a })) _ t in
                and_from _ _ (back_keeps body p level path a b parts.0) (back_keeps otherwise q level path a b parts.1);
          });
      loop = λ l h t.
          let all : (is_plain l.mark && all_true (map unmarked_stmt l.body)) ≡ true = sym (fold_stmt-For at_stmt at_loop (roll-Loop l) ∙ fold_loop at_stmt at_loop l) ∙ t in
          let parts = and_parts (is_plain l.mark) (all_true (map unmarked_stmt l.body)) all in
          between _ _ _ (ap made (fold_stmt-For strip_step layer (roll-Loop l)) ∙ rolled (Stmt-F.For (strip_loop false (roll-Loop l)))
          ∙ ap (fold-Loop Made Made made_at made_loop) (fold_loop strip_step layer l)
          ∙ fold_loop made_at made_loop (bare_layer (with_body l (map bare l.body))))
          (fold_stmt-For made_at made_loop (roll-Loop l) ∙ fold_loop made_at made_loop l) (loop_back l (plain_mark l.mark parts.0) (each_back l.body h parts.1));
      block = λ body h t.
          let p : Each Back body = each_back body h (sym (fold_stmt-Block at_stmt at_loop body) ∙ t) in
          between _ _ _ (ap made (fold_stmt-Block strip_step layer body) ∙ rolled (Stmt-F.Block (map bare body)))
          (fold_stmt-Block made_at made_loop body) (record {
            declares = refl;
            front = ap only_loops (back_fronts body p);
            holds = back_holds body p;
            keeps = back_keeps body p;
          });
    })

all_tested : (xs : List Stmt) → all_true (map unmarked_stmt xs) ≡ list_all unmarked_stmt xs
all_tested [] = refl
all_tested (x ∷ xs) = ap (λ (b : Bool). unmarked_stmt x && b) (all_tested xs)

-- ---- units

-- the source of the unit is well made, and so is the unit
pub well_made : (u : Program) → IsUnmarked u → IsWellMade (source_of u) → IsWellMade u
well_made u plain h =
    let back : Each Back u.body = each_back u.body (each_all IsBack is_back u.body) (all_tested u.body ∙ plain) in
    record {
      few_arrays = h.few_arrays;
      few_locals = h.few_locals;
      arrays = h.arrays;
      locals = subst (λ xs. IsTrue (is_declared_once (length u.locals) xs)) (ap (flat_map (λ xs. xs)) (mapped locals_of u.body (each_all _ locals_same u.body))) h.locals;
      body = back_holds u.body back (outermost u) h.body;
      limits = back_keeps u.body back 0 [] false false h.limits;
      references = sym (strip-larger_than false most_references_made u) ∙ h.references;
    }

-- and it has the size of one that is read where its source has
pub read_size : (u : Program) → HasReadSize (source_of u) → HasReadSize u
read_size u h = sym (strip-larger_than false most_references u) ∙ h
