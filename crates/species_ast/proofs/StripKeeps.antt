-- Stripping keeps a unit well made, and keeps its size.
use Rattle.std.proofs.Common.{◌≡◌, ◌∙◌, ap, refl, sym, subst, ℕ, suc, Bool, true, false, ◌||◌, not, if◌then◌else◌, List, [], ◌∷◌, ◌++◌, map, flat_map, length, None}
use Rattle.std.specs.Prelude.{nat_lt, IsTrue}
use Rattle.std.specs.List.{filter}
use Rattle.std.proofs.lemmas.Bool.{and_parts, and_from}
use Rattle.species_ast.specs.declared.tree.Expr.{Expr}
use Rattle.species_ast.specs.declared.tree.Mark.TheVariants.{Plain}
use Rattle.species_ast.specs.declared.tree.Stmt.{Stmt, fold-Stmt, fold-roll-Stmt, para-roll-Stmt}
use Rattle.species_ast.specs.declared.tree.Stmt.TheOpen.{Stmt-F, Loop-F}
use Rattle.species_ast.specs.declared.tree.Stmt.TheVariants as stmt
use Rattle.species_ast.specs.declared.tree.Loop.{Loop, roll-Loop, fold-Loop, out-Loop}
use Rattle.species_ast.specs.declared.tree.Unit.{Unit as Program}
use Rattle.species_ast.specs.Strip.{strip_step, strip_layer, strip_stmt, strip_loop, strip_of}
use Rattle.species_ast.specs.Run.{locals_at, locals_of}
use Rattle.species_ast.specs.Scope.Loops.{outermost_at, outermost_in, outermost_loops}
use Rattle.species_ast.specs.Scope.References.{Referring, no_adds, references_at, references_inside, stmt_references, loop_references, reference_count, larger_than, HasReadSize}
use Rattle.species_ast.specs.Scope.Nests.{Bounds, only_loops, front_with, is_parallel, is_bad_mark}
use Rattle.species_ast.specs.Scope.Hulls.{Range, range_of, passes_hull}
use Rattle.species_ast.specs.Scope.Magnitudes.{passes_bound}
use Rattle.species_ast.specs.Scope.Limits.{goes, is_too_deep, is_too_far, most_references, most_references_made}
use Rattle.species_ast.specs.Scope.Refusals.{places_where}
use Rattle.species_ast.specs.Scope.WellMade.{Around, Made, made, made_at, made_loop, list_holds, list_keeps, fronts_of, head_holds, head_keeps, is_made, is_made_bound, is_declared_once, outermost, IsWellMade}
use Rattle.species_ast.proofs.Folds.{fold_stmt-Assign, fold_stmt-AddTo, fold_stmt-Declare, fold_stmt-SetLocal, fold_stmt-If, fold_stmt-For, fold_stmt-Block, fold_loop, fold_loop-out}
use Rattle.species_ast.proofs.Induction.{Each, each_all, StmtCases, stmt_ind}
use Rattle.species_ast.proofs.Paras.{beside, para_stmt-Assign, para_stmt-AddTo, para_stmt-Declare, para_stmt-SetLocal, para_stmt-If, para_stmt-For, para_stmt-Block}

-- a loop's layer as stripping leaves it, and with another body
abbrev stripped_layer : {X Y : Type 0} → Bool → Loop-F X Y → Loop-F X Y
stripped_layer keep l = record l { line = if keep then l.line else None; mark = Plain }

abbrev with_body : {X Y Z W : Type 0} → Loop-F X Y → List Z → Loop-F Z W
with_body l body = record { place = l.place; iter = l.iter; start = l.start; test = l.test; limit = l.limit; step = l.step; body = body; line = l.line; mark = l.mark }

-- ---- folds that see neither marks nor lines

map-map : {X Y : Type 0} (f : X → Y) (g : X → X) (xs : List X) → Each (λ x. f (g x) ≡ f x) xs → map f (map g xs) ≡ map f xs
map-map f g [] h = refl
map-map f g (x ∷ xs) h = λ i. h.0 i ∷ map-map f g xs h.1 i

unchanged : {X Y : Type 0} (step : Stmt-F X Y → X) (at : Loop-F X Y → Y) (keep : Bool)
    → ((place array : ℕ) (subs : List Expr) (value : Expr) (atomic : Bool) → step (Stmt-F.AddTo place array subs value false) ≡ step (Stmt-F.AddTo place array subs value atomic))
    → ((l : Loop-F X Y) → at (stripped_layer keep l) ≡ at l)
    → StmtCases (λ s. fold-Stmt X Y step at (strip_stmt keep s) ≡ fold-Stmt X Y step at s)
unchanged {X} {Y} step at keep added headed =
    let fold : Stmt → X = fold-Stmt X Y step at in
    let rolled : (f : Stmt-F Stmt Loop) → _ = fold-roll-Stmt X Y step at in
    let layer : Loop-F Stmt Loop → Loop = strip_layer keep in
    record {
      assign = λ place array subs value.
          ap fold (fold_stmt-Assign strip_step layer place array subs value) ∙ rolled (Stmt-F.Assign place array subs value) ∙ sym (fold_stmt-Assign step at place array subs value);
      add_to = λ place array subs value atomic.
          ap fold (fold_stmt-AddTo strip_step layer place array subs value atomic) ∙ rolled (Stmt-F.AddTo place array subs value false)
          ∙ added place array subs value atomic ∙ sym (fold_stmt-AddTo step at place array subs value atomic);
      declare = λ place n init.
          ap fold (fold_stmt-Declare strip_step layer place n init) ∙ rolled (Stmt-F.Declare place n init) ∙ sym (fold_stmt-Declare step at place n init);
      set_local = λ place n value.
          ap fold (fold_stmt-SetLocal strip_step layer place n value) ∙ rolled (Stmt-F.SetLocal place n value) ∙ sym (fold_stmt-SetLocal step at place n value);
      choice = λ place c body otherwise h k.
          ap fold (fold_stmt-If strip_step layer place c body otherwise)
          ∙ rolled (Stmt-F.If place c (map (strip_stmt keep) body) (map (strip_stmt keep) otherwise))
          ∙ (λ i. step (Stmt-F.If place c (map-map fold (strip_stmt keep) body h i) (map-map fold (strip_stmt keep) otherwise k i)))
          ∙ sym (fold_stmt-If step at place c body otherwise);
      loop = λ l h.
          ap fold (fold_stmt-For strip_step layer (roll-Loop l)) ∙ rolled (Stmt-F.For (strip_loop keep (roll-Loop l)))
          ∙ ap (λ z. step (Stmt-F.For z)) (
          ap (fold-Loop X Y step at) (fold_loop strip_step layer l)
          ∙ fold_loop step at (stripped_layer keep (with_body l (map (strip_stmt keep) l.body)))
          ∙ headed (with_body l (map fold (map (strip_stmt keep) l.body)))
          ∙ ap (λ b. at (with_body l b)) (map-map fold (strip_stmt keep) l.body h)
          ∙ sym (fold_loop step at l))
          ∙ sym (fold_stmt-For step at (roll-Loop l));
      block = λ body h.
          ap fold (fold_stmt-Block strip_step layer body) ∙ rolled (Stmt-F.Block (map (strip_stmt keep) body))
          ∙ ap (λ b. step (Stmt-F.Block b)) (map-map fold (strip_stmt keep) body h)
          ∙ sym (fold_stmt-Block step at body);
    }

strip-locals : (keep : Bool) (s : Stmt) → locals_of (strip_stmt keep s) ≡ locals_of s
strip-locals keep = stmt_ind _ (unchanged locals_at (λ l. flat_map (λ xs. xs) l.body) keep (λ place a subs value atomic. refl) (λ l. refl))

-- the plain references of a stripped statement
pub strip-references : (keep : Bool) (s : Stmt) → stmt_references no_adds (strip_stmt keep s) ≡ stmt_references no_adds s
strip-references keep = stmt_ind _ (unchanged (references_at no_adds) (references_inside no_adds) keep (λ place a subs value atomic. refl) (λ l. refl))

-- ---- outermost loops

map-append : {X Y : Type 0} (f : X → Y) (xs ys : List X) → map f (xs ++ ys) ≡ (map f xs ++ map f ys)
map-append f [] ys = refl
map-append f (x ∷ xs) ys = ap (λ r. f x ∷ r) (map-append f xs ys)

flat_seconds : {X Y : Type 0} (f : X → List Y) (xs : List X) → flat_map (λ p. p.1) (map (beside f) xs) ≡ flat_map f xs
flat_seconds f [] = refl
flat_seconds f (x ∷ xs) = ap (λ r. f x ++ r) (flat_seconds f xs)

flat_mapped : {X Y : Type 0} (f : X → List Y) (g : X → X) (h : Y → Y) (xs : List X) → Each (λ x. f (g x) ≡ map h (f x)) xs → flat_map f (map g xs) ≡ map h (flat_map f xs)
flat_mapped f g h [] e = refl
flat_mapped f g h (x ∷ xs) e = (λ i. e.0 i ++ flat_mapped f g h xs e.1 i) ∙ sym (map-append h (f x) (flat_map f xs))

strip-outermost : (keep : Bool) (s : Stmt) → outermost_in (strip_stmt keep s) ≡ map (strip_loop keep) (outermost_in s)
strip-outermost keep =
    let rolled : (f : Stmt-F Stmt Loop) → _ = para-roll-Stmt (List Loop) (List Loop) outermost_at (λ l. []) in
    let layer : Loop-F Stmt Loop → Loop = strip_layer keep in
    let found : List Loop → List Loop = map (strip_loop keep) in
    let strip : Stmt → Stmt = strip_stmt keep in
    stmt_ind _ (record {
      assign = λ place array subs value.
          ap outermost_in (fold_stmt-Assign strip_step layer place array subs value) ∙ rolled (Stmt-F.Assign place array subs value)
          ∙ ap found (sym (para_stmt-Assign outermost_at (λ l. []) place array subs value));
      add_to = λ place array subs value atomic.
          ap outermost_in (fold_stmt-AddTo strip_step layer place array subs value atomic) ∙ rolled (Stmt-F.AddTo place array subs value false)
          ∙ ap found (sym (para_stmt-AddTo outermost_at (λ l. []) place array subs value atomic));
      declare = λ place n init.
          ap outermost_in (fold_stmt-Declare strip_step layer place n init) ∙ rolled (Stmt-F.Declare place n init)
          ∙ ap found (sym (para_stmt-Declare outermost_at (λ l. []) place n init));
      set_local = λ place n value.
          ap outermost_in (fold_stmt-SetLocal strip_step layer place n value) ∙ rolled (Stmt-F.SetLocal place n value)
          ∙ ap found (sym (para_stmt-SetLocal outermost_at (λ l. []) place n value));
      choice = λ place c body otherwise h k.
          ap outermost_in (fold_stmt-If strip_step layer place c body otherwise)
          ∙ rolled (Stmt-F.If place c (map strip body) (map strip otherwise))
          ∙ (λ i. flat_seconds outermost_in (map strip body) i ++ flat_seconds outermost_in (map strip otherwise) i)
          ∙ (λ i. flat_mapped outermost_in strip (strip_loop keep) body h i ++ flat_mapped outermost_in strip (strip_loop keep) otherwise k i)
          ∙ sym (map-append (strip_loop keep) (flat_map outermost_in body) (flat_map outermost_in otherwise))
          ∙ ap found (λ i. sym (flat_seconds outermost_in body) i ++ sym (flat_seconds outermost_in otherwise) i)
          ∙ ap found (sym (para_stmt-If outermost_at (λ l. []) place c body otherwise));
      loop = λ l h.
          ap outermost_in (fold_stmt-For strip_step layer (roll-Loop l)) ∙ rolled (Stmt-F.For (strip_loop keep (roll-Loop l)))
          ∙ ap found (sym (para_stmt-For outermost_at (λ l. []) (roll-Loop l)));
      block = λ body h.
          ap outermost_in (fold_stmt-Block strip_step layer body) ∙ rolled (Stmt-F.Block (map strip body))
          ∙ flat_seconds outermost_in (map strip body) ∙ flat_mapped outermost_in strip (strip_loop keep) body h
          ∙ ap found (sym (flat_seconds outermost_in body))
          ∙ ap found (sym (para_stmt-Block outermost_at (λ l. []) body));
    })

strip-place : (keep : Bool) (l : Loop) → (out-Loop (strip_loop keep l)).place ≡ (out-Loop l).place
strip-place keep l = ap (λ x. (out-Loop x).place) (fold_loop-out strip_step (strip_layer keep) l)

strip-count : (keep : Bool) (l : Loop) → reference_count (strip_loop keep l) ≡ reference_count l
strip-count keep l =
    let at : Stmt-F Referring Referring → Referring = references_at no_adds in
    let same : loop_references no_adds (strip_loop keep l) ≡ loop_references no_adds l =
    sym (ap (stmt_references no_adds) (fold_stmt-For strip_step (strip_layer keep) l) ∙ fold-roll-Stmt Referring Referring at (references_inside no_adds) (Stmt-F.For (strip_loop keep l)))
    ∙ strip-references keep (stmt.For l) ∙ fold_stmt-For at (references_inside no_adds) l in
    ap (λ f. length (f (record { statement = []; path = []; conditional = false }) 1)) same

places_map : {X : Type 0} (holds : X → Bool) (place : X → ℕ) (f : X → X) → ((x : X) → holds (f x) ≡ holds x) → ((x : X) → place (f x) ≡ place x)
    → (xs : List X) → places_where holds place (map f xs) ≡ places_where holds place xs
places_map holds place f h p [] = refl
places_map {X} holds place f h p (x ∷ xs) = go (holds (f x)) (holds x) (h x) (places_map holds place f h p xs)
  where
    go : (b c : Bool) → b ≡ c → places_where holds place (map f xs) ≡ places_where holds place xs
        → map place (if b then f x ∷ filter holds (map f xs) else filter holds (map f xs)) ≡ map place (if c then x ∷ filter holds xs else filter holds xs)
    go true true e more = λ i. p x i ∷ more i
    go true false e more = absurd cc
    go false true e more = absurd cc
    go false false e more = more

-- stripping changes no size
pub strip-larger_than : (keep : Bool) (most : ℕ) (u : Program) → larger_than most (strip_of keep u) ≡ larger_than most u
strip-larger_than keep most u =
    ap (places_where (λ l. nat_lt most (reference_count l)) (λ l. (out-Loop l).place)) (flat_mapped outermost_in (strip_stmt keep) (strip_loop keep) u.body (each_all _ (strip-outermost keep) u.body))
    ∙ places_map (λ l. nat_lt most (reference_count l)) (λ l. (out-Loop l).place) (strip_loop keep) (λ l. ap (nat_lt most) (strip-count keep l)) (strip-place keep) (outermost_loops u)

-- ---- well made statements

pub record Stays (m k : Made) : Type 0 where
  pub declares : k.declares ≡ m.declares
  pub front : k.front ≡ m.front
  pub holds : (w : Around) → m.holds w ≡ true → k.holds w ≡ true
  pub keeps : (level : ℕ) (path : List Range) (a b : Bool) → m.keeps (record { level = level; path = path; in_nest = a }) ≡ true → k.keeps (record { level = level; path = path; in_nest = b }) ≡ true

abbrev StaysMade : Bool → Stmt → Type 0
StaysMade keep s = Stays (made s) (made (strip_stmt keep s))

between : (keep : Bool) (s : Stmt) (m k : Made) → made s ≡ m → made (strip_stmt keep s) ≡ k → Stays m k → StaysMade keep s
between keep s m k p q h = subst (λ z. Stays z (made (strip_stmt keep s))) (sym p) (subst (Stays m) (sym q) h)

same : (m : Made) → ((level : ℕ) (path : List Range) (a b : Bool) → m.keeps (record { level = level; path = path; in_nest = a }) ≡ true → m.keeps (record { level = level; path = path; in_nest = b }) ≡ true) → Stays m m
same m h = record { declares = refl; front = refl; holds = λ w t. t; keeps = h }

list_stays-holds : (keep : Bool) (xs : List Stmt) → Each (StaysMade keep) xs → (w : Around) → list_holds (map made xs) w ≡ true → list_holds (map made (map (strip_stmt keep) xs)) w ≡ true
list_stays-holds keep [] h w t = refl
list_stays-holds keep (x ∷ xs) h w t =
    let parts = and_parts ((made x).holds w) _ t in
    and_from _ _ (h.0.holds w parts.0)
    (subst (λ d. list_holds (map made (map (strip_stmt keep) xs)) (record w { locals = d ++ w.locals }) ≡ true) (sym h.0.declares)
    (list_stays-holds keep xs h.1 (record w { locals = (made x).declares ++ w.locals }) parts.1))

list_stays-keeps : (keep : Bool) (xs : List Stmt) → Each (StaysMade keep) xs → (level : ℕ) (path : List Range) (a b : Bool)
    → list_keeps (map made xs) (record { level = level; path = path; in_nest = a }) ≡ true → list_keeps (map made (map (strip_stmt keep) xs)) (record { level = level; path = path; in_nest = b }) ≡ true
list_stays-keeps keep [] h level path a b t = refl
list_stays-keeps keep (x ∷ xs) h level path a b t =
    let parts = and_parts ((made x).keeps (record { level = level; path = path; in_nest = a })) _ t in
    and_from _ _ (h.0.keeps level path a b parts.0) (list_stays-keeps keep xs h.1 level path a b parts.1)

list_stays-fronts : (keep : Bool) (xs : List Stmt) → Each (StaysMade keep) xs → fronts_of (map made (map (strip_stmt keep) xs)) ≡ fronts_of (map made xs)
list_stays-fronts keep [] h = refl
list_stays-fronts keep (x ∷ xs) h = λ i. h.0.front i ∷ list_stays-fronts keep xs h.1 i

no_mark : (level : ℕ) (b : Bool) (front : List Bounds) → not (is_bad_mark b level Plain front) ≡ true
no_mark level true front = refl
no_mark level false front = refl

loop_stays : (keep : Bool) (l : Loop-F Stmt Loop) → Each (StaysMade keep) l.body
    → Stays (made_loop (with_body l (map made l.body))) (made_loop (stripped_layer keep (with_body l (map made (map (strip_stmt keep) l.body)))))
loop_stays keep l h = record {
  declares = refl;
  front = ap (front_with l.start l.limit) (list_stays-fronts keep l.body h);
  holds = λ w t.
      let parts = and_parts (head_holds l w) _ t in
      let start = and_parts (is_made_bound w.level l.start) _ parts.0 in
      let limit = and_parts (is_made_bound w.level l.limit) _ start.1 in
      let step = and_parts (goes l.test l.step) _ limit.1 in
      and_from _ _ (and_from _ _ start.0 (and_from _ _ limit.0 (and_from _ _ step.0 refl))) (list_stays-holds keep l.body h _ parts.1);
  keeps = λ level path a b t.
      let parts = and_parts (head_keeps (front_with l.start l.limit (fronts_of (map made l.body))) l (record { level = level; path = path; in_nest = a })) _ t in
      let deep = and_parts (not (is_too_deep level)) _ parts.0 in
      let far = and_parts (not (is_too_far l.step)) _ deep.1 in
      let hull = and_parts (not (passes_hull path l)) _ far.1 in
      let bound = and_parts (not (passes_bound path l)) _ hull.1 in
      and_from _ _ (and_from _ _ deep.0 (and_from _ _ far.0 (and_from _ _ hull.0 (and_from _ _ bound.0 (no_mark level b (front_with l.start l.limit (fronts_of (map made (map (strip_stmt keep) l.body)))))))))
      (list_stays-keeps keep l.body h (suc level) (path ++ range_of path l ∷ []) (a || is_parallel l.mark) (b || false) parts.1);
}

stays : (keep : Bool) (s : Stmt) → StaysMade keep s
stays keep =
    let rolled : (f : Stmt-F Stmt Loop) → _ = fold-roll-Stmt Made Made made_at made_loop in
    let layer : Loop-F Stmt Loop → Loop = strip_layer keep in
    let strip : Stmt → Stmt = strip_stmt keep in
    stmt_ind _ (record {
      assign = λ place array subs value. between keep _ _ _ (fold_stmt-Assign made_at made_loop place array subs value)
          (ap made (fold_stmt-Assign strip_step layer place array subs value) ∙ rolled (Stmt-F.Assign place array subs value)) (same _ (λ level path a b t. refl));
      add_to = λ place array subs value atomic. between keep _ _ _ (fold_stmt-AddTo made_at made_loop place array subs value atomic)
          (ap made (fold_stmt-AddTo strip_step layer place array subs value atomic) ∙ rolled (Stmt-F.AddTo place array subs value false)) (same _ (λ level path a b t. refl));
      declare = λ place n init. between keep _ _ _ (fold_stmt-Declare made_at made_loop place n init)
          (ap made (fold_stmt-Declare strip_step layer place n init) ∙ rolled (Stmt-F.Declare place n init)) (same _ (λ level path a b t. refl));
      set_local = λ place n value. between keep _ _ _ (fold_stmt-SetLocal made_at made_loop place n value)
          (ap made (fold_stmt-SetLocal strip_step layer place n value) ∙ rolled (Stmt-F.SetLocal place n value)) (same _ (λ level path a b t. refl));
      choice = λ place c body otherwise h k. between keep _ _ _ (fold_stmt-If made_at made_loop place c body otherwise)
          (ap made (fold_stmt-If strip_step layer place c body otherwise) ∙ rolled (Stmt-F.If place c (map strip body) (map strip otherwise))) (record {
            declares = refl;
            front = refl;
            holds = λ w t.
                let parts = and_parts (is_made w c) _ t in
                let lists = and_parts (list_holds (map made body) w) _ parts.1 in
                and_from _ _ parts.0 (and_from _ _ (list_stays-holds keep body h w lists.0) (list_stays-holds keep otherwise k w lists.1));
            keeps = λ level path a b t.
                let parts = and_parts (list_keeps (map made body) (record { level = level; path = path; in_nest = a })) _ t in
                and_from _ _ (list_stays-keeps keep body h level path a b parts.0) (list_stays-keeps keep otherwise k level path a b parts.1);
          });
      loop = λ l h. between keep _ _ _ (fold_stmt-For made_at made_loop (roll-Loop l) ∙ fold_loop made_at made_loop l)
          (ap made (fold_stmt-For strip_step layer (roll-Loop l)) ∙ rolled (Stmt-F.For (strip_loop keep (roll-Loop l)))
          ∙ ap (fold-Loop Made Made made_at made_loop) (fold_loop strip_step layer l)
          ∙ fold_loop made_at made_loop (stripped_layer keep (with_body l (map strip l.body)))) (loop_stays keep l h);
      block = λ body h. between keep _ _ _ (fold_stmt-Block made_at made_loop body)
          (ap made (fold_stmt-Block strip_step layer body) ∙ rolled (Stmt-F.Block (map strip body))) (record {
            declares = refl;
            front = ap only_loops (list_stays-fronts keep body h);
            holds = list_stays-holds keep body h;
            keeps = list_stays-keeps keep body h;
          });
    })

-- a well made unit stays one
pub strip-IsWellMade : (keep : Bool) (u : Program) → IsWellMade u → IsWellMade (strip_of keep u)
strip-IsWellMade keep u h = record {
  few_arrays = h.few_arrays;
  few_locals = h.few_locals;
  arrays = h.arrays;
  locals = subst (λ xs. IsTrue (is_declared_once (length u.locals) xs)) (sym (ap (flat_map (λ xs. xs)) (map-map locals_of (strip_stmt keep) u.body (each_all _ (strip-locals keep) u.body)))) h.locals;
  body = list_stays-holds keep u.body (each_all _ (stays keep) u.body) (outermost u) h.body;
  limits = list_stays-keeps keep u.body (each_all _ (stays keep) u.body) 0 [] false false h.limits;
  references = strip-larger_than keep most_references_made u ∙ h.references;
}

-- and keeps the size of one that is read
pub strip-HasReadSize : (keep : Bool) (u : Program) → HasReadSize u → HasReadSize (strip_of keep u)
strip-HasReadSize keep u h = strip-larger_than keep most_references u ∙ h
