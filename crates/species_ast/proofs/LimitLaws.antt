-- Nothing is refused of the loops of a unit exactly where 'well made' finds that they keep the limits and that their marks fit,
-- and nothing of the arrays of a program exactly where they keep theirs.
use Rattle.std.proofs.Common.{◌≡◌, ◌∙◌, ap, refl, sym, ℕ, suc, Bool, true, false, ◌&&◌, ◌||◌, not, if◌then◌else◌, List, [], ◌∷◌, ◌++◌, map, length}
use Rattle.std.specs.List.{list_all, filter}
use Rattle.std.proofs.lemmas.Bool.{and_parts, and_from}
use Rattle.species_ast.specs.declared.tree.Stmt.{Stmt, fold-Stmt}
use Rattle.species_ast.specs.declared.tree.Stmt.TheOpen.{Stmt-F, Loop-F}
use Rattle.species_ast.specs.declared.tree.Loop.{Loop, roll-Loop, out-Loop}
use Rattle.species_ast.specs.declared.tree.Unit.{Unit as Program}
use Rattle.species_ast.specs.Scope.Refusals.{Limit, Refusal, places_where, refused_at}
use Rattle.species_ast.specs.Scope.Hulls.{passes_hull}
use Rattle.species_ast.specs.Scope.Magnitudes.{passes_bound}
use Rattle.species_ast.specs.Scope.Limits.{is_too_deep, is_too_far, has_too_many_dimensions, has_lawful_sizes}
use Rattle.species_ast.specs.Scope.Nests.{Bounds, front_with, front_step, front_layer, front_of, is_bad_mark}
use Rattle.species_ast.specs.Scope.Loops.{Nesting, no_loops, entered, Standing, PlacedLoop, passes, Placing, list_loops, loops_at, loops_inside, loops_in, placed_loops}
use Rattle.species_ast.specs.Scope.Conditions.{too_deep, too_far, past_hull, past_bound, bad_mark, refused_loops, too_many_dimensions, too_many_elements, refused_arrays}
use Rattle.species_ast.specs.Scope.Programs.{Program as Resolved}
use Rattle.species_ast.specs.Scope.WellMade.{Made, made, made_at, made_loop, list_keeps, fronts_of, is_made_array}
use Rattle.species_ast.proofs.Folds.{fold_stmt-Assign, fold_stmt-AddTo, fold_stmt-Declare, fold_stmt-SetLocal, fold_stmt-If, fold_stmt-For, fold_stmt-Block, fold_loop}
use Rattle.species_ast.proofs.Induction.{Each, each_all, stmt_ind}
use Rattle.species_ast.proofs.Paras.{beside, seconds, para_stmt-Assign, para_stmt-AddTo, para_stmt-Declare, para_stmt-SetLocal, para_stmt-If, para_stmt-For, para_stmt-Block, para_loop}

-- ---- fronts

abbrev front_stmt : Stmt → List Bounds
front_stmt = fold-Stmt (List Bounds) (List Bounds) front_step front_layer

abbrev HasFront : Stmt → Type 0
HasFront x = (made x).front ≡ front_stmt x

fronts : (xs : List Stmt) → Each HasFront xs → fronts_of (map made xs) ≡ map front_stmt xs
fronts [] h = refl
fronts (x ∷ xs) h = λ i. h.0 i ∷ fronts xs h.1 i

-- the front that 'well made' has beside its answer is that of the statement
front_made : (x : Stmt) → HasFront x
front_made = stmt_ind HasFront (record {
  assign = λ place a subs value. ap (λ m. m.front) (fold_stmt-Assign made_at made_loop place a subs value) ∙ sym (fold_stmt-Assign front_step front_layer place a subs value);
  add_to = λ place a subs value atomic. ap (λ m. m.front) (fold_stmt-AddTo made_at made_loop place a subs value atomic) ∙ sym (fold_stmt-AddTo front_step front_layer place a subs value atomic);
  declare = λ place n init. ap (λ m. m.front) (fold_stmt-Declare made_at made_loop place n init) ∙ sym (fold_stmt-Declare front_step front_layer place n init);
  set_local = λ place n value. ap (λ m. m.front) (fold_stmt-SetLocal made_at made_loop place n value) ∙ sym (fold_stmt-SetLocal front_step front_layer place n value);
  choice = λ place test body otherwise h k. ap (λ m. m.front) (fold_stmt-If made_at made_loop place test body otherwise) ∙ sym (fold_stmt-If front_step front_layer place test body otherwise);
  loop = λ l h.
      ap (λ m. m.front) (fold_stmt-For made_at made_loop (roll-Loop l) ∙ fold_loop made_at made_loop l)
      ∙ ap (front_with l.start l.limit) (fronts l.body h)
      ∙ sym (fold_stmt-For front_step front_layer (roll-Loop l) ∙ fold_loop front_step front_layer l);
  block = λ body h.
      ap (λ m. m.front) (fold_stmt-Block made_at made_loop body)
      ∙ ap (λ fs. front_step (Stmt-F.Block fs)) (fronts body h)
      ∙ sym (fold_stmt-Block front_step front_layer body);
})

fronts_made : (xs : List Stmt) → fronts_of (map made xs) ≡ map front_stmt xs
fronts_made xs = fronts xs (each_all HasFront front_made xs)

front_of-loop : (l : Loop-F Stmt Loop) → front_of (roll-Loop l) ≡ front_with l.start l.limit (fronts_of (map made l.body))
front_of-loop l = fold_loop front_step front_layer l ∙ ap (front_with l.start l.limit) (sym (fronts_made l.body))

-- ---- the walk and the test

-- nothing is refused of a loop
abbrev is_kept : PlacedLoop → Bool
is_kept x =
    not (is_too_deep x.stands.around.level) && (not (is_too_far (out-Loop x.head).step)
    && (not (not x.stands.passed && passes_hull x.stands.around.path (out-Loop x.head))
    && (not (not x.stands.passed && passes_bound x.stands.around.path (out-Loop x.head))
    && not (is_bad_mark x.stands.around.in_nest x.stands.around.level (out-Loop x.head).mark (front_of x.head)))))

abbrev standing : List ℕ → Nesting → Standing
standing at n = record { statement = at; around = n; passed = false }

abbrev IsTested : Stmt → Type 0
IsTested x = (at : List ℕ) (n : Nesting) → list_all is_kept (loops_in x (standing at n)) ≡ (made x).keeps n

from_parts : (x : Stmt) (f : Placing) (m : Made) → loops_in x ≡ f → made x ≡ m
    → ((at : List ℕ) (n : Nesting) → list_all is_kept (f (standing at n)) ≡ m.keeps n) → IsTested x
from_parts x f m p q h at n = ap (λ z. list_all is_kept (z (standing at n))) p ∙ h at n ∙ ap (λ z. z.keeps n) (sym q)

list_all-append : {X : Type 0} (p : X → Bool) (xs ys : List X) → list_all p (xs ++ ys) ≡ (list_all p xs && list_all p ys)
list_all-append p [] ys = refl
list_all-append p (x ∷ xs) ys = ap (λ z. p x && z) (list_all-append p xs ys) ∙ go (p x) (list_all p xs) (list_all p ys)
  where
    go : (a b c : Bool) → (a && (b && c)) ≡ ((a && b) && c)
    go true b c = refl
    go false b c = refl

both : {a b c d : Bool} → a ≡ b → c ≡ d → (a && c) ≡ (b && d)
both p q = λ i. p i && q i

listed : (xs : List Stmt) → Each IsTested xs → (at : List ℕ) (n : Nesting) (k : ℕ)
    → list_all is_kept (list_loops (map loops_in xs) (standing at n) k) ≡ list_keeps (map made xs) n
listed [] h at n k = refl
listed (x ∷ xs) h at n k =
    list_all-append is_kept (loops_in x (standing (at ++ k ∷ []) n)) (list_loops (map loops_in xs) (standing at n) (suc k))
    ∙ both (h.0 (at ++ k ∷ []) n) (listed xs h.1 at n (suc k))

-- a loop that passes Loops, Hull or Bound is refused itself, so that what is asked inside of it does not matter
guarded : (deep far hull bound mark : Bool) (rest : Bool → Bool) (inside : Bool) → rest false ≡ inside →
    ((not deep && (not far && (not (not false && hull) && (not (not false && bound) && not mark)))) && rest (false || (deep || (hull || bound))))
    ≡ ((not deep && (not far && (not hull && (not bound && not mark)))) && inside)
guarded true far hull bound mark rest inside h = refl
guarded false true hull bound mark rest inside h = refl
guarded false false true bound mark rest inside h = refl
guarded false false false true mark rest inside h = refl
guarded false false false false mark rest inside h = ap (λ z. not mark && z) h

-- nothing is refused of a loop with this front
abbrev is_kept_with : List Bounds → Loop-F Stmt Loop → Nesting → Bool
is_kept_with front l n =
    not (is_too_deep n.level) && (not (is_too_far l.step) && (not (not false && passes_hull n.path l)
    && (not (not false && passes_bound n.path l) && not (is_bad_mark n.in_nest n.level l.mark front))))

pub is_tested : (x : Stmt) → IsTested x
is_tested = stmt_ind IsTested (record {
  assign = λ place a subs value. from_parts _ _ _ (para_stmt-Assign loops_at loops_inside place a subs value) (fold_stmt-Assign made_at made_loop place a subs value) (λ at n. refl);
  add_to = λ place a subs value atomic. from_parts _ _ _ (para_stmt-AddTo loops_at loops_inside place a subs value atomic) (fold_stmt-AddTo made_at made_loop place a subs value atomic) (λ at n. refl);
  declare = λ place n init. from_parts _ _ _ (para_stmt-Declare loops_at loops_inside place n init) (fold_stmt-Declare made_at made_loop place n init) (λ at m. refl);
  set_local = λ place n value. from_parts _ _ _ (para_stmt-SetLocal loops_at loops_inside place n value) (fold_stmt-SetLocal made_at made_loop place n value) (λ at m. refl);
  choice = λ place test body otherwise h k. from_parts _ _ _ (para_stmt-If loops_at loops_inside place test body otherwise) (fold_stmt-If made_at made_loop place test body otherwise) (λ at n.
      list_all-append is_kept (list_loops (map (λ x. x.1) (map (beside loops_in) body)) (standing at n) 0) (list_loops (map (λ x. x.1) (map (beside loops_in) otherwise)) (standing at n) (length (map (beside loops_in) body)))
      ∙ both (ap (λ fs. list_all is_kept (list_loops fs (standing at n) 0)) (seconds loops_in body) ∙ listed body h at n 0)
      (ap (λ fs. list_all is_kept (list_loops fs (standing at n) (length (map (beside loops_in) body)))) (seconds loops_in otherwise) ∙ listed otherwise k at n (length (map (beside loops_in) body))));
  loop = λ l h. from_parts _ _ _ (para_stmt-For loops_at loops_inside (roll-Loop l)) (fold_stmt-For made_at made_loop (roll-Loop l) ∙ fold_loop made_at made_loop l) (λ at n.
      ap (λ f. list_all is_kept (record { head = roll-Loop l; stands = standing at n } ∷ f (standing at n))) (para_loop loops_at loops_inside l)
      ∙ ap (λ fs. list_all is_kept (record { head = roll-Loop l; stands = standing at n } ∷ list_loops fs (record { statement = at; around = entered l n; passed = false || passes n l }) 0)) (seconds loops_in l.body)
      ∙ ap (λ front. is_kept_with front l n && list_all is_kept (list_loops (map loops_in l.body) (record { statement = at; around = entered l n; passed = false || passes n l }) 0)) (front_of-loop l)
      ∙ guarded (is_too_deep n.level) (is_too_far l.step) (passes_hull n.path l) (passes_bound n.path l) (is_bad_mark n.in_nest n.level l.mark (front_with l.start l.limit (fronts_of (map made l.body))))
      (λ passed. list_all is_kept (list_loops (map loops_in l.body) (record { statement = at; around = entered l n; passed = passed }) 0)) (list_keeps (map made l.body) (entered l n)) (listed l.body h at (entered l n) 0));
  block = λ body h. from_parts _ _ _ (para_stmt-Block loops_at loops_inside body) (fold_stmt-Block made_at made_loop body) (λ at n.
      ap (λ fs. list_all is_kept (list_loops fs (standing at n) 0)) (seconds loops_in body) ∙ listed body h at n 0);
})

-- the loops of a unit
pub kept_unit : (u : Program) → list_all is_kept (placed_loops u) ≡ list_keeps (map made u.body) no_loops
kept_unit u = listed u.body (each_all IsTested is_tested u.body) [] no_loops 0

-- ---- the refusals

none_where : {X : Type 0} (holds : X → Bool) (place : X → ℕ) (xs : List X) → list_all (λ x. not (holds x)) xs ≡ true → places_where holds place xs ≡ []
none_where holds place [] h = refl
none_where {X} holds place (x ∷ xs) h = go (holds x) (none_where holds place xs) h
  where
    go : (b : Bool) → (list_all (λ y. not (holds y)) xs ≡ true → places_where holds place xs ≡ []) → (not b && list_all (λ y. not (holds y)) xs) ≡ true
        → map place (if b then x ∷ filter holds xs else filter holds xs) ≡ []
    go true more k = absurd cc
    go false more k = more k

where_none : {X : Type 0} (holds : X → Bool) (place : X → ℕ) (xs : List X) → places_where holds place xs ≡ [] → list_all (λ x. not (holds x)) xs ≡ true
where_none holds place [] h = refl
where_none {X} holds place (x ∷ xs) h = go (holds x) (where_none holds place xs) h
  where
    go : (b : Bool) → (places_where holds place xs ≡ [] → list_all (λ y. not (holds y)) xs ≡ true) → map place (if b then x ∷ filter holds xs else filter holds xs) ≡ []
        → (not b && list_all (λ y. not (holds y)) xs) ≡ true
    go true more k = absurd cc
    go false more k = more k

all_both : {X : Type 0} (p q : X → Bool) (xs : List X) → list_all (λ x. p x && q x) xs ≡ (list_all p xs && list_all q xs)
all_both p q [] = refl
all_both p q (x ∷ xs) = ap (λ z. (p x && q x) && z) (all_both p q xs) ∙ go (p x) (q x) (list_all p xs) (list_all q xs)
  where
    go : (a b c d : Bool) → ((a && b) && (c && d)) ≡ ((a && c) && (b && d))
    go true true c d = refl
    go true false true d = refl
    go true false false d = refl
    go false b c d = refl

unnegated : {X : Type 0} (p : X → Bool) (xs : List X) → list_all (λ x. not (not (p x))) xs ≡ list_all p xs
unnegated p [] = refl
unnegated p (x ∷ xs) = both (go (p x)) (unnegated p xs)
  where
    go : (b : Bool) → not (not b) ≡ b
    go true = refl
    go false = refl

nothing_at : (r : Refusal) (places : List ℕ) → refused_at r places ≡ [] → places ≡ []
nothing_at r [] h = refl
nothing_at r (p ∷ places) h = absurd cc

first_empty : {X : Type 0} (xs ys : List X) → (xs ++ ys) ≡ [] → (xs ≡ []) × (ys ≡ [])
first_empty [] ys h = (refl, h)
first_empty (x ∷ xs) ys h = absurd cc

-- the conditions, as the refusals have them
abbrev is_deep : PlacedLoop → Bool
is_deep x = is_too_deep x.stands.around.level

abbrev is_far : PlacedLoop → Bool
is_far x = is_too_far (out-Loop x.head).step

abbrev is_past_hull : PlacedLoop → Bool
is_past_hull x = not x.stands.passed && passes_hull x.stands.around.path (out-Loop x.head)

abbrev is_past_bound : PlacedLoop → Bool
is_past_bound x = not x.stands.passed && passes_bound x.stands.around.path (out-Loop x.head)

abbrev has_bad_mark : PlacedLoop → Bool
has_bad_mark x = is_bad_mark x.stands.around.in_nest x.stands.around.level (out-Loop x.head).mark (front_of x.head)

abbrev for_place : PlacedLoop → ℕ
for_place x = (out-Loop x.head).place

-- nothing is refused of each loop of a list exactly where none of the conditions holds of any
kept_apart : (xs : List PlacedLoop) → list_all is_kept xs ≡
    (list_all (λ x. not (is_deep x)) xs && (list_all (λ x. not (is_far x)) xs && (list_all (λ x. not (is_past_hull x)) xs
    && (list_all (λ x. not (is_past_bound x)) xs && list_all (λ x. not (has_bad_mark x)) xs))))
kept_apart xs =
    all_both (λ x. not (is_deep x)) (λ x. not (is_far x) && (not (is_past_hull x) && (not (is_past_bound x) && not (has_bad_mark x)))) xs
    ∙ ap (λ z. list_all (λ x. not (is_deep x)) xs && z) (
    all_both (λ x. not (is_far x)) (λ x. not (is_past_hull x) && (not (is_past_bound x) && not (has_bad_mark x))) xs
    ∙ ap (λ z. list_all (λ x. not (is_far x)) xs && z) (
    all_both (λ x. not (is_past_hull x)) (λ x. not (is_past_bound x) && not (has_bad_mark x)) xs
    ∙ ap (λ z. list_all (λ x. not (is_past_hull x)) xs && z) (
    all_both (λ x. not (is_past_bound x)) (λ x. not (has_bad_mark x)) xs)))

-- what keeps the limits is not refused ..
pub keeps-not_refused : (u : Program) → list_keeps (map made u.body) no_loops ≡ true → refused_loops u ≡ []
keeps-not_refused u h =
    let xs = placed_loops u in
    let deep = and_parts _ _ (sym (kept_apart xs) ∙ kept_unit u ∙ h) in
    let far = and_parts _ _ deep.1 in
    let hull = and_parts _ _ far.1 in
    let bound = and_parts _ _ hull.1 in
    λ i. refused_at (Refusal.LimitPassed Limit.Loops) (none_where is_deep for_place xs deep.0 i)
    ++ (refused_at (Refusal.LimitPassed Limit.Hull) (none_where is_past_hull for_place xs hull.0 i)
    ++ (refused_at (Refusal.LimitPassed Limit.Step) (none_where is_far for_place xs far.0 i)
    ++ (refused_at (Refusal.LimitPassed Limit.Bound) (none_where is_past_bound for_place xs bound.0 i)
    ++ refused_at Refusal.BadMark (none_where has_bad_mark for_place xs bound.1 i))))

-- .. and where nothing is refused, the limits are kept
pub not_refused-keeps : (u : Program) → refused_loops u ≡ [] → list_keeps (map made u.body) no_loops ≡ true
not_refused-keeps u h =
    let xs = placed_loops u in
    let deep = first_empty (refused_at (Refusal.LimitPassed Limit.Loops) (too_deep u)) _ h in
    let hull = first_empty (refused_at (Refusal.LimitPassed Limit.Hull) (past_hull u)) _ deep.1 in
    let far = first_empty (refused_at (Refusal.LimitPassed Limit.Step) (too_far u)) _ hull.1 in
    let bound = first_empty (refused_at (Refusal.LimitPassed Limit.Bound) (past_bound u)) _ far.1 in
    sym (kept_unit u) ∙ kept_apart xs
    ∙ and_from _ _ (where_none is_deep for_place xs (nothing_at _ (too_deep u) deep.0))
    (and_from _ _ (where_none is_far for_place xs (nothing_at _ (too_far u) far.0))
    (and_from _ _ (where_none is_past_hull for_place xs (nothing_at _ (past_hull u) hull.0))
    (and_from _ _ (where_none is_past_bound for_place xs (nothing_at _ (past_bound u) bound.0))
    (where_none has_bad_mark for_place xs (nothing_at _ (bad_mark u) bound.1)))))

-- ---- arrays

-- nothing is refused of the arrays of a program exactly where each keeps the limits
pub arrays-not_refused : (p : Resolved) → list_all (λ a. is_made_array a.array) p.arrays ≡ true → refused_arrays p ≡ []
arrays-not_refused p h =
    let parts = and_parts _ _ (sym (all_both (λ a. not (has_too_many_dimensions a.array)) (λ a. has_lawful_sizes a.array) p.arrays) ∙ h) in
    λ i. refused_at (Refusal.LimitPassed Limit.Dims) (none_where (λ a. has_too_many_dimensions a.array) (λ a. a.name.place) p.arrays parts.0 i)
    ++ refused_at (Refusal.LimitPassed Limit.Elements) (none_where (λ a. not (has_lawful_sizes a.array)) (λ a. a.name.place) p.arrays (unnegated (λ a. has_lawful_sizes a.array) p.arrays ∙ parts.1) i)

pub not_refused-arrays : (p : Resolved) → refused_arrays p ≡ [] → list_all (λ a. is_made_array a.array) p.arrays ≡ true
not_refused-arrays p h =
    let parts = first_empty (refused_at (Refusal.LimitPassed Limit.Dims) (too_many_dimensions p)) _ h in
    all_both (λ a. not (has_too_many_dimensions a.array)) (λ a. has_lawful_sizes a.array) p.arrays
    ∙ and_from _ _ (where_none (λ a. has_too_many_dimensions a.array) (λ a. a.name.place) p.arrays (nothing_at _ (too_many_dimensions p) parts.0))
    (sym (unnegated (λ a. has_lawful_sizes a.array) p.arrays)
    ∙ where_none (λ a. not (has_lawful_sizes a.array)) (λ a. a.name.place) p.arrays (nothing_at _ (too_many_elements p) parts.1))
