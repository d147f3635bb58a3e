-- A worked unit with a parallel nest that is orderly: `int A[2]; unsigned u[1];`, and in parallel
-- `for (int i = 0; i < 2; i++) { A[i] = i; u[0] += 1; }`, where the sum is atomic.
use Rattle.std.proofs.Common.{◌≡◌, refl, ap, sym, ◌∙◌, subst, arith, ℕ, zero, suc, ◌-◌, List, [], ◌∷◌, ◌++◌, map, flat_map, length, Some, None, Bool, true, false, pos, ◌⊎◌, inl, inr, ⊎_elim, lit<}
use Rattle.std.specs.Prelude.{codes, nat_eq, nat_lt, ◌&&◌, All}
use Rattle.std.proofs.lemmas.List.Elements.{All-nil, All-cons}
use Rattle.std.specs.List.{Contains}
use Rattle.species_ast.specs.declared.tree.Kind.TheVariants as kind
use Rattle.species_ast.specs.declared.tree.Kind.{Kind}
use Rattle.species_ast.specs.declared.tree.Value.{Value}
use Rattle.species_ast.specs.declared.tree.Value.TheVariants.{Int, Unsigned}
use Rattle.species_ast.specs.declared.tree.Expr.TheVariants as expr
use Rattle.species_ast.specs.declared.tree.Expr.{Expr}
use Rattle.species_ast.specs.declared.tree.Stmt.{Stmt, roll-Stmt, out-Stmt, out-roll-Stmt}
use Rattle.species_ast.specs.declared.tree.Stmt.TheOpen.{Stmt-F, Loop-F}
use Rattle.species_ast.specs.declared.tree.Stmt.TheVariants as stmt
use Rattle.species_ast.specs.declared.tree.Loop.{Loop, roll-Loop, out-Loop, para-Loop}
use Rattle.species_ast.specs.declared.tree.Mark.TheVariants.{Parallel, Plain}
use Rattle.species_ast.specs.declared.tree.Schedule.TheVariants.{Static}
use Rattle.species_ast.specs.declared.tree.Test.TheVariants.{Lt}
use Rattle.species_ast.specs.declared.tree.Unit.{Unit as Program}
use Rattle.species_ast.specs.Marks.{all_true}
use Rattle.species_ast.specs.Accesses.{sums, Cells, Element, Reads, Writes, Adds, Access, access, Site, Ended, run}
use Rattle.species_ast.specs.Evaluation.{Frame, Context}
use Rattle.species_ast.specs.Run.{AreArraysOf, source_context, source_run, first_frame, inside, does_list, sums_take, locals_in}
use Rattle.species_ast.specs.Scope.Forms.{form_of}
use Rattle.species_ast.specs.Scope.Limits.{most_references_made}
use Rattle.species_ast.specs.Scope.Loops.{outermost_at, outermost_in, outermost_loops}
use Rattle.species_ast.specs.Scope.References.{Where, Elements, elements_at, elements_of, all_elements, reference, Referring, no_adds, references_at, references_inside, stmt_references, reference_count, larger_than}
use Rattle.species_ast.specs.Scope.Refusals.{places_where}
use Rattle.species_ast.specs.Scope.WellMade.{IsWellMade}
use Rattle.species_ast.specs.Operators.{kind_of, IsValue}
use Rattle.species_ast.specs.Strip.{strip_step, strip_layer, strip_stmt, strip_loop, source_of}
use Rattle.species_ast.proofs.Induction.{Each}
use Rattle.species_ast.proofs.Folds.{fold_expr-Literal, fold_expr-Iter, fold_stmt-Assign, fold_stmt-AddTo, fold_stmt-For, fold_loop}
use Rattle.species_ast.proofs.Paras.{para_expr-Literal, para_expr-Iter, para_stmt-Assign, para_stmt-AddTo, para_stmt-For, para_loop}
use Rattle.species_ast.proofs.RunLaws.{folds, locals}
use Rattle.species_runs.specs.Scopes.{sets_at, sets_of, without, outer_locals_set}
use Rattle.species_nests.specs.Arrivals.{Running, moment, ComesIn, ComesTo}
use Rattle.species_nests.specs.Effects.{adds_at, adds_taken, AddsTaken}
use Rattle.species_nests.specs.Meetings.{IsApart, MeetOnlyOn, AddsExactlyOn, nth, running_traces}
use Rattle.species_nests.proofs.ApartLaws.{apart_of}
use Rattle.species_nests.proofs.Inversion.{CameTo, came_to, reached_in, reached_nowhere, out-For}
use Rattle.bones_meaning.specs.Courses.{Part, Coursing, part_at, coursing_at, part, course_list, course_of}
use Rattle.bones_meaning.specs.Gatherings.{sum_gatherings}
use Rattle.bones_commute.specs.Orderly.{IsOrderlyRunning, IsOrderly, EveryPlayEnds, ranks_of, SomeUnitIsOrderly}
use Rattle.bones_commute.proofs.UnitLaws.{orderly_units_play}
use Rattle.species_nests.proofs.SumLaws.{added_trade}

-- ---- the unit

abbrev first_element : Element
first_element = record { array = 1; at = 0 }

abbrev assigned : Stmt
assigned = stmt.Assign 20 0 (expr.Iter 0 ∷ []) (expr.Iter 0)

abbrev summed : Stmt
summed = stmt.AddTo 30 1 (expr.Literal (Int (pos 0)) ∷ []) (expr.Literal (Int (pos 1))) true

abbrev body : List Stmt
body = assigned ∷ summed ∷ []

abbrev head : Loop-F Stmt Loop
head = record {
  place = 10;
  iter = codes "i";
  start = expr.Literal (Int (pos 0));
  test = Lt;
  limit = expr.Literal (Int (pos 2));
  step = pos 1;
  body = body;
  line = Some (record { text = codes "A[0:1]|element at (i) exact ^ none"; place = 5 });
  mark = Parallel 1 Static;
}

abbrev loop : Loop
loop = roll-Loop head

abbrev unit : Program
unit = record {
  includes = [];
  arrays = record { name = codes "A"; kind = kind.Int; dims = 2 ∷ [] } ∷ record { name = codes "u"; kind = kind.Unsigned; dims = 1 ∷ [] } ∷ [];
  locals = [];
  function = codes "k";
  body = stmt.For loop ∷ [];
}

abbrev context : Context
context = source_context unit

abbrev start : Cells
start = (Int (pos 7) ∷ Int (pos 7) ∷ []) ∷ (Unsigned 5 ∷ []) ∷ []

abbrev last : Cells
last = (Int (pos 0) ∷ Int (pos 1) ∷ []) ∷ (Unsigned 7 ∷ []) ∷ []

-- ---- its run

run_ends : (w : Context) → w ≡ context → run sums (does_list w unit.body [] 0 (first_frame unit)) start ≡ Ended (first_frame unit) last
run_ends w same = simp folds (rw same refl)

-- the only running of the nest
abbrev running : Running
running = record { loop = loop; around = []; at = 0 ∷ []; frame = first_frame unit; arrays = start }

abbrev site : ℕ → ℕ → ℕ → ℕ → Site
site k place i index = record { statement = 0 ∷ k ∷ []; place = place; number = 0; iters = pos i ∷ []; indices = index ∷ [] }

abbrev writes : ℕ → Access
writes i = access (site 0 20 i i) Writes (record { array = 0; at = i }) (Int (pos i))

abbrev adds : ℕ → Access
adds i = access (site 1 30 i 0) Adds first_element (Unsigned 1)

abbrev traces : List (List Access)
traces = (writes 0 ∷ adds 0 ∷ []) ∷ (writes 1 ∷ adds 1 ∷ []) ∷ []

traces_are : (w : Context) → w ≡ context → running_traces sums w 0 running ≡ traces
traces_are w same = simp folds (rw same refl)

-- ---- its nest is orderly

no_locals_set : outer_locals_set body ≡ []
no_locals_set =
    let first : sets_of assigned ≡ [] = fold_stmt-Assign sets_at (λ l. flat_map (λ xs. xs) l.body) 20 0 (expr.Iter 0 ∷ []) (expr.Iter 0) in
    let second : sets_of summed ≡ [] =
    fold_stmt-AddTo sets_at (λ l. flat_map (λ xs. xs) l.body) 30 1 (expr.Literal (Int (pos 0)) ∷ []) (expr.Literal (Int (pos 1))) true in
    λ i. without (first i ++ (second i ++ [])) (locals_in body)

sums_taken : all_true (map (adds_taken sums_take context) body) ≡ true
sums_taken =
    let first : adds_taken sums_take context assigned ≡ true = fold_stmt-Assign (adds_at sums_take context) (λ l. all_true l.body) 20 0 (expr.Iter 0 ∷ []) (expr.Iter 0) in
    let second : adds_taken sums_take context summed ≡ true =
    fold_stmt-AddTo (adds_at sums_take context) (λ l. all_true l.body) 30 1 (expr.Literal (Int (pos 0)) ∷ []) (expr.Literal (Int (pos 1))) true in
    λ i. first i && (second i && true)

-- what holds of the accesses of a list of two holds of each access that it contains
of_two : (P : Access → Type 0) (x y a : Access) → P x → P y → Contains (x ∷ y ∷ []) a → P a
of_two P x y a p q (zero, below, is) = subst P is p
of_two P x y a p q (suc zero, below, is) = subst P is q
of_two P x y a p q (suc (suc k), below, is) = absurd (omega (arith, below))

of_none : (P : Access → Type 0) (a : Access) → Contains [] a → P a
of_none P a (k, below, is) = absurd (omega (arith, below))

-- each access in an iteration is its write or its sum
abbrev IsOne : ℕ → Access → Type 0
IsOne k a = ((a.element ≡ record { array = 0; at = k }) × (a.direction ≡ Writes)) ⊎ ((a.element ≡ first_element) × (a.direction ≡ Adds))

is_one : (k : ℕ) (a : Access) → Contains (nth traces k) a → IsOne k a
is_one zero a c = of_two (IsOne 0) (writes 0) (adds 0) a (inl (refl, refl)) (inr (refl, refl)) c
is_one (suc zero) a c = of_two (IsOne 1) (writes 1) (adds 1) a (inl (refl, refl)) (inr (refl, refl)) c
is_one (suc (suc k)) a c = of_none (IsOne (suc (suc k))) a c

abbrev gathered : ℕ → Bool
gathered a = nat_eq a 1

in_array : (e f : Element) → e ≡ f → e.array ≡ f.array
in_array e f h = ap (λ x. x.array) h

sums_alone : AddsExactlyOn gathered traces
sums_alone e k d (a, c, same, dir) = ⊎_elim
    (λ h. (
      (λ g. absurd (let is : e.array ≡ 0 = ap (λ x. x.array) (sym same ∙ h.0) in let not : nat_eq 0 1 ≡ true = sym (ap (λ n. nat_eq n 1) is) ∙ g in cc)),
      (λ g. absurd (let is : Writes ≡ Adds = sym h.1 ∙ dir ∙ g in cc)),
    ))
    (λ h. ((λ g. sym dir ∙ h.1), (λ g. ap (λ x. nat_eq x.array 1) (sym same ∙ h.0))))
    (is_one k a c)

meet_on_sums : MeetOnlyOn gathered traces
meet_on_sums e j k other (c, d, (a, ca, same_a, dir_a), (b, cb, same_b, dir_b), some) = ⊎_elim
    (λ h. ⊎_elim
    (λ g. absurd (other (ap (λ x. x.at) (sym h.0 ∙ same_a ∙ sym same_b ∙ g.0))))
    (λ g. ap (λ x. nat_eq x.array 1) (sym same_b ∙ g.0))
    (is_one k b cb))
    (λ h. ap (λ x. nat_eq x.array 1) (sym same_a ∙ h.0))
    (is_one j a ca)

apart : IsApart (running_traces sums context 0 running)
apart = subst IsApart (sym (traces_are context refl)) (apart_of gathered traces meet_on_sums sums_alone)

nest_orderly : IsOrderlyRunning sums sum_gatherings context 0 running
nest_orderly = record { joins = refl; locals = no_locals_set; adds = sums_taken; apart = apart }

-- ---- the run comes to no other running

out-Assign : (place a : ℕ) (subs : List Expr) (value : Expr) → out-Stmt (stmt.Assign place a subs value) ≡ Stmt-F.Assign place a subs value
out-Assign place a subs value = ap out-Stmt (sym (stmt.rolls-Assign place a subs value)) ∙ out-roll-Stmt (Stmt-F.Assign place a subs value)

out-AddTo : (place a : ℕ) (subs : List Expr) (value : Expr) (atomic : Bool) → out-Stmt (stmt.AddTo place a subs value atomic) ≡ Stmt-F.AddTo place a subs value atomic
out-AddTo place a subs value atomic = ap out-Stmt (sym (stmt.rolls-AddTo place a subs value atomic)) ∙ out-roll-Stmt (Stmt-F.AddTo place a subs value atomic)

no_loop_inside : (w : Context) (r : Running) (around : List Loop) (at : List ℕ) (f : Frame) (m : Cells) → ComesIn sums w r body around at 0 f m → ⊥
no_loop_inside w r around at f m c = ⊎_elim
    (λ h. subst (λ x. CameTo sums w r x around (at ++ 0 ∷ []) f m) (out-Assign 20 0 (expr.Iter 0 ∷ []) (expr.Iter 0)) (came_to sums w r _ around (at ++ 0 ∷ []) f m h))
    (λ b. ⊎_elim
    (λ h. subst (λ x. CameTo sums w r x around (at ++ 1 ∷ []) b.frame b.arrays) (out-AddTo 30 1 (expr.Literal (Int (pos 0)) ∷ []) (expr.Literal (Int (pos 1))) true)
    (came_to sums w r _ around (at ++ 1 ∷ []) b.frame b.arrays h))
    (λ d. reached_nowhere sums w (moment r) around at 2 d.frame d.arrays d.inner)
    (reached_in sums w (moment r) _ _ around at 1 b.frame b.arrays b.inner))
    (reached_in sums w (moment r) _ _ around at 0 f m c)

only_running : (r : Running) → ComesTo sums unit start r → running ≡ r
only_running r c = ⊎_elim
    (λ h. ⊎_elim (λ e. e) (λ t. absurd (no_loop_inside context r (loop ∷ []) (0 ∷ []) (inside t.frame t.i) t.arrays t.inner))
    (subst (λ x. CameTo sums context r x [] (0 ∷ []) (first_frame unit) start) (out-For loop) (came_to sums context r (stmt.For loop) [] (0 ∷ []) (first_frame unit) start h)))
    (λ b. absurd (reached_nowhere sums context (moment r) [] [] 1 b.frame b.arrays b.inner))
    (reached_in sums context (moment r) (stmt.For loop) [] [] [] 0 (first_frame unit) start c)

pub unit_orderly : IsOrderly sums sum_gatherings unit start
unit_orderly = record {
  runs = (first_frame unit, last, run_ends context refl);
  nests = λ r depth schedule mark comes.
      let same = only_running r comes in
      let marked : Parallel 1 Static ≡ Parallel depth schedule = ap (λ x. (out-Loop x.loop).mark) same ∙ mark in
      let one : 1 ≡ depth = cc in
      subst (λ x. IsOrderlyRunning sums sum_gatherings context (depth - 1) x) same (subst (λ n. IsOrderlyRunning sums sum_gatherings context (n - 1) running) one nest_orderly);
}

-- ---- the unit is well made, and so each of its plays ends in the arrays of its run

ruleset outer = (fold_stmt-Assign, fold_stmt-AddTo, fold_stmt-For, fold_loop, para_stmt-Assign, para_stmt-AddTo, para_stmt-For, para_loop)

ruleset inner = (fold_stmt-Assign, fold_stmt-AddTo, fold_stmt-For, fold_loop, para_stmt-Assign, para_stmt-AddTo, para_stmt-For, para_loop, fold_expr-Literal, fold_expr-Iter, para_expr-Literal, para_expr-Iter)

outermost_is : outermost_loops unit ≡ loop ∷ []
outermost_is = let one : outermost_in (stmt.For loop) ≡ loop ∷ [] = para_stmt-For outermost_at (λ l. []) loop in ap (λ ls. ls ++ []) one

-- the head of the loop around what its statements become
abbrev around : List Referring → Loop-F Referring Referring
around xs = record {
  place = head.place;
  iter = head.iter;
  start = head.start;
  test = head.test;
  limit = head.limit;
  step = head.step;
  body = xs;
  line = head.line;
  mark = head.mark;
}

abbrev place : Where
place = record { statement = []; path = []; conditional = false }

-- what the statements become, by the elements of their expressions
abbrev by_assigned : Elements → Referring
by_assigned e g band =
    (all_elements (e ∷ [])).references g 0
    ++ (e.references g (suc (all_elements (e ∷ [])).count) ++ reference g (all_elements (e ∷ [])).count Writes 0 (form_of (expr.Iter 0) ∷ []) ∷ [])

abbrev by_summed : Elements → Elements → Referring
by_summed e v g band =
    (all_elements (e ∷ [])).references g 0
    ++ (reference g (all_elements (e ∷ [])).count Reads 1 (form_of (expr.Literal (Int (pos 0))) ∷ [])
    ∷ (v.references g (suc (all_elements (e ∷ [])).count) ++ reference g (all_elements (e ∷ [])).count Writes 1 (form_of (expr.Literal (Int (pos 0))) ∷ []) ∷ []))

few_inside : nat_lt most_references_made (length (references_inside no_adds (around (by_assigned (elements_of (expr.Iter 0)) ∷ by_summed (elements_of (expr.Literal (Int (pos 0)))) (elements_of (expr.Literal (Int (pos 1)))) ∷ [])) place 1)) ≡ false
few_inside =
    let iter = para_expr-Iter elements_at 0 in
    let none = para_expr-Literal elements_at (Int (pos 0)) in
    let one = para_expr-Literal elements_at (Int (pos 1)) in
    λ i. nat_lt most_references_made (length (references_inside no_adds (around (by_assigned (iter i) ∷ by_summed (none i) (one i) ∷ [])) place 1))

few_in_loop : nat_lt most_references_made (reference_count loop) ≡ false
few_in_loop =
    let first : stmt_references no_adds assigned ≡ references_at no_adds (Stmt-F.Assign 20 0 (expr.Iter 0 ∷ []) (expr.Iter 0)) =
    fold_stmt-Assign (references_at no_adds) (references_inside no_adds) 20 0 (expr.Iter 0 ∷ []) (expr.Iter 0) in
    let second : stmt_references no_adds summed ≡ references_at no_adds (Stmt-F.AddTo 30 1 (expr.Literal (Int (pos 0)) ∷ []) (expr.Literal (Int (pos 1))) true) =
    fold_stmt-AddTo (references_at no_adds) (references_inside no_adds) 30 1 (expr.Literal (Int (pos 0)) ∷ []) (expr.Literal (Int (pos 1))) true in
    let whole = fold_loop (references_at no_adds) (references_inside no_adds) head in
    ap (λ r. nat_lt most_references_made (length (r place 1))) whole
    ∙ (λ i. nat_lt most_references_made (length (references_inside no_adds (around (first i ∷ second i ∷ [])) place 1)))
    ∙ few_inside

few_references : larger_than most_references_made unit ≡ []
few_references = ap (places_where (λ head. nat_lt most_references_made (reference_count head)) (λ head. (out-Loop head).place)) outermost_is ∙ rw few_in_loop refl

pub unit_made : IsWellMade unit
unit_made = record {
  few_arrays = lit< tt;
  few_locals = lit< tt;
  arrays = refl;
  locals = simp locals refl;
  body = simp outer (simp inner refl);
  limits = simp outer (simp inner refl);
  references = few_references;
}

pub every_play_ends : EveryPlayEnds sums (course_of sum_gatherings unit) start last
every_play_ends = (orderly_units_play sums (λ a c v w. added_trade c v w) sum_gatherings unit start (first_frame unit) last unit_made unit_orderly (run_ends context refl)).0

-- ---- its nest makes two accesses in each of its two turns

abbrev nest : Context → Part
nest w = part_at sum_gatherings w (Stmt-F.For (loop, para-Loop Part Coursing (part_at sum_gatherings w) (coursing_at w) loop))

nest_is : (w : Context) → part sum_gatherings w (stmt.For loop) ≡ nest w
nest_is w = para_stmt-For (part_at sum_gatherings w) (coursing_at w) loop

nest_ranks : (w : Context) → w ≡ context → ranks_of sums (course_list (nest w ∷ []) [] 0 (first_frame unit)) start ≡ 4
nest_ranks w same = simp folds (rw same refl)

ranks : ranks_of sums (course_of sum_gatherings unit) start ≡ 4
ranks = ap (λ p. ranks_of sums (course_list (p ∷ []) [] 0 (first_frame unit)) start) (nest_is context) ∙ nest_ranks context refl

-- ---- its source runs to the same arrays

abbrev plain_sum : Stmt
plain_sum = stmt.AddTo 30 1 (expr.Literal (Int (pos 0)) ∷ []) (expr.Literal (Int (pos 1))) false

abbrev plain_loop : Loop
plain_loop = roll-Loop (record head { body = assigned ∷ plain_sum ∷ []; line = None; mark = Plain })

stripped : strip_stmt false (stmt.For loop) ≡ stmt.For plain_loop
stripped =
    let first : strip_stmt false assigned ≡ assigned =
    fold_stmt-Assign strip_step (strip_layer false) 20 0 (expr.Iter 0 ∷ []) (expr.Iter 0) ∙ stmt.rolls-Assign 20 0 (expr.Iter 0 ∷ []) (expr.Iter 0) in
    let second : strip_stmt false summed ≡ plain_sum =
    fold_stmt-AddTo strip_step (strip_layer false) 30 1 (expr.Literal (Int (pos 0)) ∷ []) (expr.Literal (Int (pos 1))) true
    ∙ stmt.rolls-AddTo 30 1 (expr.Literal (Int (pos 0)) ∷ []) (expr.Literal (Int (pos 1))) false in
    let all : strip_loop false loop ≡ plain_loop = fold_loop strip_step (strip_layer false) head ∙ (λ i. strip_layer false (record head { body = first i ∷ second i ∷ [] })) in
    fold_stmt-For strip_step (strip_layer false) loop ∙ (λ i. roll-Stmt (Stmt-F.For (all i))) ∙ stmt.rolls-For plain_loop

plain_ends : (w : Context) → w ≡ context → run sums (does_list w (stmt.For plain_loop ∷ []) [] 0 (first_frame unit)) start ≡ Ended (first_frame unit) last
plain_ends w same = simp folds (rw same refl)

source_ends : source_run sums (source_of unit) start ≡ Ended (first_frame unit) last
source_ends = ap (λ s. run sums (does_list context (s ∷ []) [] 0 (first_frame unit)) start) stripped ∙ plain_ends context refl

all_of : (k : Kind) (xs : List Value) → Each (λ v. (kind_of v ≡ k) × IsValue v) xs → All (λ v. (kind_of v ≡ k) × IsValue v) xs
all_of k [] h = All-nil (λ v. (kind_of v ≡ k) × IsValue v)
all_of k (x ∷ xs) h = All-cons (λ v. (kind_of v ≡ k) × IsValue v) x xs h.0 (all_of k xs h.1)

its_arrays : AreArraysOf unit.arrays start
its_arrays = (
  refl,
  all_of kind.Int (Int (pos 7) ∷ Int (pos 7) ∷ []) ((refl, refl), ((refl, refl), tt)),
  (refl, all_of kind.Unsigned (Unsigned 5 ∷ []) ((refl, refl), tt), tt),
)

all_taken : AddsTaken sums_take unit
all_taken =
    let one = fold_stmt-For (adds_at sums_take context) (λ l. all_true l.body) loop ∙ fold_loop (adds_at sums_take context) (λ l. all_true l.body) head ∙ sums_taken in
    λ i. one i && true

pub some_unit : SomeUnitIsOrderly
some_unit = (unit, start, first_frame unit, last, unit_made, its_arrays, all_taken, unit_orderly, source_ends, ranks)
