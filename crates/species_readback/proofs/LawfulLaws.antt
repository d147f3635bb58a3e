-- The unit of a lawful program is read back from its canonical text.
use Rattle.std.proofs.Common.{◌≡◌, ◌∙◌, ap, sym, refl, ℕ, suc, zero, ◌*◌, ◌≤◌, Bool, true, false, List, [], ◌∷◌, ◌++◌, map, Option, Some, None, arith, pos, negsuc, ℤ}
use Rattle.std.proofs.lemmas.Bool.{and_parts, and_from, leb-true, ltb-false, not-true}
use Rattle.std.specs.Prelude.{◌&&◌, not, nat_le, nat_lt, if◌then◌else◌}
use Rattle.std.specs.List.{list_all, filter, flat_map}
use Rattle.species_ast.specs.declared.tree.Array.{Array}
use Rattle.species_ast.specs.declared.tree.Loop.{Loop, roll-Loop}
use Rattle.species_ast.specs.declared.tree.Stmt.{Stmt}
use Rattle.species_ast.specs.declared.tree.Stmt.TheOpen.{Stmt-F, Loop-F}
use Rattle.species_ast.specs.declared.tree.Stmt.TheVariants as stmt
use Rattle.species_ast.specs.declared.raw.RawUnit.{RawUnit}
use Rattle.species_ast.specs.Evaluation.{product}
use Rattle.species_ast.specs.Marks.{all_true, test_step, test_layer}
use Rattle.species_ast.specs.Reading.{Reads}
use Rattle.species_ast.specs.Scope.Meanings.{Meaning, Role, Declared, Taken, Assigned, Iterates, InHeader, Occurrence, occurrence}
use Rattle.species_ast.specs.Scope.Limits.{is_too_deep, has_lawful_sizes, is_too_far, most_elements}
use Rattle.species_ast.specs.Scope.Loops.{Nesting, no_loops, entered}
use Rattle.species_ast.specs.Scope.Programs.{ArraySite, Program, arrays_of, first_scope, globals_from, iterators_of, program_of}
use Rattle.species_ast.specs.Scope.Refusals.{Limit, Refusal, Finding, first_in, or_later, refused_at, places_where}
use Rattle.species_ast.specs.Scope.Conditions.{IsLawful, usable, is_unknown, is_duplicate, is_miscounted, is_assigned_iterator, is_assigned_as, is_outside, is_outside_as, named, refused_names, refused_forms, refused_limits, refused_arrays, too_many_dimensions, too_many_elements}
use Rattle.species_ast.specs.Scope.WellMade.{list_keeps, made_at, made_loop, made, head_keeps, fronts_of}
use Rattle.species_ast.specs.Scope.Nests.{front_with}
use Rattle.species_ast.proofs.FirstRefusal.{reports_the_first}
use Rattle.species_ast.proofs.Folds.{fold_stmt-Assign, fold_stmt-AddTo, fold_stmt-Declare, fold_stmt-SetLocal, fold_stmt-If, fold_stmt-For, fold_stmt-Block, fold_loop, folded_layer}
use Rattle.species_ast.proofs.Induction.{Each, each_all, StmtCases, stmt_ind}
use Rattle.species_ast.proofs.LimitLaws.{not_refused-keeps}
use Rattle.species_lawful.proofs.WalkLaws.{same_names}
use Rattle.species_readback.specs.Spelt.{is_int_number, is_int_step}
use Rattle.species_readback.specs.ReadBack.{LawfulReadsBack}
use Rattle.species_readback.proofs.LawfulLemmas.{is_kept_as, is_fine}
use Rattle.species_readback.proofs.KeptLemmas.{all_same}
use Rattle.species_readback.proofs.LawfulStatementLemmas.{is_stepped}
use Rattle.species_readback.proofs.LawfulUnitLemmas.{NothingRefused, program_by, inner_of, sizes_fit, lawful_unit}
use Rattle.species_readback.proofs.LawfulTokenLemmas.{text_good}
use Rattle.species_readback.proofs.ReadBackLaws.{reads_back}
use Rattle.species_ast.specs.Scope.Hulls.{passes_hull}
use Rattle.species_ast.specs.Scope.Magnitudes.{passes_bound}
use Rattle.species_ast.specs.Scope.Nests.{is_bad_mark}
use Rattle.species_readback.specs.Spelt.{IsSpelt}
use Rattle.species_readback.specs.Meant.{IsMeant}
use Rattle.species_readback.proofs.NumberLemmas.{int_within}
use Rattle.species_readback.proofs.ListLemmas.{all_split}

-- ---- where nothing is refused

first_empty : {X : Type 0} (xs ys : List X) → (xs ++ ys) ≡ [] → (xs ≡ []) × (ys ≡ [])
first_empty [] ys h = (refl, h)
first_empty (x ∷ xs) ys h = absurd cc

nothing_at : (r : Refusal) (places : List ℕ) → refused_at r places ≡ [] → places ≡ []
nothing_at r [] h = refl
nothing_at r (p ∷ places) h = absurd cc

where_none : {X : Type 0} (holds : X → Bool) (place : X → ℕ) (xs : List X) → places_where holds place xs ≡ [] → list_all (λ x. not (holds x)) xs ≡ true
where_none holds place [] h = refl
where_none holds place (x ∷ xs) h = go (holds x) (where_none holds place xs) h
  where
    go : (b : Bool) → (places_where holds place xs ≡ [] → list_all (λ y. not (holds y)) xs ≡ true) → map place (if b then x ∷ filter holds xs else filter holds xs) ≡ []
        → (not b && list_all (λ y. not (holds y)) xs) ≡ true
    go true more k = absurd cc
    go false more k = more k

none_later : (a b : Option Finding) → or_later a b ≡ None → (a ≡ None) × (b ≡ None)
none_later (Some f) b h = absurd cc
none_later None b h = (refl, h)

-- ---- names

-- a name that is no other place's, and means something, is one that the unit keeps
fine_name : (its : List ℕ) (o : Occurrence) → not (is_unknown o) ≡ true → not (is_assigned_iterator o) ≡ true → not (is_outside its o) ≡ true → is_fine its o ≡ true
fine_name its o a b c = go o.role o.means a b c
  where
    go : (role : Role) (m : Option Meaning) → not (is_unknown (record { name = o.name; role = role; means = m })) ≡ true → not (is_assigned_as role (usable m)) ≡ true → not (is_outside_as its role m) ≡ true
        → is_kept_as its role m ≡ true
    go (Taken n) None a b c = cc
    go (Taken n) (Some (Meaning.Array i d)) a b c = refl
    go (Taken n) (Some (Meaning.Variable x)) a b c = c
    go (Taken n) (Some (Meaning.Iterator level)) a b c = refl
    go (Taken n) (Some Meaning.Function) a b c = cc
    go (Assigned n) None a b c = cc
    go (Assigned n) (Some (Meaning.Array i d)) a b c = refl
    go (Assigned n) (Some (Meaning.Variable x)) a b c = c
    go (Assigned n) (Some (Meaning.Iterator level)) a b c = cc
    go (Assigned n) (Some Meaning.Function) a b c = cc
    go Declared m a b c = refl
    go Iterates m a b c = refl
    go InHeader m a b c = refl

fine_names : (its : List ℕ) (names : List Occurrence) → list_all (λ o. not (is_unknown o)) names ≡ true → list_all (λ o. not (is_assigned_iterator o)) names ≡ true
    → list_all (λ o. not (is_outside its o)) names ≡ true → list_all (is_fine its) names ≡ true
fine_names its [] a b c = refl
fine_names its (o ∷ names) a b c =
    let x = and_parts (not (is_unknown o)) (list_all (λ o. not (is_unknown o)) names) a in
    let y = and_parts (not (is_assigned_iterator o)) (list_all (λ o. not (is_assigned_iterator o)) names) b in
    let z = and_parts (not (is_outside its o)) (list_all (λ o. not (is_outside its o)) names) c in
    and_from _ _ (fine_name its o x.0 y.0 z.0) (fine_names its names x.1 y.1 z.1)

all_fine : (p : Program) → refused_names p ≡ [] → list_all (is_fine (iterators_of p.names)) p.names ≡ true
all_fine p h =
    let its = iterators_of p.names in
    let place : Occurrence → ℕ = λ o. o.name.place in
    let unknown = first_empty (refused_at Refusal.Unknown (named is_unknown p)) _ h in
    let twice = first_empty (refused_at Refusal.Duplicate (named is_duplicate p)) _ unknown.1 in
    let counts = first_empty (refused_at Refusal.DimensionCount (named is_miscounted p)) _ twice.1 in
    let taken = first_empty (refused_at Refusal.IteratorAssigned (named is_assigned_iterator p)) _ counts.1 in
    fine_names its p.names
    (where_none is_unknown place p.names (nothing_at Refusal.Unknown (named is_unknown p) unknown.0))
    (where_none is_assigned_iterator place p.names (nothing_at Refusal.IteratorAssigned (named is_assigned_iterator p) taken.0))
    (where_none (is_outside its) place p.names (nothing_at Refusal.IteratorOutside (named (is_outside its) p) taken.1))

-- ---- sizes

-- a size is no larger than the product of the sizes
size_within : (n m : ℕ) → 1 ≤ n → 1 ≤ m → (n ≤ n * m) × (m ≤ n * m) × (1 ≤ n * m)
size_within (suc n) (suc m) a b = (omega arith, omega arith, omega arith)
size_within zero m a b = let x : ⊥ = omega (arith, a) in absurd x
size_within (suc n) zero a b = let x : ⊥ = omega (arith, b) in absurd x

sizes_within : (dims : List ℕ) → list_all (nat_le 1) dims ≡ true → (1 ≤ product dims) × ((most : ℕ) → product dims ≤ most → most ≤ 2147483647 → list_all is_int_number dims ≡ true)
sizes_within [] h = (omega arith, λ most le small. refl)
sizes_within (n ∷ dims) h =
    let k = and_parts (nat_le 1 n) (list_all (nat_le 1) dims) h in
    let more = sizes_within dims k.1 in
    let w = size_within n (product dims) (leb-true 1 n k.0) more.0 in
    (w.2, λ most le small. and_from _ _ (int_within n (omega (arith, w.0, le, small))) (more.1 most (omega (arith, w.1, le)) small))

lawful_fit : (a : Array) → not (not (has_lawful_sizes a)) ≡ true → sizes_fit a ≡ true
lawful_fit a h = go (has_lawful_sizes a) refl h
  where
    go : (c : Bool) → has_lawful_sizes a ≡ c → not (not c) ≡ true → sizes_fit a ≡ true
    go false e h = cc
    go true e h =
        let k = and_parts (list_all (nat_le 1) a.dims) (nat_le (product a.dims) most_elements) e in
        (sizes_within a.dims k.0).1 most_elements (leb-true (product a.dims) most_elements k.1) (omega arith)

all_fit : (sites : List ArraySite) → list_all (λ s. not (not (has_lawful_sizes s.array))) sites ≡ true → list_all sizes_fit (map (λ s. s.array) sites) ≡ true
all_fit [] h = refl
all_fit (s ∷ sites) h =
    let k = and_parts (not (not (has_lawful_sizes s.array))) (list_all (λ s. not (not (has_lawful_sizes s.array))) sites) h in
    and_from _ _ (lawful_fit s.array k.0) (all_fit sites k.1)

arrays_fit : (p : Program) → refused_arrays p ≡ [] → list_all sizes_fit (map (λ s. s.array) p.arrays) ≡ true
arrays_fit p h =
    let elements = first_empty (refused_at (Refusal.LimitPassed Limit.Dims) (too_many_dimensions p)) _ h in
    all_fit p.arrays (where_none (λ s. not (has_lawful_sizes s.array)) (λ s. s.name.place) p.arrays (nothing_at (Refusal.LimitPassed Limit.Elements) (too_many_elements p) elements.1))

-- ---- steps

near_step : (z : ℤ) → not (is_too_far z) ≡ true → is_int_step z ≡ true
near_step (pos n) h = int_within n (omega (arith, ltb-false 65536 n (not-true (nat_lt 65536 n) h)))
near_step (negsuc n) h = int_within (suc n) (omega (arith, ltb-false 65536 (suc n) (not-true (nat_lt 65536 (suc n)) h)))

-- a statement whose loops keep the limits has steps of `int`
abbrev KeepsSteps : Stmt → Type 0
KeepsSteps x = (n : Nesting) → (made x).keeps n ≡ true → is_stepped x ≡ true

abbrev stepped_at : Stmt-F Bool Bool → Bool
stepped_at = test_step (λ atomic. true)

abbrev stepped_loop : Loop-F Bool Bool → Bool
stepped_loop = test_layer (λ l. is_int_step l.step)

list_steps : (xs : List Stmt) → Each KeepsSteps xs → (n : Nesting) → list_keeps (map made xs) n ≡ true → list_all is_stepped xs ≡ true
list_steps [] h n k = refl
list_steps (x ∷ xs) h n k =
    let c = and_parts ((made x).keeps n) (list_keeps (map made xs) n) k in
    and_from _ _ (h.0 n c.0) (list_steps xs h.1 n c.1)

loop_steps : (l : Loop-F Stmt Loop) → Each KeepsSteps l.body → KeepsSteps (stmt.For (roll-Loop l))
loop_steps l h n k =
    let ms = map made l.body in
    let front = front_with l.start l.limit (fronts_of ms) in
    let fl = folded_layer made_at made_loop l in
    let keeps = sym (ap (λ m. m.keeps n) (fold_stmt-For made_at made_loop (roll-Loop l) ∙ fold_loop made_at made_loop l)) ∙ k in
    let rest = not (passes_hull n.path fl) && (not (passes_bound n.path fl) && not (is_bad_mark n.in_nest n.level fl.mark front)) in
    let c = and_parts (head_keeps front fl n) (list_keeps ms (entered fl n)) keeps in
    let d = and_parts (not (is_too_deep n.level)) (not (is_too_far fl.step) && rest) c.0 in
    let e = and_parts (not (is_too_far fl.step)) rest d.1 in
    fold_stmt-For stepped_at stepped_loop (roll-Loop l) ∙ fold_loop stepped_at stepped_loop l
    ∙ and_from (is_int_step l.step) (all_true (map is_stepped l.body)) (near_step l.step e.0) (all_same is_stepped l.body ∙ list_steps l.body h (entered fl n) c.1)

steps_cases : StmtCases KeepsSteps
steps_cases = record {
  assign = λ place a es e n k. fold_stmt-Assign stepped_at stepped_loop place a es e;
  add_to = λ place a es e atomic n k. fold_stmt-AddTo stepped_at stepped_loop place a es e atomic;
  declare = λ place x init n k. fold_stmt-Declare stepped_at stepped_loop place x init;
  set_local = λ place x e n k. fold_stmt-SetLocal stepped_at stepped_loop place x e;
  choice = λ place e body otherwise h j n k.
      let c = and_parts (list_keeps (map made body) n) (list_keeps (map made otherwise) n) (sym (ap (λ m. m.keeps n) (fold_stmt-If made_at made_loop place e body otherwise)) ∙ k) in
      fold_stmt-If stepped_at stepped_loop place e body otherwise
      ∙ and_from _ _ (all_same is_stepped body ∙ list_steps body h n c.0) (all_same is_stepped otherwise ∙ list_steps otherwise j n c.1);
  loop = loop_steps;
  block = λ body h n k.
      fold_stmt-Block stepped_at stepped_loop body
      ∙ all_same is_stepped body ∙ list_steps body h n (sym (ap (λ m. m.keeps n) (fold_stmt-Block made_at made_loop body)) ∙ k);
}

-- ---- the whole

abbrev globals_names : RawUnit → List ℕ → List Occurrence
globals_names raw its = (globals_from 0 (flat_map arrays_of raw.items) (first_scope its)).names

abbrev function_name : RawUnit → List ℕ → Occurrence
function_name raw its = occurrence Declared (globals_from 0 (flat_map arrays_of raw.items) (first_scope its)).next raw.function

nothing_refused : (raw : RawUnit) → IsLawful raw → NothingRefused raw (iterators_of (program_by raw []).names)
nothing_refused raw lawful =
    let p = program_of raw in
    let its = iterators_of (program_by raw []).names in
    let names = none_later (first_in (refused_names p)) _ lawful in
    let forms = none_later (first_in (refused_forms p)) _ names.1 in
    let limits = none_later (first_in (refused_limits p)) _ forms.1 in
    let no_limits = first_empty (refused_arrays p) _ (reports_the_first.is_empty (refused_limits p) limits.0) in
    let fine : list_all (is_fine its) (program_by raw its).names ≡ true =
    ap (list_all (is_fine its)) (same_names raw its []) ∙ all_fine p (reports_the_first.is_empty (refused_names p) names.0) in
    let in_body = all_split (is_fine its) (globals_names raw its) (function_name raw its ∷ (inner_of raw its).notes.names) fine in
    record {
      names = (and_parts (is_fine its (function_name raw its)) (list_all (is_fine its) (inner_of raw its).notes.names) in_body.1).1;
      steps = list_steps p.unit.body (each_all KeepsSteps (stmt_ind KeepsSteps steps_cases) p.unit.body) no_loops (not_refused-keeps p.unit no_limits.1);
      sizes = arrays_fit p no_limits.0;
    }

-- both tests are met
pub lawful_meets : (text : List ℕ) (raw : RawUnit) → Reads text raw → IsLawful raw → IsSpelt (program_of raw).unit × IsMeant (program_of raw).unit
lawful_meets text raw r lawful =
    lawful_unit raw r.0 (iterators_of (program_by raw []).names) r.2 (text_good text r.0 r.1) (nothing_refused raw lawful)

pub lawful_reads_back : LawfulReadsBack
lawful_reads_back text raw r lawful = let h = lawful_meets text raw r lawful in reads_back (program_of raw).unit h.0 h.1
