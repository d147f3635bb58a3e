-- A lawful program that a text can write becomes a well made unit.
use Rattle.std.proofs.Common.{◌≡◌, ◌∙◌, refl, sym, ap, subst, ℕ, zero, suc, ◌+◌, ◌≤◌, ◌<◌, ◌^◌, Bool, true, false, ◌&&◌, not, if◌then◌else◌, nat_lt, List, [], ◌∷◌, ◌++◌, map, length, Option, Some, None, arith, is_none, sum, length-append}
use Rattle.std.specs.List.{list_all, filter, flat_map}
use Rattle.std.proofs.lemmas.Bool.{and_parts, and_from}
use Rattle.std.proofs.lemmas.List.Folds.{list_all-append, list_all-map}
use Rattle.std.proofs.lemmas.List.{length-map}
use Rattle.species_ast.specs.Spelling.{Spelling}
use Rattle.species_ast.specs.Limits.{most_bytes}
use Rattle.species_ast.specs.declared.tree.Loop.{Loop, out-Loop}
use Rattle.species_ast.specs.declared.tree.Unit.{Unit as Tree}
use Rattle.species_ast.specs.declared.raw.RawUnit.{RawUnit}
use Rattle.species_ast.specs.Run.{locals_in}
use Rattle.species_ast.specs.Scope.Refusals.{Limit, Refusal, Finding, first_in, or_later, refused_at, places_where}
use Rattle.species_ast.specs.Scope.Meanings.{Meaning, Scope, scope_with, count_before, Occurrence, occurrence, Declared}
use Rattle.species_ast.specs.Scope.Statements.{LoopSite, Fragment, in_order, stmt_fragment}
use Rattle.species_ast.specs.Scope.Programs.{Program, Size, ArraySite, ArrayParts, Globals, globals_from, arrays_of, first_scope, iterators_of, program_of}
use Rattle.species_ast.specs.Scope.Written.{IsWritten, has_depths, statements_in}
use Rattle.species_ast.specs.Scope.WellMade.{Around, outermost, is_declared_once, is_made_array, IsWellMade}
use Rattle.species_ast.specs.Scope.Limits.{most_references, most_references_made}
use Rattle.species_ast.specs.Scope.Loops.{outermost_loops}
use Rattle.species_ast.specs.Scope.References.{HasReadSize, larger_than, reference_count}
use Rattle.species_ast.specs.Scope.Conditions.{IsLawful, is_unknown, is_duplicate, is_miscounted, is_assigned_iterator, is_outside, named, refused_names, is_static, is_good_step, not_static, bad_step, refused_forms, refused_arrays, refused_loops, refused_limits, refused_references}
use Rattle.species_ast.proofs.FirstRefusal.{reports_the_first}
use Rattle.species_ast.proofs.LimitLaws.{not_refused-keeps, not_refused-arrays}
use Rattle.species_lawful.specs.Law.{LawfulUnitsAreMade}
use Rattle.species_lawful.specs.Walks.{walk_of, taken_in}
use Rattle.species_lawful.proofs.FitLemmas.{is_good, are_good, Fits, fits_with}
use Rattle.species_lawful.proofs.ReadLemmas.{both_good}
use Rattle.species_lawful.proofs.MadeLemmas.{from, MadeOf}
use Rattle.species_lawful.proofs.StatementLemmas.{has_form, stmts_hold}
use Rattle.species_lawful.proofs.ArrayLemmas.{globals_fit, few_globals}
use Rattle.species_lawful.proofs.OnceLemmas.{declared_once}
use Rattle.species_lawful.proofs.WalkLaws.{same_names, globals_in, body_scope}

-- ---- where nothing is refused

first_empty : {X : Type 0} (xs ys : List X) → (xs ++ ys) ≡ [] → (xs ≡ []) × (ys ≡ [])
first_empty [] ys h = (refl, h)
first_empty (x ∷ xs) ys h = absurd cc

nothing_at : (r : Refusal) (places : List ℕ) → refused_at r places ≡ [] → places ≡ []
nothing_at r [] h = refl
nothing_at r (p ∷ places) h = absurd cc

module _ {X : Type 0} (holds : X → Bool) (place : X → ℕ) where
  none_where : (xs : List X) → list_all (λ x. not (holds x)) xs ≡ true → places_where holds place xs ≡ []
  none_where [] h = refl
  none_where (x ∷ xs) h = go (holds x) (none_where xs) h
    where
      go : (b : Bool) → (list_all (λ y. not (holds y)) xs ≡ true → places_where holds place xs ≡ []) → (not b && list_all (λ y. not (holds y)) xs) ≡ true
          → map place (if b then x ∷ filter holds xs else filter holds xs) ≡ []
      go true more k = absurd cc
      go false more k = more k

  where_none : (xs : List X) → places_where holds place xs ≡ [] → list_all (λ x. not (holds x)) xs ≡ true
  where_none [] h = refl
  where_none (x ∷ xs) h = go (holds x) (where_none xs) h
    where
      go : (b : Bool) → (places_where holds place xs ≡ [] → list_all (λ y. not (holds y)) xs ≡ true) → map place (if b then x ∷ filter holds xs else filter holds xs) ≡ []
          → (not b && list_all (λ y. not (holds y)) xs) ≡ true
      go true more k = absurd cc
      go false more k = more k

-- what holds of each of a list by what else holds of each
each : {X : Type 0} (p q : X → Bool) → ((x : X) → p x ≡ true → q x ≡ true) → (xs : List X) → list_all p xs ≡ true → list_all q xs ≡ true
each p q f [] h = refl
each p q f (x ∷ xs) h = let parts = and_parts (p x) _ h in and_from _ _ (f x parts.0) (each p q f xs parts.1)

all_both : {X : Type 0} (p q : X → Bool) (xs : List X) → list_all p xs ≡ true → list_all q xs ≡ true → list_all (λ x. p x && q x) xs ≡ true
all_both p q [] h k = refl
all_both p q (x ∷ xs) h k =
    let a = and_parts (p x) _ h in
    let b = and_parts (q x) _ k in
    and_from _ _ (and_from _ _ a.0 b.0) (all_both p q xs a.1 b.1)

unnegated : (b : Bool) → not (not b) ≡ true → b ≡ true
unnegated true h = refl
unnegated false h = absurd cc

none_later : (a b : Option Finding) → or_later a b ≡ None → (a ≡ None) × (b ≡ None)
none_later (Some f) b h = absurd cc
none_later None b h = (refl, h)

-- ---- names and bounds

all_good : (p : Program) → refused_names p ≡ [] → are_good (iterators_of p.names) p.names ≡ true
all_good p h =
    let its = iterators_of p.names in
    let place : Occurrence → ℕ = λ o. o.name.place in
    let unknown = first_empty (refused_at Refusal.Unknown (named is_unknown p)) _ h in
    let twice = first_empty (refused_at Refusal.Duplicate (named is_duplicate p)) _ unknown.1 in
    let counts = first_empty (refused_at Refusal.DimensionCount (named is_miscounted p)) _ twice.1 in
    let taken = first_empty (refused_at Refusal.IteratorAssigned (named is_assigned_iterator p)) _ counts.1 in
    all_both (λ o. not (is_unknown o)) (λ o. not (is_miscounted o) && not (is_outside its o)) p.names
    (where_none is_unknown place p.names (nothing_at Refusal.Unknown (named is_unknown p) unknown.0))
    (all_both (λ o. not (is_miscounted o)) (λ o. not (is_outside its o)) p.names
    (where_none is_miscounted place p.names (nothing_at Refusal.DimensionCount (named is_miscounted p) counts.0))
    (where_none (is_outside its) place p.names (nothing_at Refusal.IteratorOutside (named (is_outside its) p) taken.1)))

abbrev start_fails : LoopSite → Bool
start_fails x = not (is_static x.level (out-Loop x.loop).start)

abbrev limit_fails : LoopSite → Bool
limit_fails x = not (is_static x.level (out-Loop x.loop).limit)

abbrev step_fails : LoopSite → Bool
step_fails x = not (x.one_variable && is_good_step (out-Loop x.loop).test x.step)

abbrev sizes_where : List ArraySite → List ℕ
sizes_where arrays = flat_map (λ a. places_where (λ x. is_none x.number) (λ x. x.place) a.sizes) arrays

all_formed : (p : Program) → refused_forms p ≡ [] → list_all has_form p.loops ≡ true
all_formed p h =
    let forms = first_empty (refused_at Refusal.NotStatic (not_static p)) _ h in
    let starts = first_empty (places_where start_fails (λ x. x.start) p.loops) _ (nothing_at Refusal.NotStatic (not_static p) forms.0) in
    let limits = first_empty (places_where limit_fails (λ x. x.limit) p.loops) _ starts.1 in
    all_both (λ x. is_static x.level (out-Loop x.loop).start) (λ x. is_static x.level (out-Loop x.loop).limit && is_good_step (out-Loop x.loop).test x.step) p.loops
    (each (λ x. not (start_fails x)) _ (λ x. unnegated _) p.loops (where_none start_fails (λ x. x.start) p.loops starts.0))
    (all_both (λ x. is_static x.level (out-Loop x.loop).limit) (λ x. is_good_step (out-Loop x.loop).test x.step) p.loops
    (each (λ x. not (limit_fails x)) _ (λ x. unnegated _) p.loops (where_none limit_fails (λ x. x.limit) p.loops limits.0))
    (each (λ x. not (step_fails x)) _ (λ x k. (and_parts x.one_variable _ (unnegated _ k)).1) p.loops (where_none step_fails (λ x. x.place) p.loops (nothing_at Refusal.BadStep (bad_step p) forms.1))))

-- ---- references

fewer : (n : ℕ) → not (nat_lt 512 n) ≡ true → not (nat_lt 1024 n) ≡ true
fewer n h = grind (arith, h)

not_larger : (u : Tree) → larger_than most_references u ≡ [] → larger_than most_references_made u ≡ []
not_larger u h =
    none_where (λ head. nat_lt most_references_made (reference_count head)) (λ head. (out-Loop head).place) (outermost_loops u)
    (each (λ head. not (nat_lt most_references (reference_count head))) _ (λ head. fewer (reference_count head)) (outermost_loops u)
    (where_none (λ head. nat_lt most_references (reference_count head)) (λ head. (out-Loop head).place) (outermost_loops u) h))

-- ---- the whole

-- no local is declared before the body
globals_serials : (n : ℕ) (parts : List ArrayParts) (s : Scope) → (globals_from n parts s).next.serials ≡ s.serials
globals_serials n [] s = refl
globals_serials n (a ∷ parts) s = globals_serials (suc n) parts (scope_with a.name (Meaning.Array n (length a.sizes)) s)

few : (n m : ℕ) → n ≤ m → m ≤ most_bytes → n < 2 ^ 32
few n m h k = omega (arith, h, k)

left_few : (a b c n : ℕ) → n ≤ a → n ≤ a + suc c
left_few a b c n h = omega (arith, h)

right_few : (a b c n : ℕ) → n ≤ c → n ≤ a + suc c
right_few a b c n h = omega (arith, h)

of_sum : (a b c : ℕ) → a + b ≤ c → a ≤ c
of_sum a b c h = omega (arith, h)

record NothingRefused (p : Program) : Type 0 where
  names : refused_names p ≡ []
  forms : refused_forms p ≡ []
  limits : refused_limits p ≡ []
  references : refused_references p.unit ≡ []

nothing_refused : (u : RawUnit) → IsLawful u → NothingRefused (program_of u)
nothing_refused u lawful =
    let p = program_of u in
    let names = none_later (first_in (refused_names p)) _ lawful in
    let forms = none_later (first_in (refused_forms p)) _ names.1 in
    let limits = none_later (first_in (refused_limits p)) _ forms.1 in
    let references = none_later (first_in (refused_references p.unit)) _ limits.1 in
    record {
      names = reports_the_first.is_empty (refused_names p) names.0;
      forms = reports_the_first.is_empty (refused_forms p) forms.0;
      limits = reports_the_first.is_empty (refused_limits p) limits.0;
      references = reports_the_first.is_empty (refused_references p.unit) references.0;
    }

read_size : (u : RawUnit) → IsLawful u → HasReadSize (program_of u).unit
read_size u lawful = nothing_at (Refusal.LimitPassed Limit.References) (larger_than most_references (program_of u).unit) (nothing_refused u lawful).references

well_made : (u : RawUnit) → IsWritten u → IsLawful u → IsWellMade (program_of u).unit
well_made u written lawful =
    let p = program_of u in
    let its = taken_in u in
    let g = globals_in u its in
    let s = body_scope u its in
    let w = outermost p.unit in
    let inner = in_order (map stmt_fragment u.body) s in
    let fine = nothing_refused u lawful in
    let good : are_good its (walk_of u its).names ≡ true = ap (are_good its) (same_names u its []) ∙ all_good p fine.names in
    let parts = both_good its g.names (occurrence Declared g.next u.function ∷ inner.notes.names) good in
    let in_body = and_parts (is_good its (occurrence Declared g.next u.function)) _ parts.1 in
    let fit : Fits its g.next w = globals_fit its [] 0 (flat_map arrays_of u.items) (first_scope its) w refl refl (record { names = refl; level = refl; iterators = refl }) in
    let made_body : MadeOf its s w inner = stmts_hold u.body written.depths its s w (fits_with its u.function Meaning.Function g.next w refl fit) in_body.1 (all_formed p fine.forms) in
    let none_before : count_before its s.serials ≡ 0 = ap (count_before its) (globals_serials 0 (flat_map arrays_of u.items) (first_scope its)) in
    let limits = first_empty (refused_arrays p) _ fine.limits in
    let names : length p.names ≤ most_bytes = of_sum (length p.names) (sum (map statements_in u.body)) most_bytes written.small in
    let all_names : length p.names ≡ length g.names + suc (length inner.notes.names) =
    ap (λ (os : List Occurrence). length os) (same_names u [] its) ∙ length-append g.names (occurrence Declared g.next u.function ∷ inner.notes.names) in
    record {
      few_arrays = few _ (length p.names)
          (subst (λ z. length p.unit.arrays ≤ z) (sym all_names)
          (subst (λ z. z ≤ length g.names + suc (length inner.notes.names)) (sym (length-map g.arrays (λ a. a.array)))
          (left_few (length g.names) 0 (length inner.notes.names) (length g.arrays) (few_globals 0 (flat_map arrays_of u.items) (first_scope its))))) names;
      few_locals = few _ (length p.names) (subst (λ z. length inner.notes.locals ≤ z) (sym all_names) (right_few (length g.names) 0 (length inner.notes.names) (length inner.notes.locals) made_body.few)) names;
      arrays = list_all-map is_made_array (λ a. a.array) p.arrays ∙ not_refused-arrays p limits.0;
      locals = ap (is_declared_once (length inner.notes.locals)) (made_body.numbers ∙ ap (λ n. from n (length inner.notes.locals)) none_before) ∙ declared_once (length inner.notes.locals);
      body = made_body.statements;
      limits = not_refused-keeps p.unit limits.1;
      references = not_larger p.unit (read_size u lawful);
    }

pub lawful_units_are_made : LawfulUnitsAreMade
lawful_units_are_made = record { well_made = well_made; read_size = read_size }
