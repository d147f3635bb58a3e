-- In the unit of a lawful program each loop has an iterator whose name is not that of a loop around it.
use Rattle.std.proofs.Common.{◌≡◌, ◌∙◌, refl, sym, ap, subst, ℕ, suc, List, [], ◌∷◌, ◌++◌, map, length, Option, Some, None, Bool, true, false, ◌&&◌, not, if◌then◌else◌}
use Rattle.std.specs.Prelude.{Ok}
use Rattle.std.specs.List.{list_all, flat_map, filter, filter_map}
use Rattle.std.proofs.lemmas.Bool.{and_parts, and_from}
use Rattle.std.proofs.lemmas.List.Folds.{list_all-append}
use Rattle.species_ast.specs.Spelling.{Spelling}
use Rattle.species_ast.specs.declared.raw.RawUnit.{RawUnit}
use Rattle.species_ast.specs.declared.tree.Unit.{Unit}
use Rattle.species_ast.specs.Scope.Conditions.{IsLawful, is_unknown, is_duplicate, is_miscounted, is_assigned_iterator, named, refused_names, refusal_of, unless_refused, resolved}
use Rattle.species_ast.specs.Scope.Meanings.{Meaning, Scope, scope_with, Role, Declared, Taken, Assigned, Iterates, InHeader, Occurrence, occurrence}
use Rattle.species_ast.specs.Scope.Programs.{ArrayParts, arrays_of, header_of, globals_from, first_scope, iterators_of, program_with, program_of}
use Rattle.species_ast.specs.Scope.Refusals.{Refusal, Finding, first_in, or_later, refused_at, places_where}
use Rattle.species_ast.specs.Scope.Statements.{in_order, stmt_fragment}
use Rattle.species_ast.proofs.FirstRefusal.{reports_the_first}
use Rattle.species_lawful.proofs.TwoWalks.{Alike, stmts_same}
use Rattle.species_plan_truth.proofs.TruthApart.{is_new, all_apart, stmts_apart}

-- ---- where nothing is refused

none_in_first : {X : Type 0} (xs ys : List X) → (xs ++ ys) ≡ [] → (xs ≡ []) × (ys ≡ [])
none_in_first [] ys h = (refl, h)
none_in_first (x ∷ xs) ys h = absurd cc

nothing_at : (r : Refusal) (places : List ℕ) → refused_at r places ≡ [] → places ≡ []
nothing_at r [] h = refl
nothing_at r (p ∷ places) h = absurd cc

where_none : {X : Type 0} (holds : X → Bool) (place : X → ℕ) (xs : List X) → places_where holds place xs ≡ [] → list_all (λ x. not (holds x)) xs ≡ true
where_none holds place [] h = refl
where_none {X} holds place (x ∷ xs) h = go (holds x) (where_none holds place xs) h
  where
    go : (b : Bool) → (places_where holds place xs ≡ [] → list_all (λ y. not (holds y)) xs ≡ true) → map place (if b then x ∷ filter holds xs else filter holds xs) ≡ []
        → (not b && list_all (λ y. not (holds y)) xs) ≡ true
    go true more k = absurd cc
    go false more k = more k

none_later : (a b : Option Finding) → or_later a b ≡ None → (a ≡ None) × (b ≡ None)
none_later (Some f) b h = absurd cc
none_later None b h = (refl, h)

new_as : (name : Spelling) (role : Role) (means : Option Meaning) → let o : Occurrence = record { name = name; role = role; means = means } in
    not (is_duplicate o) ≡ true → not (is_assigned_iterator o) ≡ true → is_new o ≡ true
new_as name Declared m h k = h
new_as name (Taken n) m h k = refl
new_as name (Assigned n) m h k = refl
new_as name Iterates (Some (Meaning.Array a n)) h k = refl
new_as name Iterates (Some (Meaning.Variable x)) h k = refl
new_as name Iterates (Some (Meaning.Iterator level)) h k = absurd cc
new_as name Iterates (Some Meaning.Function) h k = refl
new_as name Iterates None h k = refl
new_as name InHeader m h k = refl

all_new : (os : List Occurrence) → list_all (λ o. not (is_duplicate o)) os ≡ true → list_all (λ o. not (is_assigned_iterator o)) os ≡ true → list_all is_new os ≡ true
all_new [] h k = refl
all_new (o ∷ os) h k =
    let a = and_parts (not (is_duplicate o)) (list_all (λ o. not (is_duplicate o)) os) h in
    let b = and_parts (not (is_assigned_iterator o)) (list_all (λ o. not (is_assigned_iterator o)) os) k in
    and_from (is_new o) (list_all is_new os) (new_as o.name o.role o.means a.0 b.0) (all_new os a.1 b.1)

names_new : (raw : RawUnit) → IsLawful raw → list_all is_new (program_of raw).names ≡ true
names_new raw lawful =
    let p = program_of raw in
    let names = none_later (first_in (refused_names p)) _ lawful in
    let unknown = none_in_first (refused_at Refusal.Unknown (named is_unknown p)) _ (reports_the_first.is_empty (refused_names p) names.0) in
    let twice = none_in_first (refused_at Refusal.Duplicate (named is_duplicate p)) _ unknown.1 in
    let counted = none_in_first (refused_at Refusal.DimensionCount (named is_miscounted p)) _ twice.1 in
    let set = none_in_first (refused_at Refusal.IteratorAssigned (named is_assigned_iterator p)) _ counted.1 in
    all_new p.names (where_none is_duplicate (λ o. o.name.place) p.names (nothing_at Refusal.Duplicate (named is_duplicate p) twice.0))
    (where_none is_assigned_iterator (λ o. o.name.place) p.names (nothing_at Refusal.IteratorAssigned (named is_assigned_iterator p) set.0))

-- ---- both walks

globals_alike : (n : ℕ) (ps : List ArrayParts) (s t : Scope) → Alike s t → Alike (globals_from n ps s).next (globals_from n ps t).next
globals_alike n [] s t h = h
globals_alike n (a ∷ ps) s t h =
    globals_alike (suc n) ps (scope_with a.name (Meaning.Array n (length a.sizes)) s) (scope_with a.name (Meaning.Array n (length a.sizes)) t)
    (record { names = (λ i. (a.name.text, Meaning.Array n (length a.sizes)) ∷ h.names i); level = h.level; serials = h.serials })

-- the scope of the body, where these locals are iterators
abbrev inner_scope : RawUnit → List ℕ → Scope
inner_scope raw its = scope_with raw.function Meaning.Function (globals_from 0 (flat_map arrays_of raw.items) (first_scope its)).next

inner_alike : (raw : RawUnit) (its : List ℕ) → Alike (inner_scope raw its) (inner_scope raw [])
inner_alike raw its =
    let g = globals_alike 0 (flat_map arrays_of raw.items) (first_scope its) (first_scope []) (record { names = refl; level = refl; serials = refl }) in
    record { names = (λ i. (raw.function.text, Meaning.Function) ∷ g.names i); level = g.level; serials = g.serials }

abbrev inner_names : RawUnit → List ℕ → List Occurrence
inner_names raw its = (in_order (map stmt_fragment raw.body) (inner_scope raw its)).notes.names

body_new : (raw : RawUnit) → IsLawful raw → list_all is_new (inner_names raw []) ≡ true
body_new raw lawful =
    let globals = globals_from 0 (flat_map arrays_of raw.items) (first_scope []) in
    let function = occurrence Declared globals.next raw.function in
    let all : list_all is_new (globals.names ++ function ∷ inner_names raw []) ≡ true = names_new raw lawful in
    let behind = (and_parts (list_all is_new globals.names) (list_all is_new (function ∷ inner_names raw [])) (sym (list_all-append is_new globals.names (function ∷ inner_names raw [])) ∙ all)).1 in
    (and_parts (is_new function) (list_all is_new (inner_names raw [])) behind).1

lawful_apart : (raw : RawUnit) → IsLawful raw → all_apart (program_of raw).unit.body [] ≡ true
lawful_apart raw lawful =
    let its = iterators_of (program_with (filter_map header_of raw.items) (flat_map arrays_of raw.items) raw.function (map stmt_fragment raw.body) []).names in
    let same = (stmts_same raw.body (inner_scope raw its) (inner_scope raw []) (inner_alike raw its)).names in
    stmts_apart raw.body (inner_scope raw its) (ap (list_all is_new) same ∙ body_new raw lawful)

pub read_lawful : (refusal : Option Finding) (v u : Unit) → unless_refused refusal v ≡ Ok u → (refusal ≡ None) × (v ≡ u)
read_lawful (Some f) v u h = absurd cc
read_lawful None v u h = (refl, cc)

-- The law.
pub body_apart : (raw : RawUnit) (u : Unit) → resolved raw ≡ Ok u → all_apart u.body [] ≡ true
body_apart raw u is =
    let parts = read_lawful (refusal_of (program_of raw)) (program_of raw).unit u is in
    subst (λ (v : Unit). all_apart v.body [] ≡ true) parts.1 (lawful_apart raw parts.0)
