-- The names of the unit of a program that is read: those of arrays and iterators are names of the language, and no two arrays have
-- one name. Each array has a dimension.
use Rattle.std.proofs.Common.{◌≡◌, ◌≢◌, ◌∙◌, ap, sym, refl, subst, arith, ℕ, zero, suc, Bool, true, false, ◌&&◌, not, if◌then◌else◌, List, [], ◌∷◌, ◌++◌, map, length, Option, Some, None}
use Rattle.std.specs.Prelude.{is_some, bytes_eq, Ok}
use Rattle.std.specs.List.{list_all, flat_map, filter}
use Rattle.std.proofs.lemmas.Bool.{and_parts}
use Rattle.std.proofs.lemmas.Slice.Eq.{bytes_eq-Decides}
use Rattle.species_ast.specs.declared.raw.RawUnit.{RawUnit}
use Rattle.species_ast.specs.declared.tree.Array.{Array}
use Rattle.species_ast.specs.declared.tree.Loop.{Loop, roll-Loop, out-Loop}
use Rattle.species_ast.specs.declared.tree.Stmt.{Stmt}
use Rattle.species_ast.specs.declared.tree.Stmt.TheOpen.{Stmt-F, Loop-F}
use Rattle.species_ast.specs.declared.tree.Stmt.TheVariants as stmt
use Rattle.species_ast.specs.declared.tree.Unit.{Unit as Program}
use Rattle.species_ast.specs.Names.{is_name}
use Rattle.species_ast.specs.Reading.{IsAccepted}
use Rattle.species_ast.specs.Spelling.{Spelling}
use Rattle.species_ast.specs.Scope.Conditions.{IsLawful, is_unknown, is_duplicate, named, refused_names, refusal_of, unless_refused, resolved}
use Rattle.species_ast.specs.Scope.Loops.{outermost_at, outermost_in, outermost_loops}
use Rattle.species_ast.specs.Scope.Meanings.{Meaning, Scope, scope_with, meaning_in, Declared, Occurrence, occurrence}
use Rattle.species_ast.specs.Scope.Expressions.{names_of}
use Rattle.species_ast.specs.Scope.Programs.{ArrayParts, SizeParts, arrays_of, globals_from, first_scope, program_of}
use Rattle.species_ast.specs.Scope.Refusals.{Refusal, Finding, first_in, or_later, refused_at, places_where}
use Rattle.species_ast.proofs.FirstRefusal.{reports_the_first}
use Rattle.species_ast.proofs.Folds.{fold_stmt-If, fold_stmt-For, fold_stmt-Block, fold_loop, folded_layer}
use Rattle.species_ast.proofs.Induction.{Each, each_all, stmt_ind}
use Rattle.species_ast.proofs.Paras.{para_stmt-Assign, para_stmt-AddTo, para_stmt-Declare, para_stmt-SetLocal}
use Rattle.species_notation.specs.Law.{AreNames, AreDifferent}
use Rattle.species_notation.specs.Written.{name_at}
use Rattle.species_occurrences.proofs.PositionLaws.{each_append}
use Rattle.species_ranges.proofs.OutermostLaws.{outermost-If, outermost-For, outermost-Block}
use Rattle.species_readback.specs.Meant.{has_sizes}
use Rattle.species_readback.specs.Spelt.{line_spelt, mark_spelt, is_spelt, is_int_step, is_int_number, array_spelt, stmt_spelt, loop_spelt, spelt}
use Rattle.species_readback.proofs.LawfulLaws.{lawful_meets}
use Rattle.species_references.proofs.TurnLaws.{each_to_all}
use Rattle.species_truth.proofs.ListLemmas.{each_at}

-- ---- iterators

abbrev pub HasName : Loop → Type 0
HasName l = is_name (out-Loop l).iter ≡ true

abbrev NamesOutermost : Program → Stmt → Type 0
NamesOutermost u x = (iters : List (List ℕ)) → spelt u x iters ≡ true → Each HasName (outermost_in x)

list_named : (u : Program) (xs : List Stmt) → Each (NamesOutermost u) xs → (iters : List (List ℕ)) → list_all (λ s. s iters) (map (spelt u) xs) ≡ true → Each HasName (flat_map outermost_in xs)
list_named u [] h iters k = tt
list_named u (x ∷ xs) h iters k =
    let parts = and_parts (spelt u x iters) (list_all (λ s. s iters) (map (spelt u) xs)) k in
    each_append HasName (outermost_in x) (flat_map outermost_in xs) (h.0 iters parts.0) (list_named u xs h.1 iters parts.1)

named_from : (u : Program) (x : Stmt) (ls : List Loop) → outermost_in x ≡ ls → ((iters : List (List ℕ)) → spelt u x iters ≡ true → Each HasName ls) → NamesOutermost u x
named_from u x ls e h iters k = subst (Each HasName) (sym e) (h iters k)

loop_named : (u : Program) (l : Loop-F Stmt Loop) (iters : List (List ℕ)) → spelt u (stmt.For (roll-Loop l)) iters ≡ true → is_name l.iter ≡ true
loop_named u l iters h =
    let whole : loop_spelt u (folded_layer (stmt_spelt u) (loop_spelt u) l) iters ≡ true =
    ap (λ f. f iters) (sym (fold_stmt-For (stmt_spelt u) (loop_spelt u) (roll-Loop l) ∙ ap (λ z. stmt_spelt u (Stmt-F.For z)) (fold_loop (stmt_spelt u) (loop_spelt u) l))) ∙ h in
    let rest = and_parts (line_spelt l.line && mark_spelt l.mark) _ whole in
    let heads = and_parts (is_name l.iter && is_int_step l.step) _ rest.1 in
    (and_parts (is_name l.iter) (is_int_step l.step) heads.0).0

names_outermost : (u : Program) (x : Stmt) → NamesOutermost u x
names_outermost u = stmt_ind (NamesOutermost u) (record {
  assign = λ place a subs value. named_from u _ [] (para_stmt-Assign outermost_at (λ l. []) place a subs value) (λ iters h. tt);
  add_to = λ place a subs value atomic. named_from u _ [] (para_stmt-AddTo outermost_at (λ l. []) place a subs value atomic) (λ iters h. tt);
  declare = λ place x init. named_from u _ [] (para_stmt-Declare outermost_at (λ l. []) place x init) (λ iters h. tt);
  set_local = λ place x value. named_from u _ [] (para_stmt-SetLocal outermost_at (λ l. []) place x value) (λ iters h. tt);
  choice = λ place test body otherwise p q. named_from u _ _ (outermost-If place test body otherwise) (λ iters h.
      let all : (is_spelt u iters test && (list_all (λ s. s iters) (map (spelt u) body) && list_all (λ s. s iters) (map (spelt u) otherwise))) ≡ true =
      ap (λ f. f iters) (sym (fold_stmt-If (stmt_spelt u) (loop_spelt u) place test body otherwise)) ∙ h in
      let lists = and_parts (list_all (λ s. s iters) (map (spelt u) body)) (list_all (λ s. s iters) (map (spelt u) otherwise)) (and_parts (is_spelt u iters test) _ all).1 in
      each_append HasName (flat_map outermost_in body) (flat_map outermost_in otherwise) (list_named u body p iters lists.0) (list_named u otherwise q iters lists.1));
  loop = λ l p. named_from u _ (roll-Loop l ∷ []) (outermost-For (roll-Loop l)) (λ iters h. (loop_named u l iters h, tt));
  block = λ body p. named_from u _ _ (outermost-Block body) (λ iters h.
      let all : list_all (λ s. s iters) (map (spelt u) body) ≡ true = ap (λ f. f iters) (sym (fold_stmt-Block (stmt_spelt u) (loop_spelt u) body)) ∙ h in
      list_named u body p iters all);
})

-- ---- arrays

name_each : (xs : List Array) → list_all array_spelt xs ≡ true → Each (λ w. is_name w ≡ true) (map (λ a. a.name) xs)
name_each [] h = tt
name_each (x ∷ xs) h =
    let parts = and_parts (array_spelt x) (list_all array_spelt xs) h in
    ((and_parts (is_name x.name) (list_all is_int_number x.dims) parts.0).0, name_each xs parts.1)

-- ---- different names

abbrev texts : List ArrayParts → List (List ℕ)
texts ps = map (λ a. a.name.text) ps

texts_kept : (n : ℕ) (ps : List ArrayParts) (s : Scope) → map (λ a. a.name) (map (λ a. a.array) (globals_from n ps s).arrays) ≡ texts ps
texts_kept n [] s = refl
texts_kept n (a ∷ ps) s = ap (λ l. a.name.text ∷ l) (texts_kept (suc n) ps (scope_with a.name (Meaning.Array n (length a.sizes)) s))

abbrev is_first : Occurrence → Bool
is_first o = not (is_duplicate o)

abbrev IsNew : Scope → List ℕ → Type 0
IsNew s w = meaning_in s.names w ≡ None

declared_new : (s : Scope) (a : Spelling) → is_first (occurrence Declared s a) ≡ true → IsNew s a.text
declared_new s a = go (meaning_in s.names a.text)
  where
    go : (m : Option Meaning) → not (is_some m) ≡ true → m ≡ None
    go None h = refl
    go (Some m) h = absurd cc

new_behind : (s : Scope) (a w : List ℕ) (m : Meaning) → meaning_in ((a, m) ∷ s.names) w ≡ None → (bytes_eq a w ≡ false) × IsNew s w
new_behind s a w m = go (bytes_eq a w)
  where
    go : (b : Bool) → (if b then Some m else meaning_in s.names w) ≡ None → (b ≡ false) × IsNew s w
    go true h = absurd cc
    go false h = (refl, h)

abbrev IsApart : List ℕ → List ℕ → Type 0
IsApart a w = bytes_eq a w ≡ false

all_behind : (s : Scope) (a : Spelling) (m : Meaning) (ws : List (List ℕ)) → Each (IsNew (scope_with a m s)) ws → Each (IsApart a.text) ws × Each (IsNew s) ws
all_behind s a m [] h = (tt, tt)
all_behind s a m (w ∷ ws) h =
    let one = new_behind s a.text w m h.0 in
    let more = all_behind s a m ws h.1 in
    ((one.0, more.0), (one.1, more.1))

unlike : (a w : List ℕ) → bytes_eq a w ≡ false → a ≢ w
unlike a w h e = let same : bytes_eq a w ≡ true = grind (arith, bytes_eq-Decides, e) in absurd cc

different_behind : (a : List ℕ) (ws : List (List ℕ)) → Each (IsApart a) ws → AreDifferent ws → AreDifferent (a ∷ ws)
different_behind a ws h more zero zero l k = absurd (omega (arith, l))
different_behind a ws h more zero (suc j) l k = unlike a (name_at ws j) (each_at (IsApart a) ws h j [] (omega (arith, k)))
different_behind a ws h more (suc i) zero l k = absurd (omega (arith, l))
different_behind a ws h more (suc i) (suc j) l k = more i j (omega (arith, l)) (omega (arith, k))

behind : {X : Type 0} (p : X → Bool) (xs ys : List X) → list_all p (xs ++ ys) ≡ true → list_all p ys ≡ true
behind p [] ys h = h
behind p (x ∷ xs) ys h = behind p xs ys (and_parts (p x) _ h).1

before : {X : Type 0} (p : X → Bool) (xs ys : List X) → list_all p (xs ++ ys) ≡ true → list_all p xs ≡ true
before p [] ys h = refl
before p (x ∷ xs) ys h =
    let parts = and_parts (p x) (list_all p (xs ++ ys)) h in
    ap (λ (b : Bool). b && list_all p xs) parts.0 ∙ before p xs ys parts.1

all_new : (n : ℕ) (ps : List ArrayParts) (s : Scope) → list_all is_first (globals_from n ps s).names ≡ true → Each (IsNew s) (texts ps) × AreDifferent (texts ps)
all_new n [] s h = (tt, λ i j l k. absurd (omega (arith, k)))
all_new n (a ∷ ps) s h =
    let m = Meaning.Array n (length a.sizes) in
    let sizes = names_of (map (λ (x : SizeParts). x.reads s) a.sizes) in
    let later = (globals_from (suc n) ps (scope_with a.name m s)).names in
    let parts = and_parts (is_first (occurrence Declared s a.name)) (list_all is_first (sizes ++ later)) h in
    let more = all_new (suc n) ps (scope_with a.name m s) (behind is_first sizes later parts.1) in
    let apart = all_behind s a.name m (texts ps) more.0 in
    ((declared_new s a.name parts.0, apart.1), different_behind a.name.text (texts ps) apart.0 more.1)

-- ---- where nothing is refused

none_in_first : {X : Type 0} (xs ys : List X) → (xs ++ ys) ≡ [] → (xs ≡ []) × (ys ≡ [])
none_in_first [] ys h = (refl, h)
none_in_first (x ∷ xs) ys h = absurd cc

nothing_at : (r : Refusal) (places : List ℕ) → refused_at r places ≡ [] → places ≡ []
nothing_at r [] h = refl
nothing_at r (p ∷ places) h = absurd cc

pub where_none : {X : Type 0} (holds : X → Bool) (place : X → ℕ) (xs : List X) → places_where holds place xs ≡ [] → list_all (λ x. not (holds x)) xs ≡ true
where_none holds place [] h = refl
where_none {X} holds place (x ∷ xs) h = go (holds x) (where_none holds place xs) h
  where
    go : (b : Bool) → (places_where holds place xs ≡ [] → list_all (λ y. not (holds y)) xs ≡ true) → map place (if b then x ∷ filter holds xs else filter holds xs) ≡ []
        → (not b && list_all (λ y. not (holds y)) xs) ≡ true
    go true more k = absurd cc
    go false more k = more k

none_later : (a b : Option Finding) → or_later a b ≡ None → (a ≡ None) × (b ≡ None)
none_later (Some f) b h = absurd cc
none_later None b h = (refl, h)

first_declared : (raw : RawUnit) → IsLawful raw → list_all is_first (program_of raw).names ≡ true
first_declared raw lawful =
    let p = program_of raw in
    let names = none_later (first_in (refused_names p)) _ lawful in
    let unknown = none_in_first (refused_at Refusal.Unknown (named is_unknown p)) _ (reports_the_first.is_empty (refused_names p) names.0) in
    let twice = none_in_first (refused_at Refusal.Duplicate (named is_duplicate p)) _ unknown.1 in
    where_none is_duplicate (λ o. o.name.place) p.names (nothing_at Refusal.Duplicate (named is_duplicate p) twice.0)

different : (raw : RawUnit) → IsLawful raw → AreDifferent (map (λ a. a.name) (program_of raw).unit.arrays)
different raw lawful =
    let ps = flat_map arrays_of raw.items in
    let globals = globals_from 0 ps (first_scope []) in
    let fresh = all_new 0 ps (first_scope []) (before is_first globals.names _ (first_declared raw lawful)) in
    subst AreDifferent (sym (texts_kept 0 ps (first_scope _))) fresh.1

-- ---- the whole

-- What the table asks of the names of a unit.
pub record IsNamed (u : Program) : Type 0 where
  pub arrays : AreNames (map (λ a. a.name) u.arrays)
  pub different : AreDifferent (map (λ a. a.name) u.arrays)
  pub iterators : Each HasName (outermost_loops u)
  pub dimensions : list_all has_sizes u.arrays ≡ true

lawful_named : (bytes : List ℕ) (raw : RawUnit) → IsAccepted bytes raw → IsLawful raw → IsNamed (program_of raw).unit
lawful_named bytes raw accepted lawful =
    let u = (program_of raw).unit in
    let meets = lawful_meets bytes raw accepted.1 lawful in
    record {
      arrays = each_to_all (λ w. is_name w ≡ true) (map (λ a. a.name) u.arrays) (name_each u.arrays meets.0.arrays);
      different = different raw lawful;
      iterators = list_named u u.body (each_all (NamesOutermost u) (names_outermost u) u.body) [] meets.0.body;
      dimensions = meets.1.arrays;
    }

read_lawful : (refusal : Option Finding) (v u : Program) → unless_refused refusal v ≡ Ok u → (refusal ≡ None) × (v ≡ u)
read_lawful (Some f) v u h = absurd cc
read_lawful None v u h = (refl, cc)

-- The law: so are those of the unit of each text that is read.
pub read_named : (bytes : List ℕ) (raw : RawUnit) (u : Program) → IsAccepted bytes raw → resolved raw ≡ Ok u → IsNamed u
read_named bytes raw u accepted is =
    let parts = read_lawful (refusal_of (program_of raw)) (program_of raw).unit u is in
    subst IsNamed parts.1 (lawful_named bytes raw accepted parts.0)
