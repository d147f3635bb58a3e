-- A program run from arrays of its own accesses only elements that there are, leaves arrays of its own, and never does
-- what is forbidden to an iteration alone.
use Rattle.std.proofs.Common.{◌≡◌, arith, refl, ap, sym, ◌∙◌, subst, ℕ, zero, suc, List, [], ◌∷◌, length, Option, Some, None, ◌⊎◌, inl, inr, ⊎_elim}
use Rattle.std.specs.Prelude.{slice_get, unwrap_or, option_map, option_and_then, All, ◌<◌}
use Rattle.species_ast.specs.declared.tree.Array.{Array}
use Rattle.species_ast.specs.declared.tree.Kind.TheVariants as kind
use Rattle.species_ast.specs.declared.tree.Value.{Value}
use Rattle.species_ast.specs.declared.tree.Unit.{Unit as Program}
use Rattle.species_ast.specs.Operators.{kind_of, IsValue}
use Rattle.species_ast.specs.Accesses.{Joins, sums, Cells, Element, look, cell, change, changed, Forbidden, Tree, Ret, Stop, Read, Write, Add, Outcome, Ended, Stopped, run}
use Rattle.species_ast.specs.Evaluation.{Context, array_kind, sizes_of, product}
use Rattle.species_ast.specs.Run.{AreArraysOf, source_context, program_of, source_run}
use Rattle.species_ast.proofs.KindLaws.{HasKind, kind-in_kind, IsAllowed, Keeps, FrameOf, program_keeps}

-- the elements that are declared are there, with values of their array's kind
abbrev pub HasElements : Context → Cells → Type 0
HasElements w m = (a j : ℕ) → j < product (sizes_of w a) → (v : Value) × (look m (record { array = a; at = j }) ≡ Some v) × HasKind (array_kind w a) v

-- ---- from the arrays of the declarations

row_has : (Q : Value → Type 0) (row : List Value) (j : ℕ) → j < length row → All Q row → (v : Value) × (slice_get row j ≡ Some v) × Q v
row_has Q [] j below h = absurd (omega arith)
row_has Q (v ∷ row) zero below h = (v, refl, h 0 v below)
row_has Q (v ∷ row) (suc j) below h = row_has Q row j (omega arith) (λ k d less. h (suc k) d (omega arith))

elements_from : (arrays : List Array) (rows : Cells) → AreArraysOf arrays rows → (a j : ℕ)
    → j < product (unwrap_or (option_map (λ x. x.dims) (slice_get arrays a)) (0 ∷ []))
    → (v : Value) × (option_and_then (λ row. slice_get row j) (slice_get rows a) ≡ Some v) × HasKind (unwrap_or (option_map (λ x. x.kind) (slice_get arrays a)) kind.Int) v
elements_from [] [] h a j below = absurd (omega arith)
elements_from [] (row ∷ rows) h a j below = absurd h
elements_from (x ∷ arrays) [] h a j below = absurd h
elements_from (x ∷ arrays) (row ∷ rows) h zero j below =
    let there = row_has (λ v. (kind_of v ≡ x.kind) × IsValue v) row j (omega (arith, h.0, below)) h.1 in
    (there.0, there.1, there.2.0)
elements_from (x ∷ arrays) (row ∷ rows) h (suc a) j below = elements_from arrays rows h.2 a j below

pub has_elements : (w : Context) (m : Cells) → AreArraysOf w.arrays m → HasElements w m
has_elements w m h a j below = elements_from w.arrays m h a j below

-- ---- where one element is changed

change_cases : {A : Type 0} (xs : List A) (i j : ℕ) (by : A → A)
    → (slice_get (change xs i by) j ≡ slice_get xs j) ⊎ ((i ≡ j) × (slice_get (change xs i by) j ≡ option_map by (slice_get xs j)))
change_cases [] i j by = inl refl
change_cases (x ∷ xs) zero zero by = inr (refl, refl)
change_cases (x ∷ xs) zero (suc j) by = inl refl
change_cases (x ∷ xs) (suc i) zero by = inl refl
change_cases (x ∷ xs) (suc i) (suc j) by = ⊎_elim (λ h. inl h) (λ h. inr (ap suc h.0, h.1)) (change_cases xs i j by)

-- a value of one row, where the row may be changed
row_keeps : (Q : Value → Type 0) (row : List Value) (i j : ℕ) (by : Value → Value) (v : Value) → ((u : Value) → Q u → Q (by u))
    → slice_get row j ≡ Some v → Q v → (u : Value) × (slice_get (change row i by) j ≡ Some u) × Q u
row_keeps Q row i j by v keep at q =
    ⊎_elim (λ h. (v, h ∙ at, q)) (λ h. (by v, h.1 ∙ ap (option_map by) at, keep v q)) (change_cases row i j by)

rows_keep : (Q : Value → Type 0) (o : Option (List Value)) (i j : ℕ) (by : Value → Value) (v : Value) → ((u : Value) → Q u → Q (by u))
    → option_and_then (λ row. slice_get row j) o ≡ Some v → Q v
    → (u : Value) × (option_and_then (λ row. slice_get row j) (option_map (λ row. change row i by) o) ≡ Some u) × Q u
rows_keep Q None i j by v keep at q = absurd cc
rows_keep Q (Some row) i j by v keep at q = row_keeps Q row i j by v keep at q

keeps_elements : (w : Context) (m : Cells) (el : Element) (by : Value → Value)
    → ((u : Value) → HasKind (array_kind w el.array) u → HasKind (array_kind w el.array) (by u)) → HasElements w m → HasElements w (changed m el by)
keeps_elements w m el by keep has a j below =
    let old = has a j below in
    ⊎_elim
    (λ h. (old.0, ap (option_and_then (λ row. slice_get row j)) h ∙ old.1, old.2))
    (λ h.
    let keep_a : (u : Value) → HasKind (array_kind w a) u → HasKind (array_kind w a) (by u) =
    subst (λ b. (u : Value) → HasKind (array_kind w b) u → HasKind (array_kind w b) (by u)) h.0 keep in
    let new = rows_keep (HasKind (array_kind w a)) (slice_get m a) el.at j by old.0 keep_a old.1 old.2 in
    (new.0, ap (option_and_then (λ row. slice_get row j)) h.1 ∙ new.1, new.2))
    (change_cases m el.array a (λ row. change row el.at by))

-- ---- runs

abbrev pub OutcomeKeeps : {X : Type 0} → Context → (X → Type 0) → Outcome X → Type 0
OutcomeKeeps w P (Ended x m) = P x × HasElements w m
OutcomeKeeps w P (Stopped why place) = IsAllowed why

-- an atomic addition leaves the element's kind
abbrev pub KeepsKinds : Joins → Type 0
KeepsKinds join = (a : ℕ) (c v : Value) → kind_of (join a c v) ≡ kind_of c

pub sums_keep : KeepsKinds sums
sums_keep a c v = kind-in_kind (kind_of c) _

pub run_keeps : {X : Type 0} (join : Joins) → KeepsKinds join → (w : Context) (P : X → Type 0) (t : Tree X) (m : Cells)
    → HasElements w m → Keeps w P t → OutcomeKeeps w P (run join t m)
run_keeps join kinds w P (Ret x) m has h = (h, has)
run_keeps join kinds w P (Stop s why) m has h = h
run_keeps join kinds w P (Read s el more) m has h =
    let there = has el.array el.at h.0 in
    let value : there.0 ≡ cell m el = sym (ap (λ o. unwrap_or o (cell [] el)) there.1) in
    run_keeps join kinds w P (more (cell m el)) m has (h.1 (cell m el) (subst (HasKind (array_kind w el.array)) value there.2))
run_keeps join kinds w P (Write s el v more) m has h =
    run_keeps join kinds w P more (changed m el (λ c. v)) (keeps_elements w m el (λ c. v) (λ u _. h.1) has) h.2
run_keeps join kinds w P (Add s el v more) m has h =
    run_keeps join kinds w P more (changed m el (λ c. join el.array c v)) (keeps_elements w m el (λ c. join el.array c v) (λ u of. kinds el.array u v ∙ of) has) h.2

-- a program's run from arrays of its own
pub source_run_keeps : (join : Joins) → KeepsKinds join → (u : Program) (m : Cells)
    → AreArraysOf u.arrays m → OutcomeKeeps (source_context u) (FrameOf (source_context u)) (source_run join u m)
source_run_keeps join kinds u m h =
    run_keeps join kinds (source_context u) (FrameOf (source_context u)) (program_of u) m (has_elements (source_context u) m h) (program_keeps u)

-- where it is undefined, it is so by one of the traps
pub never_forbidden : (join : Joins) → KeepsKinds join → (u : Program) (m : Cells) (place : ℕ) → AreArraysOf u.arrays m → source_run join u m ≡ Stopped Forbidden place → ⊥
never_forbidden join kinds u m place h same = subst (OutcomeKeeps (source_context u) (FrameOf (source_context u))) same (source_run_keeps join kinds u m h)
