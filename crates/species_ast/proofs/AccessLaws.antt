-- Laws of access trees: how their runs, accesses and actions compose, and what ties the actions to the run.
use Rattle.std.proofs.Common.{◌≡◌, refl, ap, List, [], ◌∷◌, ◌++◌, map, Option, Some, None}
use Rattle.species_ast.specs.declared.action.Action.{Action}
use Rattle.species_ast.specs.declared.action.Action.TheVariants.{Fault}
use Rattle.species_ast.specs.declared.tree.Value.{Value}
use Rattle.species_ast.specs.Accesses.{Joins, Cells, cell, Site, Tree, Ret, Stop, Read, Write, Add, then_do, Outcome, Ended, Stopped, run, Access, access, Reads, Writes, Adds, accesses, read_of, write_of, add_of, acts, action_of, answers_in, last_action}

-- ---- one after another

-- what a run ends in, gone on with
abbrev pub go_on : {X Y : Type 0} → Outcome X → (X → Cells → Outcome Y) → Outcome Y
go_on (Ended x m) next = next x m
go_on (Stopped why place) next = Stopped why place

-- what follows the accesses of a run that has this outcome
abbrev pub accesses_on : {X : Type 0} → Outcome X → (X → Cells → List Access) → List Access
accesses_on (Ended x m) next = next x m
accesses_on (Stopped why place) next = []

pub then_do-assoc : {X Y Z : Type 0} (t : Tree X) (f : X → Tree Y) (g : Y → Tree Z)
    → then_do (then_do t f) g ≡ then_do t (λ x. then_do (f x) g)
then_do-assoc (Ret x) f g = refl
then_do-assoc (Stop s why) f g = refl
then_do-assoc (Read s e more) f g = ap (Read s e) (λ i v. then_do-assoc (more v) f g i)
then_do-assoc (Write s e v more) f g = ap (Write s e v) (then_do-assoc more f g)
then_do-assoc (Add s e v more) f g = ap (Add s e v) (then_do-assoc more f g)

pub then_do-Ret : {X : Type 0} (t : Tree X) → then_do t (λ x. Ret x) ≡ t
then_do-Ret (Ret x) = refl
then_do-Ret (Stop s why) = refl
then_do-Ret (Read s e more) = ap (Read s e) (λ i v. then_do-Ret (more v) i)
then_do-Ret (Write s e v more) = ap (Write s e v) (then_do-Ret more)
then_do-Ret (Add s e v more) = ap (Add s e v) (then_do-Ret more)

pub run-then_do : {X Y : Type 0} (join : Joins) (t : Tree X) (next : X → Tree Y) (m : Cells)
    → run join (then_do t next) m ≡ go_on (run join t m) (λ x n. run join (next x) n)
run-then_do join (Ret x) next m = refl
run-then_do join (Stop s why) next m = refl
run-then_do join (Read s e more) next m = run-then_do join (more (cell m e)) next m
run-then_do join (Write s e v more) next m = run-then_do join more next _
run-then_do join (Add s e v more) next m = run-then_do join more next _

pub accesses-then_do : {X Y : Type 0} (join : Joins) (t : Tree X) (next : X → Tree Y) (m : Cells)
    → accesses join (then_do t next) m ≡ accesses join t m ++ accesses_on (run join t m) (λ x n. accesses join (next x) n)
accesses-then_do join (Ret x) next m = refl
accesses-then_do join (Stop s why) next m = refl
accesses-then_do join (Read s e more) next m = ap (λ l. access s Reads e (cell m e) ∷ l) (accesses-then_do join (more (cell m e)) next m)
accesses-then_do join (Write s e v more) next m = ap (λ l. access s Writes e v ∷ l) (accesses-then_do join more next _)
accesses-then_do join (Add s e v more) next m = ap (λ l. access s Adds e v ∷ l) (accesses-then_do join more next _)

-- ---- the actions

-- the answers of a run, given back, yield the accesses of the run, and then its end or a fault
pub acts_of_run : {X : Type 0} (join : Joins) (t : Tree X) (m : Cells)
    → acts t (answers_in (accesses join t m)) ≡ map action_of (accesses join t m) ++ last_action (run join t m) ∷ []
acts_of_run join (Ret x) m = refl
acts_of_run join (Stop s why) m = refl
acts_of_run join (Read s e more) m = ap (λ l. read_of e ∷ l) (acts_of_run join (more (cell m e)) m)
acts_of_run join (Write s e v more) m = ap (λ l. write_of e v ∷ l) (acts_of_run join more _)
acts_of_run join (Add s e v more) m = ap (λ l. add_of e v ∷ l) (acts_of_run join more _)

-- with more answers the list only grows: also a read that had no answer left stands in the longer list where it stood
pub acts_grow : {X : Type 0} (t : Tree X) (answers more : List Value)
    → (rest : List Action) × (acts t (answers ++ more) ≡ acts t answers ++ rest)
acts_grow (Ret x) answers more = ([], refl)
acts_grow (Stop s why) answers more = ([], refl)
acts_grow (Read s e next) [] [] = ([], refl)
acts_grow (Read s e next) [] (v ∷ more) = (acts (next v) more, refl)
acts_grow (Read s e next) (v ∷ answers) more =
    let r = acts_grow (next v) answers more in (r.0, ap (λ l. read_of e ∷ l) r.1)
acts_grow (Write s e v next) answers more = let r = acts_grow next answers more in (r.0, ap (λ l. write_of e v ∷ l) r.1)
acts_grow (Add s e v next) answers more = let r = acts_grow next answers more in (r.0, ap (λ l. add_of e v ∷ l) r.1)

-- the actions that these answers lead to before the end, and what stands there: what was computed and the answers left
abbrev pub acts_before : {X : Type 0} → Tree X → List Value → List Action
acts_before (Ret x) answers = []
acts_before (Stop s why) answers = Fault ∷ []
acts_before (Read s e more) [] = read_of e ∷ []
acts_before (Read s e more) (v ∷ answers) = read_of e ∷ acts_before (more v) answers
acts_before (Write s e v more) answers = write_of e v ∷ acts_before more answers
acts_before (Add s e v more) answers = add_of e v ∷ acts_before more answers

abbrev pub reached : {X : Type 0} → Tree X → List Value → Option (X × List Value)
reached (Ret x) answers = Some (x, answers)
reached (Stop s why) answers = None
reached (Read s e more) [] = None
reached (Read s e more) (v ∷ answers) = reached (more v) answers
reached (Write s e v more) answers = reached more answers
reached (Add s e v more) answers = reached more answers

abbrev pub acts_from : {X : Type 0} → Option (X × List Value) → (X → List Value → List Action) → List Action
acts_from None next = []
acts_from (Some r) next = next r.0 r.1

pub acts-then_do : {X Y : Type 0} (t : Tree X) (next : X → Tree Y) (answers : List Value)
    → acts (then_do t next) answers ≡ acts_before t answers ++ acts_from (reached t answers) (λ x left. acts (next x) left)
acts-then_do (Ret x) next answers = refl
acts-then_do (Stop s why) next answers = refl
acts-then_do (Read s e more) next [] = refl
acts-then_do (Read s e more) next (v ∷ answers) = ap (λ l. read_of e ∷ l) (acts-then_do (more v) next answers)
acts-then_do (Write s e v more) next answers = ap (λ l. write_of e v ∷ l) (acts-then_do more next answers)
acts-then_do (Add s e v more) next answers = ap (λ l. add_of e v ∷ l) (acts-then_do more next answers)

-- ---- without sites: what a tree does, whatever its statements and their places are

abbrev pub nowhere : Site
nowhere = record { statement = []; place = 0; number = 0; iters = []; indices = [] }

abbrev pub bare : {X : Type 0} → Tree X → Tree X
bare (Ret x) = Ret x
bare (Stop s why) = Stop nowhere why
bare (Read s e more) = Read nowhere e (λ v. bare (more v))
bare (Write s e v more) = Write nowhere e v (bare more)
bare (Add s e v more) = Add nowhere e v (bare more)

pub bare-then_do : {X Y : Type 0} (t : Tree X) (next : X → Tree Y) → bare (then_do t next) ≡ then_do (bare t) (λ x. bare (next x))
bare-then_do (Ret x) next = refl
bare-then_do (Stop s why) next = refl
bare-then_do (Read s e more) next = ap (Read nowhere e) (λ i v. bare-then_do (more v) next i)
bare-then_do (Write s e v more) next = ap (Write nowhere e v) (bare-then_do more next)
bare-then_do (Add s e v more) next = ap (Add nowhere e v) (bare-then_do more next)

-- the actions do not depend on the sites
pub acts-bare : {X : Type 0} (t : Tree X) (answers : List Value) → acts (bare t) answers ≡ acts t answers
acts-bare (Ret x) answers = refl
acts-bare (Stop s why) answers = refl
acts-bare (Read s e more) [] = refl
acts-bare (Read s e more) (v ∷ answers) = ap (λ l. read_of e ∷ l) (acts-bare (more v) answers)
acts-bare (Write s e v more) answers = ap (λ l. write_of e v ∷ l) (acts-bare more answers)
acts-bare (Add s e v more) answers = ap (λ l. add_of e v ∷ l) (acts-bare more answers)

-- nor does what a run ends in, but for the place where it is undefined
abbrev pub without_place : {X : Type 0} → Outcome X → Outcome X
without_place (Ended x m) = Ended x m
without_place (Stopped why place) = Stopped why 0

pub run-bare : {X : Type 0} (join : Joins) (t : Tree X) (m : Cells) → run join (bare t) m ≡ without_place (run join t m)
run-bare join (Ret x) m = refl
run-bare join (Stop s why) m = refl
run-bare join (Read s e more) m = run-bare join (more (cell m e)) m
run-bare join (Write s e v more) m = run-bare join more _
run-bare join (Add s e v more) m = run-bare join more _
