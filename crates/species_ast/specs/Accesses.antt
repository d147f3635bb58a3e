-- What a piece of program does to the arrays, one access after another, as a tree that branches at what each read gives:
-- its run over given arrays, the accesses of that run, and its actions for given answers.
use Rattle.std.specs.Prelude.{ℕ, zero, suc, List, [], ◌∷◌, ℤ, pos, ◌+ℤ◌, Bool, ◌&&◌, nat_eq, Option, slice_get, option_and_then, unwrap_or}
use Rattle.species_ast.specs.declared.action.Action.{Action}
use Rattle.species_ast.specs.declared.action.Action.TheVariants as action
use Rattle.species_ast.specs.declared.tree.Value.{Value}
use Rattle.species_ast.specs.declared.tree.Value.TheVariants.{Int}
use Rattle.species_ast.specs.declared.trap.Trap.{Trap}
use Rattle.species_ast.specs.Operators.{kind_of, number_of, in_kind, reduced}

-- ---- the arrays

-- an element of an array: the array's number, and the element's place in row order
pub record Element : Type 0 where
  pub array : ℕ
  pub at : ℕ

abbrev pub element_eq : Element → Element → Bool
element_eq e f = nat_eq e.array f.array && nat_eq e.at f.at

-- for each array the values of its elements in row order
abbrev pub Cells : Type 0
Cells = List (List Value)

-- the value of an element, if there is such an element
abbrev pub look : Cells → Element → Option Value
look m e = option_and_then (λ row. slice_get row e.at) (slice_get m e.array)

abbrev pub cell : Cells → Element → Value
cell m e = unwrap_or (look m e) (Int (pos 0))

-- a list with its value at i changed by a function, where there is one
abbrev pub change : {A : Type 0} → List A → ℕ → (A → A) → List A
change [] i by = []
change (x ∷ xs) zero by = by x ∷ xs
change (x ∷ xs) (suc i) by = x ∷ change xs i by

abbrev pub changed : Cells → Element → (Value → Value) → Cells
changed m e by = change m e.array (λ row. change row e.at by)

-- an element's value after an atomic addition: of the element's kind, and equal to the sum modulo 2 ^ w
abbrev pub added : Value → Value → Value
added v c = in_kind (kind_of c) (reduced (kind_of c) (number_of c +ℤ number_of v))

-- what an atomic addition does: for each array, an element's new value from the old one and the value that is added
abbrev pub Joins : Type 0
Joins = ℕ → Value → Value → Value

-- sums in all arrays
abbrev pub sums : Joins
sums a c v = added v c

-- ---- the tree

-- Where in the text an access stands, and when: the statement, by its number among the statements directly inside each
-- statement around it, from the outermost inward; its place; the number of the element, where the elements written in the
-- statement are numbered from 0 in the order in which their indices are tested (the read and the write of a `+=` have one
-- number); the iterators in force, by level; and the indices that the element's subscripts gave.
pub record Site : Type 0 where
  pub statement : List ℕ
  pub place : ℕ
  pub number : ℕ
  pub iters : List ℤ
  pub indices : List ℕ

-- why a piece of program stops: it is undefined, or it does what one iteration of a nest may not do
pub data Cause : Type 0 where
  Trapped : Trap → Cause
  Forbidden : Cause

pub data Tree (X : Type 0) : Type 0 where
  Ret : X → Tree X
  Stop : Site → Cause → Tree X
  Read : Site → Element → (Value → Tree X) → Tree X
  Write : Site → Element → Value → Tree X → Tree X
  Add : Site → Element → Value → Tree X → Tree X

-- first the one, then what follows from what it gave
abbrev pub then_do : {X Y : Type 0} → Tree X → (X → Tree Y) → Tree Y
then_do (Ret x) next = next x
then_do (Stop s why) next = Stop s why
then_do (Read s e more) next = Read s e (λ v. then_do (more v) next)
then_do (Write s e v more) next = Write s e v (then_do more next)
then_do (Add s e v more) next = Add s e v (then_do more next)

-- ---- the run

-- what a run ends in: what was computed and the arrays; or it is undefined, for this cause, in the statement at this place
pub data Outcome (X : Type 0) : Type 0 where
  Ended : X → Cells → Outcome X
  Stopped : Cause → ℕ → Outcome X

abbrev pub run : {X : Type 0} → Joins → Tree X → Cells → Outcome X
run join (Ret x) m = Ended x m
run join (Stop s why) m = Stopped why s.place
run join (Read s e more) m = run join (more (cell m e)) m
run join (Write s e v more) m = run join more (changed m e (λ c. v))
run join (Add s e v more) m = run join more (changed m e (λ c. join e.array c v))

-- the run comes to its end
abbrev pub IsDefined : {X : Type 0} → Outcome X → Type 0
IsDefined (Ended x m) = Unit {0}
IsDefined (Stopped why place) = ⊥

pub data Direction : Type 0 where
  Reads : Direction
  Writes : Direction
  Adds : Direction

-- one access of a run; the value is that which was read, written or added
pub record Access : Type 0 where
  pub site : Site
  pub direction : Direction
  pub element : Element
  pub value : Value

abbrev pub access : Site → Direction → Element → Value → Access
access s d e v = record { site = s; direction = d; element = e; value = v }

-- the accesses of a run in order, to its end or to where it is undefined
abbrev pub accesses : {X : Type 0} → Joins → Tree X → Cells → List Access
accesses join (Ret x) m = []
accesses join (Stop s why) m = []
accesses join (Read s e more) m = access s Reads e (cell m e) ∷ accesses join (more (cell m e)) m
accesses join (Write s e v more) m = access s Writes e v ∷ accesses join more (changed m e (λ c. v))
accesses join (Add s e v more) m = access s Adds e v ∷ accesses join more (changed m e (λ c. join e.array c v))

-- ---- the actions

-- an action on an element
abbrev pub read_of : Element → Action
read_of e = action.Read e.array e.at

abbrev pub write_of : Element → Value → Action
write_of e v = action.Write e.array e.at v

abbrev pub add_of : Element → Value → Action
add_of e v = action.Add e.array e.at v

-- the actions where the reads are answered in order: to the first read that has no answer left, to the end, or to a fault
abbrev pub acts : {X : Type 0} → Tree X → List Value → List Action
acts (Ret x) answers = action.Done ∷ []
acts (Stop s why) answers = action.Fault ∷ []
acts (Read s e more) [] = read_of e ∷ []
acts (Read s e more) (v ∷ answers) = read_of e ∷ acts (more v) answers
acts (Write s e v more) answers = write_of e v ∷ acts more answers
acts (Add s e v more) answers = add_of e v ∷ acts more answers

-- an access as an action
abbrev pub action_in : Direction → Element → Value → Action
action_in Reads e v = read_of e
action_in Writes e v = write_of e v
action_in Adds e v = add_of e v

abbrev pub action_of : Access → Action
action_of a = action_in a.direction a.element a.value

-- the values that the reads among these accesses gave
abbrev pub answer_of : Direction → Value → List Value → List Value
answer_of Reads v rest = v ∷ rest
answer_of Writes v rest = rest
answer_of Adds v rest = rest

abbrev pub answers_in : List Access → List Value
answers_in [] = []
answers_in (a ∷ rest) = answer_of a.direction a.value (answers_in rest)

-- the last action of a piece of program whose run has this outcome
abbrev pub last_action : {X : Type 0} → Outcome X → Action
last_action (Ended x m) = action.Done
last_action (Stopped why place) = action.Fault
