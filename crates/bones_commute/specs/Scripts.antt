-- Scripts of the iterations of a nest, and the states that follow them.
use Rattle.std.specs.Prelude.{◌≡◌, ◌≢◌, ◌⊎◌, ℕ, ◌≤◌, Bool, true, false, ◌||◌, List, [], ◌∷◌, ◌++◌, length, Option, Some, None, if◌then◌else◌, slice_get, take, map}
use Rattle.std.specs.List.{slice_index_or}
use Rattle.species_ast.specs.declared.action.Action.TheVariants.{Done, Fault}
use Rattle.species_ast.specs.declared.tree.Value.{Value}
use Rattle.species_ast.specs.Accesses.{Joins, Element, element_eq, Cells, look, cell, changed, Tree, Ret, Stop, Read, Write, Add}
use Rattle.species_ast.specs.Evaluation.{Frame}
use Rattle.bones_meaning.specs.Plays.{Turn, State, next_of, step_of}

-- ---- scripts

-- an action with its answer: a value is got, put, or added
pub data Act : Type 0 where
  Get : Element → Value → Act
  Put : Element → Value → Act
  Plus : Element → Value → Act

-- the actions to which these answers lead, without the end
abbrev pub told : {X : Type 0} → Tree X → List Value → List Act
told (Ret x) vs = []
told (Stop s why) vs = []
told (Read s p more) [] = []
told (Read s p more) (v ∷ vs) = Get p v ∷ told (more v) vs
told (Write s p v more) vs = Put p v ∷ told more vs
told (Add s p v more) vs = Plus p v ∷ told more vs

-- these answers lead to the end
abbrev pub Ends : {X : Type 0} → Tree X → List Value → Type 0
Ends (Ret x) vs = Unit {0}
Ends (Stop s why) vs = ⊥
Ends (Read s p more) [] = ⊥
Ends (Read s p more) (v ∷ vs) = Ends (more v) vs
Ends (Write s p v more) vs = Ends more vs
Ends (Add s p v more) vs = Ends more vs

-- an iteration, and the answers that its script gives to its reads
pub record Scripted (X : Type 0) : Type 0 where
  pub tree : Tree X
  pub answers : List Value

abbrev pub script_of : {X : Type 0} → Scripted X → List Act
script_of x = told x.tree x.answers

abbrev pub trees : {X : Type 0} → List (Scripted X) → List (Tree X)
trees xs = map (λ x. x.tree) xs

abbrev pub AllEnd : {X : Type 0} → List (Scripted X) → Type 0
AllEnd [] = Unit {0}
AllEnd (x ∷ xs) = Ends x.tree x.answers × AllEnd xs

-- the script of an iteration, by rank
abbrev pub nth : List (List Act) → ℕ → List Act
nth ss k = slice_index_or ss k []

-- ---- what a script does

abbrev pub act_on : Joins → Act → Cells → Cells
act_on join (Get p v) m = m
act_on join (Put p v) m = changed m p (λ c. v)
act_on join (Plus p v) m = changed m p (λ c. join p.array c v)

abbrev pub reads : Element → List Act → Bool
reads p [] = false
reads p (Get q v ∷ s) = element_eq p q || reads p s
reads p (Put q v ∷ s) = reads p s
reads p (Plus q v ∷ s) = reads p s

abbrev pub writes : Element → List Act → Bool
writes p [] = false
writes p (Get q v ∷ s) = writes p s
writes p (Put q v ∷ s) = element_eq p q || writes p s
writes p (Plus q v ∷ s) = writes p s

abbrev pub adds : Element → List Act → Bool
adds p [] = false
adds p (Get q v ∷ s) = adds p s
adds p (Put q v ∷ s) = adds p s
adds p (Plus q v ∷ s) = element_eq p q || adds p s

-- the values added to an element
abbrev pub values_added : Element → List Act → List Value
values_added p [] = []
values_added p (Get q v ∷ s) = values_added p s
values_added p (Put q v ∷ s) = values_added p s
values_added p (Plus q v ∷ s) = if element_eq p q then v ∷ values_added p s else values_added p s

-- a value joined with others, of an element of this array
abbrev pub joined_with : Joins → ℕ → Value → List Value → Value
joined_with join a c [] = c
joined_with join a c (v ∷ vs) = joined_with join a (join a c v) vs

-- the value of an element after these actions, where it was c before them
abbrev pub value_after : Joins → Element → List Act → Value → Value
value_after join p [] c = c
value_after join p (Get q v ∷ s) c = value_after join p s c
value_after join p (Put q v ∷ s) c = value_after join p s (if element_eq p q then v else c)
value_after join p (Plus q v ∷ s) c = value_after join p s (if element_eq p q then join p.array c v else c)

-- ---- scripts that fit, and scripts that are apart

-- A read is answered by what the iteration itself last left in the element, and before that by what these arrays have there.
abbrev pub FitsFrom : Joins → Cells → List Act → Type 0
FitsFrom join m [] = Unit {0}
FitsFrom join m (Get p v ∷ s) = (cell m p ≡ v) × FitsFrom join m s
FitsFrom join m (Put p v ∷ s) = FitsFrom join (act_on join (Put p v) m) s
FitsFrom join m (Plus p v ∷ s) = FitsFrom join (act_on join (Plus p v) m) s

abbrev pub Fits : Joins → Cells → List (List Act) → Type 0
Fits join first ss = (k : ℕ) → FitsFrom join first (nth ss k)

-- the iteration neither reads nor writes the element
abbrev pub LeavesAlone : Element → List Act → Type 0
LeavesAlone p s = (reads p s ≡ false) × (writes p s ≡ false)

-- Where one iteration writes an element, each other leaves it alone; where any adds to an element, none reads or writes it.
pub record AreApart (ss : List (List Act)) : Type 0 where
  pub written : (j k : ℕ) (p : Element) → j ≢ k → writes p (nth ss j) ≡ true → (reads p (nth ss k) ≡ false) × (writes p (nth ss k) ≡ false) × (adds p (nth ss k) ≡ false)
  pub gathered : (j k : ℕ) (p : Element) → adds p (nth ss j) ≡ true → LeavesAlone p (nth ss k)

-- iterations whose scripts end, fit these arrays, and are apart
pub record IsScripted {X : Type 0} (join : Joins) (first : Cells) (xs : List (Scripted X)) : Type 0 where
  pub ends : AllEnd xs
  pub fits : Fits join first (map script_of xs)
  pub apart : AreApart (map script_of xs)

-- ---- states that follow scripts

abbrev pub answers_in : List Act → List Value
answers_in [] = []
answers_in (Get p v ∷ s) = v ∷ answers_in s
answers_in (Put p v ∷ s) = answers_in s
answers_in (Plus p v ∷ s) = answers_in s

-- The actions that each iteration did are the first of its script, and its answers are the script's.
abbrev pub Along : List (List Act) → List Turn → Type 0
Along [] [] = Unit {0}
Along [] (t ∷ ts) = ⊥
Along (s ∷ ss) [] = ⊥
Along (s ∷ ss) (t ∷ ts) = (t.done ≤ length s) × (t.got ≡ answers_in (take t.done s)) × Along ss ts

-- what all iterations did so far, by rank and not by time
abbrev pub past : List (List Act) → List Turn → List Act
past [] ts = []
past (s ∷ ss) [] = []
past (s ∷ ss) (t ∷ ts) = take t.done s ++ past ss ts

abbrev pub done_at : List Turn → ℕ → ℕ
done_at ts k = slice_index_or (map (λ t. t.done) ts) k 0

abbrev pub through : (Value → Value) → Option Value → Option Value
through f None = None
through f (Some c) = Some (f c)

-- A state follows scripts from given arrays.
pub record Follows (join : Joins) (first : Cells) (ss : List (List Act)) (st : State) : Type 0 where
  pub along : Along ss st.turns
  pub sizes : map length st.cells ≡ map length first
  -- an element that an iteration writes has the last value that this one has written to it so far, or its first value
  pub written : (k : ℕ) (p : Element) → writes p (nth ss k) ≡ true → look st.cells p ≡ through (value_after join p (take (done_at st.turns k) (nth ss k))) (look first p)
  -- an element to which any adds has its first value, with which all that was added until now is joined
  pub gathered : (k : ℕ) (p : Element) → adds p (nth ss k) ≡ true → look st.cells p ≡ through (λ c. joined_with join p.array c (values_added p (past ss st.turns))) (look first p)
  -- each other element has its first value
  pub kept : (p : Element) → ((k : ℕ) → (writes p (nth ss k) ≡ false) × (adds p (nth ss k) ≡ false)) → look st.cells p ≡ look first p

-- ---- the laws of one nest

-- no next action is a fault
abbrev pub HasNoFault : {X : Type 0} → List (Tree X) → List Turn → Type 0
HasNoFault ts turns = (k : ℕ) (t : Tree _) (turn : Turn) → slice_get ts k ≡ Some t → slice_get turns k ≡ Some turn → next_of t turn ≢ Some Fault

-- each iteration is done
abbrev pub Complete : {X : Type 0} → List (Tree X) → List Turn → Type 0
Complete [] [] = Unit {0}
Complete [] (turn ∷ turns) = ⊥
Complete (t ∷ ts) [] = ⊥
Complete (t ∷ ts) (turn ∷ turns) = (next_of t turn ≡ Some Done) × Complete ts turns

-- Each step from a state that follows scripts leads to one that follows them.
abbrev pub StepsFollow : Joins → Type 0
StepsFollow join = (first : Cells) (xs : List (Scripted Frame)) (st : State)
    → IsScripted join first xs → Follows join first (map script_of xs) st
    → (k : ℕ) (new : State) → step_of join (trees xs) st k ≡ Some new → Follows join first (map script_of xs) new

-- In such a state no next action is a fault, and where not all iterations are done there is a step.
abbrev pub StatesGoOn : Joins → Type 0
StatesGoOn join = (first : Cells) (xs : List (Scripted Frame)) (st : State)
    → IsScripted join first xs → Follows join first (map script_of xs) st
    → HasNoFault (trees xs) st.turns × (Complete (trees xs) st.turns ⊎ ((k : ℕ) × (new : State) × (step_of join (trees xs) st k ≡ Some new)))

-- Two such states in which all iterations are done have equal arrays.
abbrev pub EndsAreEqual : Joins → Type 0
EndsAreEqual join = (first : Cells) (xs : List (Scripted Frame)) (st other : State)
    → IsScripted join first xs → Follows join first (map script_of xs) st → Follows join first (map script_of xs) other
    → Complete (trees xs) st.turns → Complete (trees xs) other.turns → st.cells ≡ other.cells
