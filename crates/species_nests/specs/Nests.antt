-- Nests: their loops and their body, their iterations in the source's order, and one iteration after another.
use Rattle.std.specs.Prelude.{ℕ, zero, suc, List, [], ◌∷◌, ◌++◌, map, flat_map, Option, Some, None, option_map, unwrap_or, ℤ}
use Rattle.species_ast.specs.declared.tree.Loop.{Loop, out-Loop}
use Rattle.species_ast.specs.declared.tree.Stmt.{Stmt, para-Stmt}
use Rattle.species_ast.specs.declared.tree.Stmt.TheOpen.{Stmt-F}
use Rattle.species_ast.specs.Accesses.{Joins, Cells, Tree, Ret, Stop, Read, Write, Add, Outcome, Ended, Stopped, run, Access, accesses, then_do}
use Rattle.species_ast.specs.Evaluation.{Frame, Context}
use Rattle.species_ast.specs.Run.{inside, does_scope, Takes, iteration, turns}
use Rattle.species_nests.specs.Arrivals.{header}

-- ---- loops, and what is perfectly nested in them

-- a loop at its position
pub record Placed : Type 0 where
  pub loop : Loop
  pub at : List ℕ

-- the loop that a list of one statement is; the position is that of the statement around it
abbrev pub only_of : List (List ℕ → Option Placed) → List ℕ → Option Placed
only_of [] at = None
only_of (x ∷ []) at = x (at ++ 0 ∷ [])
only_of (x ∷ y ∷ ss) at = None

abbrev pub sole_at : Stmt-F (Stmt × (List ℕ → Option Placed)) (Loop × Unit {0}) → List ℕ → Option Placed
sole_at (Stmt-F.For l) at = Some (record { loop = l.0; at = at })
sole_at (Stmt-F.Block body) at = only_of (map (λ x. x.1) body) at
sole_at s at = None

-- the loop that a statement is, where blocks of one statement are looked through
abbrev pub sole : Stmt → List ℕ → Option Placed
sole = para-Stmt (List ℕ → Option Placed) (Unit {0}) sole_at (λ l. tt)

abbrev pub only : List Stmt → List ℕ → Option Placed
only ss = only_of (map sole ss)

-- the loops in a statement, in the order of the text
abbrev pub loops_at : Stmt-F (Stmt × List Loop) (Loop × List Loop) → List Loop
loops_at (Stmt-F.If place test body otherwise) = flat_map (λ x. x.1) body ++ flat_map (λ x. x.1) otherwise
loops_at (Stmt-F.For l) = l.0 ∷ l.1
loops_at (Stmt-F.Block body) = flat_map (λ x. x.1) body
loops_at s = []

abbrev pub loops_of : Stmt → List Loop
loops_of = para-Stmt (List Loop) (List Loop) loops_at (λ l. flat_map (λ x. x.1) l.body)

abbrev pub loops_in : List Stmt → List Loop
loops_in ss = flat_map loops_of ss

-- A nest: its loops, the outermost first, and its body with the position of the innermost loop.
pub record Nest : Type 0 where
  pub loops : List Placed
  pub body : List Stmt
  pub at : List ℕ

-- the nest of so many loops that are perfectly nested in a body; of fewer, where there are fewer
abbrev pub nest_in : ℕ → List Stmt → List ℕ → Nest
nest_in zero body at = record { loops = []; body = body; at = at }
nest_in (suc d) body at = unwrap_or
    (option_map (λ l. let n = nest_in d (out-Loop l.loop).body l.at in record n { loops = l ∷ n.loops }) (only body at))
    (record { loops = []; body = body; at = at })

-- the nest that begins with a loop, and has so many loops below it
abbrev pub nest_of : ℕ → Loop → List ℕ → Nest
nest_of d l at = let n = nest_in d (out-Loop l).body at in record n { loops = record { loop = l; at = at } ∷ n.loops }

-- loops around what is done inside them
abbrev pub band : Context → List Placed → (Frame → Tree Frame) → Frame → Tree Frame
band w [] does f = does f
band w (l ∷ ls) does f = then_do (header w l.loop l.at f) (λ is. turns is (band w ls does) f)

abbrev pub around_body : Context → Nest → Frame → Tree Frame
around_body w n = band w n.loops (does_scope w n.body n.at 0)

-- ---- iterations

-- what is computed where nothing is read, written or added
abbrev pub at_once : {X : Type 0} → X → Tree X → X
at_once x (Ret y) = y
at_once x (Stop s why) = x
at_once x (Read s e more) = x
at_once x (Write s e v more) = x
at_once x (Add s e v more) = x

-- the values of a loop's iterator; no lawful header reads an array
abbrev pub values_in : Context → Placed → Frame → List ℤ
values_in w l f = at_once [] (header w l.loop l.at f)

-- The frames of the iterations of these loops, in the source's order; an iteration's rank is its number in this list.
abbrev pub frames : Context → List Placed → Frame → List Frame
frames w [] f = f ∷ []
frames w (l ∷ ls) f = flat_map (λ i. frames w ls (inside f i)) (values_in w l f)

-- the headers of these loops are evaluated, and give the same frames
abbrev pub frames_in : (Frame → Tree (List Frame)) → List ℤ → Frame → Tree (List Frame)
frames_in each [] f = Ret []
frames_in each (i ∷ is) f = then_do (each (inside f i)) (λ gs. then_do (frames_in each is f) (λ hs. Ret (gs ++ hs)))

abbrev pub headers : Context → List Placed → Frame → Tree (List Frame)
headers w [] f = Ret (f ∷ [])
headers w (l ∷ ls) f = then_do (header w l.loop l.at f) (λ is. frames_in (headers w ls) is f)

-- what each iteration does from its frame: in the source, and as an iteration of a parallel nest
abbrev pub source_iterations : Context → Nest → List Frame → List (Tree Frame)
source_iterations w n fs = map (λ g. does_scope w n.body n.at 0 g) fs

abbrev pub iterations : Takes → Context → Nest → List Frame → List (Tree Frame)
iterations takes w n fs = map (λ g. iteration takes w n.body n.at g) fs

-- ---- one iteration after another

abbrev pub arrays_of : {X : Type 0} → Outcome X → Option Cells
arrays_of (Ended x m) = Some m
arrays_of (Stopped why place) = None

abbrev pub then_all : Option Cells → (Cells → Option Cells) → Option Cells
then_all None next = None
then_all (Some m) next = next m

-- the arrays in which they end, one after another
abbrev pub run_all : {X : Type 0} → Joins → List (Tree X) → Cells → Option Cells
run_all join [] m = Some m
run_all join (t ∷ ts) m = then_all (arrays_of (run join t m)) (run_all join ts)

abbrev pub then_traces : Option Cells → (Cells → List (List Access)) → List (List Access)
then_traces None next = []
then_traces (Some m) next = next m

-- the accesses of each
abbrev pub traces : {X : Type 0} → Joins → List (Tree X) → Cells → List (List Access)
traces join [] m = []
traces join (t ∷ ts) m = accesses join t m ∷ then_traces (arrays_of (run join t m)) (traces join ts)
