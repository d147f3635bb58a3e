-- What statements do, and so programs: each is a tree of accesses, put together from the trees of its parts in the order of
-- the text (C17 6.8). Parallel marks and species lines mean nothing here.
use Rattle.std.specs.Prelude.{◌≡◌, replicate, All, ℕ, zero, suc, ◌+◌, ◌/◌, List, [], ◌∷◌, ◌++◌, map, flat_map, length, Bool, true, false, not, nat_eq, if◌then◌else◌, ℤ, pos, ◌+ℤ◌, ◌-ℤ◌, neg_ℤ, Option, Some, None}
use Rattle.std.specs.List.{list_any}
use Rattle.species_ast.specs.declared.action.Action.{Action}
use Rattle.species_ast.specs.declared.tree.Kind.{Kind}
use Rattle.species_ast.specs.declared.tree.Kind.TheVariants as kind
use Rattle.species_ast.specs.declared.tree.Value.{Value}
use Rattle.species_ast.specs.declared.tree.Binary.TheVariants as binary
use Rattle.species_ast.specs.declared.tree.Test.{Test}
use Rattle.species_ast.specs.declared.tree.Test.TheVariants.{Lt, Le, Gt, Ge}
use Rattle.species_ast.specs.declared.tree.Expr.{Expr}
use Rattle.species_ast.specs.declared.tree.Stmt.{Stmt, fold-Stmt}
use Rattle.species_ast.specs.declared.tree.Loop.{Loop, fold-Loop}
use Rattle.species_ast.specs.declared.tree.Stmt.TheOpen.{Stmt-F, Loop-F}
use Rattle.species_ast.specs.declared.tree.Array.{Array}
use Rattle.species_ast.specs.declared.tree.Unit.{Unit}
use Rattle.species_ast.specs.Operators.{kind_of, in_kind, IsValue, number_of, is_signed, reduced, converted, is_true, binary_of}
use Rattle.species_ast.specs.Accesses.{Cells, Joins, sums, Forbidden, Tree, Ret, Stop, Read, Write, Add, then_do, Outcome, IsDefined, run, Access, accesses, acts}
use Rattle.species_ast.specs.Strip.{source_of}
use Rattle.species_ast.specs.Evaluation.{product, Frame, Context, Spot, array_kind, local_kind, with_local, site_at, answered, element_at, Sense, elements_in, target_of, sense}

-- ---- statements

-- a piece of program at a statement's position, from a frame to a frame
abbrev pub Doing : Type 0
Doing = List ℕ → Frame → Tree Frame

-- A statement: the locals that it declares in the list where it stands, and what it does.
pub record Step : Type 0 where
  pub declares : List ℕ
  pub does : Doing

-- the statements of a list, of which the first has number k inside the statement around it
abbrev pub list_of : List Step → List ℕ → ℕ → Frame → Tree Frame
list_of [] at k f = Ret f
list_of (s ∷ ss) at k f = then_do (s.does (at ++ k ∷ []) f) (list_of ss at (suc k))

abbrev pub declared_in : List Step → List ℕ
declared_in ss = flat_map (λ s. s.declares) ss

-- the frame, where these locals have no value
abbrev pub cleared : List ℕ → Frame → Frame
cleared [] f = f
cleared (x ∷ xs) f = cleared xs (with_local f x None)

-- a list that is a scope: at its end the locals that it declares have no value (C17 6.2.1, 6.2.4)
abbrev pub scope_of : List Step → List ℕ → ℕ → Frame → Tree Frame
scope_of ss at k f = then_do (list_of ss at k f) (λ g. Ret (cleared (declared_in ss) g))

-- inside a turn of a loop, and after it
abbrev pub inside : Frame → ℤ → Frame
inside f i = record f { iters = f.iters ++ i ∷ [] }

abbrev pub outside : Frame → Frame → Frame
outside f g = record g { iters = f.iters }

-- the turns of a loop whose iterator takes these values
abbrev pub turns : List ℤ → (Frame → Tree Frame) → Frame → Tree Frame
turns [] body f = Ret f
turns (i ∷ is) body f = then_do (body (inside f i)) (λ g. turns is body (outside f g))

-- how many whole numbers from the start on, in the direction of the test, pass it
abbrev pub distance : Test → ℤ → ℤ → ℤ
distance Lt start limit = limit -ℤ start
distance Le start limit = limit +ℤ pos 1 -ℤ start
distance Gt start limit = start -ℤ limit
distance Ge start limit = start +ℤ pos 1 -ℤ limit

-- the step in the direction of the test
abbrev pub pace : Test → ℤ → ℤ
pace Lt step = step
pace Le step = step
pace Gt step = neg_ℤ step
pace Ge step = neg_ℤ step

-- how many numbers from 0 by this pace are below the distance; a pace of 0 or less, which no lawful loop has, gives none
abbrev pub turns_in : ℤ → ℤ → ℕ
turns_in (pos d) (pos zero) = 0
turns_in (pos d) (pos (suc p)) = (d + p) / suc p
turns_in d p = 0

-- this many numbers, of which the first is the start and each other is a step further
abbrev pub counted : ℕ → ℤ → ℤ → List ℤ
counted zero start step = []
counted (suc n) start step = start ∷ counted n (start +ℤ step) step

-- the values of a loop's iterator: from the start on, each a step further, as long as they pass the test
abbrev pub iterator_values : Test → ℤ → ℤ → ℤ → List ℤ
iterator_values test start limit step = counted (turns_in (distance test start limit) (pace test step)) start step

-- a loop: the start and the limit are evaluated once, as values of the iterator's kind, and then come the turns
abbrev pub looping : Test → ℤ → Sense → Sense → (Frame → Tree Frame) → Spot → Frame → Tree Frame
looping test step start limit body s f =
    then_do (start.does s 0 f) (λ a. then_do (limit.does s start.elements f) (λ b.
    turns (iterator_values test (reduced kind.Int (number_of a)) (reduced kind.Int (number_of b)) step) body f))

-- an assignment to an element: the target's indices, the value, the write
abbrev pub assignment : Context → ℕ → List Sense → Sense → Spot → Frame → Tree Frame
assignment w a subs value s f =
    then_do (target_of w a subs s 0 f) (λ is.
    then_do (value.does s (suc (elements_in subs)) f) (λ v.
    Write (site_at s (elements_in subs) f is) (element_at w a is) (converted (array_kind w a) v) (Ret f)))

-- what a declaration's initialiser gives; while it is evaluated the local has no value
abbrev pub initial : Context → Kind → Spot → Option Expr → Frame → Tree (Option Value)
initial w k s None f = Ret None
initial w k s (Some e) f = then_do ((sense w e).does s 0 f) (λ v. Ret (Some (converted k v)))

-- `+=` on an element with these indices: without atomic a read, the sum and a write; with atomic one addition
abbrev pub addition : Context → ℕ → Bool → ℕ → Sense → Spot → List ℕ → Frame → Tree Frame
addition w a false n value s is f =
    Read (site_at s n f is) (element_at w a is) (λ old.
    then_do (value.does s (suc n) f) (λ v.
    then_do (answered (site_at s n f is) (binary_of binary.Add old v)) (λ sum.
    Write (site_at s n f is) (element_at w a is) (converted (array_kind w a) sum) (Ret f))))
addition w a true n value s is f =
    then_do (value.does s (suc n) f) (λ v.
    if w.may_add a (array_kind w a) then Add (site_at s n f is) (element_at w a is) (converted (array_kind w a) v) (Ret f) else Stop (site_at s n f is) Forbidden)

abbrev pub adding : Context → ℕ → Bool → List Sense → Sense → Spot → Frame → Tree Frame
adding w a atomic subs value s f = then_do (target_of w a subs s 0 f) (λ is. addition w a atomic (elements_in subs) value s is f)

-- a local is set
abbrev pub setting : Context → ℕ → Sense → Spot → Frame → Tree Frame
setting w x value s f =
    then_do (value.does s 0 f) (λ v.
    if w.may_set x then Ret (with_local f x (Some (converted (local_kind w x) v))) else Stop (site_at s value.elements f []) Forbidden)

-- a declaration
abbrev pub declaring : Context → ℕ → Option Expr → Spot → Frame → Tree Frame
declaring w x init s f = then_do (initial w (local_kind w x) s init (with_local f x None)) (λ v. Ret (with_local f x v))

-- a choice between two scopes
abbrev pub branching : Sense → (Frame → Tree Frame) → (Frame → Tree Frame) → Spot → Frame → Tree Frame
branching test body otherwise s f = then_do (test.does s 0 f) (λ v. if is_true v then body f else otherwise f)

abbrev pub spot : ℕ → List ℕ → Spot
spot place at = record { statement = at; place = place }

-- a statement that declares nothing
abbrev pub plain : Doing → Step
plain does = record { declares = []; does = does }

abbrev pub step_at : Context → Stmt-F Step Doing → Step
step_at w (Stmt-F.Assign place a subs value) = plain (λ at. assignment w a (map (sense w) subs) (sense w value) (spot place at))
step_at w (Stmt-F.AddTo place a subs value atomic) = plain (λ at. adding w a atomic (map (sense w) subs) (sense w value) (spot place at))
step_at w (Stmt-F.Declare place x init) = record { declares = x ∷ []; does = λ at. declaring w x init (spot place at) }
step_at w (Stmt-F.SetLocal place x value) = plain (λ at. setting w x (sense w value) (spot place at))
step_at w (Stmt-F.If place test body otherwise) =
    plain (λ at. branching (sense w test) (scope_of body at 0) (scope_of otherwise at (length body)) (spot place at))
step_at w (Stmt-F.For l) = plain l
step_at w (Stmt-F.Block body) = plain (λ at. scope_of body at 0)

abbrev pub loop_at : Context → Loop-F Step Doing → Doing
loop_at w l at = looping l.test l.step (sense w l.start) (sense w l.limit) (scope_of l.body at 0) (spot l.place at)

abbrev pub step : Context → Stmt → Step
step w = fold-Stmt Step Doing (step_at w) (loop_at w)

abbrev pub loop_of : Context → Loop → Doing
loop_of w = fold-Loop Step Doing (step_at w) (loop_at w)

-- a list of statements, and a list that is a scope
abbrev pub does_list : Context → List Stmt → List ℕ → ℕ → Frame → Tree Frame
does_list w ss = list_of (map (step w) ss)

abbrev pub does_scope : Context → List Stmt → List ℕ → ℕ → Frame → Tree Frame
does_scope w ss = scope_of (map (step w) ss)

-- ---- the source's run

-- in a unit's own run all is allowed
abbrev pub source_context : Unit → Context
source_context u = record { arrays = u.arrays; locals = u.locals; may_set = λ x. true; may_add = λ a k. true }

abbrev pub first_frame : Unit → Frame
first_frame u = record { iters = []; locals = map (λ l. None) u.locals }

-- what a program does
abbrev pub program_of : Unit → Tree Frame
program_of u = does_list (source_context u) u.body [] 0 (first_frame u)

-- the arrays of these declarations with all elements 0, as those that the data does not name begin
abbrev pub zeros_of : List Array → Cells
zeros_of arrays = map (λ a. replicate (product a.dims) (in_kind a.kind (pos 0))) arrays

-- one row of values for each array, as long as the array has elements, of the array's kind
abbrev pub AreArraysOf : List Array → Cells → Type 0
AreArraysOf [] [] = Prim.Unit {0}
AreArraysOf [] (row ∷ rows) = ⊥
AreArraysOf (a ∷ arrays) [] = ⊥
AreArraysOf (a ∷ arrays) (row ∷ rows) = (length row ≡ product a.dims) × All (λ v. (kind_of v ≡ a.kind) × IsValue v) row × AreArraysOf arrays rows

-- The run of a program from given arrays, and its accesses. Of a unit without atomic additions it is the same for all joins.
abbrev pub source_run : Joins → Unit → Cells → Outcome Frame
source_run join u m = run join (program_of u) m

abbrev pub source_accesses : Joins → Unit → Cells → List Access
source_accesses join u m = accesses join (program_of u) m

-- from these arrays the run of a unit's source comes to its end
abbrev pub HasDefinedSource : Unit → Cells → Type 0
HasDefinedSource u m = IsDefined (source_run sums (source_of u) m)

-- ---- one iteration of a nest

-- the locals that are declared in a statement, at any depth
abbrev pub locals_at : Stmt-F (List ℕ) (List ℕ) → List ℕ
locals_at (Stmt-F.Declare place x init) = x ∷ []
locals_at (Stmt-F.If place test body otherwise) = flat_map (λ xs. xs) body ++ flat_map (λ xs. xs) otherwise
locals_at (Stmt-F.For l) = l
locals_at (Stmt-F.Block body) = flat_map (λ xs. xs) body
locals_at s = []

abbrev pub locals_of : Stmt → List ℕ
locals_of = fold-Stmt (List ℕ) (List ℕ) locals_at (λ l. flat_map (λ xs. xs) l.body)

abbrev pub locals_in : List Stmt → List ℕ
locals_in ss = flat_map (λ xs. xs) (map locals_of ss)

-- which joins there are: whether an array of this kind may be added to atomically
abbrev pub Takes : Type 0
Takes = ℕ → Kind → Bool

-- sums are of unsigned kinds
abbrev pub sums_take : Takes
sums_take a k = not (is_signed k)

-- an iteration sets only locals that its body declares, and adds atomically only to arrays that take it
abbrev pub iteration_in : Takes → Context → List Stmt → Context
iteration_in takes w body = record w { may_set = λ x. list_any (nat_eq x) (locals_in body); may_add = takes }

-- what an iteration does whose body stands at this position
abbrev pub iteration : Takes → Context → List Stmt → List ℕ → Frame → Tree Frame
iteration takes w body at f = does_scope (iteration_in takes w body) body at 0 f

-- the actions of an iteration whose reads are answered in order by the answers
abbrev pub actions : Takes → Context → List Stmt → Frame → List Value → List Action
actions takes w body f answers = acts (iteration takes w body [] f) answers
