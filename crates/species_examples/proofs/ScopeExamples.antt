-- Small programs, what they become, and why they are refused, by computation.
use Rattle.std.proofs.Common.{◌≡◌, refl, List, [], ◌∷◌, map, None, true, false, pos}
use Rattle.std.specs.Prelude.{codes}
use Prim.Native.String.{String}
use Rattle.species_ast.specs.declared.tree.Kind.TheVariants as kind
use Rattle.species_ast.specs.declared.tree.Binary.TheVariants as binary
use Rattle.species_ast.specs.declared.tree.Test.TheVariants as test
use Rattle.species_ast.specs.declared.tree.Schedule.TheVariants as schedule
use Rattle.species_ast.specs.declared.tree.Mark.TheVariants as mark
use Rattle.species_ast.specs.declared.tree.Expr.TheVariants as expr
use Rattle.species_ast.specs.declared.tree.Stmt.{Stmt}
use Rattle.species_ast.specs.declared.tree.Stmt.TheVariants as stmt
use Rattle.species_ast.specs.declared.tree.Loop.{roll-Loop}
use Rattle.species_ast.specs.declared.tree.Array.{Array}
use Rattle.species_ast.specs.declared.raw.RawOp.TheVariants as op
use Rattle.species_ast.specs.Scope.Refusals.{Limit, Refusal}
use Rattle.species_ast.specs.Scope.WellMade.{Around, list_holds, made}
use Rattle.species_examples.proofs.ScopeParts.{at, num, spot, elem, var, bin, set, up, down_before, atomic, plain, with_value, declare, block, empty, if_else, KnownStep, plus_plus, minus_minus, add_by, loop, count_up, old_loop, marked, KnownProgram, program, answers, answer, becomes, become, refused, k_at_5, k_at_15, a4, int, unit, int_local, array_a, loop_to_4, folded}

-- ---- names

-- Each example: the text, the program with its places, and the answer. Places that no answer has may be made up.

-- `void k(void) { A[0] = 1; }`
unknown : answers (program [] k_at_5 (set 15 (spot 15 "A" (num 17 0 ∷ [])) op.Plain (num 22 1) ∷ [])) (refused Refusal.Unknown 15)
unknown = answer (program [] k_at_5 (set 15 (spot 15 "A" (num 17 0 ∷ [])) op.Plain (num 22 1) ∷ [])) _ refl

-- `void k(void) { k = 1; }`: the function's name has no use in its body
unknown_function : answers (program [] k_at_5 (set 15 (spot 15 "k" []) op.Plain (num 19 1) ∷ [])) (refused Refusal.Unknown 15)
unknown_function = answer (program [] k_at_5 (set 15 (spot 15 "k" []) op.Plain (num 19 1) ∷ [])) _ refl

-- `int A[4]; void A(void) { }`
duplicate_function : answers (program (a4 ∷ []) (at 15 "A") []) (refused Refusal.Duplicate 15)
duplicate_function = answer (program (a4 ∷ []) (at 15 "A") []) _ refl

-- `int A[4]; int A[4]; void k(void) { }`
duplicate_array : answers (program (a4 ∷ record { name = at 14 "A"; sizes = num 16 4 ∷ [] } ∷ []) (at 25 "k") []) (refused Refusal.Duplicate 14)
duplicate_array = answer (program (a4 ∷ record { name = at 14 "A"; sizes = num 16 4 ∷ [] } ∷ []) (at 25 "k") []) _ refl

-- `void k(void) { int k; }`
abbrev local_k : KnownProgram
local_k = program [] k_at_5 (declare 15 kind.Int (plain 19 "k" ∷ []) ∷ [])

duplicate_local : answers local_k (refused Refusal.Duplicate 19)
duplicate_local = answer local_k _ refl

-- `void k(void) { for (int k = 0; k < 4; k++) ; }`
duplicate_iterator : answers (program [] k_at_5 (count_up 15 "k" (num 35 4) (empty 43) ∷ [])) (refused Refusal.Duplicate 24)
duplicate_iterator = answer (program [] k_at_5 (count_up 15 "k" (num 35 4) (empty 43) ∷ [])) _ refl

-- `void k(void) { int x; { int x; } }`
abbrev hidden : KnownProgram
hidden = program [] k_at_5 (declare 15 kind.Int (plain 19 "x" ∷ []) ∷ block 22 (declare 24 kind.Int (plain 28 "x" ∷ []) ∷ []) ∷ [])

duplicate_in_block : answers hidden (refused Refusal.Duplicate 28)
duplicate_in_block = answer hidden _ refl

-- `int A[4]; void k(void) { A[0][1] = 1; }`
abbrev two_subscripts : KnownProgram
two_subscripts = program (a4 ∷ []) k_at_15 (set 25 (spot 25 "A" (num 27 0 ∷ num 30 1 ∷ [])) op.Plain (num 35 1) ∷ [])

too_many_subscripts : answers two_subscripts (refused Refusal.DimensionCount 25)
too_many_subscripts = answer two_subscripts _ refl

-- `void k(void) { for (int i = 0; i < 4; i++) i[0] = 1; }`
abbrev iterator_with_subscript : KnownProgram
iterator_with_subscript = program [] k_at_5 (count_up 15 "i" (num 35 4) (set 43 (spot 43 "i" (num 45 0 ∷ [])) op.Plain (num 50 1)) ∷ [])

subscript_of_iterator : answers iterator_with_subscript (refused Refusal.DimensionCount 43)
subscript_of_iterator = answer iterator_with_subscript _ refl

-- `void k(void) { for (int i = 0; i < 4; i++) i = 2; }`
abbrev set_iterator : KnownProgram
set_iterator = program [] k_at_5 (count_up 15 "i" (num 35 4) (set 43 (spot 43 "i" []) op.Plain (num 47 2)) ∷ [])

iterator_set : answers set_iterator (refused Refusal.IteratorAssigned 43)
iterator_set = answer set_iterator _ refl

-- ---- loops without `int`

-- `int A[4]; void k(void) { for (A = 0; A < 4; A++) ; }`
abbrev over_array : KnownProgram
over_array = program (a4 ∷ []) k_at_15 (old_loop 25 "A" (num 34 0) (empty 49) ∷ [])

array_as_iterator : answers over_array (refused Refusal.IteratorAssigned 30)
array_as_iterator = answer over_array _ refl

-- `void k(void) { int i = 0; for (i = 0; i < 4; i++) ; }`
abbrev over_initialised : KnownProgram
over_initialised = program [] k_at_5 (declare 15 kind.Int (with_value 19 "i" (num 23 0) ∷ []) ∷ old_loop 26 "i" (num 35 0) (empty 50) ∷ [])

initialised_iterator : answers over_initialised (refused Refusal.IteratorAssigned 31)
initialised_iterator = answer over_initialised _ refl

-- `void k(void) { int i; for (i = 0; i < 4; i++) for (i = 0; i < 4; i++) ; }`
abbrev over_itself : KnownProgram
over_itself = program [] k_at_5 (declare 15 kind.Int (plain 19 "i" ∷ []) ∷ old_loop 22 "i" (num 31 0) (old_loop 46 "i" (num 55 0) (empty 70)) ∷ [])

iterator_of_loop_around : answers over_itself (refused Refusal.IteratorAssigned 51)
iterator_of_loop_around = answer over_itself _ refl

-- `void k(void) { for (i = 0; i < 4; i++) ; }`
unknown_iterator : answers (program [] k_at_5 (old_loop 15 "i" (num 24 0) (empty 39) ∷ [])) (refused Refusal.Unknown 20)
unknown_iterator = answer (program [] k_at_5 (old_loop 15 "i" (num 24 0) (empty 39) ∷ [])) _ refl

-- `void k(void) { int i; for (i = i; i < 4; i++) ; }`
abbrev from_itself : KnownProgram
from_itself = program [] k_at_5 (declare 15 kind.Int (plain 19 "i" ∷ []) ∷ old_loop 22 "i" (var 31 "i") (empty 46) ∷ [])

start_outside : answers from_itself (refused Refusal.IteratorOutside 31)
start_outside = answer from_itself _ refl

-- `void k(void) { int i; i = 1; for (i = 0; i < 4; i++) ; }`
abbrev set_before : KnownProgram
set_before = program [] k_at_5 (declare 15 kind.Int (plain 19 "i" ∷ []) ∷ set 22 (spot 22 "i" []) op.Plain (num 26 1) ∷ old_loop 29 "i" (num 38 0) (empty 53) ∷ [])

used_outside : answers set_before (refused Refusal.IteratorOutside 22)
used_outside = answer set_before _ refl

-- `void k(void) { int i; i = 1; { int i; for (i = 0; i < 4; i++) ; } }`: the loop's iterator is the later `i`
abbrev later_local : KnownProgram
later_local = program [] k_at_5 (declare 15 kind.Int (plain 19 "i" ∷ []) ∷ set 22 (spot 22 "i" []) op.Plain (num 26 1)
    ∷ block 29 (declare 31 kind.Int (plain 35 "i" ∷ []) ∷ old_loop 38 "i" (num 47 0) (empty 62) ∷ []) ∷ [])

later_declaration : answers later_local (refused Refusal.Duplicate 35)
later_declaration = answer later_local _ refl

-- `void k(void) { unsigned i; i = 1; for (i = 0; i < 4; i++) ; }`: the loop is refused, and its local counts as an iterator
abbrev unsigned_iterator : KnownProgram
unsigned_iterator = program [] k_at_5 (declare 15 kind.Unsigned (plain 24 "i" ∷ []) ∷ set 27 (spot 27 "i" []) op.Plain (num 31 1) ∷ old_loop 34 "i" (num 43 0) (empty 58) ∷ [])

used_before_refused_loop : answers unsigned_iterator (refused Refusal.IteratorOutside 27)
used_before_refused_loop = answer unsigned_iterator _ refl

-- an atomic addition to an iterator
abbrev atomic_iterator : KnownProgram
atomic_iterator = program [] k_at_5 (count_up 15 "i" (num 35 4) (atomic 70 (spot 70 "i" []) (num 75 1)) ∷ [])

atomic_on_iterator : answers atomic_iterator (refused Refusal.IteratorAssigned 70)
atomic_on_iterator = answer atomic_iterator _ refl

-- ---- bounds, sizes and steps

-- `int A[4]; void k(void) { int n = 4; for (int i = 0; i < n; i++) A[i] = 1; }`
abbrev bound_by_local : KnownProgram
bound_by_local = program (a4 ∷ []) k_at_15 (declare 25 kind.Int (with_value 29 "n" (num 33 4) ∷ [])
    ∷ count_up 36 "i" (var 56 "n") (set 64 (spot 64 "A" (var 66 "i" ∷ [])) op.Plain (num 71 1)) ∷ [])

local_bound : answers bound_by_local (refused Refusal.NotStatic 56)
local_bound = answer bound_by_local _ (simp folded refl)

-- `void k(void) { for (int i = 0; i < i - i; i++) ; }`
abbrev bound_by_itself : KnownProgram
bound_by_itself = program [] k_at_5 (count_up 15 "i" (bin 35 binary.Sub (var 35 "i") (var 39 "i")) (empty 47) ∷ [])

own_bound : answers bound_by_itself (refused Refusal.NotStatic 35)
own_bound = answer bound_by_itself _ (simp folded refl)

-- `int A[4]; int B[A[0]]; void k(void) { }`
abbrev size_by_element : KnownProgram
size_by_element = program (a4 ∷ record { name = at 14 "B"; sizes = elem 16 "A" (num 18 0 ∷ []) ∷ [] } ∷ []) (at 28 "k") []

element_as_size : answers size_by_element (refused Refusal.NotStatic 16)
element_as_size = answer size_by_element _ (simp folded refl)

-- `int B[A[0]], A[4]; ..`: an array is not in scope before its declarator
abbrev size_before : KnownProgram
size_before = program (record { name = at 4 "B"; sizes = elem 6 "A" (num 8 0 ∷ []) ∷ [] } ∷ record { name = at 13 "A"; sizes = num 15 4 ∷ [] } ∷ []) (at 24 "k") []

unknown_in_size : answers size_before (refused Refusal.Unknown 6)
unknown_in_size = answer size_before _ refl

-- a loop at 15 with the iterator i from 0 up to 4 with this step: `void k(void) { for (int i = 0; i < 4; ..) ; }`
abbrev with_step : String → KnownStep → KnownProgram
with_step tested by = program [] k_at_5 (loop 15 (record { parallel = None; typed = true; iter = at 24 "i"; start = num 28 0; tested = at 31 tested; test = test.Lt; limit = num 35 4; step = by; body = empty 50 }) ∷ [])

no_step : answers (with_step "i" (add_by 38 "i" (num 43 0))) (refused Refusal.BadStep 15)
no_step = answer (with_step "i" (add_by 38 "i" (num 43 0))) _ (simp folded refl)

wrong_direction : answers (with_step "i" (minus_minus 38 "i")) (refused Refusal.BadStep 15)
wrong_direction = answer (with_step "i" (minus_minus 38 "i")) _ (simp folded refl)

-- a name in the header that has no declaration is that first
unknown_in_header : answers (with_step "j" (plus_plus 38 "i")) (refused Refusal.Unknown 31)
unknown_in_header = answer (with_step "j" (plus_plus 38 "i")) _ refl

-- `void k(void) { int j; for (int i = 0; i < 4; j++) ; }`
abbrev other_variable : KnownProgram
other_variable = program [] k_at_5 (declare 15 kind.Int (plain 19 "j" ∷ []) ∷ loop 22 (record { parallel = None; typed = true; iter = at 31 "i"; start = num 35 0; tested = at 38 "i"; test = test.Lt; limit = num 42 4; step = plus_plus 45 "j"; body = empty 50 }) ∷ [])

two_variables : answers other_variable (refused Refusal.BadStep 22)
two_variables = answer other_variable _ (simp folded refl)

-- ---- limits and marks

-- `int A[1 - 1]; void k(void) { }`
abbrev no_elements : KnownProgram
no_elements = program (record { name = at 4 "A"; sizes = bin 6 binary.Sub (num 6 1) (num 10 1) ∷ [] } ∷ []) (at 19 "k") []

empty_array : answers no_elements (refused (Refusal.LimitPassed Limit.Elements) 4)
empty_array = answer no_elements _ (simp folded refl)

-- `int A[1][1][1][1][0]; void k(void) { }`: too many dimensions comes before too few elements
abbrev five_dimensions : KnownProgram
five_dimensions = program (record { name = at 4 "A"; sizes = num 6 1 ∷ num 9 1 ∷ num 12 1 ∷ num 15 1 ∷ num 18 0 ∷ [] } ∷ []) (at 27 "k") []

dimensions_first : answers five_dimensions (refused (Refusal.LimitPassed Limit.Dims) 4)
dimensions_first = answer five_dimensions _ (simp folded refl)

-- `int A[16777217]; void k(void) { }`
abbrev large : KnownProgram
large = program (record { name = at 4 "A"; sizes = num 6 16777217 ∷ [] } ∷ []) (at 22 "k") []

large_array : answers large (refused (Refusal.LimitPassed Limit.Elements) 4)
large_array = answer large _ (simp folded refl)

-- ---- units

-- `void k(void) { int x; if (1) x -= 1; else ; }`
abbrev branches : KnownProgram
branches = program [] k_at_5 (declare 15 kind.Int (plain 19 "x" ∷ []) ∷ if_else 22 (num 26 1) (set 29 (spot 29 "x" []) op.Sub (num 34 1)) (empty 42) ∷ [])

empty_else : becomes branches (unit [] (int_local "x" ∷ []) (
    stmt.Declare 19 0 None
    ∷ stmt.If 22 (int 1) (stmt.SetLocal 29 0 (expr.Binary binary.Sub (expr.Local 0) (int 1)) ∷ []) [] ∷ []))
empty_else = become branches _ refl

-- `int A[4]; void k(void) { for (int i = 0; i < 4; i++) { A[i]++; --A[i]; } }`
abbrev changes : KnownProgram
changes = program (a4 ∷ []) k_at_15 (count_up 25 "i" (num 45 4) (block 53 (up 55 (spot 55 "A" (var 57 "i" ∷ [])) ∷ down_before 63 (spot 65 "A" (var 67 "i" ∷ [])) ∷ [])) ∷ [])

increments : becomes changes (unit (array_a ∷ []) [] (loop_to_4 25 "i" (
    stmt.AddTo 55 0 (expr.Iter 0 ∷ []) (int 1) false
    ∷ stmt.Assign 63 0 (expr.Iter 0 ∷ []) (expr.Binary binary.Sub (expr.Elem 0 (expr.Iter 0 ∷ [])) (int 1)) ∷ []) ∷ []))
increments = become changes _ (simp folded refl)

-- `void k(void) { int i, x; for (i = 0; i < 4; i++) x = i; }`: `i` leaves nothing behind, so `x` has the number 0
abbrev two_locals : KnownProgram
two_locals = program [] k_at_5 (declare 15 kind.Int (plain 19 "i" ∷ plain 22 "x" ∷ []) ∷ old_loop 25 "i" (num 34 0) (set 49 (spot 49 "x" []) op.Plain (var 53 "i")) ∷ [])

numbers_of_locals : becomes two_locals (unit [] (int_local "x" ∷ []) (
    stmt.Declare 22 0 None ∷ loop_to_4 25 "i" (stmt.SetLocal 49 0 (expr.Iter 0) ∷ []) ∷ []))
numbers_of_locals = become two_locals _ refl

-- `void k(void) { { int x; { } } { int x; ; } }`: two locals of one name, and a block in a block
abbrev blocks : KnownProgram
blocks = program [] k_at_5 (block 15 (declare 17 kind.Int (plain 21 "x" ∷ []) ∷ block 24 [] ∷ []) ∷ block 30 (declare 32 kind.Int (plain 36 "x" ∷ []) ∷ empty 39 ∷ []) ∷ [])

nested_blocks : becomes blocks (unit [] (int_local "x" ∷ int_local "x" ∷ []) (
    stmt.Block (stmt.Declare 21 0 None ∷ stmt.Block [] ∷ []) ∷ stmt.Block (stmt.Declare 36 1 None ∷ []) ∷ []))
nested_blocks = become blocks _ refl

-- a mark of depth 2 on a loop over a block of one loop: it fits
abbrev two_deep : KnownProgram
two_deep = program [] k_at_5 (marked 2 20 "i" (num 40 4) (block 50 (block 55 (count_up 60 "j" (num 80 4) (empty 90) ∷ []) ∷ [])) ∷ [])

abbrev two_deep_body : List Stmt
two_deep_body = stmt.For (roll-Loop (record { place = 20; iter = codes "i"; start = int 0; test = test.Lt; limit = int 4; step = pos 1; body = stmt.Block (loop_to_4 60 "j" [] ∷ []) ∷ []; line = None; mark = mark.Parallel 2 schedule.Static })) ∷ []

marked_two_deep : becomes two_deep (unit [] [] two_deep_body)
marked_two_deep = become two_deep _ refl

-- what its unit names is there, and its loops have bounds and steps ..
abbrev outside_all : List Array → Around
outside_all arrays = record { arrays = arrays; locals = []; level = 0 }

two_deep_made : list_holds (map made two_deep_body) (outside_all []) ≡ true
two_deep_made = simp folded refl

-- .. but a statement sets here a local which is declared in an earlier block
lost_local : list_holds (map made (stmt.Block (stmt.Declare 0 0 None ∷ []) ∷ stmt.SetLocal 9 0 (int 1) ∷ [])) (outside_all []) ≡ false
lost_local = simp folded refl

-- and here an element has two subscripts, of an array of one dimension
one_dimension : list_holds (map made (stmt.Assign 0 0 (int 1 ∷ int 2 ∷ []) (int 1) ∷ [])) (outside_all (array_a ∷ [])) ≡ false
one_dimension = simp folded refl

-- `x += 1` under an atomic pragma is no addition to an array: `void k(void) { int x; x += 1; }`, and `A[0] += 1` is one
abbrev atomics : KnownProgram
atomics = program (a4 ∷ []) k_at_15 (declare 25 kind.Int (plain 29 "x" ∷ []) ∷ atomic 60 (spot 60 "x" []) (num 65 1) ∷ atomic 100 (spot 100 "A" (num 102 0 ∷ [])) (num 108 1) ∷ [])

atomic_on_local : becomes atomics (unit (array_a ∷ []) (int_local "x" ∷ []) (
    stmt.Declare 29 0 None
    ∷ stmt.SetLocal 60 0 (expr.Binary binary.Add (expr.Local 0) (int 1))
    ∷ stmt.AddTo 100 0 (int 0 ∷ []) (int 1) true ∷ []))
atomic_on_local = become atomics _ (simp folded refl)

-- `i += i - i + 2` is a step of 2
abbrev by_two : KnownProgram
by_two = with_step "i" (add_by 38 "i" (bin 43 binary.Add (bin 43 binary.Sub (var 43 "i") (var 47 "i")) (num 51 2)))

constant_step : becomes by_two (unit [] [] (stmt.For (roll-Loop (record { place = 15; iter = codes "i"; start = int 0; test = test.Lt; limit = int 4; step = pos 2; body = []; line = None; mark = mark.Plain })) ∷ []))
constant_step = become by_two _ (simp folded refl)

-- `void k(void) { int i; for (i = 0; i < 4; i++) ; for (i = 0; i < 4; i++) ; }`
abbrev two_loops : KnownProgram
two_loops = program [] k_at_5 (declare 15 kind.Int (plain 19 "i" ∷ []) ∷ old_loop 22 "i" (num 31 0) (empty 46) ∷ old_loop 48 "i" (num 57 0) (empty 72) ∷ [])

one_local_twice : becomes two_loops (unit [] [] (loop_to_4 22 "i" [] ∷ loop_to_4 48 "i" [] ∷ []))
one_local_twice = become two_loops _ refl

-- a bound that is not affine, and behind it a name without a meaning: names are looked at first
abbrev bound_then_name : KnownProgram
bound_then_name = program [] k_at_5 (declare 15 kind.Int (plain 19 "n" ∷ []) ∷ count_up 22 "i" (var 42 "n") (set 50 (spot 50 "x" []) op.Plain (num 54 1)) ∷ [])

names_before_bounds : answers bound_then_name (refused Refusal.Unknown 50)
names_before_bounds = answer bound_then_name _ refl

-- a bound that is not affine, and a bad step: the `for` stands before the bound
abbrev bad_loop : KnownProgram
bad_loop = program [] k_at_5 (declare 15 kind.Int (plain 19 "n" ∷ []) ∷ loop 22 (record { parallel = None; typed = true; iter = at 31 "i"; start = num 35 0; tested = at 38 "i"; test = test.Ge; limit = var 43 "n"; step = plus_plus 46 "i"; body = empty 51 }) ∷ [])

step_before_bound : answers bad_loop (refused Refusal.BadStep 22)
step_before_bound = answer bad_loop _ (simp folded refl)
