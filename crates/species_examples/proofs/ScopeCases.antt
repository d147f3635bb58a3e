-- Cases at the edges of the rules: other names in the header of a loop, several faults at one loop, how many elements an array has,
-- and the forms of a header.
use Rattle.std.proofs.Common.{◌≡◌, refl, ℕ, ◌+◌, List, [], ◌∷◌, Some, None, Bool, true, false, ◌&&◌, ℤ, pos, negsuc, neg_ℤ, Result}
use Rattle.std.specs.Prelude.{codes}
use Prim.Native.String.{String}
use Rattle.species_ast.specs.declared.tree.Kind.TheVariants as kind
use Rattle.species_ast.specs.declared.tree.Binary.TheVariants as binary
use Rattle.species_ast.specs.declared.tree.Test.{Test}
use Rattle.species_ast.specs.declared.tree.Test.TheVariants as test
use Rattle.species_ast.specs.declared.tree.Schedule.TheVariants as schedule
use Rattle.species_ast.specs.declared.tree.Mark.TheVariants as mark
use Rattle.species_ast.specs.declared.tree.Stmt.TheVariants as stmt
use Rattle.species_ast.specs.declared.tree.Loop.{roll-Loop}
use Rattle.species_ast.specs.declared.tree.Unit.{Unit}
use Rattle.species_ast.specs.Scope.Refusals.{Limit, Refusal, Finding}
use Rattle.species_ast.specs.Scope.Limits.{has_lawful_sizes}
use Rattle.species_examples.proofs.ScopeParts.{Known, at, num, var, bin, neg, Does, plain, declare, empty, KnownStep, plus_plus, plus_plus_before, minus_minus, minus_minus_before, add_by, sub_by, set_add, set_sub, loop, count_up, old_loop, marked, KnownProgram, program, answers, answer, becomes, become, refused, k_at_5, k_at_15, a4, int, unit, folded}

-- ---- other names in a header

-- `for (int i = 0; t < 4; ..) s`, where t stands 16 and the step 23 behind the `for`
abbrev counting_i : ℕ → String → KnownStep → Does → Does
counting_i p tested by s = loop p (record { parallel = None; typed = true; iter = at (p + 9) "i"; start = num (p + 13) 0; tested = at (p + 16) tested; test = test.Lt; limit = num (p + 20) 4; step = by; body = s })

-- `void k(void) { int j; for (j = 0; j < 4; j++) ; s }`, where s stands at 48
abbrev behind_old_loop : Does → KnownProgram
behind_old_loop s = program [] k_at_5 (declare 15 kind.Int (plain 19 "j" ∷ []) ∷ old_loop 22 "j" (num 31 0) (empty 46) ∷ s ∷ [])

-- `void k(void) { int j; for (j = 0; j < 4; j++) ; for (int i = 0; j < 4; i++) ; }`: the test uses `j` outside the loops that have it
-- as their iterator; that the names of a header differ is looked at later
abbrev old_iterator_tested : KnownProgram
old_iterator_tested = behind_old_loop (counting_i 48 "j" (plus_plus 71 "i") (empty 76))

outside_in_test : answers old_iterator_tested (refused Refusal.IteratorOutside 64)
outside_in_test = answer old_iterator_tested _ refl

-- `.. for (int i = 0; i < 4; j++) ; }`
abbrev old_iterator_stepped : KnownProgram
old_iterator_stepped = behind_old_loop (counting_i 48 "i" (plus_plus 71 "j") (empty 76))

outside_in_step : answers old_iterator_stepped (refused Refusal.IteratorOutside 71)
outside_in_step = answer old_iterator_stepped _ refl

-- `.. for (int i = 0; i < 4; --j) ; }`
abbrev old_iterator_stepped_before : KnownProgram
old_iterator_stepped_before = behind_old_loop (counting_i 48 "i" (minus_minus_before 73 "j") (empty 76))

outside_behind_sign : answers old_iterator_stepped_before (refused Refusal.IteratorOutside 73)
outside_behind_sign = answer old_iterator_stepped_before _ refl

-- `.. for (int i = 0; i < 4; i = j + 1) ; }`
abbrev old_iterator_added_to : KnownProgram
old_iterator_added_to = behind_old_loop (counting_i 48 "i" (set_add 71 "i" "j" (num 79 1)) (empty 82))

outside_in_sum : answers old_iterator_added_to (refused Refusal.IteratorOutside 75)
outside_in_sum = answer old_iterator_added_to _ refl

-- `void k(void) { int j; for (int i = 0; j < 4; i++) ; for (j = 0; j < 4; j++) ; }`: also before the loop that has `j` as its iterator
abbrev before_old_loop : KnownProgram
before_old_loop = program [] k_at_5 (declare 15 kind.Int (plain 19 "j" ∷ []) ∷ counting_i 22 "j" (plus_plus 45 "i") (empty 50) ∷ old_loop 52 "j" (num 61 0) (empty 76) ∷ [])

outside_before_loop : answers before_old_loop (refused Refusal.IteratorOutside 38)
outside_before_loop = answer before_old_loop _ refl

-- `void k(void) { int i, j; for (j = 0; j < 4; j++) ; for (i = 0; j < 4; i++) ; }`: also in the header of a loop without `int`
abbrev two_old_loops : KnownProgram
two_old_loops = program [] k_at_5 (declare 15 kind.Int (plain 19 "i" ∷ plain 22 "j" ∷ []) ∷ old_loop 25 "j" (num 34 0) (empty 49) ∷ loop 51 (record { parallel = None; typed = false; iter = at 56 "i"; start = num 60 0; tested = at 63 "j"; test = test.Lt; limit = num 67 4; step = plus_plus 70 "i"; body = empty 75 }) ∷ [])

outside_in_old_header : answers two_old_loops (refused Refusal.IteratorOutside 63)
outside_in_old_header = answer two_old_loops _ refl

-- `void k(void) { for (int j = 0; j < 4; j++) for (int i = 0; j < 4; i++) ; }`: `j` is the iterator of the loop around
abbrev outer_iterator_tested : KnownProgram
outer_iterator_tested = program [] k_at_5 (count_up 15 "j" (num 35 4) (counting_i 43 "j" (plus_plus 66 "i") (empty 71)) ∷ [])

outer_iterator_in_test : answers outer_iterator_tested (refused Refusal.BadStep 43)
outer_iterator_in_test = answer outer_iterator_tested _ (simp folded refl)

-- `void k(void) { int j; for (j = 0; j < 4; j++) for (int i = 0; i < 4; j++) ; }`: so is a local inside a loop that has it
abbrev inside_old_loop : KnownProgram
inside_old_loop = program [] k_at_5 (declare 15 kind.Int (plain 19 "j" ∷ []) ∷ old_loop 22 "j" (num 31 0) (counting_i 46 "i" (plus_plus 69 "j") (empty 74)) ∷ [])

outer_iterator_in_step : answers inside_old_loop (refused Refusal.BadStep 46)
outer_iterator_in_step = answer inside_old_loop _ (simp folded refl)

-- `void k(void) { for (int j = 0; j < 4; j++) ; for (int i = 0; i < 4; j++) ; }`: the first loop's `j` is gone behind it
abbrev earlier_iterator : KnownProgram
earlier_iterator = program [] k_at_5 (count_up 15 "j" (num 35 4) (empty 43) ∷ counting_i 45 "i" (plus_plus 68 "j") (empty 73) ∷ [])

unknown_in_step : answers earlier_iterator (refused Refusal.Unknown 68)
unknown_in_step = answer earlier_iterator _ refl

-- `void k(void) { for (int i = 0; k < 4; i++) ; }`: the function's name has no use
abbrev function_tested : KnownProgram
function_tested = program [] k_at_5 (counting_i 15 "k" (plus_plus 38 "i") (empty 43) ∷ [])

function_in_header : answers function_tested (refused Refusal.Unknown 31)
function_in_header = answer function_tested _ refl

-- `int A[4]; void k(void) { for (int i = 0; A < 4; i++) ; }`: a header has no subscripts, so the array does not lack any
abbrev array_tested : KnownProgram
array_tested = program (a4 ∷ []) k_at_15 (counting_i 25 "A" (plus_plus 48 "i") (empty 53) ∷ [])

array_in_header : answers array_tested (refused Refusal.BadStep 25)
array_in_header = answer array_tested _ (simp folded refl)

-- ---- several faults at one loop

-- `for (int i = 0; i < 4; ..) s` with a mark of this depth; the step stands 23 behind the `for`
abbrev marked_loop : ℕ → ℕ → String → Known → KnownStep → Does → Does
marked_loop depth p n limit by s = loop p (record { parallel = Some (depth, schedule.Static); typed = true; iter = at (p + 9) n; start = num (p + 13) 0; tested = at (p + 16) n; test = test.Lt; limit = limit; step = by; body = s })

-- three lines: `void k(void) {`, `#pragma omp parallel for collapse(2)` and `for (int i = 0; i < 4; i += 0) ; }`: there is no second
-- loop, and steps are looked at before marks
abbrev still_and_shallow : KnownProgram
still_and_shallow = program [] k_at_5 (marked_loop 2 52 "i" (num 72 4) (add_by 75 "i" (num 80 0)) (empty 83) ∷ [])

step_before_mark : answers still_and_shallow (refused Refusal.BadStep 52)
step_before_mark = answer still_and_shallow _ (simp folded refl)

-- `void k(void) {`, `#pragma omp parallel for collapse(2)` and `for (int i = 0; i < 4; i++) for (int j = 0; j < i; j--) ; }`: the second
-- loop's step is looked at before the first loop's mark
abbrev unfit_then_wrong : KnownProgram
unfit_then_wrong = program [] k_at_5 (marked 2 52 "i" (num 72 4) (loop 80 (record { parallel = None; typed = true; iter = at 89 "j"; start = num 93 0; tested = at 96 "j"; test = test.Lt; limit = var 100 "i"; step = minus_minus 103 "j"; body = empty 108 })) ∷ [])

later_step_before_mark : answers unfit_then_wrong (refused Refusal.BadStep 80)
later_step_before_mark = answer unfit_then_wrong _ (simp folded refl)

-- ---- how many elements an array has

abbrev has_sizes : List ℕ → Bool
has_sizes sizes = has_lawful_sizes (record { name = codes "A"; kind = kind.Int; dims = sizes })

-- the greatest number, in three spellings
most_elements_fit : (has_sizes (16777216 ∷ []) && (has_sizes (4096 ∷ 4096 ∷ []) && has_sizes (1 ∷ 16777216 ∷ 1 ∷ 1 ∷ []))) ≡ true
most_elements_fit = refl

-- `int A[..]..; void k(void) { }`
abbrev with_array : List Known → ℕ → KnownProgram
with_array sizes p = program (record { name = at 4 "A"; sizes = sizes } ∷ []) (at p "k") []

abbrev too_many : ℕ → Result Unit Finding
too_many p = refused (Refusal.LimitPassed Limit.Elements) p

-- `int A[4], B[16777217]; void k(void) { }`: one more, in the second array
abbrev second_array : KnownProgram
second_array = program (a4 ∷ record { name = at 10 "B"; sizes = num 12 16777217 ∷ [] } ∷ []) (at 28 "k") []

one_too_many : answers second_array (too_many 10)
one_too_many = answer second_array _ (simp folded refl)

-- `int A[4097][4096]; void k(void) { }`
too_many_in_two : answers (with_array (num 6 4097 ∷ num 12 4096 ∷ []) 24) (too_many 4)
too_many_in_two = answer (with_array (num 6 4097 ∷ num 12 4096 ∷ []) 24) _ (simp folded refl)

-- `int A[4097 * 4096]; void k(void) { }`
too_many_as_product : answers (with_array (bin 6 binary.Mul (num 6 4097) (num 13 4096) ∷ []) 25) (too_many 4)
too_many_as_product = answer (with_array (bin 6 binary.Mul (num 6 4097) (num 13 4096) ∷ []) 25) _ (simp folded refl)

-- `int A[65536][65536]; void k(void) { }`: 2 ^ 32 elements
far_too_many : answers (with_array (num 6 65536 ∷ num 13 65536 ∷ []) 26) (too_many 4)
far_too_many = answer (with_array (num 6 65536 ∷ num 13 65536 ∷ []) 26) _ (simp folded refl)

-- `int A[0 - 1][0 - 1]; void k(void) { }`: each size is at least 1
negative_sizes : answers (with_array (bin 6 binary.Sub (num 6 0) (num 10 1) ∷ bin 13 binary.Sub (num 13 0) (num 17 1) ∷ []) 26) (too_many 4)
negative_sizes = answer (with_array (bin 6 binary.Sub (num 6 0) (num 10 1) ∷ bin 13 binary.Sub (num 13 0) (num 17 1) ∷ []) 26) _ (simp folded refl)

-- `int A[2147483647 + 1]; void k(void) { }`: the sum has no form
size_past_forms : answers (with_array (bin 6 binary.Add (num 6 2147483647) (num 19 1) ∷ []) 28) (refused Refusal.NotStatic 6)
size_past_forms = answer (with_array (bin 6 binary.Add (num 6 2147483647) (num 19 1) ∷ []) 28) _ (simp folded refl)

-- ---- the forms of a header

-- `void k(void) { for (int i = 0; i < 4; i++) ; }` with this test and step; places behind the test, which no answer has, are made up
abbrev headed : Test → KnownStep → KnownProgram
headed c by = program [] k_at_5 (loop 15 (record { parallel = None; typed = true; iter = at 24 "i"; start = num 28 0; tested = at 31 "i"; test = c; limit = num 36 4; step = by; body = empty 55 }) ∷ [])

abbrev goes_by : Test → ℤ → Unit
goes_by c n = unit [] [] (stmt.For (roll-Loop (record { place = 15; iter = codes "i"; start = int 0; test = c; limit = int 4; step = n; body = []; line = None; mark = mark.Plain })) ∷ [])

abbrev bad_step : Result Unit Finding
bad_step = refused Refusal.BadStep 15

-- the eight steps
-- `i < 4; i++`
up_while_less : becomes (headed test.Lt (plus_plus 39 "i")) (goes_by test.Lt (pos 1))
up_while_less = become (headed test.Lt (plus_plus 39 "i")) _ refl

-- `i <= 4; ++i`
up_before_while_at_most : becomes (headed test.Le (plus_plus_before 41 "i")) (goes_by test.Le (pos 1))
up_before_while_at_most = become (headed test.Le (plus_plus_before 41 "i")) _ refl

-- `i > 4; i--`
down_while_greater : becomes (headed test.Gt (minus_minus 39 "i")) (goes_by test.Gt (negsuc 0))
down_while_greater = become (headed test.Gt (minus_minus 39 "i")) _ refl

-- `i >= 4; --i`
down_before_while_at_least : becomes (headed test.Ge (minus_minus_before 41 "i")) (goes_by test.Ge (negsuc 0))
down_before_while_at_least = become (headed test.Ge (minus_minus_before 41 "i")) _ refl

-- `i <= 4; i += 3`
add_while_at_most : becomes (headed test.Le (add_by 39 "i" (num 44 3))) (goes_by test.Le (pos 3))
add_while_at_most = become (headed test.Le (add_by 39 "i" (num 44 3))) _ (simp folded refl)

-- `i >= 4; i -= 3`
subtract_while_at_least : becomes (headed test.Ge (sub_by 39 "i" (num 44 3))) (goes_by test.Ge (neg_ℤ (pos 3)))
subtract_while_at_least = become (headed test.Ge (sub_by 39 "i" (num 44 3))) _ (simp folded refl)

-- `i < 4; i = i + 3`
sum_while_less : becomes (headed test.Lt (set_add 39 "i" "i" (num 47 3))) (goes_by test.Lt (pos 3))
sum_while_less = become (headed test.Lt (set_add 39 "i" "i" (num 47 3))) _ (simp folded refl)

-- `i > 4; i = i - 3`
difference_while_greater : becomes (headed test.Gt (set_sub 39 "i" "i" (num 47 3))) (goes_by test.Gt (neg_ℤ (pos 3)))
difference_while_greater = become (headed test.Gt (set_sub 39 "i" "i" (num 47 3))) _ (simp folded refl)

-- a constant below 0 turns the direction
-- `i > 4; i += -3`
add_negative : becomes (headed test.Gt (add_by 39 "i" (neg 44 (num 45 3)))) (goes_by test.Gt (neg_ℤ (pos 3)))
add_negative = become (headed test.Gt (add_by 39 "i" (neg 44 (num 45 3)))) _ (simp folded refl)

-- `i <= 4; i -= -3`
subtract_negative : becomes (headed test.Le (sub_by 39 "i" (neg 44 (num 45 3)))) (goes_by test.Le (pos 3))
subtract_negative = become (headed test.Le (sub_by 39 "i" (neg 44 (num 45 3)))) _ (simp folded refl)

-- `i >= 4; i = i + -3`
sum_negative : becomes (headed test.Ge (set_add 39 "i" "i" (neg 47 (num 48 3)))) (goes_by test.Ge (neg_ℤ (pos 3)))
sum_negative = become (headed test.Ge (set_add 39 "i" "i" (neg 47 (num 48 3)))) _ (simp folded refl)

-- `i > 4; i = i - 2 * 3`
difference_of_product : becomes (headed test.Gt (set_sub 39 "i" "i" (bin 47 binary.Mul (num 47 2) (num 51 3)))) (goes_by test.Gt (neg_ℤ (pos 6)))
difference_of_product = become (headed test.Gt (set_sub 39 "i" "i" (bin 47 binary.Mul (num 47 2) (num 51 3)))) _ (simp folded refl)

-- steps that go the wrong way, or not at all
-- `i <= 4; --i`
down_while_at_most : answers (headed test.Le (minus_minus_before 41 "i")) bad_step
down_while_at_most = answer (headed test.Le (minus_minus_before 41 "i")) _ (simp folded refl)

-- `i > 4; ++i`
up_while_greater : answers (headed test.Gt (plus_plus_before 41 "i")) bad_step
up_while_greater = answer (headed test.Gt (plus_plus_before 41 "i")) _ (simp folded refl)

-- `i >= 4; i = i + 3`
sum_while_at_least : answers (headed test.Ge (set_add 39 "i" "i" (num 47 3))) bad_step
sum_while_at_least = answer (headed test.Ge (set_add 39 "i" "i" (num 47 3))) _ (simp folded refl)

-- `i < 4; i -= 3`
subtract_while_less : answers (headed test.Lt (sub_by 39 "i" (num 44 3))) bad_step
subtract_while_less = answer (headed test.Lt (sub_by 39 "i" (num 44 3))) _ (simp folded refl)

-- `i >= 4; i -= 0`
subtract_nothing : answers (headed test.Ge (sub_by 39 "i" (num 44 0))) bad_step
subtract_nothing = answer (headed test.Ge (sub_by 39 "i" (num 44 0))) _ (simp folded refl)

-- `i < 4; i += i`: no constant
add_itself : answers (headed test.Lt (add_by 39 "i" (var 44 "i"))) bad_step
add_itself = answer (headed test.Lt (add_by 39 "i" (var 44 "i"))) _ (simp folded refl)

-- the longest steps, and one more
-- `i < 4; i += 65536`
longest_up : becomes (headed test.Lt (add_by 39 "i" (num 44 65536))) (goes_by test.Lt (pos 65536))
longest_up = become (headed test.Lt (add_by 39 "i" (num 44 65536))) _ (simp folded refl)

-- `i > 4; i -= 65536`
longest_down : becomes (headed test.Gt (sub_by 39 "i" (num 44 65536))) (goes_by test.Gt (neg_ℤ (pos 65536)))
longest_down = become (headed test.Gt (sub_by 39 "i" (num 44 65536))) _ (simp folded refl)
