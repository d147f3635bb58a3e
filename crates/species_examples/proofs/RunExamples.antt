-- Worked examples of expressions and of programs, by computation.
use Rattle.std.proofs.Common.{◌≡◌, refl, ℕ, ℤ, pos, negsuc, neg_ℤ, List, [], ◌∷◌, take, Some, None, false, true, map}
use Rattle.species_ast.specs.declared.tree.Kind.TheVariants as kind
use Rattle.species_ast.specs.declared.tree.Value.{Value}
use Rattle.species_ast.specs.declared.tree.Value.TheVariants.{Int, Unsigned}
use Rattle.species_ast.specs.declared.tree.Binary.TheVariants as op
use Rattle.species_ast.specs.declared.tree.Mark.TheVariants.{Plain}
use Rattle.species_ast.specs.declared.tree.Test.{Test}
use Rattle.species_ast.specs.declared.tree.Test.TheVariants as test
use Rattle.species_ast.specs.declared.tree.Expr.{Expr}
use Rattle.species_ast.specs.declared.tree.Expr.TheVariants as e
use Rattle.species_ast.specs.declared.tree.Stmt.{Stmt}
use Rattle.species_ast.specs.declared.tree.Stmt.TheVariants as s
use Rattle.species_ast.specs.declared.tree.Loop.{roll-Loop}
use Rattle.species_ast.specs.declared.action.Action.TheVariants as action
use Rattle.species_ast.specs.declared.trap.Trap.TheVariants as trap
use Rattle.species_ast.specs.Accesses.{sums, Cells, Direction, Reads, Writes, Adds, Tree, Ret, Trapped, Outcome, Ended, Stopped, run, Access, accesses}
use Rattle.species_ast.specs.Evaluation.{Context, Frame, Sense, sense}
use Rattle.species_ast.specs.Run.{does_list, sums_take, actions}
use Rattle.species_ast.proofs.RunLaws.{folds, locals}

-- ---- a program's declarations: int A[4], B[2][3]; unsigned u[2]; and the locals int x; unsigned y;

abbrev names : Context
names = record {
  arrays =
      record { name = []; kind = kind.Int; dims = 4 ∷ [] } ∷
      record { name = []; kind = kind.Int; dims = 2 ∷ 3 ∷ [] } ∷
      record { name = []; kind = kind.Unsigned; dims = 2 ∷ [] } ∷ [];
  locals = record { name = []; kind = kind.Int } ∷ record { name = []; kind = kind.Unsigned } ∷ [];
  may_set = λ x. true;
  may_add = λ a k. true;
}

abbrev no_values : Frame
no_values = record { iters = []; locals = None ∷ None ∷ [] }

abbrev int : ℕ → Value
int n = Int (pos n)

abbrev minus : ℕ → Value
minus n = Int (neg_ℤ (pos n))

abbrev lit : ℕ → Expr
lit n = e.Literal (int n)

abbrev element_A : Expr → Expr
element_A i = e.Elem 0 (i ∷ [])

abbrev iter : Expr
iter = e.Iter 0

abbrev for_loop : ℕ → ℕ → Test → ℕ → ℤ → List Stmt → Stmt
for_loop place start test limit step body = s.For (roll-Loop (record {
  place = place;
  iter = [];
  start = lit start;
  test = test;
  limit = lit limit;
  step = step;
  body = body;
  line = None;
  mark = Plain;
}))

-- A and B, where A and u have these values
abbrev cells : List Value → List Value → Cells
cells a u = a ∷ (int 0 ∷ int 0 ∷ int 0 ∷ int 0 ∷ int 0 ∷ int 0 ∷ []) ∷ u ∷ []

abbrev zeros : Cells
zeros = cells (int 0 ∷ int 0 ∷ int 0 ∷ int 0 ∷ []) (Unsigned 0 ∷ Unsigned 0 ∷ [])

abbrev a_cells : List Value → Cells
a_cells a = cells a (Unsigned 0 ∷ Unsigned 0 ∷ [])

-- an expression in a statement at place 7
abbrev at_7 : Sense → Tree Value
at_7 x = x.does (record { statement = []; place = 7 }) 0 no_values

abbrev program : Context → List Stmt → Tree Frame
program w ss = does_list w ss [] 0 no_values

abbrev ran : Context → List Stmt → Cells → Outcome Frame
ran w ss m = run sums (program w ss) m

-- what the examples show of an access: direction, array, place in row order, value
abbrev Brief : Type 0
Brief = Direction × ℕ × ℕ × Value

abbrev brief : Access → Brief
brief a = (a.direction, a.element.array, a.element.at, a.value)

abbrev accesses_of : Context → List Stmt → Cells → List Brief
accesses_of w ss m = map brief (accesses sums (program w ss) m)

-- Each program stands under a context w with these names, so that its equations are found before it computes.

-- ---- expressions

abbrev one_by_zero : Expr
one_by_zero = e.Binary op.Div (lit 1) (lit 0)

-- `0 && 1 / 0` and `1 || 1 / 0` do not evaluate their right side
and_decided : (w : Context) → at_7 (sense w (e.And (lit 0) one_by_zero)) ≡ Ret (int 0)
and_decided w = simp folds refl

or_decided : (w : Context) → at_7 (sense w (e.Or (lit 3) one_by_zero)) ≡ Ret (int 1)
or_decided w = simp folds refl

-- `3 && 1 / 0` and `0 || 1 / 0` do
and_open : (w : Context) → run sums (at_7 (sense w (e.And (lit 3) one_by_zero))) zeros ≡ Stopped (Trapped trap.DivZero) 7
and_open w = simp folds refl

or_open : (w : Context) → run sums (at_7 (sense w (e.Or (lit 0) one_by_zero))) zeros ≡ Stopped (Trapped trap.DivZero) 7
or_open w = simp folds refl

-- `3 && 4` and `0 || 4` are 1
and_one : (w : Context) → at_7 (sense w (e.And (lit 3) (lit 4))) ≡ Ret (int 1)
and_one w = simp folds refl

or_one : (w : Context) → at_7 (sense w (e.Or (lit 0) (lit 4))) ≡ Ret (int 1)
or_one w = simp folds refl

-- `1 ? -1 : 0u` is 4294967295u
choice_is_unsigned : (w : Context) → at_7 (sense w (e.Cond (lit 1) (e.Literal (minus 1)) (e.Literal (Unsigned 0)))) ≡ Ret (Unsigned 4294967295)
choice_is_unsigned w = simp folds refl

-- `(1 ? -1 : 0u) < 0` is 0 by its text, and so is `(0 ? 0u : -1) < 0`, though the part that is evaluated is an int
choice_kind : (w : Context) → at_7 (sense w (e.Binary op.Lt (e.Cond (lit 0) (e.Literal (Unsigned 0)) (e.Literal (minus 1))) (lit 0))) ≡ Ret (int 0)
choice_kind w = simp folds refl

-- `0 ? 1 / 0 : 5` evaluates one part
choice_of_one : (w : Context) → at_7 (sense w (e.Cond (lit 0) one_by_zero (lit 5))) ≡ Ret (int 5)
choice_of_one w = simp folds refl

-- `-1 < 1u` is 0, and `-1 < (int)1u` is 1
mixed_less : (w : Context) → at_7 (sense w (e.Binary op.Lt (e.Literal (minus 1)) (e.Literal (Unsigned 1)))) ≡ Ret (int 0)
mixed_less w = simp folds refl

cast_less : (w : Context) → at_7 (sense w (e.Binary op.Lt (e.Literal (minus 1)) (e.Cast kind.Int (e.Literal (Unsigned 1))))) ≡ Ret (int 1)
cast_less w = simp folds refl

-- A[4] is past A's size, and A[-1] before it
past_size : (w : Context) → w ≡ names → run sums (at_7 (sense w (element_A (lit 4)))) zeros ≡ Stopped (Trapped trap.Index) 7
past_size w same = simp folds (rw same refl)

before_zero : (w : Context) → w ≡ names → run sums (at_7 (sense w (element_A (e.Literal (minus 1))))) zeros ≡ Stopped (Trapped trap.Index) 7
before_zero w same = simp folds (rw same refl)

-- B[1][2] is the last element of B; B[0][3] is past a row, though not past the array
last_of_rows : (w : Context) → w ≡ names
    → map brief (accesses sums (at_7 (sense w (e.Elem 1 (lit 1 ∷ lit 2 ∷ [])))) zeros) ≡ (Reads, 1, 5, int 0) ∷ []
last_of_rows w same = simp folds (rw same refl)

past_row : (w : Context) → w ≡ names → run sums (at_7 (sense w (e.Elem 1 (lit 0 ∷ lit 3 ∷ [])))) zeros ≡ Stopped (Trapped trap.Index) 7
past_row w same = simp folds (rw same refl)

-- B[5][A[2]] reads A[2] before any test, and B[5][1 / 0] is a division by 0
all_before_test : (w : Context) → w ≡ names
    → map brief (accesses sums (at_7 (sense w (e.Elem 1 (lit 5 ∷ element_A (lit 2) ∷ [])))) zeros) ≡ (Reads, 0, 2, int 0) ∷ []
all_before_test w same = simp folds (rw same refl)

test_after_all : (w : Context)
    → run sums (at_7 (sense w (e.Elem 1 (lit 5 ∷ one_by_zero ∷ [])))) zeros ≡ Stopped (Trapped trap.DivZero) 7
test_after_all w = simp folds refl

-- ---- locals

-- int x; A[0] = x;
unset : (w : Context) → w ≡ names
    → ran w (s.Declare 10 0 None ∷ s.Assign 20 0 (lit 0 ∷ []) (e.Local 0) ∷ []) zeros ≡ Stopped (Trapped trap.Unset) 20
unset w same = simp folds (rw same refl)

-- int x = 1; int x = x; (which no lawful program has, but a loop's body can be as this)
own_initialiser : (w : Context)
    → ran w (s.Declare 10 0 (Some (lit 1)) ∷ s.Declare 20 0 (Some (e.Local 0)) ∷ []) zeros ≡ Stopped (Trapped trap.Unset) 20
own_initialiser w = simp folds refl

-- int x = 4294967295u; unsigned y = -1; A[0] = x; u[0] = y;
converted_when_set : (w : Context) → w ≡ names
    → ran w (s.Declare 10 0 (Some (e.Literal (Unsigned 4294967295))) ∷ s.Declare 20 1 (Some (e.Literal (minus 1)))
    ∷ s.Assign 30 0 (lit 0 ∷ []) (e.Local 0) ∷ s.Assign 40 2 (lit 0 ∷ []) (e.Local 1) ∷ []) zeros
    ≡ Ended (record { iters = []; locals = Some (minus 1) ∷ Some (Unsigned 4294967295) ∷ [] })
    (cells (minus 1 ∷ int 0 ∷ int 0 ∷ int 0 ∷ []) (Unsigned 4294967295 ∷ Unsigned 0 ∷ []))
converted_when_set w same = simp folds (rw same refl)

-- x = 4294967295u;
converted_when_assigned : (w : Context) → w ≡ names
    → ran w (s.SetLocal 10 0 (e.Literal (Unsigned 4294967295)) ∷ []) zeros
    ≡ Ended (record { iters = []; locals = Some (minus 1) ∷ None ∷ [] }) zeros
converted_when_assigned w same = simp folds (rw same refl)

-- { int x = 3; } A[0] = x;
gone_after_scope : (w : Context) → w ≡ names
    → ran w (s.Block (s.Declare 10 0 (Some (lit 3)) ∷ []) ∷ s.Assign 20 0 (lit 0 ∷ []) (e.Local 0) ∷ []) zeros
    ≡ Stopped (Trapped trap.Unset) 20
gone_after_scope w same = simp folds (rw same refl)

-- int x = 1; if (0) x = 2; else x = 3;
else_branch : (w : Context) → w ≡ names
    → ran w (s.Declare 10 0 (Some (lit 1)) ∷ s.If 20 (lit 0) (s.SetLocal 30 0 (lit 2) ∷ []) (s.SetLocal 40 0 (lit 3) ∷ []) ∷ []) zeros
    ≡ Ended (record { iters = []; locals = Some (int 3) ∷ None ∷ [] }) zeros
else_branch w same = simp folds (rw same refl)

-- ---- loops

-- for (int i = 3; i > 0; i -= 2) A[i] = i;
downward : (w : Context) → w ≡ names
    → accesses_of w (for_loop 10 3 test.Gt 0 (negsuc 1) (s.Assign 20 0 (iter ∷ []) iter ∷ []) ∷ []) zeros
    ≡ (Writes, 0, 3, int 3) ∷ (Writes, 0, 1, int 1) ∷ []
downward w same = simp folds (rw same refl)

-- for (int i = 3; i >= 1; i -= 1) A[i] = i;
downward_to : (w : Context) → w ≡ names
    → accesses_of w (for_loop 10 3 test.Ge 1 (negsuc 0) (s.Assign 20 0 (iter ∷ []) iter ∷ []) ∷ []) zeros
    ≡ (Writes, 0, 3, int 3) ∷ (Writes, 0, 2, int 2) ∷ (Writes, 0, 1, int 1) ∷ []
downward_to w same = simp folds (rw same refl)

-- for (int i = 0; i <= 3; i += 2) A[i] = i;
by_two : (w : Context) → w ≡ names
    → accesses_of w (for_loop 10 0 test.Le 3 (pos 2) (s.Assign 20 0 (iter ∷ []) iter ∷ []) ∷ []) zeros
    ≡ (Writes, 0, 0, int 0) ∷ (Writes, 0, 2, int 2) ∷ []
by_two w same = simp folds (rw same refl)

-- for (int i = 2; i < 2; i++) A[i] = 1 / 0;
no_turns : (w : Context)
    → ran w (for_loop 10 2 test.Lt 2 (pos 1) (s.Assign 20 0 (iter ∷ []) one_by_zero ∷ []) ∷ []) zeros ≡ Ended no_values zeros
no_turns w = simp folds refl

-- for (int i = 1; i < 4; i++) A[i] = A[i - 1];
abbrev carried_on : Stmt
carried_on = for_loop 20 1 test.Lt 4 (pos 1) (s.Assign 40 0 (iter ∷ []) (element_A (e.Binary op.Sub iter (lit 1))) ∷ [])

carries : (w : Context) → w ≡ names
    → ran w (carried_on ∷ []) (a_cells (int 5 ∷ int 0 ∷ int 0 ∷ int 0 ∷ [])) ≡ Ended no_values (a_cells (int 5 ∷ int 5 ∷ int 5 ∷ int 5 ∷ []))
carries w same = simp folds (rw same refl)

carries_by : (w : Context) → w ≡ names
    → accesses_of w (carried_on ∷ []) (a_cells (int 5 ∷ int 0 ∷ int 0 ∷ int 0 ∷ []))
    ≡ (Reads, 0, 0, int 5) ∷ (Writes, 0, 1, int 5) ∷ (Reads, 0, 1, int 5) ∷ (Writes, 0, 2, int 5) ∷ (Reads, 0, 2, int 5) ∷ (Writes, 0, 3, int 5) ∷ []
carries_by w same = simp folds (rw same refl)

-- the sites of the first turn: the read is element 1 of statement 0 of statement 0, the write element 0
carries_at : (w : Context) → w ≡ names
    → map (λ a. a.site) (take 2 (accesses sums (program w (carried_on ∷ [])) zeros))
    ≡ record { statement = 0 ∷ 0 ∷ []; place = 40; number = 1; iters = pos 1 ∷ []; indices = 0 ∷ [] }
    ∷ record { statement = 0 ∷ 0 ∷ []; place = 40; number = 0; iters = pos 1 ∷ []; indices = 1 ∷ [] } ∷ []
carries_at w same = simp folds (rw same refl)

-- ---- sums

-- u[1] += -1; reads and writes, and is one addition where it is atomic
sum : (w : Context) → w ≡ names
    → accesses_of w (s.AddTo 10 2 (lit 1 ∷ []) (e.Literal (minus 1)) false ∷ []) zeros
    ≡ (Reads, 2, 1, Unsigned 0) ∷ (Writes, 2, 1, Unsigned 4294967295) ∷ []
sum w same = simp folds (rw same refl)

atomic_sum : (w : Context) → w ≡ names
    → accesses_of w (s.AddTo 10 2 (lit 1 ∷ []) (e.Literal (minus 1)) true ∷ []) zeros ≡ (Adds, 2, 1, Unsigned 4294967295) ∷ []
atomic_sum w same = simp folds (rw same refl)

atomic_sum_ends : (w : Context) → w ≡ names
    → ran w (s.AddTo 10 2 (lit 1 ∷ []) (e.Literal (minus 1)) true ∷ []) (cells (int 0 ∷ []) (Unsigned 0 ∷ Unsigned 7 ∷ []))
    ≡ Ended no_values (cells (int 0 ∷ []) (Unsigned 0 ∷ Unsigned 6 ∷ []))
atomic_sum_ends w same = simp folds (rw same refl)

-- A[0] += A[1]; reads its target before the value
target_first : (w : Context) → w ≡ names
    → accesses_of w (s.AddTo 10 0 (lit 0 ∷ []) (element_A (lit 1)) false ∷ []) (a_cells (int 2 ∷ int 3 ∷ int 0 ∷ int 0 ∷ []))
    ≡ (Reads, 0, 0, int 2) ∷ (Reads, 0, 1, int 3) ∷ (Writes, 0, 0, int 5) ∷ []
target_first w same = simp folds (rw same refl)

-- A[9] = 1 / 0; is an Index, and A[0] = 1 / 0; writes nothing
index_first : (w : Context) → w ≡ names
    → ran w (s.Assign 10 0 (lit 9 ∷ []) one_by_zero ∷ []) zeros ≡ Stopped (Trapped trap.Index) 10
index_first w same = simp folds (rw same refl)

no_write : (w : Context) → w ≡ names → accesses_of w (s.Assign 10 0 (lit 0 ∷ []) one_by_zero ∷ []) zeros ≡ []
no_write w same = simp folds (rw same refl)

-- ---- actions of an iteration

-- A[i] = A[i - 1]; with no answer, and with one
abbrev one_turn : Frame
one_turn = record { iters = pos 2 ∷ []; locals = Some (int 1) ∷ None ∷ [] }

abbrev shift_up : List Stmt
shift_up = s.Assign 40 0 (iter ∷ []) (element_A (e.Binary op.Sub iter (lit 1))) ∷ []

unanswered : (w : Context) → w ≡ names
    → actions sums_take w shift_up one_turn [] ≡ action.Read 0 1 ∷ []
unanswered w same = simp folds (rw same refl)

answered_once : (w : Context) → w ≡ names
    → actions sums_take w shift_up one_turn (int 9 ∷ [])
    ≡ action.Read 0 1 ∷ action.Write 0 2 (int 9) ∷ action.Done ∷ []
answered_once w same = simp folds (rw same refl)

-- x = A[0]; where x is declared outside the nest is a fault after the read
outer_local : (w : Context) → w ≡ names
    → actions sums_take w (s.SetLocal 10 0 (element_A (lit 0)) ∷ []) one_turn (int 9 ∷ []) ≡ action.Read 0 0 ∷ action.Fault ∷ []
outer_local w same = simp folds (rw same (simp locals refl))

-- { int y; y = 3; A[0] = x; } with y inside and x outside
inner_local : (w : Context) → w ≡ names
    → actions sums_take w (s.Declare 10 1 None ∷ s.SetLocal 20 1 (lit 3) ∷ s.Assign 30 0 (lit 0 ∷ []) (e.Local 0) ∷ []) one_turn []
    ≡ action.Write 0 0 (int 1) ∷ action.Done ∷ []
inner_local w same = simp folds (rw same (simp locals refl))

-- an atomic addition to A is a fault, and one to u is an action
atomic_to_int : (w : Context) → w ≡ names → actions sums_take w (s.AddTo 10 0 (lit 0 ∷ []) (lit 1) true ∷ []) one_turn [] ≡ action.Fault ∷ []
atomic_to_int w same = simp folds (rw same refl)

atomic_to_unsigned : (w : Context) → w ≡ names
    → actions sums_take w (s.AddTo 10 2 (lit 0 ∷ []) (lit 1) true ∷ []) one_turn [] ≡ action.Add 2 0 (Unsigned 1) ∷ action.Done ∷ []
atomic_to_unsigned w same = simp folds (rw same refl)
