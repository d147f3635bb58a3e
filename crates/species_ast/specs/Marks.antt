-- Kernels without marks, and kernels without species lines.
use Rattle.std.specs.Prelude.{Bool, true, false, IsTrue, not, ◌&&◌, is_none, List}
use Rattle.std.specs.List.{list_all}
use Rattle.species_ast.specs.declared.tree.Mark.{Mark}
use Rattle.species_ast.specs.declared.tree.Mark.TheVariants.{Plain, Parallel}
use Rattle.species_ast.specs.declared.tree.Stmt.{Stmt, fold-Stmt}
use Rattle.species_ast.specs.declared.tree.Stmt.TheOpen.{Stmt-F, Loop-F}
use Rattle.species_ast.specs.declared.tree.Unit.{Unit}

-- each answer of a list is yes
abbrev pub all_true : List Bool → Bool
all_true = list_all (λ b. b)

-- A test of a statement that asks `add` of the atomic mark of each addition in it, and `head` of
-- each loop in it. This is the part of the test at a statement ..
abbrev pub test_step : (Bool → Bool) → Stmt-F Bool Bool → Bool
test_step add (Stmt-F.Assign place array subs value) = true
test_step add (Stmt-F.AddTo place array subs value atomic) = add atomic
test_step add (Stmt-F.Declare place n init) = true
test_step add (Stmt-F.SetLocal place n value) = true
test_step add (Stmt-F.If place test body otherwise) = all_true body && all_true otherwise
test_step add (Stmt-F.For l) = l
test_step add (Stmt-F.Block body) = all_true body

-- .. and this the part at a loop
abbrev pub test_layer : (Loop-F Bool Bool → Bool) → Loop-F Bool Bool → Bool
test_layer head l = head l && all_true l.body

abbrev pub is_plain : Mark → Bool
is_plain Plain = true
is_plain (Parallel depth schedule) = false

-- no addition in the statement is atomic, and no loop in it has a parallel mark
abbrev pub unmarked_stmt : Stmt → Bool
unmarked_stmt = fold-Stmt Bool Bool (test_step not) (test_layer (λ l. is_plain l.mark))

-- no loop in the statement has a species line
abbrev pub without_lines_stmt : Stmt → Bool
without_lines_stmt = fold-Stmt Bool Bool (test_step (λ atomic. true)) (test_layer (λ l. is_none l.line))

-- no loop of the unit has a parallel mark, and none of its additions is atomic
abbrev pub IsUnmarked : Unit → Type 0
IsUnmarked u = IsTrue (list_all unmarked_stmt u.body)

-- the unit has no species line
abbrev pub HasNoLine : Unit → Type 0
HasNoLine u = IsTrue (list_all without_lines_stmt u.body)
