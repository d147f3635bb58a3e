-- A kernel without its marks.
use Rattle.std.specs.Prelude.{Bool, false, if◌then◌else◌, map, None}
use Rattle.species_ast.specs.declared.tree.Loop.{Loop, roll-Loop, fold-Loop}
use Rattle.species_ast.specs.declared.tree.Mark.TheVariants.{Plain}
use Rattle.species_ast.specs.declared.tree.Stmt.{Stmt, roll-Stmt, fold-Stmt}
use Rattle.species_ast.specs.declared.tree.Stmt.TheOpen.{Stmt-F, Loop-F}
use Rattle.species_ast.specs.declared.tree.Unit.{Unit}

-- an addition loses its atomic mark, and every other statement stays
abbrev pub strip_step : Stmt-F Stmt Loop → Stmt
strip_step (Stmt-F.AddTo place array subs value atomic) = roll-Stmt (Stmt-F.AddTo place array subs value false)
strip_step s = roll-Stmt s

-- a loop gets the plain mark, and keeps its line only where lines are kept
abbrev pub strip_layer : Bool → Loop-F Stmt Loop → Loop
strip_layer keep_lines l = roll-Loop (record l { line = if keep_lines then l.line else None; mark = Plain })

abbrev pub strip_stmt : Bool → Stmt → Stmt
strip_stmt keep_lines = fold-Stmt Stmt Loop strip_step (strip_layer keep_lines)

abbrev pub strip_loop : Bool → Loop → Loop
strip_loop keep_lines = fold-Loop Stmt Loop strip_step (strip_layer keep_lines)

-- the unit with plain marks and no atomic addition, and without species lines unless they are kept
abbrev pub strip_of : Bool → Unit → Unit
strip_of keep_lines u = record u { body = map (strip_stmt keep_lines) u.body }

-- the source of a unit: species lines and marks, parallel and atomic, are taken from it
abbrev pub source_of : Unit → Unit
source_of u = strip_of false u
