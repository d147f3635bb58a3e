-- Units without places: two units are the same up to places where these are equal.
use Rattle.std.specs.Prelude.{map, option_map}
use Rattle.species_ast.specs.Line.{Line}
use Rattle.species_ast.specs.declared.tree.Loop.{Loop, roll-Loop}
use Rattle.species_ast.specs.declared.tree.Stmt.{Stmt, roll-Stmt, fold-Stmt}
use Rattle.species_ast.specs.declared.tree.Stmt.TheOpen.{Stmt-F, Loop-F}
use Rattle.species_ast.specs.declared.tree.Unit.{Unit}

abbrev pub unplaced_at : Stmt-F Stmt Loop → Stmt
unplaced_at (Stmt-F.Assign place array subs value) = roll-Stmt (Stmt-F.Assign 0 array subs value)
unplaced_at (Stmt-F.AddTo place array subs value atomic) = roll-Stmt (Stmt-F.AddTo 0 array subs value atomic)
unplaced_at (Stmt-F.Declare place n init) = roll-Stmt (Stmt-F.Declare 0 n init)
unplaced_at (Stmt-F.SetLocal place n value) = roll-Stmt (Stmt-F.SetLocal 0 n value)
unplaced_at (Stmt-F.If place test body otherwise) = roll-Stmt (Stmt-F.If 0 test body otherwise)
unplaced_at (Stmt-F.For l) = roll-Stmt (Stmt-F.For l)
unplaced_at (Stmt-F.Block body) = roll-Stmt (Stmt-F.Block body)

abbrev pub unplaced_line : Line → Line
unplaced_line l = record { text = l.text; place = 0 }

abbrev pub unplaced_loop : Loop-F Stmt Loop → Loop
unplaced_loop l = roll-Loop (record l { place = 0; line = option_map unplaced_line l.line })

abbrev pub unplaced : Stmt → Stmt
unplaced = fold-Stmt Stmt Loop unplaced_at unplaced_loop

-- a unit whose statements and species lines all have the place 0
abbrev pub unplaced_unit : Unit → Unit
unplaced_unit u = record u { body = map unplaced u.body }
