use Rattle.std.proofs.Common.{◌≡◌, take, map}
use Rattle.species_ast.specs.Strip.{strip_stmt}
use Rattle.species_ast.proofs.stripping.+strip.Given as goal

abbrev pub invariant-strip_stmts-loop-stmt : goal.invariant-strip_stmts-loop-stmt
invariant-strip_stmts-loop-stmt l = l.copies ≡ map (strip_stmt l.keep_lines) (take l.stmt-index l.all)
