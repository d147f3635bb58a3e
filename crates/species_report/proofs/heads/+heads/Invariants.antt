use Rattle.std.proofs.Common.{◌≡◌, ◌++◌, take}
use Rattle.std.specs.List.{flat_map}
use Rattle.species_ast.specs.Scope.Loops.{outermost_in}
use Rattle.species_report.specs.Heads.{loops_seen}
use Rattle.species_report.proofs.heads.+heads.Given as goal

abbrev pub invariant-add_list-loop-statement : goal.invariant-add_list-loop-statement
invariant-add_list-loop-statement l = loops_seen l.found.items ≡ loops_seen l.initial.found.items ++ flat_map outermost_in (take l.statement-index l.statements)
