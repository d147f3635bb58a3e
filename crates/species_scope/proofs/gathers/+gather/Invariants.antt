-- What is found before a place in a list of statements.
use Rattle.species_ast.specs.Scope.Statements.{stmt_fragment}
use Rattle.species_scope.proofs.GatherLaws.{Gathered}
use Rattle.species_scope.proofs.gathers.+gather.Given as goal

abbrev pub invariant-gather_all-loop-raw : goal.invariant-gather_all-loop-raw
invariant-gather_all-loop-raw l = Gathered stmt_fragment l.all l.initial.place l.place l.initial.found l.found l.raw-index
