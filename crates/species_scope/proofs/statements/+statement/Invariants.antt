-- What is built behind the first statements of a list.
use Rattle.species_ast.specs.Scope.Statements.{stmt_fragment}
use Rattle.species_scope.proofs.BuildLaws.{Reached}
use Rattle.species_scope.proofs.statements.+statement.Given as goal

abbrev pub invariant-statements-loop-raw : goal.invariant-statements-loop-raw
invariant-statements-loop-raw l = Reached stmt_fragment l.all l.initial.b l.b l.initial.out l.out l.raw-index
