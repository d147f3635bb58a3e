-- What is built behind the first declarators.
use Rattle.species_ast.specs.Scope.Statements.{declarator}
use Rattle.species_scope.proofs.BuildLaws.{Reached}
use Rattle.species_scope.proofs.statements.declare_all.Given as goal

abbrev pub invariant-loop-local : goal.invariant-loop-local
invariant-loop-local l = Reached (declarator l.kind) l.all l.initial.b l.b l.initial.out l.out l.local-index
