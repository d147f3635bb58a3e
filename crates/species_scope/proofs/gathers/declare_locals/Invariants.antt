-- The scope behind the first declarators.
use Rattle.std.proofs.Common.{◌≡◌, map, take}
use Rattle.species_ast.specs.Scope.Statements.{declarator, in_order}
use Rattle.species_scope.proofs.gathers.declare_locals.Given as goal

abbrev pub invariant-loop-local : goal.invariant-loop-local
invariant-loop-local l = l.place ≡ (in_order (map (declarator l.kind) (take l.local-index l.all)) l.initial.place).next
