-- One declarator more.
use Rattle.species_ast.specs.Scope.Statements.{declarator}
use Rattle.species_scope.proofs.BuildLaws.{reached_next}
use Rattle.species_scope.proofs.StayLaws.{declarator_stays}
use Rattle.species_scope.proofs.statements.declare_all.Goals as goal

pub loop-local-preserved : goal.loop-local-preserved
loop-local-preserved c =
    reached_next (declarator c.args.kind) c.args.all.now (declarator_stays c.args.kind) c.args.b.now c.loop-local.b c.declare.new.b c.args.out.now c.loop-local.out c.declare.new.out c.loop-local.local-index _
    c.loop-local.invariant c.local-item.is c.loop-local-test.true c.in_ok-declare.ensures.state c.in_ok-declare.ensures.made
