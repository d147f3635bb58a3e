use Rattle.std.proofs.Common.{rules}
use Rattle.bones_meaning.specs.Walked.{context}
use Rattle.bones_meaning.proofs.Steps.{declaration_ends}
use Rattle.bones_meaning.proofs.statements.declare.Goals as goal

pub returns-in-Ok-clause-walks : goal.returns-in-Ok-clause-walks
returns-in-Ok-clause-walks c =
    declaration_ends (context c.args.unit.now c.args._whole.now) c.args.local c.in-Some.e c.args.init.now c.args.frame.now c.args.tape.now c.eval.new.tape c.in-Ok.v c.set-in-Ok.new.self
    (search rules) (search rules) (search rules)
