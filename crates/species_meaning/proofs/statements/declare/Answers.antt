use Rattle.std.proofs.Common.{rules}
use Rattle.species_ast.specs.Run.{source_context}
use Rattle.species_meaning.proofs.Steps.{declaration_ends}
use Rattle.species_meaning.proofs.statements.declare.Goals as goal

pub returns-in-Ok-clause-runs : goal.returns-in-Ok-clause-runs
returns-in-Ok-clause-runs c =
    declaration_ends (source_context c.args.unit.now) c.args.place c.args.local c.in-Some.e c.args.init.now c.args.frame.now c.args.arrays.now c.in-Ok.v c.set-in-Ok.new.self
    (search rules) (search rules) (search rules)
