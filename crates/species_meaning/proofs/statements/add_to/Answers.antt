use Rattle.std.proofs.Common.{rules}
use Rattle.species_ast.specs.Run.{source_context}
use Rattle.species_meaning.proofs.Steps.{sum_ends}
use Rattle.species_meaning.proofs.statements.add_to.Goals as goal

pub returns-in-Ok-binary : goal.returns-in-Ok-binary
returns-in-Ok-binary c =
    let at = c.in-Ok.ensures.2 in
    let old = c.cell.ensures c.in-Ok.ensures.0 at in
    let new = c.put.ensures c.in-Ok.ensures.0 at in
    sum_ends (source_context c.args.unit.now) c.args.place c.args.array c.args.atomic c.args.subs.now c.args.value.now c.args.frame.now c.args.arrays.now c.in-Ok.ensures.0 c.in-Ok-evaluate.v c.in-Ok-binary.sum c.put.new.self
    c.in-Ok.ensures.1 (search rules) (search rules) (search (rules, old)) (search (rules, new))
