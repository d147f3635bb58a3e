use Rattle.species_ast.specs.Evaluation.{sizes_of}
use Rattle.species_ast.specs.Run.{source_context}
use Rattle.species_references.specs.Ranges.{ranges_seen}
use Rattle.species_references.proofs.DimensionLemmas.{dimension_more}
use Rattle.species_references.proofs.nest.resolve.Goals as goal

pub loop-dimension-preserved : goal.loop-dimension-preserved
loop-dimension-preserved c =
    dimension_more c.args.occurrence.now.subs.now c.args.inner (ranges_seen c.as_slice-ranges.result.now) (sizes_of (source_context c.args.unit.now) c.args.occurrence.now.array) c.loop-dimension.dimension c.expr-item.result
    c.loop-dimension.subs c.push-in-loop-dimension.new.self c.loop-dimension.boxes c.push.new.self c.in_ok-subscript.subscript c.box_of.result c.size_of-size.result c.loop-dimension-test.true c.expr-item.is c.in_ok-push-2.ensures.ok
    c.in_ok-push.ensures.ok c.in_ok-subscript.ensures.form c.in_ok-subscript.ensures.numbers c.size_of-size.ensures c.box_of.ensures c.loop-dimension.invariant
