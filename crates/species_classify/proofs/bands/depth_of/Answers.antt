use Rattle.species_classify.proofs.DepthLemmas.{free_first, free_next, free_end}
use Rattle.species_classify.proofs.bands.depth_of.Goals as goal

pub loop-level-init : goal.loop-level-init
loop-level-init c = free_first c.args.refs.now c.args.outer c.args.exempt.now c.requires.first

pub loop-level-preserved : goal.loop-level-preserved
loop-level-preserved c =
    free_next c.args.refs.now c.args.outer c.args.exempt.now c.loop-level.level c.loop-level.invariant (c.carries_none.ensures.0 c.if-not-carries_none.false)

pub returns-clause-depth : goal.returns-clause-depth
returns-clause-depth c = free_end c.args.refs.now c.args.outer c.args.front c.args.exempt.now c.loop-level.level c.loop-level-test.false c.loop-level.invariant

pub carries_none-requires : goal.carries_none-requires
carries_none-requires c = c.requires.asked c.loop-level.level c.loop-level-test.true
