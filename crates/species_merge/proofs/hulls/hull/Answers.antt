use Rattle.std.proofs.Common.{subst, sym}
use Rattle.species_merge.specs.Reaches.{IsSmallEnd}
use Rattle.species_merge.proofs.HullSteps.{preserved, started, small_next, ended}
use Rattle.species_merge.proofs.hulls.hull.Goals as goal

pub loop-index-init : goal.loop-index-init
loop-index-init c = record {
  hull = started _ c.args.spans.now c.first-reach.result c.requires.some c.first-reach.ensures.first;
  small = subst IsSmallEnd (sym c.first-reach.ensures.first.low) (c.requires.small 0 _ c.requires.some);
}

pub loop-index-preserved : goal.loop-index-preserved
loop-index-preserved c = record {
  hull = preserved _ c.args.spans.now c.loop-index.index _ c.next-reach.result c.loop-index-test.true c.loop-index.invariant.hull c.next-reach.ensures.next;
  small = small_next _ _ c.next-reach.result c.next-reach.ensures.next c.loop-index.invariant.small (c.requires.small c.loop-index.index _ c.loop-index-test.true);
}

pub returns : goal.returns
returns c = ended c.args.spans.now c.loop-index.index _ c.finish.result c.loop-index-test.false c.loop-index.invariant.hull c.finish.ensures
