use Rattle.species_ranges.proofs.RangeLemmas.{seen_next}
use Rattle.species_ranges.proofs.ranges.path_of.Goals as goal

pub loop-range-preserved : goal.loop-range-preserved
loop-range-preserved c = seen_next c.args.ranges.now c.loop-range.range-index c.loop-range.path c.enter.new.self c.loop-range-test.true c.requires.short c.loop-range.invariant c.in_ok-enter.ensures.open
