-- A loop of a well made unit stands in few loops with small ranges.
use Rattle.species_references.specs.Ranges.{ranges_seen}
use Rattle.species_classify.proofs.DecisionLemmas.{path_short, path_small}
use Rattle.species_classify.proofs.StandLemmas.{stands_fits}
use Rattle.species_classify.proofs.plan.plan_nest.Goals as goal

pub nest_ranges-requires-clause-short : goal.nest_ranges-requires-clause-short
nest_ranges-requires-clause-short c = path_short c.args.unit.now c.args.head.now c.args.path.now c.requires.made c.requires.stands

pub nest_ranges-requires-clause-ends : goal.nest_ranges-requires-clause-ends
nest_ranges-requires-clause-ends c = path_small c.args.unit.now c.args.head.now c.args.path.now c.requires.made c.requires.stands

pub decide-requires-clause-ranges : goal.decide-requires-clause-ranges
decide-requires-clause-ranges c = c.in_ok-ranges.ensures.ranges (stands_fits c.args.unit.now c.args.head.now (ranges_seen c.args.path.now) c.requires.made c.requires.stands)

pub band_arcs-requires-clause-ranges : goal.band_arcs-requires-clause-ranges
band_arcs-requires-clause-ranges c = c.in_ok-ranges.ensures.ranges (stands_fits c.args.unit.now c.args.head.now (ranges_seen c.args.path.now) c.requires.made c.requires.stands)
