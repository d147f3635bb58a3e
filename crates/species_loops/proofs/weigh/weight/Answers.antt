use Rattle.species_loops.proofs.WeightLaws.{whole_weight}
use Rattle.species_loops.proofs.weigh.weight.Goals as goal

pub returns : goal.returns
returns c made = whole_weight c.args.unit.now c.as_slice.result.now c.new-path.result c.in_ok-total.total c.as_slice.ensures c.new-path.ensures c.in_ok-total.ensures.value made
