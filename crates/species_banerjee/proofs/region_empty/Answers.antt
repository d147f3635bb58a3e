use Rattle.species_banerjee.proofs.Regroup.{open_decides_empty}
use Rattle.species_banerjee.proofs.region_empty.Goals as goal

pub returns : goal.returns
returns c = open_decides_empty c.all_open.result c.args.at.now c.args.p_path.now c.args.q_path.now c.requires.loops c.all_open.ensures
