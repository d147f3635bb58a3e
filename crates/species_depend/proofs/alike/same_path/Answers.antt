use Rattle.species_depend.proofs.SameLemmas.{same_end}
use Rattle.species_depend.proofs.alike.same_path.Goals as goal

pub returns : goal.returns
returns c t = same_end c.args.a.now c.args.b.now c.loop-i.i c.if-a-b.false c.loop-i-test.false c.loop-i.invariant
