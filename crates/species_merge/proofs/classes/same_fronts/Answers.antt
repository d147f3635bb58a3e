use Rattle.species_merge.proofs.ClassLemmas.{fronts_apart}
use Rattle.species_merge.proofs.classes.same_fronts.Goals as goal

pub returns-then-a-b : goal.returns-then-a-b
returns-then-a-b c = fronts_apart c.args.top c.args.a.now c.args.b.now (λ e. c.if-a-b.true e)
