use Rattle.std.proofs.Common.{subst, sym}
use Rattle.species_linear.specs.Rising.{IsRising}
use Rattle.species_merge.proofs.TermLemmas.{below_rising}
use Rattle.species_merge.proofs.classes.terms_below.Goals as goal

pub returns-clause-rising : goal.returns-clause-rising
returns-clause-rising c = subst IsRising (sym c.count_below.ensures.below) (below_rising c.args.top 0 c.args.terms.now c.requires)
