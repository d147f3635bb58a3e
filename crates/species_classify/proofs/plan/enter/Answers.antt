-- The bounds of one loop.
use Rattle.std.proofs.Common.{subst, sym, All}
use Rattle.species_merge.specs.Sizes.{IsSmallBound}
use Rattle.species_classify.proofs.BoundLemmas.{range_is, all_more}
use Rattle.species_classify.proofs.plan.enter.Goals as goal

pub returns-clause-added : goal.returns-clause-added
returns-clause-added c hull = (
  c.in_ok-bound.bound,
  c.in_ok-push.ensures.items,
  c.in_ok-bound.ensures.bound c.args.path.now (range_is c.args.head.now c.in_ok-header.header c.in_ok-range.range c.as_slice-2.result.now c.args.path.now c.in_ok-range.ensures.value c.as_slice-2.ensures.value c.in_ok-header.ensures),
)

pub returns-clause-small : goal.returns-clause-small
returns-clause-small c h = subst (All IsSmallBound) (sym c.in_ok-push.ensures.items) (all_more IsSmallBound c.args.found.now.items c.in_ok-bound.bound h c.in_ok-bound.ensures.small)
