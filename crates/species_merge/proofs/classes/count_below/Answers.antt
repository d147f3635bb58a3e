use Rattle.std.proofs.Common.{arith}
use Rattle.species_merge.proofs.TermLemmas.{split_at, below_more, no_term}
use Rattle.species_merge.proofs.classes.count_below.Goals as goal

pub loop-count-preserved : goal.loop-count-preserved
loop-count-preserved c = record {
  within = omega (arith, c.loop-count-test.true);
  below = below_more c.args.top c.args.terms.now c.loop-count.count no_term c.loop-count-test.true c.loop-count.invariant.below c.if-terms-count.true;
}

pub returns-else-terms-count-clause-below : goal.returns-else-terms-count-clause-below
returns-else-terms-count-clause-below c =
    (split_at c.args.top 0 c.loop-count.count no_term c.args.terms.now c.requires c.loop-count.invariant.within c.loop-count.invariant.below
    (λ l. omega (arith, c.if-terms-count.false))).0

pub returns-else-terms-count-clause-behind : goal.returns-else-terms-count-clause-behind
returns-else-terms-count-clause-behind c =
    (split_at c.args.top 0 c.loop-count.count no_term c.args.terms.now c.requires c.loop-count.invariant.within c.loop-count.invariant.below
    (λ l. omega (arith, c.if-terms-count.false))).1

pub returns-after-loop-count-clause-below : goal.returns-after-loop-count-clause-below
returns-after-loop-count-clause-below c =
    (split_at c.args.top 0 c.loop-count.count no_term c.args.terms.now c.requires c.loop-count.invariant.within c.loop-count.invariant.below
    (λ l. absurd (omega (arith, l, c.loop-count-test.false)))).0

pub returns-after-loop-count-clause-behind : goal.returns-after-loop-count-clause-behind
returns-after-loop-count-clause-behind c =
    (split_at c.args.top 0 c.loop-count.count no_term c.args.terms.now c.requires c.loop-count.invariant.within c.loop-count.invariant.below
    (λ l. absurd (omega (arith, l, c.loop-count-test.false)))).1
