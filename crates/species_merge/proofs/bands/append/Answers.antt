use Rattle.std.proofs.Common.{◌<◌, sym, subst, slice_index_or, All}
use Rattle.species_merge.proofs.BandLemmas.{next_above, nonzero_behind}
use Rattle.species_merge.proofs.TermLemmas.{no_term}
use Rattle.species_merge.proofs.bands.append.Goals as goal

pub push-requires-clause-above : goal.push-requires-clause-above
push-requires-clause-above c =
    subst (λ out. All (λ t. t.level < (slice_index_or c.args.terms.now c.loop-term.term-index no_term).level) out) (sym c.loop-term.invariant)
    (next_above c.args.out.now c.args.terms.now c.loop-term.term-index no_term c.requires c.loop-term-test.true)

pub push-requires-clause-nonzero : goal.push-requires-clause-nonzero
push-requires-clause-nonzero c = nonzero_behind 0 c.args.out.now c.args.terms.now c.loop-term.term-index no_term c.requires c.loop-term-test.true
