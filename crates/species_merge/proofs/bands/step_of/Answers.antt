use Rattle.std.proofs.Common.{◌^◌, sym, subst, length}
use Rattle.species_merge.specs.Bands.{moves_of, IsLeastAmong}
use Rattle.species_merge.proofs.BandLemmas.{in_band, small_in_band, least_more, least_all}
use Rattle.species_merge.proofs.TermLemmas.{no_term}
use Rattle.species_merge.proofs.bands.step_of.Goals as goal

pub bound_for-bound-requires-clause-from : goal.bound_for-bound-requires-clause-from
bound_for-bound-requires-clause-from c =
    (in_band c.args.outer (length c.args.bands.now) c.args.terms.now c.terms_from-term-items.result.now c.loop-term.term-index no_term
    c.terms_from-term-items.ensures.value c.requires.levels c.loop-term-test.true).0

pub bound_for-bound-requires-clause-below : goal.bound_for-bound-requires-clause-below
bound_for-bound-requires-clause-below c =
    (in_band c.args.outer (length c.args.bands.now) c.args.terms.now c.terms_from-term-items.result.now c.loop-term.term-index no_term
    c.terms_from-term-items.ensures.value c.requires.levels c.loop-term-test.true).1

pub move_of-requires : goal.move_of-requires
move_of-requires c =
    small_in_band (2 ^ 40) c.args.outer c.args.terms.now c.terms_from-term-items.result.now c.loop-term.term-index no_term
    c.terms_from-term-items.ensures.value c.requires.small c.loop-term-test.true

pub loop-term-preserved : goal.loop-term-preserved
loop-term-preserved c =
    least_more c.args.outer c.args.bands.now c.args.terms.now c.terms_from-term-items.result.now c.loop-term.term-index no_term c.bound_for-bound.result.now c.move_of.result
    c.loop-term.least c.least_with-least.result c.terms_from-term-items.ensures.value c.loop-term-test.true c.bound_for-bound.ensures c.move_of.ensures c.loop-term.invariant
    c.least_with-least.ensures

pub returns : goal.returns
returns c =
    subst (λ m. IsLeastAmong (moves_of c.args.outer c.args.bands.now c.args.terms.now) m) (sym c.unwrap_or.ensures)
    (least_all c.args.outer c.args.bands.now c.args.terms.now c.terms_from-term-items.result.now c.loop-term.term-index c.loop-term.least
    c.terms_from-term-items.ensures.value c.loop-term-test.false c.loop-term.invariant)
