use Rattle.std.proofs.Common.{sym, subst}
use Rattle.species_cover.specs.Cover.{IsCovered}
use Rattle.species_cover.proofs.ListLemmas.{one_next}
use Rattle.species_cover.proofs.FoundLemmas.{not_all, all_found}
use Rattle.species_cover.proofs.CoverLaws.{covered_places}
use Rattle.species_cover.proofs.covers.Goals as goal

pub returns-then-not-is_covered-clause-covered : goal.returns-then-not-is_covered-clause-covered
returns-then-not-is_covered-clause-covered c =
    let arc = c.index-derived-number.result in (
      (λ t. absurd (cc t)),
      (λ all. absurd (not_all c.args.given.now.arcs c.args.derived.now c.loop-number.number arc c.loop-number-test.true c.index-derived-number.is
          (λ h. absurd (cc (c.is_covered.ensures.1 (subst (λ gs. IsCovered gs arc) (sym c.as_slice.ensures) h), c.if-not-is_covered.true))) all)),
    )

pub loop-number-preserved : goal.loop-number-preserved
loop-number-preserved c =
    let arc = c.index-derived-number.result in
    one_next (IsCovered c.args.given.now.arcs) c.args.derived.now c.loop-number.number arc c.loop-number-test.true c.index-derived-number.is c.loop-number.invariant
    (subst (λ gs. IsCovered gs arc) c.as_slice.ensures (c.is_covered.ensures.0 c.if-not-is_covered.false))

pub returns-clause-places : goal.returns-clause-places
returns-clause-places c = λ e iters place. covered_places c.args.given.now.arcs c.args.derived.now iters place
    (all_found c.args.given.now.arcs c.args.derived.now c.loop-number.number c.loop-number-test.false c.loop-number.invariant)
