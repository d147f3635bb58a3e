use Rattle.std.proofs.Common.{arith, subst, sym, slice_index_or}
use Rattle.species_arcs.proofs.PairwiseLaws.{pairwise_length, pairwise_at, pairwise_more}
use Rattle.species_notation.specs.declared.given.GivenDim.{GivenDim}
use Rattle.species_arcs.specs.declared.places.ArcDim.{ArcDim}
use Rattle.species_cover.specs.Cover.{CoversDim}
use Rattle.species_cover.proofs.arcs.dims_cover.Goals as goal

pub returns-then-given-derived : goal.returns-then-given-derived
returns-then-given-derived c = (
  (λ t. absurd (cc t)),
  (λ h. absurd (c.if-given-derived.true (pairwise_length (CoversDim c.args.exact) c.args.given.now c.args.derived.now h))),
)

pub returns-then-not-dim_covers : goal.returns-then-not-dim_covers
returns-then-not-dim_covers c =
    let exact = c.args.exact in
    let gs = c.args.given.now in
    let ds = c.args.derived.now in
    let g = c.index-given-number.result in
    let d = c.index-derived-number.result in (
      (λ t. absurd (cc t)),
      (λ h. absurd (cc (
        c.dim_covers.ensures.1
            (subst (λ (x : GivenDim). CoversDim exact x d) (sym c.index-given-number.is)
            (subst (λ (x : ArcDim). CoversDim exact (slice_index_or gs c.loop-number.number g) x) (sym c.index-derived-number.is)
            (pairwise_at (CoversDim exact) gs ds c.loop-number.number g d h c.loop-number-test.true))),
        c.if-not-dim_covers.true,
      ))),
    )

pub loop-number-preserved : goal.loop-number-preserved
loop-number-preserved c =
    let exact = c.args.exact in
    let gs = c.args.given.now in
    let ds = c.args.derived.now in
    let g = c.index-given-number.result in
    let d = c.index-derived-number.result in
    pairwise_more (CoversDim exact) gs ds c.loop-number.number g d c.loop-number-test.true (omega (arith, c.if-given-derived.false)) c.loop-number.invariant
    (subst (λ (x : GivenDim). CoversDim exact x (slice_index_or ds c.loop-number.number d)) c.index-given-number.is
    (subst (λ (x : ArcDim). CoversDim exact g x) c.index-derived-number.is (c.dim_covers.ensures.0 c.if-not-dim_covers.false)))
