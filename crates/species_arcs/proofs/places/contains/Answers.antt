use Rattle.std.proofs.Common.{rules, ◌≡◌, arith, slice_index_or, subst, sym, length, refl, ap, ◌∙◌, pos, List, FitsSigned}
use Rattle.std.specs.Int.{w64}
use Rattle.std.proofs.lemmas.Int.{to_z-of_z}
use Rattle.species_linear.specs.Point.{point_of}
use Rattle.species_arcs.specs.declared.places.ArcDim.{ArcDim}
use Rattle.species_arcs.specs.Pairwise.{Pairwise}
use Rattle.species_arcs.specs.Sets.{IsInDim}
use Rattle.species_arcs.proofs.PairwiseLaws.{pairwise_at, pairwise_more, pairwise_whole}
use Rattle.species_arcs.proofs.places.contains.Goals as goal

pub returns-then-not-dim_contains : goal.returns-then-not-dim_contains
returns-then-not-dim_contains c =
    let fits : FitsSigned w64 (slice_index_or c.args.place.now c.loop-number.number (pos 0)) = search rules in
    let test = simp to_z-of_z at c.dim_contains.ensures in
    let same : c.dim-item.result ≡ slice_index_or c.args.arc.now.dims c.loop-number.number c.dim-item.result =
    c.dim-item.is ∙ ap (λ (ds : List ArcDim). slice_index_or ds c.loop-number.number c.dim-item.result) c.as_slice-dim-items.ensures in (
      (λ t. absurd (cc t)),
      (λ h. absurd (cc (
        test.1 (subst (λ (d : ArcDim). IsInDim d (point_of c.args.iters.now) (slice_index_or c.args.place.now c.loop-number.number (pos 0))) (sym same)
            (pairwise_at (λ d v. IsInDim d (point_of c.args.iters.now) v) c.args.arc.now.dims c.args.place.now c.loop-number.number c.dim-item.result (pos 0) h
            (omega (arith, ap length c.as_slice-dim-items.ensures, c.loop-number-test.true)))),
        c.if-not-dim_contains.true,
      ))),
    )

pub loop-number-preserved : goal.loop-number-preserved
loop-number-preserved c =
    let fits : FitsSigned w64 (slice_index_or c.args.place.now c.loop-number.number (pos 0)) = search rules in
    let test = simp to_z-of_z at c.dim_contains.ensures in
    pairwise_more (λ d v. IsInDim d (point_of c.args.iters.now) v) c.as_slice-dim-items.result.now c.args.place.now c.loop-number.number c.dim-item.result (pos 0)
    c.loop-number-test.true (omega (arith, ap length c.as_slice-dim-items.ensures, c.requires.indices)) c.loop-number.invariant
    (subst (λ (d : ArcDim). IsInDim d (point_of c.args.iters.now) (slice_index_or c.args.place.now c.loop-number.number (pos 0))) c.dim-item.is (test.0 c.if-not-dim_contains.false))

pub returns : goal.returns
returns c = (
  (λ t. subst (λ (ds : List ArcDim). Pairwise (λ d v. IsInDim d (point_of c.args.iters.now) v) ds c.args.place.now) c.as_slice-dim-items.ensures
      (pairwise_whole (λ d v. IsInDim d (point_of c.args.iters.now) v) c.as_slice-dim-items.result.now c.args.place.now c.loop-number.number
      c.loop-number-test.false (omega (arith, ap length c.as_slice-dim-items.ensures, c.requires.indices)) c.loop-number.invariant)),
  (λ h. refl),
)
