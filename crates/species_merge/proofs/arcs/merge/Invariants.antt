use Rattle.std.proofs.Common.{All}
use Rattle.species_arcs.specs.Sizes.{HasSmallSpan}
use Rattle.species_merge.proofs.ArcLemmas.{AreArcsSoFar}
use Rattle.species_merge.proofs.arcs.merge.Given as goal

abbrev pub invariant-loop-number : goal.invariant-loop-number
invariant-loop-number l = record {
  arcs : AreArcsSoFar l.outer l.bands l.top l.refs l.number l.arcs.items;
  spans : All (λ arc. All HasSmallSpan arc.dims) l.arcs.items;
}
