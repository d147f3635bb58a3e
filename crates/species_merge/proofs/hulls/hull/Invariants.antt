use Rattle.std.proofs.Common.{take}
use Rattle.species_merge.specs.Reaches.{IsSmallEnd}
use Rattle.species_merge.proofs.Folding.{IsHullSoFar}
use Rattle.species_merge.proofs.hulls.hull.Given as goal

abbrev pub invariant-loop-index : goal.invariant-loop-index
invariant-loop-index l = record {
  hull : IsHullSoFar (take l.index l.spans) l.reach.low l.reach.high l.reach.divisor;
  small : IsSmallEnd l.reach.low;
}
