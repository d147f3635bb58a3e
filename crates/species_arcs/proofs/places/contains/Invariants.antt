use Rattle.std.proofs.Common.{take}
use Rattle.species_linear.specs.Point.{point_of}
use Rattle.species_arcs.specs.Pairwise.{Pairwise}
use Rattle.species_arcs.specs.Sets.{IsInDim}
use Rattle.species_arcs.proofs.places.contains.Given as goal

abbrev pub invariant-loop-number : goal.invariant-loop-number
invariant-loop-number l = Pairwise (λ d index. IsInDim d (point_of l.iters) index) (take l.number l.dim-items) (take l.number l.place)
