use Rattle.std.proofs.Common.{take}
use Rattle.species_arcs.specs.Pairwise.{Pairwise}
use Rattle.species_cover.specs.Cover.{CoversDim}
use Rattle.species_cover.proofs.arcs.dims_cover.Given as goal

abbrev pub invariant-loop-number : goal.invariant-loop-number
invariant-loop-number l = Pairwise (CoversDim l.exact) (take l.number l.given) (take l.number l.derived)
