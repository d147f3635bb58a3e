use Rattle.std.proofs.Common.{ℕ, ◌<◌, slice_index_or}
use Rattle.species_arcs.specs.declared.places.Arc.{Arc}
use Rattle.species_cover.specs.Cover.{IsCovered}
use Rattle.species_cover.proofs.covers.Given as goal

abbrev pub invariant-loop-number : goal.invariant-loop-number
invariant-loop-number l = (k : ℕ) (d : Arc) → k < l.number → IsCovered l.given.arcs (slice_index_or l.derived k d)
