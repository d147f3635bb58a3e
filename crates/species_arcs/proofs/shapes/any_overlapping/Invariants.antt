use Rattle.std.proofs.Common.{◌≡◌, drop}
use Rattle.std.specs.List.{list_any}
use Rattle.species_arcs.specs.Shapes.{is_overlapping}
use Rattle.species_arcs.proofs.shapes.any_overlapping.Given as goal

abbrev pub invariant-loop-dim : goal.invariant-loop-dim
invariant-loop-dim l = list_any is_overlapping l.dims ≡ list_any is_overlapping (drop l.dim-index l.dims)
