use Rattle.std.proofs.Common.{◌≡◌, map, take}
use Rattle.species_annotate.proofs.lines.array_names.Given as goal

abbrev pub invariant-loop-array : goal.invariant-loop-array
invariant-loop-array l = l.names ≡ map (λ a. a.name) (take l.array-index l.arrays)
