use Rattle.std.proofs.Common.{◌≡◌, ◌++◌, take}
use Rattle.std.specs.List.{flat_map}
use Rattle.species_print.specs.Texts.{array_text}
use Rattle.species_print.proofs.units.put_arrays.Given as goal

abbrev pub invariant-loop-array : goal.invariant-loop-array
invariant-loop-array l = l.out.items ≡ l.initial.out.items ++ flat_map array_text (take l.array-index l.arrays)
