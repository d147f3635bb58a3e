use Rattle.std.proofs.Common.{◌≡◌, drop}
use Rattle.species_names.specs.Kept.{kept}
use Rattle.species_limits.specs.Found.{arrays_found}
use Rattle.species_limits.proofs.arrays.note_arrays.Given as goal

abbrev pub invariant-loop-array : goal.invariant-loop-array
invariant-loop-array l = record {
  same : l.i ≡ l.array-index;
  found : kept l.limits (arrays_found (drop l.i l.arrays) (drop l.i l.places)) ≡ kept l.initial.limits (arrays_found l.arrays l.places);
}
