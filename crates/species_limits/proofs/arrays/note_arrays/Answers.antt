use Rattle.std.proofs.Common.{◌∙◌, ◌<◌, length, ap, sym, arith, slice_index_or}
use Rattle.species_limits.proofs.ArrayFindings.{arrays_next}
use Rattle.species_limits.proofs.arrays.note_arrays.Goals as goal

pub loop-array-preserved : goal.loop-array-preserved
loop-array-preserved c = record {
  same = omega (arith, c.loop-array.invariant.same);
  found =
      let within : c.loop-array.i < length c.args.arrays.now = omega (arith, c.loop-array.invariant.same, c.loop-array-test.true) in
      let here : c.loop-array.i < length c.args.places.now = omega arith in
      arrays_next c.args.arrays.now c.args.places.now c.loop-array.i c.array-item.result 0 _ c.loop-array.limits c.note_array.new.limits
      (c.array-item.is ∙ ap (λ n. slice_index_or c.args.arrays.now n c.array-item.result) (sym c.loop-array.invariant.same)) within here c.loop-array.invariant.found c.note_array.ensures;
}
