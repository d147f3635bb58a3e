use Rattle.std.proofs.Common.{◌≡◌, pos}
use Rattle.std.specs.Prelude.{replicate}
use Rattle.species_affine.proofs.dense.Dense.iterator.Given as goal

abbrev pub invariant-loop-lower : goal.invariant-loop-lower
invariant-loop-lower l = l.coefficients.items ≡ replicate l._lower (pos 0)
