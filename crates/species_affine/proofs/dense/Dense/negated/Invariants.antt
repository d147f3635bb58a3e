use Rattle.std.proofs.Common.{◌≡◌, map, take, neg_ℤ}
use Rattle.species_affine.proofs.dense.Dense.negated.Given as goal

abbrev pub invariant-loop-c : goal.invariant-loop-c
invariant-loop-c l = l.coefficients.items ≡ map neg_ℤ (take l.c-index l.c-items)
