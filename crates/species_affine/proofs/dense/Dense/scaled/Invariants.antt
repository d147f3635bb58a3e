use Rattle.std.proofs.Common.{◌≡◌, map, take, ◌*ℤ◌}
use Rattle.species_affine.proofs.dense.Dense.scaled.Given as goal

abbrev pub invariant-loop-c : goal.invariant-loop-c
invariant-loop-c l = l.coefficients.items ≡ map (λ c. l.n *ℤ c) (take l.c-index l.c-items)
