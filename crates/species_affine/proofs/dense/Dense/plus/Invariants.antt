use Rattle.std.proofs.Common.{◌≡◌, take}
use Rattle.species_ast.specs.Scope.Forms.{added_coefficients}
use Rattle.species_affine.proofs.dense.Dense.plus.Given as goal

abbrev pub invariant-loop-level : goal.invariant-loop-level
invariant-loop-level l = l.coefficients.items ≡ take l.level (added_coefficients l.self.coefficients l.other.coefficients)
