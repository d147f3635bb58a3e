use Rattle.std.proofs.Common.{◌≡◌, ◌≤◌, take}
use Rattle.species_ast.specs.Evaluation.{product}
use Rattle.species_ast.specs.Scope.Limits.{most_elements}
use Rattle.species_limits.proofs.arrays.is_product_within.Given as goal

abbrev pub invariant-loop-size : goal.invariant-loop-size
invariant-loop-size l = record { so_far : l.elements ≡ product (take l.size-index l.sizes); small : l.elements ≤ most_elements }
