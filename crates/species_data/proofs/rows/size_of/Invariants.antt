use Rattle.std.proofs.Common.{◌≡◌, ◌*◌, drop}
use Rattle.species_ast.specs.Evaluation.{product}
use Rattle.species_data.proofs.rows.size_of.Given as goal

abbrev pub invariant-loop-size : goal.invariant-loop-size
invariant-loop-size l = l.count * product (drop l.size-index l.sizes) ≡ product l.sizes
