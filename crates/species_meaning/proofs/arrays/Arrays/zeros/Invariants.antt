use Rattle.std.proofs.Common.{◌≡◌, take, map}
use Rattle.species_ast.specs.Run.{zeros_of}
use Rattle.species_meaning.proofs.arrays.Arrays.zeros.Given as goal

abbrev pub invariant-loop-array : goal.invariant-loop-array
invariant-loop-array l = map (λ r. r.items) l.rows.items ≡ zeros_of (take l.array-index l.unit.arrays)
