use Rattle.std.proofs.Common.{◌≡◌, ◌++◌, drop}
use Rattle.species_ast.specs.declared.tree.Loop.{out-Loop}
use Rattle.species_gather.specs.Summed.{summed_from}
use Rattle.species_gather.proofs.summed.sum_arrays.Given as goal

-- what was found, and what is still to come
abbrev pub invariant-loop-array : goal.invariant-loop-array
invariant-loop-array l =
    (l.number ≡ l.array-index)
    × (summed_from (out-Loop l.head).body 0 l.unit.arrays ≡ l.found.items ++ summed_from (out-Loop l.head).body l.array-index (drop l.array-index l.array-items))
