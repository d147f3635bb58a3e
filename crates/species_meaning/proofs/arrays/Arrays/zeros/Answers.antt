use Rattle.std.proofs.Common.{rules, ◌≤◌, ◌∙◌, ap, length, take_all}
use Rattle.species_ast.specs.Run.{zeros_of}
use Rattle.species_meaning.proofs.Kept.{zeros_of_unit}
use Rattle.species_meaning.proofs.arrays.Arrays.zeros.Goals as goal

pub returns-clause-arrays : goal.returns-clause-arrays
returns-clause-arrays c =
    let past : length c.args.unit.now.arrays ≤ c.loop-array.array-index = search rules in
    zeros_of_unit c.args.unit.now _ (c.loop-array.invariant ∙ ap zeros_of (take_all c.loop-array.array-index c.args.unit.now.arrays past))
