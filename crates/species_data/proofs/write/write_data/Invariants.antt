use Rattle.std.proofs.Common.{◌≡◌, ◌++◌, drop}
use Rattle.species_ast.specs.Run.{AreArraysOf}
use Rattle.species_data.specs.Text.{data_text}
use Rattle.species_data.proofs.write.write_data.Given as goal

abbrev pub invariant-loop-number : goal.invariant-loop-number
invariant-loop-number l =
    AreArraysOf l.unit.arrays l.arrays
    → data_text l.unit.arrays l.arrays ≡ l.text.items ++ data_text (drop l.number l.unit.arrays) (drop l.number l.arrays)
