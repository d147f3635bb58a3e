use Rattle.std.proofs.Common.{◌≡◌, ◌++◌, ◌-◌}
use Rattle.species_drill.specs.Program.{front, nests_text}
use Rattle.species_drill.proofs.nests.program.Given as goal

abbrev pub invariant-loop-made : goal.invariant-loop-made
invariant-loop-made l = front ++ nests_text l.nests l.from ≡ l.text.items ++ nests_text (l.nests - l.made) l.number
