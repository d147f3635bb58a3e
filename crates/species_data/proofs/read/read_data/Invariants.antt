use Rattle.std.proofs.Common.{◌≡◌, ◌-◌, length}
use Rattle.species_ast.specs.Run.{AreArraysOf}
use Rattle.species_data.specs.Data.{lines_read, none_yet}
use Rattle.species_data.specs.Lines.{lines_at}
use Rattle.species_data.proofs.ReadLemmas.{left}
use Rattle.species_data.proofs.read.read_data.Given as goal

abbrev pub invariant-loop-at : goal.invariant-loop-at
invariant-loop-at l = record {
  read : lines_read l.unit.arrays (none_yet l.unit.arrays) (lines_at l.base l.text) ≡ left l.unit.arrays l.rows l.base l.at l.text;
  arrays : AreArraysOf l.unit.arrays l.rows.arrays;
}

abbrev pub decreases-loop-at : goal.decreases-loop-at
decreases-loop-at l = length l.text - l.at
