use Rattle.std.proofs.Common.{◌≤◌, length}
use Rattle.species_data.proofs.NameLemmas.{NumbersFrom}
use Rattle.species_data.proofs.names.Names.new.Given as goal

abbrev pub invariant-loop-number : goal.invariant-loop-number
invariant-loop-number l = record {
  within : l.number ≤ length l.arrays;
  table : NumbersFrom l.number l.arrays l.numbers;
}

abbrev pub decreases-loop-number : goal.decreases-loop-number
decreases-loop-number l = l.number
