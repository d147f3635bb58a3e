use Rattle.std.proofs.Common.{◌-◌, length}
use Rattle.species_data.specs.Data.{values_of}
use Rattle.species_data.proofs.RowLemmas.{Filling}
use Rattle.species_data.proofs.rows.fill.Given as goal

abbrev pub invariant-loop-word : goal.invariant-loop-word
invariant-loop-word l =
    Filling l.initial.arrays l.arrays l.number l.at l.size (values_of l.array.kind l.end l.size l.initial.words) (values_of l.array.kind l.end (l.size - l.at) l.words)

abbrev pub decreases-loop-word : goal.decreases-loop-word
decreases-loop-word l = length l.words
