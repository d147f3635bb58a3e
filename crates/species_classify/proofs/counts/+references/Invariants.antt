-- The references before a place in a list of statements.
use Rattle.std.proofs.Common.{◌≡◌, ◌+◌, take}
use Rattle.species_classify.specs.Counts.{most_in_list}
use Rattle.species_classify.proofs.counts.+references.Given as goal

abbrev pub invariant-count_list-loop-stmt : goal.invariant-count_list-loop-stmt
invariant-count_list-loop-stmt l = l.count.references ≡ l.initial.count.references + most_in_list (take l.stmt-index l.all)
