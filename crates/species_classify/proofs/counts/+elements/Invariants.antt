-- The elements before a place in a list of expressions.
use Rattle.std.proofs.Common.{◌≡◌, ◌+◌, take}
use Rattle.species_classify.specs.Counts.{elements_in}
use Rattle.species_classify.proofs.counts.+elements.Given as goal

abbrev pub invariant-count_in_all-loop-e : goal.invariant-count_in_all-loop-e
invariant-count_in_all-loop-e l = l.count.references ≡ l.initial.count.references + elements_in (take l.e-index l.all)
