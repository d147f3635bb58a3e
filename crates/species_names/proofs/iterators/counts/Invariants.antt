use Rattle.std.proofs.Common.{◌≡◌, ◌++◌, drop}
use Rattle.species_names.specs.Counted.{counts_from}
use Rattle.species_names.proofs.iterators.counts.Given as goal

abbrev pub invariant-loop-flag : goal.invariant-loop-flag
invariant-loop-flag l = l.all.items ++ counts_from l.count (drop l.flag-index l.flags) ≡ counts_from 0 l.flags
