use Rattle.std.proofs.Common.{◌≤◌, ◌<◌, ◌-◌, length, take, All}
use Rattle.species_merge.proofs.classes.count_below.Given as goal

abbrev pub invariant-loop-count : goal.invariant-loop-count
invariant-loop-count l = record {
  within : l.count ≤ length l.terms;
  below : All (λ t. t.level < l.top) (take l.count l.terms);
}

abbrev pub decreases-loop-count : goal.decreases-loop-count
decreases-loop-count l = length l.terms - l.count
