use Rattle.std.proofs.Common.{pos, ◌+ℤ◌, ◌-ℤ◌, ◌≤ℤ◌}
use Rattle.std.specs.Int.{◌∣◌}
use Rattle.std.specs.Int.RustNames.{unsigned_abs}
use Rattle.species_merge.proofs.Covering.{CoveredTo}
use Rattle.species_merge.proofs.stretches.walk.Given as goal

abbrev pub invariant-loop-at : goal.invariant-loop-at
invariant-loop-at l = record {
  covered : CoveredTo l.spans l.first l.stride l.at;
  whole : l.stride ∣ unsigned_abs (l.at -ℤ l.first);
  from : l.first ≤ℤ l.at;
}

abbrev pub decreases-loop-at : goal.decreases-loop-at
decreases-loop-at l = unsigned_abs ((l.last +ℤ pos l.stride) -ℤ l.at)
