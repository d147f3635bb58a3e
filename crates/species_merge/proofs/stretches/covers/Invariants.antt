use Rattle.std.proofs.Common.{pos, ◌+ℤ◌, ◌-ℤ◌, ◌≤ℤ◌}
use Rattle.std.specs.Int.{◌∣◌}
use Rattle.std.specs.Int.RustNames.{unsigned_abs}
use Rattle.species_merge.proofs.Covering.{CoveredTo}
use Rattle.species_merge.proofs.stretches.covers.Given as goal

abbrev pub invariant-loop-at : goal.invariant-loop-at
invariant-loop-at l = record {
  covered : CoveredTo l.spans l.hull.low l.hull.stride l.at;
  whole : l.hull.stride ∣ unsigned_abs (l.at -ℤ l.hull.low);
  from : l.hull.low ≤ℤ l.at;
}

abbrev pub decreases-loop-at : goal.decreases-loop-at
decreases-loop-at l = unsigned_abs ((l.hull.high +ℤ pos l.hull.stride) -ℤ l.at)
