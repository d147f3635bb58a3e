use Rattle.std.proofs.Common.{◌≡◌, length}
use Rattle.species_merge.specs.Exact.{is_free}
use Rattle.species_merge.proofs.exact.is_free.Given as goal

abbrev pub invariant-loop-left : goal.invariant-loop-left
invariant-loop-left l = is_free l.top l.subs ≡ is_free l.top l.left

abbrev pub decreases-loop-left : goal.decreases-loop-left
decreases-loop-left l = length l.left
