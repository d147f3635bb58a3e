use Rattle.std.proofs.Common.{◌≡◌, take, length}
use Rattle.species_annotate.proofs.lines.leave.Given as goal

abbrev pub invariant-loop-names : goal.invariant-loop-names
invariant-loop-names l = record {
  arrays : l.names.arrays ≡ l.initial.names.arrays;
  locals : l.names.locals ≡ l.initial.names.locals;
  iters : take l.level l.names.iters ≡ take l.level l.initial.names.iters;
}

abbrev pub decreases-loop-names : goal.decreases-loop-names
decreases-loop-names l = length l.names.iters
