use Rattle.std.proofs.Common.{ℕ, ◌<◌}
use Rattle.species_banerjee.specs.LoopPair.{loop_pair_at, IsOpen}
use Rattle.species_banerjee.proofs.all_open.Given as goal

abbrev pub invariant-loop-level : goal.invariant-loop-level
invariant-loop-level l = (k : ℕ) → k < l.level → IsOpen (loop_pair_at l.at l.p_path l.q_path k)
