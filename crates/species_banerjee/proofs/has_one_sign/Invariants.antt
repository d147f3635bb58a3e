use Rattle.std.proofs.Common.{◌≤◌, ◌<◌, ◌+◌, ◌*◌, ◌^◌}
use Rattle.std.specs.Int.RustNames.{unsigned_abs}
use Rattle.species_linear.specs.Rising.{IsRising}
use Rattle.species_banerjee.proofs.Signs.{IsLeastBelow, IsGreatestBelow}
use Rattle.species_banerjee.proofs.has_one_sign.Given as goal

abbrev pub invariant-loop-level : goal.invariant-loop-level
invariant-loop-level l = record {
  least : IsLeastBelow l.p l.q l.at l.p_path l.q_path l.level l.least;
  greatest : IsGreatestBelow l.p l.q l.at l.p_path l.q_path l.level l.greatest;
  small_least : unsigned_abs l.least ≤ (1 + l.level) * 2 ^ 112;
  small_greatest : unsigned_abs l.greatest ≤ (1 + l.level) * 2 ^ 112;
  rising_first : 0 < l.level → IsRising l.p.terms;
  rising_second : 0 < l.level → IsRising l.q.terms;
}
