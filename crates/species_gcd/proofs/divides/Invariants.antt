use Rattle.std.proofs.Common.{◌≡◌, ◌≤◌, ◌<◌, ◌+◌, ◌*◌, ◌^◌}
use Rattle.std.specs.Int.RustNames.{unsigned_abs}
use Rattle.species_linear.specs.Rising.{IsRising}
use Rattle.species_gcd.proofs.Coefficients.{IsGcdBelow}
use Rattle.species_gcd.proofs.Steps.{residual_below}
use Rattle.species_gcd.proofs.divides.Given as goal

abbrev pub invariant-loop-level : goal.invariant-loop-level
invariant-loop-level l = record {
  divisors : IsGcdBelow l.p l.q l.at l.p_path l.q_path l.level l.divisor;
  constant : l.constant ≡ residual_below l.p l.q l.p_path l.q_path l.level;
  small : unsigned_abs l.constant ≤ (1 + l.level) * 2 ^ 102;
  rising_first : 0 < l.level → IsRising l.p.terms;
  rising_second : 0 < l.level → IsRising l.q.terms;
}
