use Rattle.std.proofs.Common.{◌<◌, ◌^◌, All}
use Rattle.std.specs.Int.RustNames.{unsigned_abs}
use Rattle.species_linear.proofs.tests.largest.Given as goal

abbrev pub invariant-loop-level : goal.invariant-loop-level
invariant-loop-level l = record {
  below : All (λ t. t.level < l.level) l.terms;
  small : All (λ t. unsigned_abs t.coefficient < 2 ^ 70) l.terms;
}
