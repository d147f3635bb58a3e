use Rattle.std.proofs.Common.{ℕ, ◌<◌}
use Rattle.species_merge.specs.Exact.{FillsAlong}
use Rattle.species_merge.proofs.exact.fills.Given as goal

abbrev pub invariant-loop-number : goal.invariant-loop-number
invariant-loop-number l = (k : ℕ) → k < l.number → FillsAlong l.class l.hulls k → ⊥
