use Rattle.std.proofs.Common.{ℕ, ◌<◌, slice_index_or}
use Rattle.species_notation.specs.declared.given.GivenArc.{GivenArc}
use Rattle.species_cover.specs.Cover.{Covers}
use Rattle.species_cover.proofs.arcs.is_covered.Given as goal

abbrev pub invariant-loop-known : goal.invariant-loop-known
invariant-loop-known l = (k : ℕ) (d : GivenArc) → k < l.known-index → Covers (slice_index_or l.given k d) l.arc → ⊥
