use Rattle.std.proofs.Common.{ℕ, ◌<◌, slice_index_or}
use Rattle.species_arcs.specs.declared.spans.Span.{Span}
use Rattle.species_arcs.specs.Spans.{IsInSpan}
use Rattle.species_merge.proofs.stretches.some_holds.Given as goal

abbrev pub invariant-loop-span : goal.invariant-loop-span
invariant-loop-span l = (k : ℕ) (d : Span) → k < l.span-index → IsInSpan (slice_index_or l.spans k d) l.number → ⊥
