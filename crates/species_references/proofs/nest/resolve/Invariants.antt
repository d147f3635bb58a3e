use Rattle.species_ast.specs.Evaluation.{sizes_of}
use Rattle.species_ast.specs.Run.{source_context}
use Rattle.species_references.specs.Ranges.{ranges_seen}
use Rattle.species_references.proofs.DimensionLemmas.{AreDimensions}
use Rattle.species_references.proofs.nest.resolve.Given as goal

abbrev pub invariant-loop-dimension : goal.invariant-loop-dimension
invariant-loop-dimension l =
    AreDimensions l.occurrence.subs.now l.inner (ranges_seen l.ranges) (sizes_of (source_context l.unit) l.occurrence.array) l.dimension l.subs l.boxes
