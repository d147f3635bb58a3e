use Rattle.species_ast.specs.Evaluation.{sizes_of}
use Rattle.species_ast.specs.Run.{source_context}
use Rattle.species_references.proofs.DimensionLemmas.{AreResolved}
use Rattle.species_references.proofs.nest.resolved.Given as goal

abbrev pub invariant-loop-number : goal.invariant-loop-number
invariant-loop-number l = AreResolved (sizes_of (source_context l.unit)) l.inner l.occurrences l.number l.found.items
