use Rattle.std.proofs.Common.{◌≡◌, rules, ◌++◌, ◌∷◌, []}
use Rattle.species_ast.specs.Evaluation.{sizes_of}
use Rattle.species_ast.specs.Run.{source_context}
use Rattle.species_references.proofs.DimensionLemmas.{next_resolved}
use Rattle.species_references.proofs.nest.resolved.Goals as goal

pub loop-number-preserved : goal.loop-number-preserved
loop-number-preserved c =
    let more : c.push.new.self.items ≡ c.loop-number.found.items ++ c.in_ok-resolve.field-0 ∷ [] = search rules in
    next_resolved (sizes_of (source_context c.args.unit.now)) c.args.inner c.args.occurrences.now c.loop-number.number c.index-occurrences-number.result c.loop-number.found.items c.push.new.self.items c.in_ok-resolve.field-0
    c.index-occurrences-number.is c.loop-number-test.true more c.in_ok-resolve.ensures.shown c.in_ok-resolve.ensures.number c.loop-number.invariant
