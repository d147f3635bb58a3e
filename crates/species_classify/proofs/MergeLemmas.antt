-- The references of a nest can be merged.
use Rattle.std.proofs.Common.{ℕ, ◌+◌, List, [], length, All}
use Rattle.species_arcs.specs.Pairwise.{Pairwise}
use Rattle.species_ast.specs.declared.tree.Loop.{Loop}
use Rattle.species_ast.specs.declared.tree.Unit.{Unit as Program}
use Rattle.species_ast.specs.Evaluation.{sizes_of}
use Rattle.species_ast.specs.Run.{source_context}
use Rattle.species_ast.specs.Scope.Hulls.{Range}
use Rattle.species_ast.specs.Scope.References.{Adding, references_of}
use Rattle.species_ast.specs.Scope.WellMade.{IsWellMade}
use Rattle.species_merge.specs.Sizes.{IsMergeable}
use Rattle.species_occurrences.proofs.PositionLaws.{each_weaker}
use Rattle.species_ranges.proofs.BoundedLaws.{IsBounded}
use Rattle.species_references.specs.Law.{HasTurns}
use Rattle.species_references.specs.References.{IsReference}
use Rattle.species_references.specs.declared.nest.Reference.{Reference as Held}
use Rattle.species_references.proofs.TurnLaws.{each_to_all, references_have_turns}
use Rattle.species_ranges.proofs.MergeableLaws.{each_of_all, all_mergeable}
use Rattle.species_classify.specs.Places.{StandsIn}
use Rattle.species_classify.proofs.PlaceLaws.{IsPlaced, standing_placed}

pub nest_mergeable : (adds : Adding) (u : Program) (head : Loop) (path : List Range) (depth : ℕ) (refs : List Held) → IsWellMade u → StandsIn u head path
    → Pairwise (IsReference (sizes_of (source_context u)) (length path + depth)) refs (references_of adds head [] path depth) → All IsMergeable refs
nest_mergeable adds u head path depth refs well stands shown =
    let inner = length path + depth in
    let qs = references_of adds head [] path depth in
    each_to_all IsMergeable refs
    (all_mergeable u inner refs qs shown (each_weaker (IsPlaced u inner) (IsBounded u inner) (λ q h. h.bounded) qs (standing_placed adds u head path [] depth well stands))
    (each_of_all (HasTurns inner) qs (references_have_turns adds head [] path depth)))
