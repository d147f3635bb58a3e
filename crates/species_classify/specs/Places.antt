-- Where a loop stands, and the references of its nest by which it is planned.
use Rattle.std.specs.Prelude.{◌≡◌, ◌+◌, List, [], length}
use Rattle.std.specs.List.{Contains}
use Rattle.species_arcs.specs.Pairwise.{Pairwise}
use Rattle.species_ast.specs.declared.tree.Loop.{Loop}
use Rattle.species_ast.specs.declared.tree.Unit.{Unit as Program}
use Rattle.species_ast.specs.Evaluation.{sizes_of}
use Rattle.species_ast.specs.Run.{source_context}
use Rattle.species_ast.specs.Scope.Hulls.{Range}
use Rattle.species_ast.specs.Scope.Loops.{PlacedLoop, placed_loops}
use Rattle.species_ast.specs.Scope.References.{references_of}
use Rattle.species_references.specs.declared.nest.Reference.{Reference}
use Rattle.species_references.specs.References.{adds_of, IsReference, AreNumberedFrom}

-- The loop is one of the unit, and the loops around it have these ranges.
pub record StandsIn (u : Program) (head : Loop) (ranges : List Range) : Type 0 where
  pub placed : PlacedLoop
  pub there : Contains (placed_loops u) placed
  pub loop : placed.head ≡ head
  pub path : placed.stands.around.path ≡ ranges

-- The list shows the plain references of the loop's nest, in which each `+=` is a read and a write, in order of evaluation.
pub record ArePlain (u : Program) (head : Loop) (path : List Range) (refs : List Reference) : Type 0 where
  pub shown : Pairwise (IsReference (sizes_of (source_context u)) (length path + 1)) refs (references_of (adds_of []) head [] path 1)
  pub numbered : AreNumberedFrom 0 refs
