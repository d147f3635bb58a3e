-- The plan of a nest: the decision with the arcs of its band.
use Rattle.std.specs.Prelude.{◌≡◌, ℕ, zero, suc, ◌+◌, ◌++◌, List, [], ◌∷◌, length}
use Rattle.species_arcs.specs.Pairwise.{Pairwise}
use Rattle.species_arcs.specs.declared.places.Arc.{Arc}
use Rattle.species_arcs.specs.declared.plans.Nest.{Nest}
use Rattle.species_ast.specs.declared.tree.Loop.{Loop, out-Loop}
use Rattle.species_ast.specs.declared.tree.Unit.{Unit as Program}
use Rattle.species_ast.specs.Evaluation.{sizes_of}
use Rattle.species_ast.specs.Run.{source_context}
use Rattle.species_ast.specs.Scope.Hulls.{Range}
use Rattle.species_ast.specs.Scope.References.{references_of}
use Rattle.species_merge.specs.declared.bands.BandBound.{BandBound}
use Rattle.species_merge.specs.Arcs.{AreArcsOf}
use Rattle.species_merge.specs.Bounds.{IsBoundOf}
use Rattle.species_nests.specs.Nests.{Placed, nest_of}
use Rattle.species_references.specs.declared.nest.Reference.{Reference}
use Rattle.species_references.specs.References.{adds_of, IsReference}
use Rattle.species_classify.specs.Decisions.{IsDecision}

-- the bound of a loop is added to a list
abbrev pub HasOneMore : Loop → List BandBound → List BandBound → Type 0
HasOneMore head old new = (b : BandBound) × (new ≡ old ++ b ∷ []) × IsBoundOf (out-Loop head) b

-- the bounds of these loops are added to a list
abbrev pub AddsBounds : List BandBound → List BandBound → List Placed → Type 0
AddsBounds old new loops = (more : List BandBound) × (new ≡ old ++ more) × Pairwise (λ p b. IsBoundOf (out-Loop p.loop) b) loops more

-- the bounds of a loop, and of so many loops below it that are perfectly nested there
abbrev pub AreBandBounds : ℕ → Loop → List BandBound → Type 0
AreBandBounds below head bands = Pairwise (λ p b. IsBoundOf (out-Loop p.loop) b) (nest_of below head []).loops bands

-- The arcs of a band of this depth: those of the references of the nest, in which a `+=` on a gathered array is one add. A
-- sequential loop has none.
abbrev pub AreBandArcs : ℕ → Program → Loop → List Range → List ℕ → List Arc → Type 0
AreBandArcs zero u head path gathered arcs = arcs ≡ []
AreBandArcs (suc below) u head path gathered arcs =
    (refs : List Reference) × (bands : List BandBound)
    × Pairwise (IsReference (sizes_of (source_context u)) (length path + suc below)) refs (references_of (adds_of gathered) head [] path (suc below))
    × AreBandBounds below head bands × AreArcsOf (length path) bands refs arcs

-- The plan of the nest of a loop, in loops with these ranges.
pub record IsPlan (u : Program) (head : Loop) (path : List Range) (plan : Nest) : Type 0 where
  pub decision : IsDecision u head path (record { depth = plan.depth; mode = plan.mode; gathered = plan.gathered; reason = plan.reason })
  pub arcs : AreBandArcs plan.depth u head path plan.gathered plan.arcs
