-- The arcs of a band from its parts.
use Rattle.std.proofs.Common.{◌≡◌, ap, sym, ◌∙◌, subst, arith, ℕ, zero, suc, ◌+◌, ◌-◌, ◌<◌, ◌≤◌, List, [], ◌++◌, length, All}
use Rattle.std.proofs.lemmas.List.{length-map}
use Rattle.species_arcs.specs.Pairwise.{Pairwise}
use Rattle.species_arcs.specs.declared.places.Arc.{Arc}
use Rattle.species_ast.specs.declared.tree.Loop.{Loop, out-Loop}
use Rattle.species_ast.specs.declared.tree.Unit.{Unit as Program}
use Rattle.species_ast.specs.Evaluation.{sizes_of}
use Rattle.species_ast.specs.Run.{source_context}
use Rattle.species_ast.specs.Scope.Nests.{front_of}
use Rattle.species_ast.specs.Scope.References.{references_of}
use Rattle.species_ast.specs.Scope.WellMade.{IsWellMade}
use Rattle.species_linear.specs.declared.loops.LoopRange.{LoopRange}
use Rattle.species_merge.specs.declared.bands.BandBound.{BandBound}
use Rattle.species_merge.specs.Arcs.{AreArcsOf}
use Rattle.species_merge.specs.Bounds.{IsBoundOf}
use Rattle.species_merge.specs.Sizes.{IsMergeable}
use Rattle.species_nests.specs.Nests.{Placed, nest_of}
use Rattle.species_references.specs.declared.nest.Reference.{Reference}
use Rattle.species_references.specs.Ranges.{range_seen, ranges_seen}
use Rattle.species_references.specs.References.{adds_of, IsReference}
use Rattle.species_classify.specs.Places.{StandsIn}
use Rattle.species_classify.specs.Plans.{AddsBounds, AreBandBounds, AreBandArcs}
use Rattle.species_classify.proofs.BoundLemmas.{nest_deep, pairs_length}
use Rattle.species_classify.proofs.MergeLemmas.{nest_mergeable}

-- ---- bounds

pub bounds_are : (below : ℕ) (head : Loop) (old new : List BandBound) → old ≡ [] → AddsBounds old new (nest_of below head []).loops → AreBandBounds below head new
bounds_are below head old new none added = subst (λ (bs : List BandBound). AreBandBounds below head bs) (sym (added.1 ∙ ap (λ l. l ++ added.0) none)) added.2

pub bounds_count : (depth : ℕ) (head : Loop) (bands : List BandBound) → 0 < depth → depth ≤ length (front_of head) → AreBandBounds (depth - 1) head bands → length bands ≡ depth
bounds_count depth head bands some deep bounds =
    let pairs : length (nest_of (depth - 1) head []).loops ≡ length bands = pairs_length (λ (p : Placed) (b : BandBound). IsBoundOf (out-Loop p.loop) b) (nest_of (depth - 1) head []).loops bands bounds in
    let loops : length (nest_of (depth - 1) head []).loops ≡ suc (depth - 1) = nest_deep (depth - 1) head [] (omega (arith, some, deep)) in
    omega (arith, some, pairs, loops)

-- ---- arcs

abbrev pub ShowsBand : Program → Loop → List LoopRange → ℕ → List ℕ → List Reference → Type 0
ShowsBand u head path depth gathered refs = Pairwise (IsReference (sizes_of (source_context u)) (length path + depth)) refs (references_of (adds_of gathered) head [] (ranges_seen path) depth)

shown_there : (u : Program) (head : Loop) (path : List LoopRange) (depth : ℕ) (gathered : List ℕ) (refs : List Reference) → ShowsBand u head path depth gathered refs
    → Pairwise (IsReference (sizes_of (source_context u)) (length (ranges_seen path) + depth)) refs (references_of (adds_of gathered) head [] (ranges_seen path) depth)
shown_there u head path depth gathered refs shown =
    subst (λ (n : ℕ). Pairwise (IsReference (sizes_of (source_context u)) (n + depth)) refs (references_of (adds_of gathered) head [] (ranges_seen path) depth)) (sym (length-map path range_seen)) shown

pub band_mergeable : (u : Program) (head : Loop) (path : List LoopRange) (depth : ℕ) (gathered : List ℕ) (refs : List Reference) → IsWellMade u → StandsIn u head (ranges_seen path)
    → ShowsBand u head path depth gathered refs → All IsMergeable refs
band_mergeable u head path depth gathered refs well stands shown = nest_mergeable (adds_of gathered) u head (ranges_seen path) depth refs well stands (shown_there u head path depth gathered refs shown)

pub no_arcs : (depth : ℕ) (u : Program) (head : Loop) (path : List LoopRange) (gathered : List ℕ) (arcs : List Arc) → depth ≡ 0 → arcs ≡ [] → AreBandArcs depth u head (ranges_seen path) gathered arcs
no_arcs depth u head path gathered arcs none is = subst (λ (d : ℕ). AreBandArcs d u head (ranges_seen path) gathered arcs) (sym none) is

arcs_of : (outer : ℕ) (bands bounds : List BandBound) (refs seen : List Reference) (arcs found : List Arc) → bounds ≡ bands → seen ≡ refs → arcs ≡ found → AreArcsOf outer bounds seen found → AreArcsOf outer bands refs arcs
arcs_of outer bands bounds refs seen arcs found same_bounds same_refs is h =
    subst (λ (xs : List Arc). AreArcsOf outer bands refs xs) (sym is) (subst (λ (rs : List Reference). AreArcsOf outer bands rs found) same_refs (subst (λ (bs : List BandBound). AreArcsOf outer bs seen found) same_bounds h))

pub band_arcs : (depth : ℕ) (u : Program) (head : Loop) (path : List LoopRange) (gathered : List ℕ) (refs seen : List Reference) (bands bounds : List BandBound) (arcs found : List Arc) (outer : ℕ) → 0 < depth
    → outer ≡ length path → seen ≡ refs → bounds ≡ bands → arcs ≡ found → ShowsBand u head path depth gathered refs → AreBandBounds (depth - 1) head bands → AreArcsOf outer bounds seen found
    → AreBandArcs depth u head (ranges_seen path) gathered arcs
band_arcs zero u head path gathered refs seen bands bounds arcs found outer some same same_refs same_bounds is shown ends are = absurd (omega (arith, some))
band_arcs (suc below) u head path gathered refs seen bands bounds arcs found outer some same same_refs same_bounds is shown ends are =
    let one : suc below - 1 ≡ below = omega arith in (
      refs,
      bands,
      shown_there u head path (suc below) gathered refs shown,
      subst (λ (n : ℕ). AreBandBounds n head bands) one ends,
      subst (λ (k : ℕ). AreArcsOf k bands refs arcs) (same ∙ sym (length-map path range_seen)) (arcs_of outer bands bounds refs seen arcs found same_bounds same_refs is are),
    )
