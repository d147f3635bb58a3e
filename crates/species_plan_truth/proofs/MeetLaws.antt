-- Two iterations of the parallel loops of a nest do not meet, but to read an element or to add to a gathered array.
use Rattle.std.proofs.Common.{◌≡◌, ap, ◌∙◌, subst, arith, ℕ, ◌+◌, List, [], length, inl, inr}
use Rattle.std.specs.List.{Contains}
use Rattle.species_ast.specs.Accesses.{Access, Element, Reads, Adds}
use Rattle.species_ast.specs.Evaluation.{sizes_of}
use Rattle.species_ast.specs.Run.{source_context}
use Rattle.species_ast.specs.declared.tree.Loop.{Loop}
use Rattle.species_ast.specs.declared.tree.Unit.{Unit as Program}
use Rattle.species_ast.specs.Scope.Hulls.{Range}
use Rattle.species_ast.specs.Scope.References.{Reference, references_of}
use Rattle.species_ast.specs.Scope.WellMade.{IsWellMade}
use Rattle.species_classify.specs.Decisions.{IsDecision}
use Rattle.species_classify.specs.Places.{StandsIn}
use Rattle.species_classify.specs.declared.decide.Decision.{Decision}
use Rattle.species_depend.specs.Law.{DifferInBand}
use Rattle.species_depend.proofs.DependenceLaws.{free_bands_never_meet}
use Rattle.species_occurrences.specs.Made.{IsMadeAmong}
use Rattle.species_occurrences.specs.Regular.{as_marked}
use Rattle.species_references.specs.References.{adds_of}
use Rattle.species_plan_truth.specs.Meetings.{AreHarmless, IsMarkedAs, PlannedNeverMeet}
use Rattle.species_plan_truth.proofs.AddLemmas.{IsPlainly, nest_plainly, read_stays}
use Rattle.species_plan_truth.proofs.AddOnlyLemmas.{access_adds}
use Rattle.species_plan_truth.proofs.MarkLaws.{marked_same, unmarked_same}
use Rattle.species_plan_truth.proofs.MeetLemmas.{found, has_or_not, held_by_one, IsParallel, sequential_or_parallel, NestsAreAsked}

-- the references of a nest that is marked as decided are those in which `+=` on a gathered array is an add
pub marked_references : (head marked : Loop) (gathered : List ℕ) (at : List ℕ) (path : List Range) (band : ℕ) → IsMarkedAs head gathered marked
    → references_of as_marked marked at path band ≡ references_of (adds_of gathered) head at path band
marked_references head marked gathered at path band is = marked_same (adds_of gathered) marked at path band is.additions ∙ unmarked_same gathered marked head at path band is.text

-- accesses of parallel loops, by these references
both_read : NestsAreAsked → (u : Program) (head : Loop) (path : List Range) (d : Decision) (at : List ℕ) (band : ℕ) (a b : Access) → IsWellMade u → StandsIn u head path → IsParallel u head path d
    → IsMadeAmong (sizes_of (source_context u)) (references_of (adds_of d.gathered) head at path band) a → IsMadeAmong (sizes_of (source_context u)) (references_of (adds_of d.gathered) head at path band) b
    → DifferInBand (length path) d.depth a.site.iters b.site.iters → a.element ≡ b.element → ¬ Contains d.gathered a.element.array → (a.direction ≡ Reads) × (b.direction ≡ Reads)
both_read asked u head path d at band a b well stands p made made_other apart same outside =
    let sizes = sizes_of (source_context u) in
    let plain = references_of (adds_of []) head at path 1 in
    let first : IsPlainly sizes plain a = nest_plainly sizes (adds_of d.gathered) head at path band 1 a made in
    let second : IsPlainly sizes plain b = nest_plainly sizes (adds_of d.gathered) head at path band 1 b made_other in
    let x : Access = record a { direction = first.direction } in
    let y : Access = record b { direction = second.direction } in
    let differ : DifferInBand (length path) d.depth x.site.iters y.site.iters = apart in
    let reads = free_bands_never_meet p.refs (length path) d.depth d.gathered sizes (length path + 1) x y
    (λ level below. asked u head path p.refs p.front level well stands p.plain.shown p.deep (omega (arith, below, p.within))) p.free
    (held_by_one u head path p.refs at x p.plain first.made) (held_by_one u head path p.refs at y p.plain second.made) differ same outside in
    (read_stays sizes plain a first reads.0, read_stays sizes plain b second reads.1)

-- The law, of accesses that the references of the nest make, in which `+=` on a gathered array is an add.
pub planned_apart : NestsAreAsked → (u : Program) (head : Loop) (path : List Range) (d : Decision) (at : List ℕ) (band : ℕ) (a b : Access) → IsWellMade u → StandsIn u head path → IsDecision u head path d
    → IsMadeAmong (sizes_of (source_context u)) (references_of (adds_of d.gathered) head at path band) a → IsMadeAmong (sizes_of (source_context u)) (references_of (adds_of d.gathered) head at path band) b
    → DifferInBand (length path) d.depth a.site.iters b.site.iters → a.element ≡ b.element → AreHarmless d.gathered a b
planned_apart asked u head path d at band a b well stands is made made_other apart same = elim (sequential_or_parallel u head path d is) [
  | inl none ↦ absurd (omega (arith, none, apart.below))
  | inr p ↦ elim (has_or_not a.element.array d.gathered) [
    | inl has ↦ inr (added p has)
    | inr none ↦ inl (both_read asked u head path d at band a b well stands p made made_other apart same none)
  ]
]
  where
    array : a.element.array ≡ b.element.array
    array = ap (λ (e : Element). e.array) same

    adds : IsParallel u head path d → (x : Access) → Contains d.gathered x.element.array → IsMadeAmong (sizes_of (source_context u)) (references_of (adds_of d.gathered) head at path band) x → x.direction ≡ Adds
    adds p x has by = access_adds (sizes_of (source_context u)) d.gathered head at path band x (found x.element.array d.gathered has) (p.spared x.element.array has) by

    added : IsParallel u head path d → Contains d.gathered a.element.array → Contains d.gathered a.element.array × (a.direction ≡ Adds) × (b.direction ≡ Adds)
    added p has = (has, adds p a has made, adds p b (subst (λ (n : ℕ). Contains d.gathered n) array has) made_other)

-- the law, of nests that are marked as decided
pub planned_never_meet : NestsAreAsked → PlannedNeverMeet
planned_never_meet asked u head marked path d at band a b well stands is marks made made_other apart same =
    let sizes = sizes_of (source_context u) in
    let references = marked_references head marked d.gathered at path band marks in
    planned_apart asked u head path d at band a b well stands is (subst (λ (rs : List Reference). IsMadeAmong sizes rs a) references made) (subst (λ (rs : List Reference). IsMadeAmong sizes rs b) references made_other) apart same
