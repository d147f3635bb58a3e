-- Whether a loop is parallel, and with how many loops and in which mode, or why it is sequential.
use Rattle.std.specs.Prelude.{◌≡◌, ℕ, List, [], ◌∷◌, Some, None, length}
use Rattle.std.specs.List.{Any}
use Rattle.species_arcs.specs.declared.plans.Mode.{Mode}
use Rattle.species_arcs.specs.declared.plans.Mode.TheVariants.{Plain, Shared}
use Rattle.species_arcs.specs.declared.plans.Reason.{Reason}
use Rattle.species_arcs.specs.declared.plans.Reason.TheVariants as reason
use Rattle.species_ast.specs.declared.tree.Loop.{Loop, out-Loop}
use Rattle.species_ast.specs.declared.tree.Unit.{Unit as Program}
use Rattle.species_ast.specs.Scope.Hulls.{Range}
use Rattle.species_ast.specs.Scope.Nests.{front_of}
use Rattle.species_gather.specs.Summed.{summed_arrays}
use Rattle.species_loops.specs.Bands.{IsLongestBand}
use Rattle.species_references.specs.declared.nest.Reference.{Reference}
use Rattle.species_runs.specs.Scopes.{outer_locals_set}
use Rattle.species_classify.specs.declared.bands.Band.{Band}
use Rattle.species_classify.specs.declared.bands.Band.TheVariants.{Free, Carried}
use Rattle.species_classify.specs.declared.decide.Decision.{Decision}
use Rattle.species_classify.specs.Bands.{IsBandOf}
use Rattle.species_classify.specs.Places.{ArePlain}

abbrev pub sequential : Reason → Decision
sequential why = record { depth = 0; mode = Plain; gathered = []; reason = Some why }

abbrev pub parallel : ℕ → Mode → List ℕ → Decision
parallel depth mode gathered = record { depth = depth; mode = mode; gathered = gathered; reason = None }

-- the decision by the band where the gathered arrays are exempt: shared, or sequential for its pair, whose references name this array
abbrev pub IsSharedDecision : List Reference → List ℕ → Band → Decision → Type 0
IsSharedDecision refs gathered (Free depth) d = d ≡ parallel depth Shared gathered
IsSharedDecision refs gathered (Carried first second) d =
    (array : ℕ) × Any (λ p. (p.number ≡ first) × (p.array ≡ array)) refs × (d ≡ sequential (reason.Carried array first second))

-- .. by the band that the references have then
abbrev pub IsSharedDecisionOf : List Reference → (outer front : ℕ) → List ℕ → Decision → Type 0
IsSharedDecisionOf refs outer front gathered d = (shared : Band) × IsBandOf refs outer front gathered shared × IsSharedDecision refs gathered shared d

-- the decision by the band where nothing is exempt: plain, or else by the other
abbrev pub IsPlainDecision : List Reference → (outer front : ℕ) → List ℕ → Band → Decision → Type 0
IsPlainDecision refs outer front gathered (Free depth) d = d ≡ parallel depth Plain []
IsPlainDecision refs outer front gathered (Carried first second) d = IsSharedDecisionOf refs outer front gathered d

-- The decision by the references of a nest in so many outer loops, with a front of so many loops.
abbrev pub IsDecidedBy : List Reference → (outer front : ℕ) → List ℕ → Decision → Type 0
IsDecidedBy refs outer front gathered d = (plain : Band) × IsBandOf refs outer front [] plain × IsPlainDecision refs outer front gathered plain d

-- The decision where these locals, which are declared outside the nest, are set inside it: sequential for the first, if there is
-- one; else by the plain references of the nest, the longest band that it begins with, and the arrays that it only adds to.
abbrev pub IsDecisionWith : List ℕ → Program → Loop → List Range → Decision → Type 0
IsDecisionWith (x ∷ xs) u head path d = d ≡ sequential (reason.Outer x)
IsDecisionWith [] u head path d =
    (refs : List Reference) × (front : ℕ) × ArePlain u head path refs × IsLongestBand (length path) (front_of head) front
    × IsDecidedBy refs (length path) front (summed_arrays u head) d

-- The decision for the nest of a loop, in loops with these ranges.
abbrev pub IsDecision : Program → Loop → List Range → Decision → Type 0
IsDecision u head path d = IsDecisionWith (outer_locals_set (out-Loop head).body) u head path d
