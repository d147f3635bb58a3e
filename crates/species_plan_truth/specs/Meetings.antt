-- What a plan promises: iterations of parallel loops do not meet.
use Rattle.std.specs.Prelude.{◌≡◌, ◌⊎◌, ℕ, suc, Bool, true, false, nat_eq, List, [], length, Contains}
use Rattle.std.specs.List.{list_any}
use Rattle.species_ast.specs.Accesses.{Joins, Cells, Access, Reads, Adds, IsDefined, run}
use Rattle.species_ast.specs.Evaluation.{sizes_of}
use Rattle.species_ast.specs.Run.{loop_of, source_context}
use Rattle.species_ast.specs.Scope.Hulls.{Range}
use Rattle.species_ast.specs.Scope.References.{references_of}
use Rattle.species_ast.specs.Scope.WellMade.{IsWellMade}
use Rattle.species_ast.specs.Strip.{source_of, strip_loop}
use Rattle.species_ast.specs.declared.tree.Loop.{Loop}
use Rattle.species_ast.specs.declared.tree.Stmt.TheVariants.{For}
use Rattle.species_ast.specs.declared.tree.Unit.{Unit as Program}
use Rattle.species_depend.specs.Law.{DifferInBand}
use Rattle.species_nests.specs.Arrivals.{Running, ComesTo}
use Rattle.species_nests.specs.Meetings.{MeetOnlyOn, AddsExactlyOn, running_traces}
use Rattle.species_occurrences.specs.Iterators.{ranges_of}
use Rattle.species_occurrences.specs.Made.{IsMadeAmong}
use Rattle.species_occurrences.specs.Regular.{as_marked, is_regular}
use Rattle.species_references.specs.References.{adds_of}
use Rattle.species_classify.specs.declared.decide.Decision.{Decision}
use Rattle.species_classify.specs.Decisions.{IsDecision}
use Rattle.species_classify.specs.Places.{StandsIn}

-- both accesses only read, or both add to an array that is gathered
abbrev pub AreHarmless : List ℕ → Access → Access → Type 0
AreHarmless gathered a b =
    ((a.direction ≡ Reads) × (b.direction ≡ Reads)) ⊎ (Contains gathered a.element.array × (a.direction ≡ Adds) × (b.direction ≡ Adds))

-- The loop is the one that was decided on, but for marks, and each `+=` in it is atomic exactly where its array is gathered.
pub record IsMarkedAs (head : Loop) (gathered : List ℕ) (marked : Loop) : Type 0 where
  pub text : strip_loop false marked ≡ strip_loop false head
  pub additions : is_regular (adds_of gathered) (For marked) ≡ true

-- In whatever run or interleaving: of a nest that is marked as decided, two accesses that its references make, in one running and
-- in two iterations of its parallel loops, and that are to one element, are harmless.
abbrev pub PlannedNeverMeet : Type 0
PlannedNeverMeet = (u : Program) (head marked : Loop) (path : List Range) (d : Decision) (at : List ℕ) (band : ℕ) (a b : Access) → IsWellMade u → StandsIn u head path
    → IsDecision u head path d → IsMarkedAs head d.gathered marked
    → IsMadeAmong (sizes_of (source_context u)) (references_of as_marked marked at path band) a
    → IsMadeAmong (sizes_of (source_context u)) (references_of as_marked marked at path band) b
    → DifferInBand (length path) d.depth a.site.iters b.site.iters → a.element ≡ b.element → AreHarmless d.gathered a b

-- ---- in runs

abbrev pub is_gathered : List ℕ → ℕ → Bool
is_gathered gathered array = list_any (nat_eq array) gathered

-- In the run of a unit, whose source this is, from some arrays, this is a running of the nest of the loop as it is marked there, and it
-- comes to its end.
pub record IsRunningOf (join : Joins) (source : Program) (head : Loop) (path : List Range) (gathered : List ℕ) (marked : Program) (r : Running) : Type 0 where
  pub made : IsWellMade marked
  pub same : source_of marked ≡ source
  pub start : Cells
  pub comes : ComesTo join marked start r
  pub around : ranges_of [] r.around ≡ path
  pub marks : IsMarkedAs head gathered r.loop
  pub ends : IsDefined (run join (loop_of (source_context marked) r.loop r.at r.frame) r.arrays)

-- In each run: of a nest that is decided to be parallel, the iterations of a running meet on elements of gathered arrays alone; and these
-- arrays are accessed by adds, and no others are added to.
abbrev pub PlannedRunningsMeet : Type 0
PlannedRunningsMeet = (join : Joins) (source marked : Program) (head : Loop) (path : List Range) (d : Decision) (below : ℕ) (r : Running) → IsWellMade source
    → StandsIn source head path → IsDecision source head path d → d.depth ≡ suc below → IsRunningOf join source head path d.gathered marked r
    → let traces = running_traces join (source_context marked) below r in MeetOnlyOn (is_gathered d.gathered) traces × AddsExactlyOn (is_gathered d.gathered) traces
