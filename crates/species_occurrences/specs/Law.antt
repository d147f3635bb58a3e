-- The laws that tie the accesses of a run to the references of the text.
use Rattle.std.specs.Prelude.{◌≡◌, ℕ, List, [], false, ℤ, Some, All, map, length, ◌++◌}
use Rattle.std.specs.List.{Contains}
use Rattle.species_ast.specs.declared.tree.Expr.{Expr}
use Rattle.species_ast.specs.declared.tree.Loop.{Loop}
use Rattle.species_ast.specs.declared.tree.Unit.{Unit as Program}
use Rattle.species_ast.specs.declared.tree.Value.{Value}
use Rattle.species_ast.specs.declared.tree.Value.TheVariants.{Int}
use Rattle.species_ast.specs.Accesses.{Joins, Cells, Access, Ended, run}
use Rattle.species_ast.specs.Evaluation.{Frame, Context, Spot, sense, sizes_of}
use Rattle.species_ast.specs.Run.{loop_of, source_context, source_accesses}
use Rattle.species_ast.specs.Scope.Forms.{Form, form_of, form_value}
use Rattle.species_ast.specs.Scope.Hulls.{Range}
use Rattle.species_ast.specs.Scope.Loops.{placed_loops}
use Rattle.species_ast.specs.Scope.References.{Reference, references_of}
use Rattle.species_ast.specs.Scope.WellMade.{IsWellMade}
use Rattle.species_nests.specs.Arrivals.{Moment, Begins, Running, ComesTo}
use Rattle.species_nests.specs.Meetings.{Ran, iterations_in}
use Rattle.species_nests.specs.Nests.{nest_of}
use Rattle.species_occurrences.specs.Iterators.{AreInts, AreTaken, AreTheirs, ranges_of}
use Rattle.species_occurrences.specs.Made.{IsMade, IsMadeInEach}
use Rattle.species_occurrences.specs.Regular.{as_marked}
use Rattle.species_occurrences.specs.Surely.{IsDoneAt, IsOneOf, AreConstant}

-- In each run of a well made unit, each access inside a loop of the unit is made by one of the references of the loop's nest,
-- whatever the depth of its band is.
abbrev pub AccessesAreMade : Type 0
AccessesAreMade = (join : Joins) (u : Program) (m : Cells) → IsWellMade u
    → All (IsMadeInEach as_marked (sizes_of (source_context u)) (placed_loops u)) (source_accesses join u m)

-- Where the iterators in force are `int`s, an affine expression that has a value has that of its form (C17 6.5).
abbrev pub AffineHaveTheirForms : Type 0
AffineHaveTheirForms = (join : Joins) (w : Context) (x : Expr) (form : Form) (s : Spot) (n : ℕ) (f : Frame) (m : Cells) (v : Value) (last : Cells)
    → form_of x ≡ Some form → AreInts f.iters → run join ((sense w x).does s n f) m ≡ Ended v last → v ≡ Int (form_value form f.iters)

-- Where a statement begins in a run of a well made unit, the iterators in force are values that the loops around it take.
abbrev pub MomentsAreTaken : Type 0
MomentsAreTaken = (join : Joins) (u : Program) (m : Cells) (q : Moment) → IsWellMade u → Begins join u m q → AreTheirs q.around q.frame.iters

-- ---- iterations

-- the references of the nest of a running
abbrev pub nest_references_of : ℕ → Running → List Reference
nest_references_of depth r = references_of as_marked r.loop r.at (ranges_of [] r.around) (length (nest_of depth r.loop r.at).loops)

-- the loops around its body
abbrev pub loops_around_body : ℕ → Running → List Loop
loops_around_body depth r = r.around ++ map (λ p. p.loop) (nest_of depth r.loop r.at).loops

-- in the iteration each reference that is not conditional makes an access, in each turn of the loops around it in the body, if
-- the bounds of these are constant
abbrev pub IsDoneInIteration : (ℕ → List ℕ) → List Range → Ran → Reference → Type 0
IsDoneInIteration sizes path x q = (inner : List Range) × (q.path ≡ path ++ inner)
    × ((rest : List ℤ) → AreConstant inner → AreTaken inner rest → (a : Access) × Contains x.accesses a × IsDoneAt sizes (x.frame.iters ++ rest) q a)

-- An iteration of a nest with these references, in loops of which these are the outermost.
pub record IsIteration (sizes : ℕ → List ℕ) (around : List Loop) (references : List Reference) (x : Ran) : Type 0 where
  -- its iterators are values that the loops take
  pub taken : AreTheirs around x.frame.iters
  -- each of its accesses is made by a reference
  pub made : All (IsMade sizes x.frame.iters references) x.accesses
  pub done : (q : Reference) → IsOneOf q references → q.conditional ≡ false → IsDoneInIteration sizes (ranges_of [] around) x q

-- .. and if the loop's run ends, so it is in each iteration of its nest, whose accesses are made by the nest's references.
abbrev pub IterationsAreMade : Type 0
IterationsAreMade = (join : Joins) (u : Program) (m : Cells) (r : Running) (depth : ℕ) (end : Frame) (last : Cells) → IsWellMade u → ComesTo join u m r
    → run join (loop_of (source_context u) r.loop r.at r.frame) r.arrays ≡ Ended end last
    → (x : Ran) → Contains (iterations_in join (source_context u) depth r) x
    → IsIteration (sizes_of (source_context u)) (loops_around_body depth r) (nest_references_of depth r) x
