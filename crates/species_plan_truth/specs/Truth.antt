-- What the species lines of an annotated text say is true of each run. Each line is read from its bytes, with its domains; it speaks of
-- the accesses in one turn of the innermost loop of the band: the body of a loop is executed once a turn (C17 6.8.5p4, 6.8.5.3). The
-- run is that of the unit in which the additions to gathered arrays are atomic (OpenMP 4.5, 2.13.6), whatever else is marked in it.
use Rattle.std.specs.Prelude.{◌≡◌, ◌≤ℤ◌, ℕ, suc, ℤ, false, List, [], ◌∷◌, ◌++◌, map, length, All, Some, Ok, IsTrue}
use Rattle.std.specs.List.{Any, Contains}
use Rattle.species_annotate.specs.Annotated.{Around, band_names, names_in, plan_line}
use Rattle.species_arcs.specs.Pairwise.{Pairwise}
use Rattle.species_arcs.specs.declared.plans.Nest.{Nest}
use Rattle.species_ast.specs.Accesses.{Joins, Cells, Access, IsDefined, run, accesses}
use Rattle.species_ast.specs.Reading.{IsAccepted}
use Rattle.species_ast.specs.Run.{source_context}
use Rattle.species_ast.specs.Scope.Conditions.{resolved}
use Rattle.species_ast.specs.Scope.WellMade.{IsWellMade}
use Rattle.species_ast.specs.Strip.{source_of, strip_loop}
use Rattle.species_ast.specs.declared.raw.RawUnit.{RawUnit}
use Rattle.species_ast.specs.declared.tree.Expr.{Expr}
use Rattle.species_ast.specs.declared.tree.Loop.{Loop, out-Loop}
use Rattle.species_ast.specs.declared.tree.Stmt.{Stmt}
use Rattle.species_ast.specs.declared.tree.Stmt.TheVariants as stmt
use Rattle.species_ast.specs.declared.tree.Unit.{Unit as Program}
use Rattle.species_classify.specs.Plans.{IsPlan}
use Rattle.species_cover.specs.Places.{IsInGivenDim}
use Rattle.species_depend.specs.Law.{DifferInBand}
use Rattle.species_linear.specs.Point.{Point, point_of}
use Rattle.species_linear.specs.Value.{form_at}
use Rattle.species_linear.specs.declared.forms.Form.{Form}
use Rattle.species_lines.specs.Lines.{Standing, IsInnermost, AgreeOutside, place_of}
use Rattle.species_nests.specs.Arrivals.{Running, ComesTo, turn_of}
use Rattle.species_notation.specs.declared.given.Names.{Names}
use Rattle.species_occurrences.specs.Iterators.{ranges_of}
use Rattle.species_occurrences.specs.Turns.{Turn, loop_turns}
use Rattle.species_references.specs.References.{direction_of}
use Rattle.species_plan_truth.specs.Meetings.{AreHarmless, IsMarkedAs}
use Rattle.species_plan_truth.specs.Said.{SaidArc, said_of}

-- ---- what a line says of places

-- The index lies between these ends.
abbrev pub IsBetween : Point → Form × Form → ℤ → Type 0
IsBetween iters ends index = (form_at ends.0 iters ≤ℤ index) × (index ≤ℤ form_at ends.1 iters)

-- The arc is one of the access's array and direction. It has the access's place in its set, where the iterators have these values, and
-- in its domain, whatever the iterators of the band are: those of this many loops around the nest are as they are.
pub record IsInSaid (outer : ℕ) (iters : Point) (a : Access) (s : SaidArc) : Type 0 where
  pub array : s.arc.array ≡ Some a.element.array
  pub direction : direction_of s.arc.dir ≡ a.direction
  pub set : Pairwise (IsInGivenDim iters) s.arc.dims (place_of a)
  pub domain : (p : Point) → AgreeOutside outer iters p → Pairwise (IsBetween p) s.domain (place_of a)

-- The access is to the array of the arc, in its direction, at this place.
pub record IsAt (s : SaidArc) (place : List ℤ) (a : Access) : Type 0 where
  pub array : s.arc.array ≡ Some a.element.array
  pub direction : direction_of s.arc.dir ≡ a.direction
  pub stands : place_of a ≡ place

-- In a turn with these iterators: each access is in an arc, also in a turn that traps; and if the turn ends, each place of an exact
-- arc is accessed in its direction.
pub record SayTrue (outer : ℕ) (said : List SaidArc) (iters : Point) (made : List Access) (ended : Type 0) : Type 0 where
  pub inside : All (λ a. Any (IsInSaid outer iters a) said) made
  pub filled : ended → All (λ s. IsTrue s.arc.exact → (place : List ℤ) → Pairwise (IsInGivenDim iters) s.arc.dims place → Any (IsAt s place) made) said

-- ---- turns of a nest

-- It is the same nest but for marks, and each `+=` in it is atomic exactly where its array is gathered.
pub record IsMarkedNest (gathered : List ℕ) (s marked : Standing) : Type 0 where
  pub around : map (strip_loop false) marked.around ≡ map (strip_loop false) s.around
  pub head : IsMarkedAs s.head gathered marked.head
  pub at : marked.at ≡ s.at
  pub below : marked.below ≡ s.below

-- In the run of a unit, whose source this is, from some arrays, this is a turn of the innermost loop of the band of the nest as it is
-- marked there.
pub record IsTurnOf (join : Joins) (source : Program) (s : Standing) (gathered : List ℕ) (r : Running) (t : Turn) : Type 0 where
  pub marked : Program
  pub made : IsWellMade marked
  pub same : source_of marked ≡ source
  pub start : Cells
  pub comes : ComesTo join marked start r
  pub nest : Standing
  pub marks : IsMarkedNest gathered s nest
  pub innermost : IsInnermost nest r
  pub turn : Contains (loop_turns join (source_context marked) r.loop r.at r.frame r.arrays) t

-- its accesses, also of a turn that traps
abbrev pub accessed : Joins → Program → Running → Turn → List Access
accessed join u r t = accesses join (turn_of (source_context u) r.loop r.at t.frame) t.arrays

-- it does not trap
abbrev pub Ends : Joins → Program → Running → Turn → Type 0
Ends join u r t = IsDefined (run join (turn_of (source_context u) r.loop r.at t.frame) t.arrays)

-- ---- true lines

-- the ranges and the names of the iterators of the loops around a nest
abbrev pub around_nest : Standing → Around
around_nest s = record { path = ranges_of [] s.around; iters = map (λ l. (out-Loop l).iter) s.around }

-- the names of the arrays and locals, and those of the iterators of the loops around a nest and of its band
abbrev pub names_there : Program → Standing → Names
names_there u s = names_in u ((around_nest s).iters ++ band_names (suc s.below) s.head [])

-- The line of a nest with this band can be read, and names iterators that are there. What it says is true in each turn of the band, in
-- each run. Accesses in two turns, with the same iterators of the loops around the nest and with others in the band, are harmless, if
-- they are to one element.
pub record IsTrueLine (source : Program) (s : Standing) (gathered text : List ℕ) : Type 0 where
  pub said : List SaidArc
  pub reads : said_of (names_there source s) text ≡ Some said
  pub known : All (λ x. IsTrue x.arc.known) said
  pub holds : (join : Joins) (r : Running) (t : Turn) (here : IsTurnOf join source s gathered r t)
      → SayTrue (length s.around) said (point_of t.frame.iters) (accessed join here.marked r t) (Ends join here.marked r t)
  pub apart : (join : Joins) (r q : Running) (t v : Turn) (here : IsTurnOf join source s gathered r t) (there : IsTurnOf join source s gathered q v) (a b : Access)
      → Contains (accessed join here.marked r t) a → Contains (accessed join there.marked q v) b
      → DifferInBand (length s.around) (suc s.below) t.frame.iters v.frame.iters → a.element ≡ b.element → AreHarmless gathered a b

-- ---- planned nests

-- The loop is one of these statements or stands in one, and the loops around it are these, the outermost first.
pub data StandsUnder (head : Loop) : List Loop → List Stmt → Type 0 where
  here : (body : List Stmt) → Contains body (stmt.For head) → StandsUnder head [] body
  in_loop : (l : Loop) (around : List Loop) (body : List Stmt) → Contains body (stmt.For l) → StandsUnder head around (out-Loop l).body
      → StandsUnder head (l ∷ around) body
  in_branch : (place : ℕ) (test : Expr) (first second : List Stmt) (around : List Loop) (body : List Stmt) → Contains body (stmt.If place test first second)
      → StandsUnder head around first → StandsUnder head around body
  in_otherwise : (place : ℕ) (test : Expr) (first second : List Stmt) (around : List Loop) (body : List Stmt) → Contains body (stmt.If place test first second)
      → StandsUnder head around second → StandsUnder head around body
  in_block : (inner : List Stmt) (around : List Loop) (body : List Stmt) → Contains body (stmt.Block inner) → StandsUnder head around inner
      → StandsUnder head around body

-- The nest, where it stands in a source, is planned parallel with this band.
pub record IsPlanned (source : Program) (s : Standing) (nest : Nest) : Type 0 where
  pub stands : StandsUnder s.head s.around source.body
  pub plan : IsPlan source s.head (ranges_of [] s.around) nest
  pub depth : nest.depth ≡ suc s.below

-- The line that each nest which is planned parallel gets in the annotated unit of a text is true of the text's source.
abbrev pub PlannedLinesAreTrue : Type 0
PlannedLinesAreTrue = (bytes : List ℕ) (raw : RawUnit) (u : Program) (s : Standing) (nest : Nest) → IsAccepted bytes raw → resolved raw ≡ Ok u → IsWellMade u
    → IsPlanned (source_of u) s nest → IsTrueLine (source_of u) s nest.gathered (plan_line (source_of u) (around_nest s) s.head nest).text
