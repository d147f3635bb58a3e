-- What the table of arcs says is true of each run of the program's source. Each line is read from its bytes, and what it says is
-- asked of the accesses that its reference makes, turn by turn: the body of a loop is executed once a turn (C17 6.8.5p4, 6.8.5.3), and
-- a reference is a subscripted element (C17 6.5.2.1) of a statement in it.
use Rattle.std.specs.Prelude.{◌≡◌, ℕ, ◌<◌, true, false, ℤ, ◌≤ℤ◌, List, [], ◌++◌, codes, length, slice_get, slice_index_or, All, Some, Ok, IsTrue}
use Rattle.std.specs.List.{Any, Contains, flat_map, list_all}
use Rattle.species_arcs.specs.Pairwise.{Pairwise}
use Rattle.species_ast.specs.declared.raw.RawUnit.{RawUnit}
use Rattle.species_ast.specs.declared.tree.Loop.{Loop, out-Loop}
use Rattle.species_ast.specs.declared.tree.Unit.{Unit as Program}
use Rattle.species_ast.specs.Accesses.{Joins, Cells, Tree, Access, IsDefined, run, accesses}
use Rattle.species_ast.specs.Evaluation.{Frame, sizes_of}
use Rattle.species_ast.specs.Reading.{IsAccepted}
use Rattle.species_ast.specs.Run.{source_context}
use Rattle.species_ast.specs.Strip.{strip_loop, source_of}
use Rattle.species_ast.specs.Scope.Conditions.{resolved}
use Rattle.species_ast.specs.Scope.Loops.{outermost_loops}
use Rattle.species_ast.specs.Scope.References.{Reference, no_adds, references_of, reference_count}
use Rattle.species_ast.specs.Scope.WellMade.{IsWellMade}
use Rattle.species_cover.specs.Places.{IsInGivenDim}
use Rattle.species_linear.specs.Point.{Point, point_of}
use Rattle.species_linear.specs.Value.{form_at}
use Rattle.species_linear.specs.declared.forms.Form.{Form}
use Rattle.species_lines.specs.Lines.{place_of}
use Rattle.species_nests.specs.Arrivals.{Running, ComesTo, turn_of}
use Rattle.species_notation.specs.TableLines.{TableLine, table_line_of}
use Rattle.species_occurrences.specs.Made.{IsMadeBy, IsMadeAmong}
use Rattle.species_occurrences.specs.Turns.{Turn, loop_turns}
use Rattle.species_readback.specs.Spelt.{is_no_line_feed}
use Rattle.species_references.specs.References.{direction_of}
use Rattle.species_report.specs.Table.{IsTable, names_in, joined, place_line}

-- ---- what a line says of places

-- In each dimension the index is one of those after `at`, where the iterators have these values.
abbrev pub IsInSaidSet : TableLine → Point → List ℤ → Type 0
IsInSaidSet said iters place = Pairwise (IsInGivenDim iters) said.arc.dims place

-- The index lies between these ends.
abbrev pub IsBetween : Point → Form × Form → ℤ → Type 0
IsBetween iters ends index = (form_at ends.0 iters ≤ℤ index) × (index ≤ℤ form_at ends.1 iters)

-- In each dimension the index lies between the ends in brackets.
abbrev pub IsInSaidDomain : TableLine → Point → List ℤ → Type 0
IsInSaidDomain said iters place = Pairwise (IsBetween iters) said.domain place

-- ---- turns

-- In some run of the source, from any arrays, this is a turn of a running of the loop, which stands in no other.
pub record IsTurn (join : Joins) (u : Program) (head : Loop) (r : Running) (t : Turn) : Type 0 where
  pub start : Cells
  pub comes : ComesTo join (source_of u) start r
  pub loop : r.loop ≡ strip_loop false head
  pub outermost : r.around ≡ []
  pub turn : Contains (loop_turns join (source_context (source_of u)) r.loop r.at r.frame r.arrays) t

-- what is done in a turn
abbrev pub does : Program → Running → Turn → Tree Frame
does u r t = turn_of (source_context (source_of u)) r.loop r.at t.frame

abbrev pub accessed : Joins → Program → Running → Turn → List Access
accessed join u r t = accesses join (does u r t) t.arrays

-- the turn comes to its end: it does not trap
abbrev pub Ends : Joins → Program → Running → Turn → Type 0
Ends join u r t = IsDefined (run join (does u r t) t.arrays)

-- the references of the loop's nest where it runs, each `+=` a read and a write
abbrev pub references_in : Running → List Reference
references_in r = references_of no_adds r.loop r.at [] 1

-- ---- true lines

-- the line has the array and the direction of the reference
pub record IsOf (said : TableLine) (q : Reference) : Type 0 where
  pub array : said.arc.array ≡ Some q.array
  pub direction : direction_of said.arc.dir ≡ q.direction

-- In a turn, what the line says is true of a reference: it has the reference's array and direction; each access that the reference
-- makes, also in a turn that traps, is in the set, and between the ends whatever the iterators are, since no loop stands around this
-- one; and if the turn ends and the line is marked exact, the reference accesses each place of the set.
pub record SaysTrue (sizes : ℕ → List ℕ) (said : TableLine) (q : Reference) (iters : List ℤ) (made : List Access) (ended : Type 0) : Type 0 where
  pub of : IsOf said q
  pub inside : All (λ a. IsMadeBy sizes q a → IsInSaidSet said (point_of iters) (place_of a) × ((p : Point) → IsInSaidDomain said p (place_of a))) made
  pub filled : ended → IsTrue said.arc.exact → (place : List ℤ) → IsInSaidSet said (point_of iters) place → Any (λ a. IsMadeBy sizes q a × (place_of a ≡ place)) made

-- The line, which has no line feed in it, can be read, with this number and with the array and the direction of the reference of its
-- number, and names no iterator that is not there; and what it says is true of that reference in each turn of the loop, in each run.
pub record IsTrueLine (u : Program) (head : Loop) (k : ℕ) (line : List ℕ) : Type 0 where
  pub one : list_all is_no_line_feed line ≡ true
  pub said : TableLine
  pub reads : table_line_of (names_in u head) line ≡ Some said
  pub number : said.number ≡ k
  pub known : IsTrue said.arc.known
  pub of : (q : Reference) → slice_get (references_of no_adds head [] [] 1) k ≡ Some q → IsOf said q
  pub holds : (join : Joins) (r : Running) (t : Turn) (q : Reference) → IsTurn join u head r t → slice_get (references_in r) k ≡ Some q
      → SaysTrue (sizes_of (source_context u)) said q t.frame.iters (accessed join u r t) (Ends join u r t)

-- ---- the table

-- What the table has of a loop: its place, and a true line for each reference of its nest, which make all that is accessed in its turns.
pub record IsTrueOfLoop (u : Program) (head : Loop) (text : List ℕ) : Type 0 where
  pub lines : List (List ℕ)
  pub count : length lines ≡ reference_count head
  pub each : (k : ℕ) → k < length lines → IsTrueLine u head k (slice_index_or lines k [])
  pub whole : (join : Joins) (r : Running) (t : Turn) → IsTurn join u head r t → All (IsMadeAmong (sizes_of (source_context u)) (references_in r)) (accessed join u r t)
  pub is : text ≡ place_line (out-Loop head).place ++ flat_map (λ line. line ++ codes "\n") lines

-- The text has this of each loop of the program that stands in no other, in their order, and nothing more.
pub record IsTrueTable (u : Program) (text : List ℕ) : Type 0 where
  pub parts : List (List ℕ)
  pub each : Pairwise (IsTrueOfLoop u) (outermost_loops u) parts
  pub is : text ≡ joined parts

-- The table of the unit of a text that is read is true.
abbrev pub TablesAreTrue : Type 0
TablesAreTrue = (bytes text : List ℕ) (raw : RawUnit) (u : Program) → IsAccepted bytes raw → resolved raw ≡ Ok u → IsWellMade u → IsTable u text → IsTrueTable u text
