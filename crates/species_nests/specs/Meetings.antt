-- The iterations in a running of a nest, and where they meet.
use Rattle.std.specs.Prelude.{map, ◌≡◌, ◌≢◌, ◌⊎◌, ◌↔◌, ℕ, List, [], ◌∷◌, slice_index_or, Bool, IsTrue}
use Rattle.std.specs.List.{Contains}
use Rattle.species_ast.specs.Accesses.{Joins, Element, Direction, Reads, Adds, Access, Cells, Tree, Outcome, Ended, Stopped, run, accesses}
use Rattle.species_ast.specs.Run.{inside, outside, does_scope}
use Rattle.species_nests.specs.Arrivals.{header}
use Rattle.std.specs.Prelude.{ℤ, ◌++◌}
use Rattle.species_ast.specs.Evaluation.{Frame, Context}
use Rattle.species_nests.specs.Arrivals.{Running}
use Rattle.species_nests.specs.Nests.{Placed, band, nest_of}

-- ---- the iterations of a running

-- an iteration that ran: the frame from which it did, and its accesses
pub record Ran : Type 0 where
  pub frame : Frame
  pub accesses : List Access

-- what follows a run that ended
abbrev pub on_ended : {X : Type 0} → Outcome X → (X → Cells → List Ran) → List Ran
on_ended (Ended x m) next = next x m
on_ended (Stopped why place) next = []

-- the iterations in the turns of a loop, one turn after another
abbrev pub in_turns : Joins → (Frame → Cells → List Ran) → (Frame → Tree Frame) → List ℤ → Frame → Cells → List Ran
in_turns join each body [] f m = []
in_turns join each body (i ∷ is) f m = each (inside f i) m ++ on_ended (run join (body (inside f i)) m) (λ g n. in_turns join each body is (outside f g) n)

-- The iterations of these loops as they run in the source's order; each may leave other locals to the next.
abbrev pub in_loops : Joins → Context → List Placed → (Frame → Tree Frame) → Frame → Cells → List Ran
in_loops join w [] does f m = record { frame = f; accesses = accesses join (does f) m } ∷ []
in_loops join w (l ∷ ls) does f m =
    on_ended (run join (header w l.loop l.at f) m) (λ is n. in_turns join (in_loops join w ls does) (band w ls does) is f n)

-- the iterations in a running of a nest with so many loops below its first
abbrev pub iterations_in : Joins → Context → ℕ → Running → List Ran
iterations_in join w d r = let n = nest_of d r.loop r.at in in_loops join w n.loops (does_scope w n.body n.at 0) r.frame r.arrays

-- and the accesses of each
abbrev pub running_traces : Joins → Context → ℕ → Running → List (List Access)
running_traces join w d r = map (λ x. x.accesses) (iterations_in join w d r)

-- ---- where they meet

abbrev pub nth : List (List Access) → ℕ → List Access
nth xss k = slice_index_or xss k []

-- the element is accessed there, in this direction
abbrev pub Touches : Element → Direction → List Access → Type 0
Touches e d xs = (x : Access) × Contains xs x × (x.element ≡ e) × (x.direction ≡ d)

-- Both access the element, and not both of these accesses are reads.
abbrev pub Meet : Element → List Access → List Access → Type 0
Meet e xs ys = (c d : Direction) × Touches e c xs × Touches e d ys × ((c ≢ Reads) ⊎ (d ≢ Reads))

-- an element to which something is added, or on which two of the iterations meet
abbrev pub IsShared : Element → List (List Access) → Type 0
IsShared e xss = ((k : ℕ) × Touches e Adds (nth xss k)) ⊎ ((j k : ℕ) × (j ≢ k) × Meet e (nth xss j) (nth xss k))

-- Such an element is accessed by adds alone.
abbrev pub IsApart : List (List Access) → Type 0
IsApart xss = (e : Element) → IsShared e xss → (k : ℕ) (d : Direction) → Touches e d (nth xss k) → d ≡ Adds

-- Iterations meet on elements of these arrays alone.
abbrev pub MeetOnlyOn : (ℕ → Bool) → List (List Access) → Type 0
MeetOnlyOn gathered xss = (e : Element) (j k : ℕ) → j ≢ k → Meet e (nth xss j) (nth xss k) → IsTrue (gathered e.array)

-- Of these arrays each access is an add, and of the others none.
abbrev pub AddsExactlyOn : (ℕ → Bool) → List (List Access) → Type 0
AddsExactlyOn gathered xss = (e : Element) (k : ℕ) (d : Direction) → Touches e d (nth xss k) → IsTrue (gathered e.array) ↔ (d ≡ Adds)
