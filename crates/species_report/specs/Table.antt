-- The table of arcs of a unit: of each loop that stands in no other its place, and for each plain reference of its nest a line with
-- the arc that this reference has alone, where the band is that one loop.
use Rattle.std.specs.Prelude.{◌≡◌, ℕ, List, [], ◌∷◌, ◌++◌, map, codes, decimal}
use Rattle.species_arcs.specs.Pairwise.{Pairwise}
use Rattle.species_arcs.specs.declared.places.Arc.{Arc}
use Rattle.species_ast.specs.declared.tree.Loop.{Loop, out-Loop}
use Rattle.species_ast.specs.declared.tree.Unit.{Unit as Program}
use Rattle.species_ast.specs.Evaluation.{sizes_of}
use Rattle.species_ast.specs.Run.{source_context}
use Rattle.species_ast.specs.Scope.Loops.{outermost_loops}
use Rattle.species_ast.specs.Scope.References.{no_adds, references_of}
use Rattle.species_merge.specs.Arcs.{AreArcsOf}
use Rattle.species_merge.specs.Bounds.{IsBoundOf}
use Rattle.species_merge.specs.declared.bands.BandBound.{BandBound}
use Rattle.species_notation.specs.Written.{table_line_text}
use Rattle.species_notation.specs.declared.given.Names.{Names}
use Rattle.species_references.specs.References.{IsReference, AreNumberedFrom}
use Rattle.species_references.specs.declared.nest.Reference.{Reference}

-- one text after another
abbrev pub joined : List (List ℕ) → List ℕ
joined [] = []
joined (text ∷ texts) = text ++ joined texts

-- The names of the arrays, and that of the iterator of a loop that stands in no other.
abbrev pub names_in : Program → Loop → Names
names_in u head = record { arrays = map (λ a. a.name) u.arrays; iters = (out-Loop head).iter ∷ []; locals = [] }

abbrev pub place_line : ℕ → List ℕ
place_line place = codes "loop " ++ (decimal place ++ codes "\n")

-- The list shows the plain references of the loop's nest, in which each `+=` is a read and a write, in order of evaluation, with
-- their numbers from 0. The loops below the first are inner ones.
pub record AreOfNest (u : Program) (head : Loop) (refs : List Reference) : Type 0 where
  pub shown : (at : List ℕ) → Pairwise (IsReference (sizes_of (source_context u)) 1) refs (references_of no_adds head at [] 1)
  pub numbered : AreNumberedFrom 0 refs

-- The line of a reference, with its line feed: its number, and the arc of the class that has it alone, over a band with this bound.
pub record IsLineOf (names : Names) (bound : BandBound) (r : Reference) (line : List ℕ) : Type 0 where
  pub arc : Arc
  pub alone : AreArcsOf 0 (bound ∷ []) (r ∷ []) (arc ∷ [])
  pub text : line ≡ table_line_text names r.number arc ++ codes "\n"

-- What the table has of a loop: its place, and a line for each reference of its nest.
pub record IsOfLoop (u : Program) (head : Loop) (text : List ℕ) : Type 0 where
  pub bound : BandBound
  pub references : List Reference
  pub lines : List (List ℕ)
  pub ends : IsBoundOf (out-Loop head) bound
  pub plain : AreOfNest u head references
  pub each : Pairwise (IsLineOf (names_in u head) bound) references lines
  pub is : text ≡ place_line (out-Loop head).place ++ joined lines

-- The text has what the table has of each of these loops, in their order, and nothing more.
pub record HaveParts (u : Program) (heads : List Loop) (text : List ℕ) : Type 0 where
  pub parts : List (List ℕ)
  pub each : Pairwise (IsOfLoop u) heads parts
  pub is : text ≡ joined parts

-- The table of a unit has those of the loops that stand in no other.
abbrev pub IsTable : Program → List ℕ → Type 0
IsTable u text = HaveParts u (outermost_loops u) text
