-- What boxes are: all that the iterators of the inner loops add to an index, and its ends are reached. Each reference has boxes
-- that are not empty.
use Rattle.std.specs.Prelude.{◌≡◌, ℕ, ◌+◌, false, List, take, drop, length, ℤ, ◌-ℤ◌, ◌++◌, All}
use Rattle.species_arcs.specs.Spans.{IsInSpan}
use Rattle.species_arcs.specs.declared.spans.Span.{Span}
use Rattle.species_ast.specs.declared.tree.Loop.{Loop}
use Rattle.species_ast.specs.Scope.Forms.{Form, form_value, sum_of}
use Rattle.species_ast.specs.Scope.Hulls.{Range, AreIn, has_empty}
use Rattle.species_ast.specs.Scope.References.{Reference, Adding, references_of}
use Rattle.species_linear.specs.Box.{IsLeastOver, IsGreatestOver}
use Rattle.species_occurrences.specs.Iterators.{AreTaken, ranges_of}
use Rattle.species_references.specs.Boxes.{inner_part, IsBoxOf}

-- Where the inner loops are these, in loops with these ranges: whatever values the iterators take, an index, less the terms of the
-- outer iterators, is a number of the box.
abbrev pub BoxesHoldIndices : Type 0
BoxesHoldIndices = (path : List Range) (inner : List Loop) (f : Form) (x : Span) (iters : List ℤ) → IsBoxOf (length path) (ranges_of path inner) f x
    → AreTaken (ranges_of path inner) iters → IsInSpan x (form_value f iters -ℤ sum_of (take (length path) f.coefficients) iters)

-- If no range of an inner loop is empty, the ends of a box are the least and the greatest value of the inner part over all points.
abbrev pub BoxesAreExtremes : Type 0
BoxesAreExtremes = (path inner : List Range) (f : Form) (x : Span) → has_empty inner ≡ false → IsBoxOf (length path) (path ++ inner) f x
    → IsLeastOver (AreIn inner) (form_value (inner_part (length path) f)) x.low × IsGreatestOver (AreIn inner) (form_value (inner_part (length path) f)) x.high

-- no range of a loop around the reference from this level on is empty
abbrev pub HasTurns : ℕ → Reference → Type 0
HasTurns inner q = has_empty (drop inner q.path) ≡ false

-- No reference of a nest stands in an inner loop whose range is empty.
abbrev pub ReferencesHaveTurns : Type 0
ReferencesHaveTurns = (adds : Adding) (head : Loop) (at : List ℕ) (path : List Range) (depth : ℕ) → All (HasTurns (length path + depth)) (references_of adds head at path depth)
