-- What the tests on a pair of array references ask of their forms and of the loops around them.
use Rattle.std.specs.Prelude.{◌≡◌, ℕ, ◌<◌, ◌≤◌, List, length}
use Rattle.species_linear.specs.declared.forms.Form.{Form}
use Rattle.species_linear.specs.declared.loops.LoopRange.{LoopRange}
use Rattle.species_linear.specs.declared.loops.Direction.{Direction}
use Rattle.species_linear.specs.Point.{IsShort}
use Rattle.species_linear.specs.Value.{NamesOnly, HasSmallForm}
use Rattle.species_linear.specs.Box.{range_at, HasSteps, HasSmallPath}
use Rattle.species_region.specs.Region.{level_of}

-- The loops around two references: both paths reach the level of the direction, and have the same loops down to it.
pub record ShareLoops (at : Direction) (ps qs : List LoopRange) : Type 0 where
  pub first : level_of at < length ps
  pub second : level_of at < length qs
  pub same : (k : ℕ) → k ≤ level_of at → range_at ps k ≡ range_at qs k

-- At most 16 loops, their ends at most 2^40 in size, none with the step 0. A range may be empty.
pub record IsSmallPath (path : List LoopRange) : Type 0 where
  pub short : IsShort path
  pub small : HasSmallPath path
  pub steps : HasSteps path

-- A form over the iterators of the path, its numbers below 2^70 in size.
pub record IsFormOver (path : List LoopRange) (f : Form) : Type 0 where
  pub named : NamesOnly f (length path)
  pub small : HasSmallForm f
