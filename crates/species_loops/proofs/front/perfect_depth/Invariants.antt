use Rattle.std.proofs.Common.{◌≡◌, ◌-◌, true, length}
use Rattle.species_ast.specs.Scope.Nests.{front_of}
use Rattle.species_loops.specs.Bands.{is_band}
use Rattle.species_loops.proofs.front.perfect_depth.Given as goal

abbrev pub invariant-loop-depth : goal.invariant-loop-depth
invariant-loop-depth l = is_band l.level (front_of l.head) l.depth ≡ true

abbrev pub decreases-loop-depth : goal.decreases-loop-depth
decreases-loop-depth l = length (front_of l.head) - l.depth
