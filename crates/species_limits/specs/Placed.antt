-- The loops that a loop begins with.
use Rattle.std.specs.Prelude.{Bool, ◌||◌, List, ◌∷◌}
use Rattle.species_ast.specs.declared.tree.Loop.{Loop, para-Loop}
use Rattle.species_ast.specs.declared.tree.Stmt.TheOpen.{Loop-F}
use Rattle.species_ast.specs.Scope.Hulls.{Range, passes_hull}
use Rattle.species_ast.specs.Scope.Limits.{is_too_deep}
use Rattle.species_ast.specs.Scope.Magnitudes.{passes_bound}
use Rattle.species_ast.specs.Scope.Loops.{Placing, loops_at, loops_inside}
use Rattle.species_limits.specs.declared.walk.At.{At}

abbrev pub loops_of : Loop → Placing
loops_of = para-Loop Placing Placing loops_at loops_inside

-- a loop where it stands, and those in it
abbrev pub loops_from : Loop → Placing
loops_from head s = record { head = head; stands = s } ∷ loops_of head s

-- a loop in loops with these ranges passes Loops, Hull or Bound
abbrev pub passes : {X Y : Type 0} → At → List Range → Loop-F X Y → Bool
passes at path l = is_too_deep at.level || (passes_hull path l || passes_bound path l)
