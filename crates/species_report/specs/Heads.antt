-- Loops that are borrowed of a unit.
use Rattle.std.specs.Prelude.{List, map}
use Rattle.std.specs.Borrow.{Bor}
use Rattle.species_ast.specs.declared.tree.Loop.{Loop}

-- the loops themselves
abbrev pub loops_seen : List (Bor Loop) → List Loop
loops_seen heads = map (λ b. b.now) heads
