-- What the loop of `read_each` keeps, and what falls in each turn.
use Rattle.std.proofs.Common.{◌≡◌, ◌≤◌, ◌-◌, ◌+◌, ◌++◌, ℕ, List, length}
use Rattle.species_io.specs.Told.{before}
use Rattle.species_io.proofs.whole.read_each.Given as goal

abbrev pub invariant-loop-piece : goal.invariant-loop-piece
invariant-loop-piece g l =
    ((front : List ℕ) × (length front ≡ l.handed) × (g.S.Source.left l.initial.src ≡ before front (g.S.Source.left l.src))
    × ((bytes : List ℕ) → g.P.Piecewise.Means l.initial.to bytes → g.P.Piecewise.Means l.to (bytes ++ front)))
    × (l.handed ≤ l.most) × (g.S.Source.faults l.initial.src ≤ g.S.Source.faults l.src)
    × (g.P.Piecewise.room l.to + l.handed ≡ g.P.Piecewise.room l.initial.to)

abbrev pub decreases-loop-piece : goal.decreases-loop-piece
decreases-loop-piece g l = l.most + 1 - l.handed
