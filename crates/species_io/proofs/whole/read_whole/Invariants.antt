-- What the loop of `read_whole` keeps, and what falls in each turn.
use Rattle.std.proofs.Common.{◌≡◌, ◌≤◌, ◌-◌, length}
use Rattle.species_io.specs.Told.{before}
use Rattle.species_io.proofs.whole.read_whole.Given as goal

abbrev pub invariant-loop-buffer : goal.invariant-loop-buffer
invariant-loop-buffer g l =
    (g.S.Source.left l.initial.src ≡ before l.whole.items (g.S.Source.left l.src)) × (length l.whole.items ≤ l.most)
    × (g.S.Source.faults l.initial.src ≤ g.S.Source.faults l.src)

abbrev pub decreases-loop-buffer : goal.decreases-loop-buffer
decreases-loop-buffer g l = l.most - length l.whole.items
