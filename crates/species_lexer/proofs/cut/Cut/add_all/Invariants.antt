-- What the loop of `add_all` keeps, and what falls in each turn.
use Rattle.std.proofs.Common.{◌≡◌, ◌≤◌, ◌-◌, ◌+◌, length, drop}
use Rattle.species_lexer.specs.Fed.{with_rest}
use Rattle.species_lexer.specs.SeenCut.{seen_cut}
use Rattle.species_lexer.proofs.cut.Cut.add_all.Given as goal

abbrev pub invariant-loop-piece : goal.invariant-loop-piece
invariant-loop-piece l =
    (l.at ≤ length l.bytes) × (l.self.table.length ≡ l.initial.self.table.length + l.at)
    × (with_rest (seen_cut l.initial.self) l.bytes ≡ with_rest (seen_cut l.self) (drop l.at l.bytes))

abbrev pub decreases-loop-piece : goal.decreases-loop-piece
decreases-loop-piece l = length l.bytes - l.at
