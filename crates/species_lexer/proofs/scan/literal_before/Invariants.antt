-- What the loop of `literal_before` keeps, and what falls in each turn.
use Rattle.std.proofs.Common.{◌≡◌, ◌-◌, ◌≤◌, drop, Some}
use Rattle.species_ast.specs.Text.Stream.{look_up}
use Rattle.species_lexer.specs.Cursor.{Before, over, before_at}
use Rattle.species_lexer.proofs.scan.literal_before.Given as goal

abbrev pub invariant-loop-from : goal.invariant-loop-from
invariant-loop-from l =
    (b : Before) × (l.from ≤ l.at) × (over (drop l.from l.text) 0 (l.at - l.from) l.is_head ≡ Some b) × (look_up (before_at l.text l.at).definitions l.name ≡ look_up b.definitions l.name)

abbrev pub decreases-loop-from : goal.decreases-loop-from
decreases-loop-from l = l.at - l.from
