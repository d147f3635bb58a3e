-- What the loop of `past_spaces` keeps, and what falls in each turn.
use Rattle.std.proofs.Common.{◌-◌, length}
use Rattle.species_lexer.specs.Found.{Passes}
use Rattle.species_lexer.proofs.scan.past_spaces.Given as goal

abbrev pub invariant-loop-rest : goal.invariant-loop-rest
invariant-loop-rest l = Passes l.text l.fn.start l.at l.is_head

abbrev pub decreases-loop-rest : goal.decreases-loop-rest
decreases-loop-rest l = length l.text - l.at
