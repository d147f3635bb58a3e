use Rattle.std.proofs.Common.{◌≡◌, take}
use Rattle.species_print.proofs.statements.names_within.Given as goal

abbrev pub invariant-loop-name : goal.invariant-loop-name
invariant-loop-name l = l.names ≡ take l.name-index l.iters
