use Rattle.species_loops.proofs.ExtremeLaws.{IsRunning}
use Rattle.species_loops.proofs.bound.Bound.extreme.Given as goal

abbrev pub invariant-loop-level : goal.invariant-loop-level
invariant-loop-level l = IsRunning l.lower l.self l.path l.level l.total
