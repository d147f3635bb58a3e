use Rattle.std.proofs.Common.{◌≡◌, drop}
use Rattle.species_merge.specs.Classes.{same_fronts}
use Rattle.species_merge.proofs.classes.same_fronts.Given as goal

abbrev pub invariant-loop-number : goal.invariant-loop-number
invariant-loop-number l = same_fronts l.top l.a l.b ≡ same_fronts l.top (drop l.number l.a) (drop l.number l.b)
