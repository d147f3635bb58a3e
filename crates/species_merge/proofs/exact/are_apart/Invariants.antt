use Rattle.std.proofs.Common.{◌≡◌, drop}
use Rattle.species_merge.specs.Exact.{are_apart}
use Rattle.species_merge.proofs.exact.are_apart.Given as goal

abbrev pub invariant-loop-term : goal.invariant-loop-term
invariant-loop-term l = are_apart l.a l.b ≡ are_apart (drop l.term-index l.a) l.b
