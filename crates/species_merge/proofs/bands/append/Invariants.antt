use Rattle.std.proofs.Common.{◌≡◌, ◌++◌, take}
use Rattle.species_merge.proofs.bands.append.Given as goal

abbrev pub invariant-loop-term : goal.invariant-loop-term
invariant-loop-term l = l.out ≡ l.initial.out ++ take l.term-index l.terms
