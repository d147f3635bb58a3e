use Rattle.std.proofs.Common.{◌≡◌, drop}
use Rattle.species_notation.specs.Meaning.{dims_of}
use Rattle.species_notation.proofs.GivenForms.{behind_all}
use Rattle.species_notation.proofs.meaning.dims_of.Given as goal

-- the others come behind those so far
abbrev pub invariant-loop-number : goal.invariant-loop-number
invariant-loop-number l = dims_of l.iters l.sums l.spans ≡ behind_all l.dims (dims_of l.iters (drop l.number l.sums) (drop l.number l.spans))
