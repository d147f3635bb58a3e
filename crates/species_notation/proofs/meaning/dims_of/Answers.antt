-- The goals of `dims_of` that need an answer.
use Rattle.std.proofs.Common.{rules}
use Rattle.species_notation.proofs.GivenForms.{dims_apart}
use Rattle.species_notation.proofs.meaning.dims_of.Goals as goal

pub returns-then-sums-spans : goal.returns-then-sums-spans
returns-then-sums-spans c = dims_apart c.args.iters.now c.args.sums.now c.args.spans.now (search rules)
