use Rattle.std.proofs.Common.{◌≡◌, drop}
use Rattle.species_notation.specs.Meaning.{add_all, sums_of}
use Rattle.species_notation.proofs.sums.sums_of.Given as goal

-- what is left is added to the sums so far
abbrev pub invariant-loop-summand : goal.invariant-loop-summand
invariant-loop-summand l = sums_of l.form ≡ add_all (drop l.summand-index l.summand-items) l.totals
