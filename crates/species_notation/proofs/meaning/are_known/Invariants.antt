use Rattle.std.proofs.Common.{◌≡◌, drop}
use Rattle.std.specs.List.{list_all}
use Rattle.species_notation.specs.Meaning.{is_known}
use Rattle.species_notation.proofs.meaning.are_known.Given as goal

-- those so far are known
abbrev pub invariant-loop-totals : goal.invariant-loop-totals
invariant-loop-totals l = list_all (is_known l.iters) l.sums ≡ list_all (is_known l.iters) (drop l.totals-index l.sums)
