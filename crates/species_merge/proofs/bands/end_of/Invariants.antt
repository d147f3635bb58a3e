use Rattle.std.proofs.Common.{◌+◌, ◌*◌, ◌^◌}
use Rattle.species_linear.specs.Rising.{IsRising}
use Rattle.species_merge.specs.Sizes.{HasNumbers}
use Rattle.species_merge.proofs.BandLemmas.{IsEndSoFar}
use Rattle.species_merge.proofs.bands.end_of.Given as goal

-- each term of the band adds at most one product to a number
abbrev pub invariant-loop-term : goal.invariant-loop-term
invariant-loop-term l = record {
  rising : IsRising l.form.terms;
  value : IsEndSoFar l.lower l.outer l.bands l.at l.offset l.term-index l.form;
  numbers : HasNumbers (2 ^ 71 + l.term-index * 2 ^ 112) l.form;
}
