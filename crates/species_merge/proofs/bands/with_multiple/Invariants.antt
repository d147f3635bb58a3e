use Rattle.std.proofs.Common.{◌≡◌, ℕ, ◌+◌, ◌*◌, ◌≤◌, ◌^◌, ◌+ℤ◌, ◌*ℤ◌, take}
use Rattle.species_linear.specs.Point.{Point}
use Rattle.species_linear.specs.Rising.{IsRising}
use Rattle.species_linear.specs.Value.{sum_at}
use Rattle.species_merge.specs.Sizes.{HasTerms}
use Rattle.species_merge.proofs.bands.with_multiple.Given as goal

-- each of the others adds one product; there are at most 2^32 of them, since their levels rise
abbrev pub invariant-loop-term : goal.invariant-loop-term
invariant-loop-term l = record {
  rising : IsRising l.sum;
  value : (p : Point) → sum_at l.sum p ≡ sum_at l.fn.terms p +ℤ l.c *ℤ sum_at (take l.term-index l.others) p;
  numbers : (m : ℕ) → HasTerms m l.fn.terms → HasTerms (m + l.term-index * 2 ^ 80) l.sum;
  count : l.term-index ≤ 2 ^ 32;
}
