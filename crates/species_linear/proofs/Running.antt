-- The running total of a form's terms.
use Rattle.std.proofs.Common.{◌≡◌, ℕ, ◌+◌, ◌*◌, ◌^◌, ◌≤◌, ◌<◌, ℤ, ◌+ℤ◌, ◌*ℤ◌, arith, List, length, slice_index_or, drop, All}
use Rattle.std.specs.Int.RustNames.{unsigned_abs}
use Rattle.std.proofs.lemmas.Int.{ints}
use Rattle.std.proofs.lemmas.List.{at_drop_more}
use Rattle.species_integers.proofs.Sizes.{abs_step, abs_steps_small}
use Rattle.species_linear.specs.declared.forms.Term.{Term}
use Rattle.species_linear.specs.Rising.{IsRising}
use Rattle.species_linear.specs.Point.{Point}
use Rattle.species_linear.specs.Value.{sum_at}
use Rattle.species_linear.proofs.Order.{few_terms}

-- The total of a constant and of the first i terms: with the other terms it is the whole, and it is small.
pub record IsRunning (ts : List Term) (p : Point) (whole : ℤ) (i : ℕ) (total : ℤ) : Type 0 where
  pub rest : total +ℤ sum_at (drop i ts) p ≡ whole
  pub small : unsigned_abs total ≤ (1 + i) * 2 ^ 110

-- one term more
pub running_next : (ts : List Term) (p : Point) (whole : ℤ) (i : ℕ) (d : Term) (total next : ℤ) → i < length ts →
    unsigned_abs (slice_index_or ts i d).coefficient < 2 ^ 70 → unsigned_abs (p (slice_index_or ts i d).level) ≤ 2 ^ 40 →
    IsRunning ts p whole i total → next ≡ total +ℤ (slice_index_or ts i d).coefficient *ℤ p (slice_index_or ts i d).level →
    IsRunning ts p whole (i + 1) next
running_next ts p whole i d total next h small_coefficient small_at before step = record {
  rest = omega (arith, ints, before.rest, step, at_drop_more (λ us. sum_at us p) ts i d h);
  small = rw step (abs_step total (slice_index_or ts i d).coefficient (p (slice_index_or ts i d).level) i (2 ^ 70) (2 ^ 40) (2 ^ 110)
      before.small (omega (arith, small_coefficient)) small_at (omega arith));
}

-- of at most 16 levels the total stays small
pub running_small : (ts : List Term) (p : Point) (whole : ℤ) (i n : ℕ) (total : ℤ) → IsRising ts → All (λ t. t.level < n) ts → n ≤ 16 → i ≤ length ts →
    IsRunning ts p whole i total → unsigned_abs total ≤ 2 ^ 115
running_small ts p whole i n total rising below few h now =
    abs_steps_small i (2 ^ 110) 16 (2 ^ 115) total now.small (omega (arith, few_terms n 0 ts rising below (omega arith))) (omega arith)
