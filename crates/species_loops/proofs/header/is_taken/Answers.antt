use Rattle.std.proofs.Common.{◌≡◌, ◌∙◌, ◌≤ℤ◌, ◌<ℤ◌, pos, sym, arith, to_z, of_z}
use Rattle.std.specs.Int.{w64}
use Rattle.std.specs.Int.RustNames.{int_le}
use Rattle.std.proofs.lemmas.Int.{ints, to_z-of_z}
use Rattle.species_loops.proofs.HeaderLaws.{taken_up, taken_down}
use Rattle.species_loops.proofs.header.is_taken.Goals as goal

pub returns-then-step-lt0 : goal.returns-then-step-lt0
returns-then-step-lt0 c =
    let below : c.args.step <ℤ pos 0 = omega (arith, ints) in
    let first : to_z w64 (of_z w64 c.args.first) ≡ c.args.first = to_z-of_z w64 c.args.first c.ranges.first in
    let last : to_z w64 (of_z w64 c.args.last) ≡ c.args.last = to_z-of_z w64 c.args.last c.ranges.last in
    (λ i. int_le (last i) (first i)) ∙ sym (taken_down c.args.step c.args.first c.args.last below)

pub returns-else-step-lt0 : goal.returns-else-step-lt0
returns-else-step-lt0 c =
    let above : pos 0 ≤ℤ c.args.step = omega (arith, ints) in
    let first : to_z w64 (of_z w64 c.args.first) ≡ c.args.first = to_z-of_z w64 c.args.first c.ranges.first in
    let last : to_z w64 (of_z w64 c.args.last) ≡ c.args.last = to_z-of_z w64 c.args.last c.ranges.last in
    (λ i. int_le (first i) (last i)) ∙ sym (taken_up c.args.step c.args.first c.args.last above)
