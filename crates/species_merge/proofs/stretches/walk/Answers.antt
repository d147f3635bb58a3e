use Rattle.std.proofs.Common.{refl, FitsSigned, pos, to_z, arith, ◌≤◌, ◌^◌, ◌+ℤ◌, ◌≤ℤ◌, ◌≡◌, ℤ, true}
use Rattle.std.specs.Int.{w128}
use Rattle.std.specs.Int.RustNames.{unsigned_abs, int_le}
use Rattle.std.proofs.lemmas.Int.{ints, to_z-of_z, fits_signed_from_abs, to_z_pos}
use Rattle.species_integers.proofs.Sizes.{abs_sum, abs_between}
use Rattle.species_merge.proofs.Covering.{covered_step, covered_end, one_covered, on_step, not_true, clash, past_of}
use Rattle.species_merge.proofs.stretches.walk.Goals as goal

at_most : (x y : ℤ) → int_le x y ≡ true → x ≤ℤ y
at_most x y h = grind (arith, ints)

pub loop-at-preserved : goal.loop-at-preserved
loop-at-preserved c =
    let step : to_z w128 c.args.stride ≡ pos c.args.stride = to_z_pos w128 c.args.stride (omega (arith, c.requires.small_stride)) in
    let fits_last = c.ranges.last in
    let fits_first = c.ranges.first in
    let below : to_z w128 c.loop-at.at-bits ≤ℤ c.args.last = at_most _ _ (simp to_z-of_z at c.loop-at-test.true) in
    let from = simp to_z-of_z at c.loop-at.invariant.from in
    let covered = simp to_z-of_z at c.loop-at.invariant.covered in
    let whole = simp to_z-of_z at c.loop-at.invariant.whole in
    let small : unsigned_abs (to_z w128 c.loop-at.at-bits) ≤ 2 ^ 71 = abs_between c.args.first c.args.last (to_z w128 c.loop-at.at-bits) (2 ^ 71) from below c.requires.small_first c.requires.small_last in
    let sum : FitsSigned w128 (to_z w128 c.loop-at.at-bits +ℤ pos c.args.stride) =
    fits_signed_from_abs w128 (to_z w128 c.loop-at.at-bits +ℤ pos c.args.stride) (omega (arith, abs_sum (to_z w128 c.loop-at.at-bits) (pos c.args.stride), small, c.requires.small_stride)) in
    let has = c.some_holds.ensures.0 c.if-not-some_holds.false in
    simp (to_z-of_z, step) (record {
      covered = covered_step c.args.spans.now c.args.first c.args.stride (to_z w128 c.loop-at.at-bits) covered whole has;
      whole = on_step c.args.stride (to_z w128 c.loop-at.at-bits) c.args.first whole;
      from = omega (arith, ints, from);
    })

pub returns-then-not-some_holds : goal.returns-then-not-some_holds
returns-then-not-some_holds c =
    let fits_last = c.ranges.last in
    let fits_first = c.ranges.first in
    let below : to_z w128 c.loop-at.at-bits ≤ℤ c.args.last = at_most _ _ (simp to_z-of_z at c.loop-at-test.true) in
    let from = simp to_z-of_z at c.loop-at.invariant.from in
    let whole = simp to_z-of_z at c.loop-at.invariant.whole in
    ((λ t. not_true t), (λ h. absurd (clash c.some_holds.result (c.some_holds.ensures.1 (one_covered c.args.spans.now c.args.first c.args.last c.args.stride (to_z w128 c.loop-at.at-bits) from below whole h)) c.if-not-some_holds.true)))

pub returns : goal.returns
returns c =
    let fits_last = c.ranges.last in
    let fits_first = c.ranges.first in
    let covered = simp to_z-of_z at c.loop-at.invariant.covered in
    let past = past_of _ _ (simp to_z-of_z at c.loop-at-test.false) in
    ((λ t. covered_end c.args.spans.now c.args.first c.args.last c.args.stride (to_z w128 c.loop-at.at-bits) covered past), (λ h. refl))
