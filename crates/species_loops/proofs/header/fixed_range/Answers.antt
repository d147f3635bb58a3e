use Rattle.std.proofs.Common.{◌≡◌, ◌∙◌, ◌≤ℤ◌, ◌<ℤ◌, pos, ℤ, sym, arith, rules, to_z, of_z, Some, true, FitsSigned}
use Rattle.std.specs.Int.{w32, w64}
use Rattle.std.proofs.lemmas.Int.{ints, to_z-of_z}
use Rattle.species_loops.specs.Headers.{far_end}
use Rattle.species_loops.proofs.HeaderLaws.{fixed_up, fixed_down}
use Rattle.species_loops.proofs.header.fixed_range.Goals as goal

pub returns-then-step-lt0-clause-value : goal.returns-then-step-lt0-clause-value
returns-then-step-lt0-clause-value c =
    let below : c.args.step <ℤ pos 0 = omega (arith, ints) in
    let step : to_z w32 (of_z w32 c.args.step) ≡ c.args.step = to_z-of_z w32 c.args.step c.ranges.step in
    let first : to_z w64 (of_z w64 c.args.first) ≡ c.args.first = to_z-of_z w64 c.args.first c.ranges.first in
    let last : to_z w64 (of_z w64 c.args.last) ≡ c.args.last = to_z-of_z w64 c.args.last c.ranges.last in
    let fits : FitsSigned w64 c.far_end-far.result = search rules in
    let far : to_z w64 (of_z w64 c.far_end-far.result) ≡ far_end c.args.step c.args.first c.args.last =
    to_z-of_z w64 c.far_end-far.result fits ∙ c.far_end-far.ensures.value ∙ (λ i. far_end (step i) (first i) (last i)) in
    (λ i. record { low = far i; high = first i; step = step i; start = Some (first i); fixed = true }) ∙ sym (fixed_down c.args.step c.args.first c.args.last below)

pub returns-else-step-lt0-clause-value : goal.returns-else-step-lt0-clause-value
returns-else-step-lt0-clause-value c =
    let above : pos 0 ≤ℤ c.args.step = omega (arith, ints) in
    let step : to_z w32 (of_z w32 c.args.step) ≡ c.args.step = to_z-of_z w32 c.args.step c.ranges.step in
    let first : to_z w64 (of_z w64 c.args.first) ≡ c.args.first = to_z-of_z w64 c.args.first c.ranges.first in
    let last : to_z w64 (of_z w64 c.args.last) ≡ c.args.last = to_z-of_z w64 c.args.last c.ranges.last in
    let fits : FitsSigned w64 c.far_end-far.result = search rules in
    let far : to_z w64 (of_z w64 c.far_end-far.result) ≡ far_end c.args.step c.args.first c.args.last =
    to_z-of_z w64 c.far_end-far.result fits ∙ c.far_end-far.ensures.value ∙ (λ i. far_end (step i) (first i) (last i)) in
    (λ i. record { low = first i; high = far i; step = step i; start = Some (first i); fixed = true }) ∙ sym (fixed_up c.args.step c.args.first c.args.last above)
