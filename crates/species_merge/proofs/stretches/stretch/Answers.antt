use Rattle.std.proofs.Common.{rules, refl, arith, FitsSigned, ◌≤ℤ◌, ℤ}
use Rattle.std.specs.Int.{w128}
use Rattle.std.proofs.lemmas.Int.{ints, to_z-of_z}
use Rattle.species_merge.proofs.Divides.{dvd_nothing}
use Rattle.species_merge.proofs.Covering.{through, enough, part_covered}
use Rattle.species_merge.proofs.stretches.stretch.Goals as goal

same_low : (x : ℤ) → x ≤ℤ x
same_low x = omega (arith, ints)

pub returns-then-some_goes_through : goal.returns-then-some_goes_through
returns-then-some_goes_through c =
    let fits_at = c.ranges.at in
    let goes = simp to_z-of_z at c.some_goes_through.ensures in
    ((λ t. through c.args.spans.now c.args.at c.args.edge c.args.stride c.requires.ahead c.requires.settled (goes c.if-some_goes_through.true)), (λ h. refl))

pub returns : goal.returns
returns c =
    let fits_at = c.ranges.at in
    let fits_edge = c.ranges.edge in
    let fits_last : FitsSigned w128 c.last_of.result = search rules in
    let is_enough = simp to_z-of_z at c.last_of.ensures.enough in
    let within = simp to_z-of_z at c.last_of.ensures.within in
    let walked = simp to_z-of_z at c.walk.ensures in (
      (λ t. enough c.args.spans.now c.args.at c.args.edge c.args.stride c.last_of.result c.requires.ahead c.requires.settled is_enough (walked.0 t)),
      (λ h. walked.1 (part_covered c.args.spans.now c.args.at c.args.edge c.args.stride c.args.at c.last_of.result (same_low c.args.at) within (dvd_nothing c.args.stride c.args.at c.args.at refl) h)),
    )
