use Rattle.std.proofs.Common.{FitsSigned, arith, rules}
use Rattle.std.proofs.lemmas.Int.{ints, to_z-of_z}
use Rattle.std.specs.Int.{w128}
use Rattle.species_banerjee.proofs.Spreads.{one_of_four}
use Rattle.species_banerjee.proofs.pairs.spread.Goals as goal

pub returns : goal.returns
returns c =
    let first = c.ranges.first in let second = c.ranges.second in let third = c.ranges.third in let last = c.ranges.last in
    let f1 : FitsSigned w128 c.lesser.result = search rules in
    let f2 : FitsSigned w128 c.lesser-2.result = search rules in
    let f3 : FitsSigned w128 c.lesser-3.result = search rules in
    let g1 : FitsSigned w128 c.greater.result = search rules in
    let g2 : FitsSigned w128 c.greater-2.result = search rules in
    let g3 : FitsSigned w128 c.greater-3.result = search rules in
    let b1 = simp to_z-of_z at c.lesser.ensures.below in
    let b2 = simp to_z-of_z at c.lesser-2.ensures.below in
    let b3 = simp to_z-of_z at c.lesser-3.ensures.below in
    let a1 = simp to_z-of_z at c.greater.ensures.above in
    let a2 = simp to_z-of_z at c.greater-2.ensures.above in
    let a3 = simp to_z-of_z at c.greater-3.ensures.above in
    simp to_z-of_z (record {
      below = (omega (arith, ints, b1, b3), omega (arith, ints, b1, b3), omega (arith, ints, b2, b3), omega (arith, ints, b2, b3));
      above = (omega (arith, ints, a1, a3), omega (arith, ints, a1, a3), omega (arith, ints, a2, a3), omega (arith, ints, a2, a3));
      least = one_of_four c.args.first c.args.second c.args.third c.args.last c.lesser.result c.lesser-2.result c.lesser-3.result
          (simp to_z-of_z at c.lesser.ensures.one) (simp to_z-of_z at c.lesser-2.ensures.one) (simp to_z-of_z at c.lesser-3.ensures.one);
      greatest = one_of_four c.args.first c.args.second c.args.third c.args.last c.greater.result c.greater-2.result c.greater-3.result
          (simp to_z-of_z at c.greater.ensures.one) (simp to_z-of_z at c.greater-2.ensures.one) (simp to_z-of_z at c.greater-3.ensures.one);
    })
