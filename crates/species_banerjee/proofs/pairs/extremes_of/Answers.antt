use Rattle.std.proofs.Common.{FitsSigned, rules}
use Rattle.std.proofs.lemmas.Int.{to_z-of_z}
use Rattle.std.specs.Int.{w128}
use Rattle.species_banerjee.proofs.Spreads.{least_at_corners, greatest_at_corners, spread_of_same, taken_small}
use Rattle.species_banerjee.proofs.pairs.extremes_of.Goals as goal

pub returns-clause-least : goal.returns-clause-least
returns-clause-least c =
    let a = c.ranges.a in let b = c.ranges.b in
    let g1 : FitsSigned w128 c.gap.result = search rules in
    let g2 : FitsSigned w128 c.gap-2.result = search rules in
    let g3 : FitsSigned w128 c.gap-3.result = search rules in
    let g4 : FitsSigned w128 c.gap-4.result = search rules in
    let at = c.corners_of-at.result in
    let spread = spread_of_same c.gap.result c.gap-2.result c.gap-3.result c.gap-4.result _ _ _ _ c.spread.result.least c.spread.result.greatest
    (simp to_z-of_z at c.gap.ensures) (simp to_z-of_z at c.gap-2.ensures) (simp to_z-of_z at c.gap-3.ensures) (simp to_z-of_z at c.gap-4.ensures)
    (simp to_z-of_z at c.spread.ensures) in
    least_at_corners c.args.loops c.args.a c.args.b c.spread.result.least c.spread.result.greatest
    (at.near.first, at.near.second) (at.low.first, at.low.second) (at.high.first, at.high.second) (at.far.first, at.far.second) c.corners_of-at.ensures spread

pub returns-clause-greatest : goal.returns-clause-greatest
returns-clause-greatest c =
    let a = c.ranges.a in let b = c.ranges.b in
    let g1 : FitsSigned w128 c.gap.result = search rules in
    let g2 : FitsSigned w128 c.gap-2.result = search rules in
    let g3 : FitsSigned w128 c.gap-3.result = search rules in
    let g4 : FitsSigned w128 c.gap-4.result = search rules in
    let at = c.corners_of-at.result in
    let spread = spread_of_same c.gap.result c.gap-2.result c.gap-3.result c.gap-4.result _ _ _ _ c.spread.result.least c.spread.result.greatest
    (simp to_z-of_z at c.gap.ensures) (simp to_z-of_z at c.gap-2.ensures) (simp to_z-of_z at c.gap-3.ensures) (simp to_z-of_z at c.gap-4.ensures)
    (simp to_z-of_z at c.spread.ensures) in
    greatest_at_corners c.args.loops c.args.a c.args.b c.spread.result.least c.spread.result.greatest
    (at.near.first, at.near.second) (at.low.first, at.low.second) (at.high.first, at.high.second) (at.far.first, at.far.second) c.corners_of-at.ensures spread

pub returns-clause-small : goal.returns-clause-small
returns-clause-small c = (
  taken_small c.args.loops c.args.a c.args.b c.spread.result.least c.requires.usable c.requires.small_a c.requires.small_b (returns-clause-least c).1,
  taken_small c.args.loops c.args.a c.args.b c.spread.result.greatest c.requires.usable c.requires.small_a c.requires.small_b (returns-clause-greatest c).1,
)
