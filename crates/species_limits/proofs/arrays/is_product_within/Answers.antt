use Rattle.std.proofs.Common.{◌≡◌, ◌+◌, ◌*◌, ◌≤◌, refl, arith, take}
use Rattle.std.proofs.lemmas.Bool.Decides.{nat_tests}
use Rattle.species_ast.specs.Evaluation.{product}
use Rattle.species_limits.proofs.ProductLaws.{product_next, product_grows}
use Rattle.species_limits.proofs.arrays.is_product_within.Goals as goal

pub returns-then-elements-gt-MOST_ELEMENTS : goal.returns-then-elements-gt-MOST_ELEMENTS
returns-then-elements-gt-MOST_ELEMENTS c h =
    let next : c.loop-size.elements * c.from-elements.result ≡ product (take (c.loop-size.size-index + 1) c.args.sizes.now) =
    product_next c.args.sizes.now c.loop-size.size-index 0 c.from-elements.result c.loop-size.elements _ c.loop-size.invariant.so_far c.from-elements.ensures c.loop-size-test.true refl in
    let grows : product (take (c.loop-size.size-index + 1) c.args.sizes.now) ≤ product c.args.sizes.now = product_grows (c.loop-size.size-index + 1) c.args.sizes.now h in
    grind (arith, nat_tests, next, grows)

pub loop-size-preserved : goal.loop-size-preserved
loop-size-preserved c = record {
  so_far = product_next c.args.sizes.now c.loop-size.size-index 0 c.from-elements.result c.loop-size.elements _ c.loop-size.invariant.so_far c.from-elements.ensures c.loop-size-test.true refl;
  small = omega arith;
}
