use Rattle.std.proofs.Common.{rules, ◌≡◌, refl, Some, to_z, of_z, w32}
use Rattle.species_ast.specs.declared.tree.Value.TheVariants.{Int}
use Rattle.species_ast.specs.Run.{source_context}
use Rattle.species_meaning.specs.Places.{next_in}
use Rattle.species_meaning.proofs.Elements.{found_first, found_step}
use Rattle.species_meaning.proofs.quick.+quick.Goals as goal

pub quick_place-loop-e-init : goal.quick_place-loop-e-init
quick_place-loop-e-init t c = (Some 0, refl, rw (c.sizes-sizes.ensures) (found_first (source_context c.args.unit.now) c.args.array c.args.subs.now c.args.frame.now c.args.arrays.now))

pub quick_place-loop-e-preserved : goal.quick_place-loop-e-preserved
quick_place-loop-e-preserved t c =
    let next = found_step (source_context c.args.unit.now) c.args.subs.now c.loop-e.e-index c.args.frame.now c.args.arrays.now c.e-item.result c.loop-e.sizes.now c.loop-e.invariant.0 c.e-item.is c.loop-e-test.true in
    let n : to_z w32 (of_z w32 c.in-Some.n) ≡ c.in-Some.n = search rules in
    (next_in c.loop-e.sizes.now c.loop-e.invariant.0 (Int c.in-Some.n), rw n at (c.next-place.ensures c.loop-e.invariant.0 c.loop-e.invariant.1), rw (c.loop-e.invariant.2, next, c.tail-sizes.ensures) (search rules))
