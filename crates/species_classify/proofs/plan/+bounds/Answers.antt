-- The bounds of a loop, and of the loops that are perfectly nested in it.
use Rattle.std.proofs.Common.{◌-◌, refl}
use Rattle.species_classify.proofs.BoundLemmas.{one_bound, more_bounds, for_bounds, block_bounds, other_bounds, sole_assign, sole_add, sole_declare, sole_set, sole_if, only_bounds, no_bounds, several_bounds, one_is}
use Rattle.species_classify.proofs.plan.+bounds.Goals as goal

pub add_bounds-returns-then-depth-eq1-clause-bounds : goal.add_bounds-returns-then-depth-eq1-clause-bounds
add_bounds-returns-then-depth-eq1-clause-bounds t c h at =
    one_bound c.args.depth c.args.head.now c.args.path.now at c.args.found.now.items c.enter.new.found.items c.if-depth-eq1.true c.in_ok-enter.ensures.added h

pub add_bounds-returns-clause-bounds : goal.add_bounds-returns-clause-bounds
add_bounds-returns-clause-bounds t c h at =
    more_bounds (c.args.depth - 1) c.args.depth c.args.head.now c.as_slice.result.now c.args.path.now c.enter.new.path at c.args.found.now.items c.enter.new.found.items c.add_bounds_in_body.new.found.items refl c.as_slice.ensures
    c.in_ok-enter.ensures.added c.in_ok-enter.ensures.open c.in_ok-add_bounds_in_body.ensures.bounds h

pub add_bounds_in-returns-in_ok-add_bounds-in-For-clause-bounds : goal.add_bounds_in-returns-in_ok-add_bounds-in-For-clause-bounds
add_bounds_in-returns-in_ok-add_bounds-in-For-clause-bounds t c h at =
    for_bounds c.args.depth c.args.stmt.now c.in-For.head c.args.path.now at c.args.found.now.items c.add_bounds.new.found.items c.requires c.in-For.is c.in_ok-add_bounds-in-For.ensures.bounds h

pub add_bounds_in-returns-in_ok-add_bounds_in_body-in-Block-clause-bounds : goal.add_bounds_in-returns-in_ok-add_bounds_in_body-in-Block-clause-bounds
add_bounds_in-returns-in_ok-add_bounds_in_body-in-Block-clause-bounds t c h at =
    block_bounds c.args.depth c.args.stmt.now c.in-Block.body c.as_slice.result.now c.args.path.now at c.args.found.now.items c.add_bounds_in_body.new.found.items c.in-Block.is c.as_slice.ensures
    c.in_ok-add_bounds_in_body-in-Block.ensures.bounds h

pub add_bounds_in-returns-in-Assign-clause-bounds : goal.add_bounds_in-returns-in-Assign-clause-bounds
add_bounds_in-returns-in-Assign-clause-bounds t c h at =
    let i = c.in-Assign in other_bounds c.args.depth c.args.stmt.now at c.args.found.now.items (sole_assign c.args.stmt.now i.place i.array i.subs i.value i.is)

pub add_bounds_in-returns-in-AddTo-clause-bounds : goal.add_bounds_in-returns-in-AddTo-clause-bounds
add_bounds_in-returns-in-AddTo-clause-bounds t c h at =
    let i = c.in-AddTo in other_bounds c.args.depth c.args.stmt.now at c.args.found.now.items (sole_add c.args.stmt.now i.place i.array i.subs i.value i.atomic i.is)

pub add_bounds_in-returns-in-Declare-clause-bounds : goal.add_bounds_in-returns-in-Declare-clause-bounds
add_bounds_in-returns-in-Declare-clause-bounds t c h at =
    let i = c.in-Declare in other_bounds c.args.depth c.args.stmt.now at c.args.found.now.items (sole_declare c.args.stmt.now i.place i.local i.init i.is)

pub add_bounds_in-returns-in-SetLocal-clause-bounds : goal.add_bounds_in-returns-in-SetLocal-clause-bounds
add_bounds_in-returns-in-SetLocal-clause-bounds t c h at =
    let i = c.in-SetLocal in other_bounds c.args.depth c.args.stmt.now at c.args.found.now.items (sole_set c.args.stmt.now i.place i.local i.value i.is)

pub add_bounds_in-returns-in-If-clause-bounds : goal.add_bounds_in-returns-in-If-clause-bounds
add_bounds_in-returns-in-If-clause-bounds t c h at =
    let i = c.in-If in other_bounds c.args.depth c.args.stmt.now at c.args.found.now.items (sole_if c.args.stmt.now i.place i.test i.body i.otherwise i.is)

pub add_bounds_in_body-returns-in-empty-clause-bounds : goal.add_bounds_in_body-returns-in-empty-clause-bounds
add_bounds_in_body-returns-in-empty-clause-bounds t c h at = no_bounds c.args.depth c.args.body.now at c.args.found.now.items c.in-empty.len_below

pub add_bounds_in_body-returns-in_ok-add_bounds_in-in-len1-clause-bounds : goal.add_bounds_in_body-returns-in_ok-add_bounds_in-in-len1-clause-bounds
add_bounds_in_body-returns-in_ok-add_bounds_in-in-len1-clause-bounds t c h at =
    only_bounds c.args.depth c.args.body.now c.only-item.result c.args.path.now at c.args.found.now.items c.add_bounds_in.new.found.items
    (one_is c.args.body.now c.only-item.result c.in-len1.len_at_least c.in-len1.len_below c.only-item.is) c.in_ok-add_bounds_in-in-len1.ensures.bounds h

pub add_bounds_in_body-returns-in-len2-up-clause-bounds : goal.add_bounds_in_body-returns-in-len2-up-clause-bounds
add_bounds_in_body-returns-in-len2-up-clause-bounds t c h at = several_bounds c.args.depth c.args.body.now at c.args.found.now.items c.in-len2-up.len_at_least
