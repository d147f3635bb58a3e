use Rattle.std.proofs.Common.{◌≡◌, ◌∙◌, ap, rules, ◌*◌}
use Rattle.std.specs.Prelude.{min, max}
use Rattle.species_loops.specs.Weights.{weight_in, most_weight}
use Rattle.species_loops.proofs.WeightLaws.{next_weight, all_weighed, keeps_at, still_around, if_weight, block_weight, for_weight, loop_weight, assign_weight, add_weight, declare_weight, set_weight}
use Rattle.species_loops.proofs.weigh.+weigh.Goals as goal

pub weigh_all-loop-stmt-preserved : goal.weigh_all-loop-stmt-preserved
weigh_all-loop-stmt-preserved t c =
    let path = c.args.path.now in
    record {
      same = c.in_ok-more.ensures.same ∙ c.loop-stmt.invariant.same;
      value = λ n around h.
          next_weight c.args.all.now c.loop-stmt.stmt-index c.stmt-item.result path c.loop-stmt.total c.in_ok-more.more c.sum-total.result c.stmt-item.is c.loop-stmt-test.true (c.loop-stmt.invariant.value n around h)
          (c.in_ok-more.ensures.value n (still_around path c.loop-stmt.path n c.loop-stmt.invariant.same around) (keeps_at c.args.all.now c.loop-stmt.stmt-index c.stmt-item.result n c.stmt-item.is c.loop-stmt-test.true h)
          ∙ ap (λ p. min (weight_in c.stmt-item.result p) most_weight) c.loop-stmt.invariant.same) c.sum-total.ensures;
    }

pub weigh_all-returns-clause-value : goal.weigh_all-returns-clause-value
weigh_all-returns-clause-value t c n around h =
    all_weighed c.args.all.now c.loop-stmt.stmt-index c.args.path.now c.loop-stmt.total c.loop-stmt-test.false (c.loop-stmt.invariant.value n around h)

pub weigh-returns-in_ok-weight-in-For-clause-value : goal.weigh-returns-in_ok-weight-in-For-clause-value
weigh-returns-in_ok-weight-in-For-clause-value t c n around h =
    for_weight c.args.stmt.now c.in-For.head c.args.path.now n c.in_ok-weight-in-For.weight c.in-For.is c.in_ok-weight-in-For.ensures.value around h

pub weigh-returns-in_ok-second-in-If-clause-value : goal.weigh-returns-in_ok-second-in-If-clause-value
weigh-returns-in_ok-second-in-If-clause-value t c n around h =
    if_weight c.args.stmt.now c.in-If.place c.in-If.test c.in-If.body c.in-If.otherwise c.as_slice.result.now c.as_slice-in-If.result.now c.args.path.now c.weigh_all.new.path n
    c.in_ok-first-in-If.first c.in_ok-second-in-If.second c.sum.result c.in-If.is c.as_slice.ensures c.as_slice-in-If.ensures c.in_ok-first-in-If.ensures.same c.in_ok-first-in-If.ensures.value c.in_ok-second-in-If.ensures.value c.sum.ensures around h

pub weigh-returns-in_ok-weight-in-Block-clause-value : goal.weigh-returns-in_ok-weight-in-Block-clause-value
weigh-returns-in_ok-weight-in-Block-clause-value t c n around h =
    block_weight c.args.stmt.now c.in-Block.body c.as_slice-in-Block.result.now c.args.path.now n c.in_ok-weight-in-Block.weight c.in-Block.is c.as_slice-in-Block.ensures c.in_ok-weight-in-Block.ensures.value around h

pub weigh-returns-in-Assign-clause-value : goal.weigh-returns-in-Assign-clause-value
weigh-returns-in-Assign-clause-value t c n around h = assign_weight c.args.stmt.now c.in-Assign.place c.in-Assign.array c.in-Assign.subs c.in-Assign.value c.args.path.now c.in-Assign.is

pub weigh-returns-in-AddTo-clause-value : goal.weigh-returns-in-AddTo-clause-value
weigh-returns-in-AddTo-clause-value t c n around h =
    add_weight c.args.stmt.now c.in-AddTo.place c.in-AddTo.array c.in-AddTo.subs c.in-AddTo.value c.in-AddTo.atomic c.args.path.now c.in-AddTo.is

pub weigh-returns-in-Declare-clause-value : goal.weigh-returns-in-Declare-clause-value
weigh-returns-in-Declare-clause-value t c n around h = declare_weight c.args.stmt.now c.in-Declare.place c.in-Declare.local c.in-Declare.init c.args.path.now c.in-Declare.is

pub weigh-returns-in-SetLocal-clause-value : goal.weigh-returns-in-SetLocal-clause-value
weigh-returns-in-SetLocal-clause-value t c n around h = set_weight c.args.stmt.now c.in-SetLocal.place c.in-SetLocal.local c.in-SetLocal.value c.args.path.now c.in-SetLocal.is

pub weigh_loop-returns-clause-value : goal.weigh_loop-returns-clause-value
weigh_loop-returns-clause-value t c n around h =
    let wide : c.from.result ≡ c.in_ok-turns.turns = search rules in
    let least : c.max.result ≡ max c.in_ok-inside.inside 1 = search rules in
    loop_weight c.args.head.now c.as_slice.result.now c.args.path.now c.enter.new.path n c.in_ok-turns.turns c.in_ok-inside.inside c.product.result c.as_slice.ensures
    c.in_ok-turns.ensures.turns c.in_ok-turns.ensures.open c.in_ok-inside.ensures.value (c.product.ensures ∙ (λ i. min (wide i * least i) most_weight)) around h
