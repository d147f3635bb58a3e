use Rattle.std.proofs.Common.{◌≡◌, rules, ◌∷◌, [], ◌++◌}
use Rattle.species_merge.specs.Classes.{members, column}
use Rattle.species_merge.proofs.ArcLemmas.{dims_next}
use Rattle.species_merge.proofs.arcs.dims_of.Goals as goal

pub loop-number-preserved : goal.loop-number-preserved
loop-number-preserved c =
    let dims : c.push.new.self ≡ c.loop-number.dims ++ c.in_ok-dim_of.field-0 ∷ [] = search rules in
    let hulls : c.push-in-loop-number.new.self.items ≡ c.loop-number.hulls.items ++ c.in_ok-reach.reach ∷ [] = search rules in
    dims_next c.args.outer c.args.bands.now (members c.args.class.now) c.args.subs.now c.loop-number.number c.loop-number.dims c.loop-number.hulls.items c.index-subs-number.result
    c.in_ok-dim_of.field-0 c.in_ok-reach.reach c.push.new.self c.push-in-loop-number.new.self.items c.loop-number-test.true c.index-subs-number.is c.loop-number.invariant
    (c.in_ok-dim_of.ensures.dim (column (members c.args.class.now) c.loop-number.number) c.in_ok-reach.ensures.hull) c.in_ok-dim_of.ensures.reach c.in_ok-reach.ensures.small
    c.in_ok-dim_of.ensures.span dims hulls
