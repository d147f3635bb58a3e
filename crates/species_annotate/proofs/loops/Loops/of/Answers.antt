use Rattle.std.proofs.Common.{ap}
use Rattle.species_annotate.proofs.HeadLemmas.{all_placed}
use Rattle.species_annotate.proofs.loops.Loops.of.Goals as goal

pub invariant_of-result : goal.invariant_of-result
invariant_of-result c = (
  c.requires,
  all_placed c.args.unit.now c.as_slice.result.now c.new-path.result c.new-placed.result.items c.add_list.new.found.items c.requires c.as_slice.ensures c.new-path.ensures c.new-placed.ensures.items
      c.in_ok-add_list.ensures.found,
)

pub returns : goal.returns
returns c = ap (λ l. record { unit = c.args.unit.now; left = l })
    (all_placed c.args.unit.now c.as_slice.result.now c.new-path.result c.new-placed.result.items c.add_list.new.found.items c.requires c.as_slice.ensures c.new-path.ensures c.new-placed.ensures.items
    c.in_ok-add_list.ensures.found)
