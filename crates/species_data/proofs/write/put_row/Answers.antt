use Rattle.std.proofs.Common.{arith, ◌<◌, [], length, get_or}
use Rattle.species_data.proofs.WriteLemmas.{element_turn}
use Rattle.species_data.proofs.write.put_row.Goals as goal

pub loop-at-preserved : goal.loop-at-preserved
loop-at-preserved c = λ row.
    let less : c.loop-at.at < length (get_or c.args.arrays.now c.args.number []) = omega (arith, c.loop-at-test.true, c.in_ok-at-end.ensures, row) in
    element_turn c.args.arrays.now c.args.number c.loop-at.at c.args.array.now.name c.args.text.now.items c.loop-at.text.items c.put_element.new.text.items
    less (c.loop-at.invariant row) c.in_ok-put_element.ensures
