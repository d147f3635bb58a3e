use Rattle.std.proofs.Common.{◌++◌}
use Rattle.species_drill.specs.Program.{front, nests_text}
use Rattle.species_drill.proofs.Pieces.{nest_turn, program_whole}
use Rattle.species_drill.proofs.nests.program.Goals as goal

pub loop-made-preserved : goal.loop-made-preserved
loop-made-preserved c =
    nest_turn c.args.nests c.loop-made.made c.loop-made.number c.next-number.result (front ++ nests_text c.args.nests c.args.from)
    c.loop-made.text.items c.put_nest.new.text.items c.loop-made-test.true c.next-number.ensures c.loop-made.invariant c.in_ok-put_nest.ensures

pub returns : goal.returns
returns c =
    program_whole c.args.nests c.args.from c.loop-made.made c.loop-made.number c.loop-made.text.items _ c.loop-made-test.false
    c.loop-made.invariant c.in_ok-put-2.ensures
