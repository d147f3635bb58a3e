use Rattle.species_drill.proofs.Pieces.{summary_whole}
use Rattle.species_drill.proofs.counts.summary.Goals as goal

pub returns : goal.returns
returns c =
    summary_whole c.args.counts.now c.new-line.result.items
    c.put_named.new.line.items c.put_named-2.new.line.items c.put_named-3.new.line.items
    c.put_named-4.new.line.items c.put_named-5.new.line.items c.put_named-6.new.line.items c.put.new.out.items
    c.from.result c.from-2.result c.from-3.result c.from-4.result c.from-5.result c.new-line.ensures.items
    c.from.ensures c.from-2.ensures c.from-3.ensures c.from-4.ensures c.from-5.ensures
    c.in_ok-put_named.ensures c.in_ok-put_named-2.ensures c.in_ok-put_named-3.ensures
    c.in_ok-put_named-4.ensures c.in_ok-put_named-5.ensures c.in_ok-put_named-6.ensures c.in_ok-put.ensures
