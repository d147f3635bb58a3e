-- The references of a nest are those of the body of its loop.
use Rattle.std.proofs.Common.{arith}
use Rattle.species_classify.proofs.CountLemmas.{loop_counted}
use Rattle.species_classify.proofs.counts.most_references.Goals as goal

pub returns : goal.returns
returns c = omega (arith, loop_counted c.args.head.now c.as_slice.result.now 0 c.count_list.new.count.references c.as_slice.ensures c.in_ok-count_list.ensures)
