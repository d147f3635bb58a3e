use Rattle.std.proofs.Common.{subst, ◌<◌}
use Rattle.species_names.proofs.TableLaws.{kept_next}
use Rattle.species_names.proofs.table.Names.leave.Goals as goal

pub loop-self-preserved : goal.loop-self-preserved
loop-self-preserved c = kept_next c.args.self.now c.loop-self.self c.undo.new.self c.args.depth c.loop-self.invariant (subst (λ n. c.args.depth < n) c.len.ensures c.loop-self-test.true) c.undo.ensures
