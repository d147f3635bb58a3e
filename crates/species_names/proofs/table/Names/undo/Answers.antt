use Rattle.species_names.proofs.TableLaws.{undone, is_there}
use Rattle.species_names.proofs.table.Names.undo.Goals as goal

pub invariant_of-self : goal.invariant_of-self
invariant_of-self c = undone _ _ _ _ _ c.self.invariant c.in-Some.ensures.items c.in-Ok.ensures.updates

pub invariant_of-self-in-Err : goal.invariant_of-self-in-Err
invariant_of-self-in-Err c = absurd (is_there _ _ _ _ c.self.invariant c.in-Some.ensures.items c.in-Err.ensures.absent)
