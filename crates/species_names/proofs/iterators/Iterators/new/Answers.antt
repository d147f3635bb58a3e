use Rattle.species_names.proofs.CountLaws.{of_flags}
use Rattle.species_names.proofs.iterators.Iterators.new.Goals as goal

pub invariant_of-result : goal.invariant_of-result
invariant_of-result c =
    of_flags c.args.serials.now c.in_ok-serials.serials.items c.in_ok-flags.flags.items c.as_slice.result.now c.in_ok-before.before.items
    c.in_ok-serials.ensures.items c.in_ok-flags.ensures c.as_slice.ensures.value c.in_ok-before.ensures
