use Rattle.std.proofs.Common.{◌≡◌, drop}
use Rattle.std.specs.Prelude.{nat_eq}
use Rattle.std.specs.List.{list_any}
use Rattle.species_gather.specs.Summed.{summed_in}
use Rattle.species_gather.proofs.summed.+adds.Given as goal

abbrev pub invariant-adds-loop-s : goal.invariant-adds-loop-s
invariant-adds-loop-s l = list_any (nat_eq l.array) (summed_in l.all) ≡ list_any (nat_eq l.array) (summed_in (drop l.s-index l.all))
