use Rattle.std.proofs.Common.{◌≡◌, drop}
use Rattle.std.specs.Prelude.{nat_eq}
use Rattle.std.specs.List.{list_any}
use Rattle.species_gather.specs.Summed.{read_in}
use Rattle.species_gather.proofs.summed.+reads.Given as goal

abbrev pub invariant-reads_any-loop-e : goal.invariant-reads_any-loop-e
invariant-reads_any-loop-e l = list_any (nat_eq l.array) (read_in l.all) ≡ list_any (nat_eq l.array) (read_in (drop l.e-index l.all))
