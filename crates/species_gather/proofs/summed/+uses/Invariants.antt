use Rattle.std.proofs.Common.{◌≡◌, drop}
use Rattle.std.specs.Prelude.{nat_eq}
use Rattle.std.specs.List.{list_any}
use Rattle.species_gather.specs.Summed.{used_in}
use Rattle.species_gather.proofs.summed.+uses.Given as goal

abbrev pub invariant-uses-loop-s : goal.invariant-uses-loop-s
invariant-uses-loop-s l = list_any (nat_eq l.array) (used_in l.all) ≡ list_any (nat_eq l.array) (used_in (drop l.s-index l.all))
