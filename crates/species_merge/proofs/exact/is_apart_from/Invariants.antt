use Rattle.std.proofs.Common.{◌≡◌, drop}
use Rattle.std.specs.List.{list_all}
use Rattle.species_merge.specs.Exact.{are_apart_inside}
use Rattle.species_merge.proofs.exact.is_apart_from.Given as goal

abbrev pub invariant-loop-other : goal.invariant-loop-other
invariant-loop-other l = list_all (are_apart_inside l.top l.first) l.others ≡ list_all (are_apart_inside l.top l.first) (drop l.other-index l.others)
