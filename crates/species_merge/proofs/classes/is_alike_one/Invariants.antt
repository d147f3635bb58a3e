use Rattle.std.proofs.Common.{◌≡◌, drop}
use Rattle.std.specs.List.{list_any}
use Rattle.species_merge.specs.Classes.{are_alike}
use Rattle.species_merge.proofs.classes.is_alike_one.Given as goal

abbrev pub invariant-loop-b : goal.invariant-loop-b
invariant-loop-b l = list_any (are_alike l.top l.a) l.before ≡ list_any (are_alike l.top l.a) (drop l.b-index l.before)
