use Rattle.std.proofs.Common.{◌≢◌, take, All}
use Rattle.species_references.proofs.groups.has_group.Given as goal

abbrev pub invariant-loop-group : goal.invariant-loop-group
invariant-loop-group l = All (λ g. g.array ≢ l.array) (take l.group-index l.groups)
