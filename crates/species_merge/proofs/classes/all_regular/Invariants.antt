use Rattle.std.proofs.Common.{◌≡◌, ◌∷◌, true, take, filter, All}
use Rattle.species_merge.specs.Classes.{are_alike}
use Rattle.species_merge.specs.Exact.{is_regular}
use Rattle.species_merge.proofs.classes.all_regular.Given as goal

abbrev pub invariant-loop-reference : goal.invariant-loop-reference
invariant-loop-reference l = All (λ r. is_regular l.inner r ≡ true) (l.first ∷ filter (are_alike l.top l.first) (take l.reference-index l.behind))
