use Rattle.std.proofs.Common.{◌≢◌, ◌∷◌, take, filter, All}
use Rattle.species_merge.specs.Classes.{are_alike}
use Rattle.species_merge.proofs.classes.some_has.Given as goal

abbrev pub invariant-loop-reference : goal.invariant-loop-reference
invariant-loop-reference l = All (λ r. r.boxes ≢ l.boxes) (l.first ∷ filter (are_alike l.top l.first) (take l.reference-index l.behind))
