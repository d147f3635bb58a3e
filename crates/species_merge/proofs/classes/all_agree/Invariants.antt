use Rattle.std.proofs.Common.{◌≡◌, ◌∷◌, take, filter, All}
use Rattle.species_merge.specs.Classes.{are_alike, box_in}
use Rattle.species_merge.proofs.classes.all_agree.Given as goal

abbrev pub invariant-loop-reference : goal.invariant-loop-reference
invariant-loop-reference l = All (λ r. box_in l.number r ≡ box_in l.number l.first) (l.first ∷ filter (are_alike l.top l.first) (take l.reference-index l.behind))
