use Rattle.std.proofs.Common.{◌≡◌, ◌∷◌, take, filter}
use Rattle.species_merge.specs.Classes.{are_alike, column}
use Rattle.species_merge.proofs.classes.column_of.Given as goal

abbrev pub invariant-loop-reference : goal.invariant-loop-reference
invariant-loop-reference l = l.spans.items ≡ column (l.first ∷ filter (are_alike l.top l.first) (take l.reference-index l.behind)) l.number
