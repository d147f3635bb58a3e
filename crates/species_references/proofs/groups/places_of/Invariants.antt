use Rattle.std.proofs.Common.{◌≡◌, ◌++◌, drop}
use Rattle.species_references.specs.Groups.{places_from, places_of}
use Rattle.species_references.proofs.groups.places_of.Given as goal

abbrev pub invariant-loop-place : goal.invariant-loop-place
invariant-loop-place l = l.places.items ++ places_from l.place l.array (drop l.place l.refs) ≡ places_of l.array l.refs
