use Rattle.species_references.specs.Groups.{places_of}
use Rattle.species_depend.specs.Carried.{Carries}
use Rattle.species_depend.proofs.PlaceLemmas.{IsLeastAmong}
use Rattle.species_depend.proofs.groups.first_with.Given as goal

abbrev pub invariant-loop-place : goal.invariant-loop-place
invariant-loop-place l = IsLeastAmong (Carries l.outer l.level l.exempt l.p) l.refs (places_of l.p.array l.refs) l.place-index l.least
