use Rattle.std.proofs.Common.{◌≡◌, All}
use Rattle.species_depend.specs.Refuted.{IsSmallReference}
use Rattle.species_depend.proofs.tests.references.Given as goal

abbrev pub invariant-loop-place : goal.invariant-loop-place
invariant-loop-place l = All (λ r. (r.path ≡ l.path) × IsSmallReference r) l.all.items
