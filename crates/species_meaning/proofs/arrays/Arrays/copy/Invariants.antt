use Rattle.std.proofs.Common.{◌≡◌, take, map}
use Rattle.species_meaning.proofs.arrays.Arrays.copy.Given as goal

abbrev pub invariant-loop-row : goal.invariant-loop-row
invariant-loop-row l = map (λ r. r.items) l.rows.items ≡ map (λ r. r.items) (take l.row-index l.row-items)
