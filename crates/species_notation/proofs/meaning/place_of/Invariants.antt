use Rattle.std.proofs.Common.{◌≡◌, ℕ, ◌<◌, false, bytes_eq}
use Rattle.species_notation.specs.Written.{name_at}
use Rattle.species_notation.proofs.meaning.place_of.Given as goal

-- none of the names so far is this one
abbrev pub invariant-loop-number : goal.invariant-loop-number
invariant-loop-number l = (i : ℕ) → i < l.number → bytes_eq l.name (name_at l.names i) ≡ false
