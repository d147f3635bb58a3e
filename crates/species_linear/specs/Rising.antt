-- Terms in order.
use Rattle.std.specs.Prelude.{◌≢◌, ℕ, ◌+◌, ◌≤◌, pos, List, [], ◌∷◌}
use Rattle.species_linear.specs.declared.forms.Term.{Term}

-- The levels are at least k and rise, and no coefficient is 0.
abbrev pub IsRisingFrom : ℕ → List Term → Type 0
IsRisingFrom k [] = Unit {0}
IsRisingFrom k (t ∷ ts) = (k ≤ t.level) × (t.coefficient ≢ pos 0) × IsRisingFrom (t.level + 1) ts

-- The levels rise, and no coefficient is 0.
abbrev pub IsRising : List Term → Type 0
IsRising ts = IsRisingFrom 0 ts
