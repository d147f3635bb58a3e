-- Magnitudes within the limit.
use Rattle.std.specs.Prelude.{ℕ, nat_le, if◌then◌else◌, Option, Some, None}
use Rattle.species_ast.specs.Scope.Magnitudes.{Magnitude, most_magnitude}

abbrev pub limited : ℕ → Option ℕ
limited n = if nat_le n most_magnitude then Some n else None

-- the magnitude, if it and those of the parts are within the limit
abbrev pub size_within : Magnitude → Option ℕ
size_within m = if nat_le m.greatest most_magnitude then Some m.size else None
