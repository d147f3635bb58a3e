-- What the loop of `value_of` keeps.
use Rattle.std.proofs.Common.{◌≡◌, ◌≤◌, drop}
use Rattle.std.specs.Str.Parse.{digits_value, digits_value_after}
use Rattle.species_notation.specs.Parts.{most}
use Rattle.species_notation.proofs.scan.value_of.Given as goal

abbrev pub invariant-loop-digit : goal.invariant-loop-digit
invariant-loop-digit l = (l.number ≤ most) × (digits_value 10 l.digits ≡ digits_value_after 10 l.number (drop l.digit-index l.digits))
