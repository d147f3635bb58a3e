-- What the loop of `number` keeps.
use Rattle.std.proofs.Common.{◌≡◌, ◌≤◌, drop}
use Rattle.std.specs.Str.Parse.{digits_value, digits_value_after}
use Rattle.species_lexer.proofs.numbers.number.Given as goal

abbrev pub invariant-loop-digit : goal.invariant-loop-digit
invariant-loop-digit l = (l.n ≤ 18446744073709551615) × (digits_value l.fn.radix l.digits ≡ digits_value_after l.fn.radix l.n (drop l.digit-index l.digits))
