-- The numbers of a schedule.
use Rattle.std.specs.Prelude.{ℕ, List, [], ◌∷◌, Option, Some, None, Result, Ok, Err}
use Rattle.species_decimal.specs.Number.{number_of}
use Rattle.species_decimal.specs.Words.{Word}

-- a number, at a place, before those of the words behind it
abbrev pub then_numbers : Option ℕ → ℕ → Result (List ℕ) ℕ → Result (List ℕ) ℕ
then_numbers None place behind = Err place
then_numbers (Some n) place (Ok numbers) = Ok (n ∷ numbers)
then_numbers (Some n) place (Err other) = Err other

-- the number of each word, or the place of the first word that is no number of 32 bits
abbrev pub numbers_of : List Word → Result (List ℕ) ℕ
numbers_of [] = Ok []
numbers_of (w ∷ ws) = then_numbers (number_of 4294967295 w.text) w.place (numbers_of ws)
