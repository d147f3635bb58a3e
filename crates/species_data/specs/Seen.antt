-- What the code's words stand for.
use Rattle.species_decimal.specs.Words.{Word}
use Rattle.species_data.specs.declared.words.Word as code

abbrev pub seen : code.Word → Word
seen w = record { place = w.place; text = w.text.now }
