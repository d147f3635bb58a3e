-- What was cut of a text, as the definitions of feeding have it.
use Rattle.species_lexer.specs.declared.cut.Cut.{Cut}
use Rattle.species_lexer.specs.Fed.{CutPart}

abbrev pub seen_cut : Cut → CutPart
seen_cut c = record { tokens = c.table.tokens; definitions = c.names; place = c.table.length; is_head = c.is_head }
