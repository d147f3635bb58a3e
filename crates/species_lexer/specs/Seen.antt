-- The parts of a directive as the definitions of the text have them.
use Rattle.species_ast.specs.Text.Parts as text
use Rattle.species_lexer.specs.declared.parts.Part.{Part}

abbrev pub seen_part : Part → text.Part
seen_part p = record { at = p.at; text = p.text.now }
