-- What a list of parts that is not cut yet stands for.
use Rattle.std.specs.Prelude.{◌≡◌, ℕ, List, [], ◌∷◌, Option, Some, None}
use Rattle.species_ast.specs.Text.Parts as text
use Rattle.species_lexer.specs.declared.parts.Part.{Part}
use Rattle.species_lexer.specs.declared.parts.Parts.{Parts}
use Rattle.species_lexer.specs.Seen.{seen_part}

abbrev pub parts_left : Parts → List text.Part
parts_left p = text.parts_of p.at p.rest.now

-- the first part and the parts behind it, or none
abbrev pub Splits : List text.Part → Option (Part × Parts) → Type 0
Splits ps None = ps ≡ []
Splits ps (Some x) = ps ≡ seen_part x.0 ∷ parts_left x.1

abbrev pub depth_left : ℕ × Parts → ℕ × List text.Part
depth_left x = (x.0, parts_left x.1)
