-- The law of species lines: the text that is taken from a line is taken again from the line that is printed with it.
use Rattle.std.specs.Prelude.{◌≡◌, ℕ, List, ◌++◌, codes}
use Rattle.species_ast.specs.declared.token.TokenKind.TheVariants as kind
use Rattle.species_ast.specs.Text.Directives.{Read, form_of}

-- the line that is printed with a species text, without its line feed
abbrev pub species_line : List ℕ → List ℕ
species_line text = codes "#pragma species " ++ text

pub record TakesSpeciesBack : Type 0 where
  pub taken : (line text : List ℕ) → form_of line ≡ Read text kind.Species → form_of (species_line text) ≡ Read text kind.Species
