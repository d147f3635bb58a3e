-- The token at hand of a cursor, before those that are left.
use Rattle.std.specs.Prelude.{List, [], ◌∷◌, Option, Some, None}
use Rattle.species_ast.specs.Token.{Token}
use Rattle.species_lexer.specs.Tokens.{seen_token}
use Rattle.species_lexer.specs.declared.token.Token as lexer

-- a token and those behind it, or the end
abbrev pub before : Option lexer.Token → List Token → List Token
before None left = []
before (Some t) left = seen_token t ∷ left
