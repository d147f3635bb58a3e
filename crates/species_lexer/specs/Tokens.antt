-- What the lexer answers.
use Rattle.std.specs.Prelude.{◌≡◌, Option, Some, None, Result, Ok, Err}
use Rattle.species_ast.specs.Token as ast
use Rattle.species_ast.specs.Text.Stream.{TokenStream, put, finished, refused}
use Rattle.species_ast.specs.declared.token.LexRefusal.{LexRefusal}
use Rattle.species_lexer.specs.declared.token.Token.{Token}

abbrev pub seen_token : Token → ast.Token
seen_token t = record { place = t.place; text = t.text.now; kind = t.kind }

-- The next token of a stream, or its end, or its refusal; and the stream behind that.
abbrev pub Gives : Result (Option Token) LexRefusal → TokenStream → TokenStream → Type 0
Gives (Ok (Some t)) old new = old ≡ put (seen_token t) new
Gives (Ok None) old new = (old ≡ finished) × (new ≡ old)
Gives (Err r) old new = (old ≡ refused r) × (new ≡ old)
