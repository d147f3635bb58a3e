-- The list of a text's tokens.
use Rattle.std.specs.Prelude.{◌≡◌, Some, None, Result, Ok, Err}
use Rattle.std.specs.Global.{Vec}
use Rattle.species_ast.specs.Text.Stream.{TokenStream, grammar_tokens}
use Rattle.species_lexer.specs.declared.token.Token as lexer
use Rattle.species_parser.specs.Given.{seen_tokens}
use Rattle.species_parser.specs.declared.refusal.ReadRefusal.{ReadRefusal}
use Rattle.species_parser.specs.declared.refusal.ReadRefusal.TheVariants.{Lex, Load, Syntax, Memory}

-- Of the tokens of a text those that the grammar sees, where it has no refusal, and else that refusal; unless memory
-- ran out.
abbrev pub GivesTokens : Result (Vec lexer.Token) ReadRefusal → TokenStream → Type 0
GivesTokens (Ok tokens) stream = (stream.refusal ≡ None) × (seen_tokens tokens.items ≡ grammar_tokens stream.tokens)
GivesTokens (Err (Lex refusal)) stream = stream.refusal ≡ Some refusal
GivesTokens (Err (Load place)) stream = ⊥
GivesTokens (Err (Syntax place)) stream = ⊥
GivesTokens (Err Memory) stream = Unit {0}
