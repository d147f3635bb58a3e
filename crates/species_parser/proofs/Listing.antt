-- The list of a text's tokens, while it is made.
use Rattle.std.proofs.Common.{◌≡◌, List, ◌++◌}
use Rattle.species_ast.specs.Text.Stream.{TokenStream, grammar_tokens}
use Rattle.species_lexer.specs.declared.token.Token.{Token}
use Rattle.species_parser.specs.Given.{seen_tokens}

-- the tokens that were found, and those of the stream that is left, are those of the whole
pub record Gathers (found : List Token) (left all : TokenStream) : Type 0 where
  pub tokens : seen_tokens found ++ grammar_tokens left.tokens ≡ grammar_tokens all.tokens
  pub refusal : left.refusal ≡ all.refusal
