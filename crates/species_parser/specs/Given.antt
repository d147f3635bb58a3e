-- What the functions of the parser answer.
use Rattle.std.specs.Prelude.{◌≡◌, List, map, Result, Ok, Err}
use Rattle.species_grammar.specs.Reader.{Answer}
use Rattle.species_ast.specs.Token.{Token}
use Rattle.species_lexer.specs.Tokens.{seen_token}
use Rattle.species_lexer.specs.declared.token.Token as lexer
use Rattle.species_parser.specs.declared.stop.Stop.{Stop}
use Rattle.species_parser.specs.declared.stop.Stop.TheVariants as stop

-- tokens as the definitions of the text have them
abbrev pub seen_tokens : List lexer.Token → List Token
seen_tokens ts = map seen_token ts

-- What a function returned, seen by view, and the tokens that it left are what a reader answers, unless memory ran out.
abbrev pub GivesSeen : {X Y : Type 0} → (X → Y) → Result X Stop → List Token → Answer Token Y → Type 0
GivesSeen view (Ok x) left answer = answer ≡ Answer.read (view x) left
GivesSeen view (Err stop.Syntax) left answer = answer ≡ Answer.stuck left
GivesSeen view (Err stop.Memory) left answer = Unit {0}

-- The same of a value that is seen as it is.
abbrev pub Gives : {X : Type 0} → Result X Stop → List Token → Answer Token X → Type 0
Gives result left answer = GivesSeen (λ x. x) result left answer
