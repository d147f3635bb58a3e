-- A text that is made of tokens, with the blanks between them.
use Rattle.std.specs.Prelude.{ℕ, ◌+◌, List, [], ◌∷◌, ◌++◌, length, codes, decimal, pos}
use Rattle.std.specs.List.{flat_map}
use Prim.Native.String.{String}
use Rattle.species_ast.specs.Token.{Token}
use Rattle.species_ast.specs.declared.token.TokenKind.{TokenKind}
use Rattle.species_ast.specs.declared.token.TokenKind.TheVariants as kind
use Rattle.species_ast.specs.declared.tree.Value.TheVariants as value

pub data Printed : Type 0 where
  -- a token, by its text and its kind
  Lexeme : List ℕ → TokenKind → Printed
  -- blanks
  Blank : List ℕ → Printed

-- how a token is spelled: its text, behind the words of the directive that it is
abbrev pub spelling : List ℕ → TokenKind → List ℕ
spelling text kind.Include = codes "#include " ++ text
spelling text kind.Species = codes "#pragma species " ++ text
spelling text _ = text

abbrev pub printed_text : Printed → List ℕ
printed_text (Lexeme text k) = spelling text k
printed_text (Blank bytes) = bytes

abbrev pub text_of : List Printed → List ℕ
text_of ps = flat_map printed_text ps

-- the tokens of the text, whose first byte stands at this place
abbrev pub tokens_from : ℕ → List Printed → List Token
tokens_from place [] = []
tokens_from place (Lexeme text k ∷ ps) =
    record { place = place; text = text; kind = k } ∷ tokens_from (place + length (spelling text k)) ps
tokens_from place (Blank bytes ∷ ps) = tokens_from (place + length bytes) ps

-- ---- lexemes that stand often

abbrev pub punctuator : String → Printed
punctuator sign = Lexeme (codes sign) kind.Punct

abbrev pub keyword : String → Printed
keyword word = Lexeme (codes word) kind.Keyword

abbrev pub name : List ℕ → Printed
name bytes = Lexeme bytes kind.Name

-- a literal of kind `int`
abbrev pub number : ℕ → Printed
number n = Lexeme (decimal n) (kind.Number (value.Int (pos n)))

abbrev pub space : Printed
space = Blank (codes " ")

-- a punctuator with one space on each side
abbrev pub spaced : List ℕ → List Printed
spaced sign = space ∷ Lexeme sign kind.Punct ∷ space ∷ []

-- a line of its own, behind its indentation
abbrev pub line : List ℕ → List Printed → List Printed
line indentation ps = Blank indentation ∷ (ps ++ Blank (codes "\n") ∷ [])
