-- The tokens of a table.
use Rattle.std.specs.Prelude.{◌≡◌, ℕ, ◌+◌, List, [], ◌∷◌, length, take, drop, Option, Some, None}
use Rattle.species_ast.specs.Token as ast
use Rattle.species_ast.specs.declared.token.TokenKind.{TokenKind}
use Rattle.species_ast.specs.declared.token.TokenKind.TheVariants as kind
use Rattle.species_lexer.specs.Tokens.{seen_token}
use Rattle.species_lexer.specs.declared.token.Token.{Token}
use Rattle.species_lexer.specs.declared.table.Class.{Class}
use Rattle.species_lexer.specs.declared.table.Class.TheVariants as class
use Rattle.species_lexer.specs.declared.table.Entry.{Entry}

-- the tokens of a text, and how many bytes it has
pub record Table : Type 0 where
  pub tokens : List ast.Token
  pub length : ℕ

abbrev pub class_of : TokenKind → Class
class_of kind.Name = class.Name
class_of kind.Keyword = class.Keyword
class_of kind.Punct = class.Punct
class_of _ = class.Other

-- the other kinds that a token adds
abbrev pub others_of : TokenKind → List TokenKind
others_of kind.Name = []
others_of kind.Keyword = []
others_of kind.Punct = []
others_of k = k ∷ []

-- a token's kind, where the kinds of this token and of those behind it that are of the class Other stand in a list
abbrev pub kind_in : Class → List TokenKind → TokenKind
kind_in class.Name others = kind.Name
kind_in class.Keyword others = kind.Keyword
kind_in class.Punct others = kind.Punct
kind_in class.Other [] = kind.Name
kind_in class.Other (k ∷ others) = k

-- the list behind the token
abbrev pub others_behind : Class → List TokenKind → List TokenKind
others_behind class.Other others = drop 1 others
others_behind _ others = others

-- the tokens of these entries: their texts stand one behind the other, and so do their other kinds
abbrev pub tokens_in : List Entry → List ℕ → List TokenKind → List ast.Token
tokens_in [] texts others = []
tokens_in (e ∷ entries) texts others =
    record { place = e.place; text = take e.size texts; kind = kind_in e.class others }
    ∷ tokens_in entries (drop e.size texts) (others_behind e.class others)

-- how many bytes all texts have
abbrev pub total_size : List Entry → ℕ
total_size [] = 0
total_size (e ∷ entries) = e.size + total_size entries

-- how many tokens are of the class Other
abbrev pub count_of : Class → ℕ
count_of class.Other = 1
count_of _ = 0

abbrev pub total_others : List Entry → ℕ
total_others [] = 0
total_others (e ∷ entries) = count_of e.class + total_others entries

-- the texts and the other kinds are those of the entries, and no more
pub record AreFull (entries : List Entry) (texts : List ℕ) (others : List TokenKind) : Type 0 where
  pub filled : length texts ≡ total_size entries
  pub counted : length others ≡ total_others entries

-- The next token of a list, or its end; and the list behind that.
abbrev pub Moves : Option Token → List ast.Token → List ast.Token → Type 0
Moves (Some t) old new = old ≡ seen_token t ∷ new
Moves None old new = (old ≡ []) × (new ≡ old)
