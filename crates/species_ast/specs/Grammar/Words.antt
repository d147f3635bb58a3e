-- The words of the grammar: tokens, each made from its place and what else the grammar keeps of it.
use Rattle.std.specs.Prelude.{ℕ, List, [], ◌∷◌, Bool, true, false, codes}
use Prim.Native.String.{String}
use Rattle.species_ast.specs.Token.{Token}
use Rattle.species_ast.specs.Spelling.{Spelling}
use Rattle.species_ast.specs.declared.token.TokenKind.TheVariants as token
use Rattle.species_ast.specs.declared.tree.Value.{Value}
use Rattle.species_ast.specs.declared.tree.Schedule.{Schedule}

-- the punctuator of these bytes (C17 6.4.6)
abbrev pub sign : ℕ → List ℕ → Token
sign p text = record { place = p; text = text; kind = token.Punct }

-- the same of a spelling, as in `punctuator p "("`
abbrev pub punctuator : ℕ → String → Token
punctuator p s = sign p (codes s)

-- a keyword (C17 6.4.1)
abbrev pub keyword : ℕ → String → Token
keyword p s = record { place = p; text = codes s; kind = token.Keyword }

-- a name that is no keyword (C17 6.4.2)
abbrev pub name : Spelling → Token
name n = record { place = n.place; text = n.text; kind = token.Name }

-- a number of this value, however it is spelled
abbrev pub number : Spelling → Value → Token
number n v = record { place = n.place; text = n.text; kind = token.Number v }

-- an `#include`, whose text is the header
abbrev pub include : Spelling → Token
include n = record { place = n.place; text = n.text; kind = token.Include }

-- a `#pragma species`, whose text is the line after the word
abbrev pub species : Spelling → Token
species n = record { place = n.place; text = n.text; kind = token.Species }

-- a `#pragma omp parallel for` of this depth and schedule
abbrev pub parallel : Spelling → ℕ → Schedule → Token
parallel n d s = record { place = n.place; text = n.text; kind = token.Parallel d s }

-- a `#pragma omp atomic update`
abbrev pub atomic : Spelling → Token
atomic n = record { place = n.place; text = n.text; kind = token.Atomic }

-- A keyword that may stand there or not, and whether it does.
pub data Optional (word : String) : Bool → List Token → Type 0 where
  absent : Optional word false []
  present : (p : ℕ) → Optional word true (keyword p word ∷ [])
