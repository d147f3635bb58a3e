-- The load of a list of tokens: how many of them stand behind what ended last, above what stood there behind the innermost
-- `{` that is still open. It bounds the depth of reading.
use Rattle.std.specs.Prelude.{ℕ, ◌+◌, ◌-◌, Bool, false, ◌&&◌, ◌||◌, not, nat_eq, nat_lt, if◌then◌else◌, List, [], ◌∷◌, codes, bytes_eq, Option, Some, None}
use Rattle.species_ast.specs.Token.{Token}
use Rattle.species_ast.specs.Limits.{most_load}
use Rattle.species_ast.specs.declared.token.TokenKind.{TokenKind}
use Rattle.species_ast.specs.declared.token.TokenKind.TheVariants as kind

-- the spelling of a keyword or punctuator, and nothing for other tokens
abbrev pub spelling_of : TokenKind → List ℕ → List ℕ
spelling_of kind.Keyword text = text
spelling_of kind.Punct text = text
spelling_of _ text = []

abbrev pub is_spelled : Token → List ℕ → Bool
is_spelled t text = bytes_eq (spelling_of t.kind t.text) text

-- The load, what it was behind each `{` that is not closed (the last one first), and how many `(` are not closed.
pub record Load : Type 0 where
  pub load : ℕ
  pub blocks : List ℕ
  pub brackets : ℕ

-- the load behind the last `{` that is not closed, or 0
abbrev pub block_load : List ℕ → ℕ
block_load [] = 0
block_load (n ∷ blocks) = n

abbrev pub closed_blocks : List ℕ → List ℕ
closed_blocks [] = []
closed_blocks (n ∷ blocks) = blocks

-- what a token adds: 1, and what it opens or closes
abbrev pub counted : Token → Load → Load
counted t l =
    let load = l.load + 1 in
    if is_spelled t (codes "{") then record l { load = load; blocks = load ∷ l.blocks }
    else if is_spelled t (codes "}") then record l { load = load; blocks = closed_blocks l.blocks }
    else if is_spelled t (codes "(") then record l { load = load; brackets = l.brackets + 1 }
    else if is_spelled t (codes ")") then record l { load = load; brackets = l.brackets - 1 }
    else record l { load = load }

-- a `}`, or a `;` inside no `(`, ends what was unfinished
abbrev pub ends_statement : Token → Load → Bool
ends_statement t l = is_spelled t (codes "}") || (is_spelled t (codes ";") && nat_eq l.brackets 0)

abbrev pub is_else_next : List Token → Bool
is_else_next [] = false
is_else_next (t ∷ ts) = is_spelled t (codes "else")

-- the load behind a token that was counted, and before the tokens that follow it
abbrev pub settled : Token → List Token → Load → Load
settled t ts l = if ends_statement t l && not (is_else_next ts) then record l { load = block_load l.blocks } else l

-- the place of the first token with which the load is above a limit
abbrev pub first_above : ℕ → Load → List Token → Option ℕ
first_above most l [] = None
first_above most l (t ∷ ts) =
    let after = counted t l in
    if nat_lt most after.load then Some t.place else first_above most (settled t ts after) ts

abbrev pub no_load : Load
no_load = record { load = 0; blocks = []; brackets = 0 }

-- the place of the first token of the grammar's list with which the load is above its limit
abbrev pub load_refusal : List Token → Option ℕ
load_refusal ts = first_above most_load no_load ts
