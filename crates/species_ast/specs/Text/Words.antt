-- Keywords (C17 6.4.1), which are never names, and punctuators (C17 6.4.6).
use Rattle.std.specs.Prelude.{ℕ, if◌then◌else◌, List, [], ◌∷◌, length, codes}
use Rattle.species_ast.specs.Text.Characters.{begins}
pub use Rattle.species_ast.specs.Names.{keywords, is_keyword}

-- the punctuators, each before those that it begins with
unfoldable pub punctuators : List (List ℕ)
punctuators =
    codes "<<=" ∷ codes ">>="
    ∷ codes "+=" ∷ codes "-=" ∷ codes "*=" ∷ codes "/=" ∷ codes "%=" ∷ codes "&=" ∷ codes "|=" ∷ codes "^="
    ∷ codes "<<" ∷ codes ">>" ∷ codes "<=" ∷ codes ">=" ∷ codes "==" ∷ codes "!=" ∷ codes "&&" ∷ codes "||"
    ∷ codes "++" ∷ codes "--"
    ∷ codes "(" ∷ codes ")" ∷ codes "[" ∷ codes "]" ∷ codes "{" ∷ codes "}" ∷ codes ";" ∷ codes ","
    ∷ codes "?" ∷ codes ":" ∷ codes "=" ∷ codes "+" ∷ codes "-" ∷ codes "*" ∷ codes "/" ∷ codes "%"
    ∷ codes "<" ∷ codes ">" ∷ codes "!" ∷ codes "~" ∷ codes "&" ∷ codes "|" ∷ codes "^" ∷ []

-- the length of the first of these with which the bytes begin, or 0
abbrev pub first_len : List (List ℕ) → List ℕ → ℕ
first_len [] bytes = 0
first_len (spelling ∷ others) bytes = if begins spelling bytes then length spelling else first_len others bytes

-- the length of the longest punctuator at the front, or 0
abbrev pub punctuator_len : List ℕ → ℕ
punctuator_len bytes = first_len punctuators bytes
