-- The canonical text of a unit.
use Rattle.std.specs.Prelude.{ℕ, Bool, true, List, [], ◌∷◌, ◌++◌, map}
use Rattle.std.specs.List.{flat_map}
use Rattle.species_ast.specs.declared.tree.Array.{Array}
use Rattle.species_ast.specs.declared.tree.Unit.{Unit}
use Rattle.species_ast.specs.declared.token.TokenKind.TheVariants as kind
use Rattle.species_print.specs.Printed.{Printed, Lexeme, punctuator, keyword, name, number, space, line, text_of}
use Rattle.species_print.specs.Expressions.{kind_words}
use Rattle.species_print.specs.Statements.{stmt_layout, all_of, indentation, close}

abbrev pub include_line : List ℕ → List Printed
include_line header = line [] (Lexeme header kind.Include ∷ [])

abbrev pub size : ℕ → List Printed
size n = punctuator "[" ∷ number n ∷ punctuator "]" ∷ []

abbrev pub array_line : Array → List Printed
array_line a = line [] (kind_words a.kind ++ (space ∷ name a.name ∷ (flat_map size a.dims ++ punctuator ";" ∷ [])))

abbrev pub function_line : List ℕ → List Printed
function_line function =
    line [] (keyword "void" ∷ space ∷ name function ∷ punctuator "(" ∷ keyword "void" ∷ punctuator ")" ∷ space ∷ punctuator "{" ∷ [])

-- the lines before the body
abbrev pub front : Unit → List Printed
front u = flat_map include_line u.includes ++ (flat_map array_line u.arrays ++ function_line u.function)

-- the whole unit; `parallel` says whether parallel lines are written
abbrev pub unit_printed : Bool → Unit → List Printed
unit_printed parallel u = front u ++ (all_of (map (stmt_layout parallel u) u.body) [] (indentation 1) ++ close [])

-- the canonical text of a unit
abbrev pub canonical_text : Unit → List ℕ
canonical_text u = text_of (unit_printed true u)
