-- The text of arrays.
use Rattle.std.specs.Prelude.{ℕ, List, [], ◌∷◌, ◌++◌, map, flat_map, IsTrue}
use Rattle.std.specs.List.{list_all}
use Rattle.species_ast.specs.declared.tree.Array.{Array}
use Rattle.species_ast.specs.declared.tree.Value.{Value}
use Rattle.species_ast.specs.Accesses.{Cells}
use Rattle.species_ast.specs.Names.{is_name}
use Rattle.species_runs.specs.Distinct.{Distinct}
use Rattle.species_data.specs.Elements.{value_text}

-- an element behind a space
abbrev pub spaced : Value → List ℕ
spaced v = 32 ∷ value_text v

-- the line of an array
abbrev pub row_text : List ℕ → List Value → List ℕ
row_text name row = name ++ (flat_map spaced row ++ 10 ∷ [])

-- the lines of all arrays, in the order of their declarations
abbrev pub data_text : List Array → Cells → List ℕ
data_text [] rows = []
data_text (a ∷ arrays) [] = []
data_text (a ∷ arrays) (row ∷ rows) = row_text a.name row ++ data_text arrays rows

-- each array has a name of the language, and no two have the same
pub record HaveNames (arrays : List Array) : Type 0 where
  pub names : IsTrue (list_all (λ a. is_name a.name) arrays)
  pub distinct : Distinct (map (λ a. a.name) arrays)
