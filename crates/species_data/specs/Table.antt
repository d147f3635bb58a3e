-- The table of names.
use Rattle.std.specs.Prelude.{◌≡◌, ℕ, List, bytes_eq}
use Rattle.std.specs.declared.hash.FoldHasher.{FoldHasher}
use Rattle.std.specs.declared.hash.BuildHasherDefault.{BuildHasherDefault}
use Rattle.indexmap.specs.IndexMap.{IndexMap, get_by}
use Rattle.species_ast.specs.declared.tree.Array.{Array}
use Rattle.species_data.specs.Data.{number_named}
use denote.Ref.{Bor}

abbrev pub Table : Type 0
Table = IndexMap (Bor (List ℕ)) ℕ (BuildHasherDefault FoldHasher)

-- the table has the number of the first array of each name
abbrev pub Numbers : List Array → Table → Type 0
Numbers arrays table = (name : List ℕ) → get_by (λ k. bytes_eq name k.now) table ≡ number_named arrays name
