-- The table of names, and the declarations that are in force.
use Rattle.std.specs.Prelude.{◌≡◌, ℕ, List, [], ◌∷◌, map, reverse, bytes_eq, Option, option_map, option_and_then}
use Rattle.std.specs.declared.hash.FoldHasher.{FoldHasher}
use Rattle.std.specs.declared.hash.BuildHasherDefault.{BuildHasherDefault}
use Rattle.indexmap.specs.IndexMap.{IndexMap, get_by}
use Rattle.species_ast.specs.Scope.Meanings.{Meaning, meaning_in}
use Rattle.species_names.specs.declared.meaning.Meaning as code
use Rattle.species_names.specs.declared.table.Declared.{Declared}
use Rattle.species_names.specs.Seen.{seen}
use denote.Ref.{Bor}

abbrev pub Lookups : Type 0
Lookups = IndexMap (Bor (List ℕ)) (Option code.Meaning) (BuildHasherDefault FoldHasher)

abbrev pub looked_up : Lookups → List ℕ → Option code.Meaning
looked_up table name = option_and_then (λ m. m) (get_by (λ k. bytes_eq name k.now) table)

-- the names that declarations give meanings, of declarations from the last
abbrev pub names_in : List Declared → List (List ℕ × Meaning)
names_in ds = map (λ d. (d.name.now, seen d.means)) ds

-- each declaration keeps what its name meant before it
abbrev pub Undoes : List Declared → Type 0
Undoes [] = Unit {0}
Undoes (d ∷ ds) = (option_map seen d.before ≡ meaning_in (names_in ds) d.name.now) × Undoes ds

pub record Holds (table : Lookups) (ds : List Declared) : Type 0 where
  pub agrees : (name : List ℕ) → option_map seen (looked_up table name) ≡ meaning_in (names_in (reverse ds)) name
  pub undoes : Undoes (reverse ds)
