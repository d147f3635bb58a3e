-- A program, the unit that it becomes, and where its arrays' names stand.
use Rattle.std.specs.Prelude.{◌≡◌, ℕ, List, map}
use Rattle.species_ast.specs.declared.tree.Unit.{Unit}
use Rattle.species_ast.specs.Scope.Programs.{Program}

pub record IsBuilt (p : Program) (u : Unit) (names : List ℕ) : Type 0 where
  pub unit : p.unit ≡ u
  pub arrays : map (λ a. a.array) p.arrays ≡ u.arrays
  pub places : map (λ a. a.name.place) p.arrays ≡ names
