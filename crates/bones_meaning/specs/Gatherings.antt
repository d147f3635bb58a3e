-- What is gathered in a nest: how an atomic addition joins a value to an element, and which arrays take one.
use Rattle.std.specs.Prelude.{ℕ, List}
use Rattle.species_ast.specs.Accesses.{Joins, sums}
use Rattle.species_ast.specs.Run.{Takes, sums_take}

pub record Gathering : Type 0 where
  pub join : Joins
  pub takes : Takes

abbrev pub sum_gathering : Gathering
sum_gathering = record { join = sums; takes = sums_take }

-- for each nest, by its position
abbrev pub Gatherings : Type 0
Gatherings = List ℕ → Gathering

-- sums in all nests
abbrev pub sum_gatherings : Gatherings
sum_gatherings at = sum_gathering
