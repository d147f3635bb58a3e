-- How many leading loops of a nest carry no dependence.
use Rattle.std.specs.Prelude.{ℕ, ◌<◌, ◌≤◌, List, Some}
use Rattle.species_references.specs.declared.nest.Reference.{Reference}
use Rattle.species_depend.specs.Carried.{Carries, CarriesNone, IsFirstOf}
use Rattle.species_classify.specs.declared.bands.Band.{Band}
use Rattle.species_classify.specs.declared.bands.Band.TheVariants.{Free, Carried}

-- The number of leading loops of a front of so many before the first level that carries a pair, where these arrays are exempt.
pub record IsDepth (refs : List Reference) (outer front : ℕ) (exempt : List ℕ) (depth : ℕ) : Type 0 where
  pub within : depth ≤ front
  pub free : (level : ℕ) → level < depth → CarriesNone refs outer level exempt
  pub stopped : depth < front → ¬ CarriesNone refs outer depth exempt

-- That number, where it is not 0; and else the first pair that the first level carries.
abbrev pub IsBandOf : List Reference → (outer front : ℕ) → List ℕ → Band → Type 0
IsBandOf refs outer front exempt (Free depth) = (0 < depth) × IsDepth refs outer front exempt depth
IsBandOf refs outer front exempt (Carried first second) = IsFirstOf (Carries outer 0 exempt) refs (Some (first, second))
