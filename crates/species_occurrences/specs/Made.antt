-- Which reference makes an access.
use Rattle.std.specs.Prelude.{◌≡◌, ◌⊎◌, ℕ, List, [], ◌∷◌, ◌++◌, ℤ}
use Rattle.species_ast.specs.Accesses.{Access}
use Rattle.species_ast.specs.Evaluation.{row_order}
use Rattle.species_ast.specs.Scope.Loops.{PlacedLoop}
use Rattle.species_ast.specs.Scope.References.{Reference, Adding, references_of}
use Rattle.species_runs.specs.Indices.{AreIndices}
use Rattle.species_occurrences.specs.Iterators.{AreTaken}
use Rattle.species_occurrences.specs.Affine.{AreIndicesOf}

-- The access is made by the reference, where the arrays have these sizes.
pub record IsMadeBy (sizes : ℕ → List ℕ) (r : Reference) (a : Access) : Type 0 where
  pub statement : a.site.statement ≡ r.statement
  pub number : a.site.number ≡ r.number
  pub direction : a.direction ≡ r.direction
  -- the element is that of the indices, each of which is below the size of its dimension
  pub element : a.element ≡ record { array = r.array; at = row_order (sizes r.array) a.site.indices }
  pub indices : AreIndices (sizes r.array) a.site.indices
  -- where a subscript is affine, its index is the value of the form
  pub forms : AreIndicesOf r.subs a.site.iters a.site.indices
  -- the iterators in force are values that the loops around the reference take
  pub iterators : AreTaken r.path a.site.iters

-- some reference of the list makes the access
abbrev pub IsMadeAmong : (ℕ → List ℕ) → List Reference → Access → Type 0
IsMadeAmong sizes [] a = ⊥
IsMadeAmong sizes (r ∷ rs) a = IsMadeBy sizes r a ⊎ IsMadeAmong sizes rs a

-- a list that goes on with more
abbrev pub Begins : {X : Type 0} → List X → List X → Type 0
Begins {X} front whole = (more : List X) × (whole ≡ front ++ more)

-- some reference makes the access, inside loops whose iterators have these values
abbrev pub IsMade : (ℕ → List ℕ) → List ℤ → List Reference → Access → Type 0
IsMade sizes iters rs a = IsMadeAmong sizes rs a × Begins iters a.site.iters

-- if the access is made inside this loop, then by one of the references of its nest, whatever the depth of the band is
abbrev pub IsMadeInside : Adding → (ℕ → List ℕ) → PlacedLoop → Access → Type 0
IsMadeInside adds sizes l a =
    Begins l.stands.statement a.site.statement → (depth : ℕ) → IsMadeAmong sizes (references_of adds l.head l.stands.statement l.stands.around.path depth) a

-- so it is for each of these loops
abbrev pub IsMadeInEach : Adding → (ℕ → List ℕ) → List PlacedLoop → Access → Type 0
IsMadeInEach adds sizes [] a = Unit {0}
IsMadeInEach adds sizes (l ∷ ls) a = IsMadeInside adds sizes l a × IsMadeInEach adds sizes ls a
