-- Where an access is, and what it gives.
use Rattle.std.specs.Prelude.{◌≡◌, ℕ, List, ◌++◌, ℤ}
use Rattle.species_ast.specs.declared.tree.Value.{Value}
use Rattle.species_ast.specs.Accesses.{Access, Direction, Reads, Writes, Adds, Element}
use Rattle.species_ast.specs.Evaluation.{Context, sizes_of, array_kind, element_at}
use Rattle.species_runs.specs.Indices.{AreIndices}
use Rattle.species_runs.specs.Values.{IsOf}

-- what is written or added is a value of the array's kind
abbrev pub IsFitting : Context → Direction → Element → Value → Type 0
IsFitting w Reads e v = Unit {0}
IsFitting w Writes e v = IsOf (array_kind w e.array) v
IsFitting w Adds e v = IsOf (array_kind w e.array) v

-- The access is made by a statement at this position or inside it, while the iterators have these values, and perhaps more
-- iterators are in force. Its element is the one of its indices, each of which is below the size of its dimension.
pub record IsMadeAt (w : Context) (at : List ℕ) (iters : List ℤ) (a : Access) : Type 0 where
  pub inside : (rest : List ℕ) × (a.site.statement ≡ at ++ rest)
  pub within : (more : List ℤ) × (a.site.iters ≡ iters ++ more)
  pub indices : AreIndices (sizes_of w a.element.array) a.site.indices
  pub element : a.element ≡ element_at w a.element.array a.site.indices
  pub fitting : IsFitting w a.direction a.element a.value
