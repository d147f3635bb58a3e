-- The loops of a unit, one after another, each with the ranges of the loops around it.
use Rattle.std.specs.Prelude.{◌≡◌, ℕ, List, ◌∷◌, map}
use Rattle.species_arcs.specs.declared.plans.Nest.{Nest}
use Rattle.species_ast.specs.declared.tree.Loop.{Loop, out-Loop}
use Rattle.species_ast.specs.declared.tree.Stmt.{Stmt}
use Rattle.species_ast.specs.declared.tree.Unit.{Unit as Program}
use Rattle.species_ast.specs.Scope.Hulls.{Range}
use Rattle.species_classify.specs.Plans.{IsPlan}
use Rattle.species_ast.specs.Scope.Loops.{Standing, standing_in, PlacedLoop, loops_in, list_loops, placed_loops}

pub record Head : Type 0 where
  pub loop : Loop
  pub path : List Range

abbrev pub head_at : PlacedLoop → Head
head_at l = record { loop = l.head; path = l.stands.around.path }

-- of a statement that stands there
abbrev pub heads_in : Stmt → Standing → List Head
heads_in x s = map head_at (loops_in x s)

-- of statements, of which the first has number k inside the statement around it
abbrev pub heads_in_list : List Stmt → Standing → ℕ → List Head
heads_in_list xs s k = map head_at (list_loops (map loops_in xs) s k)

-- in a loop, where that stands
abbrev pub heads_inside : Loop → Standing → List Head
heads_inside head s = heads_in_list (out-Loop head).body (standing_in (out-Loop head) s) 0

-- all loops of a unit
abbrev pub heads_of : Program → List Head
heads_of u = map head_at (placed_loops u)

-- The loops of a unit from one on.
pub record LoopsLeft : Type 0 where
  pub unit : Program
  pub left : List Head

-- it is the plan of the first of them
abbrev pub IsPlanOfFirst : LoopsLeft → Nest → Type 0
IsPlanOfFirst l nest = (head : Head) (rest : List Head) → l.left ≡ head ∷ rest → IsPlan l.unit head.loop head.path nest
