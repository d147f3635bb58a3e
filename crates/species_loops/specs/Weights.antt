-- The weight of a unit: the turns of its loops in all, as their hulls have them.
use Rattle.std.specs.Prelude.{◌≡◌, ℕ, ◌+◌, ◌*◌, ◌/◌, ◌^◌, max, if◌then◌else◌, List, [], ◌∷◌, ◌++◌, map, length, ◌-ℤ◌, unsigned_abs}
use Rattle.species_ast.specs.declared.tree.Stmt.{Stmt, fold-Stmt}
use Rattle.species_ast.specs.declared.tree.Stmt.TheOpen.{Stmt-F, Loop-F}
use Rattle.species_ast.specs.declared.tree.Loop.{Loop, fold-Loop}
use Rattle.species_ast.specs.declared.tree.Unit.{Unit}
use Rattle.species_ast.specs.Scope.Hulls.{Range, has_empty, range_of}
use Rattle.species_ast.specs.Scope.Loops.{Nesting}

-- the turns of a loop with this range in loops with these: none where one of the ranges is empty
abbrev pub turns_of : List Range → Range → ℕ
turns_of path r = if has_empty (r ∷ path) then 0 else unsigned_abs (r.high -ℤ r.low) / unsigned_abs r.step + 1

-- of what stands in loops with these ranges
abbrev pub Weighing : Type 0
Weighing = List Range → ℕ

abbrev pub list_weight : List Weighing → Weighing
list_weight [] path = 0
list_weight (w ∷ ws) path = w path + list_weight ws path

abbrev pub weight_at : Stmt-F Weighing Weighing → Weighing
weight_at (Stmt-F.If place test body otherwise) path = list_weight body path + list_weight otherwise path
weight_at (Stmt-F.For l) path = l path
weight_at (Stmt-F.Block body) path = list_weight body path
weight_at s path = 0

-- a loop: each turn has the weight of the loops directly in it, and at least 1
abbrev pub weight_inside : Loop-F Weighing Weighing → Weighing
weight_inside l path = turns_of path (range_of path l) * max (list_weight l.body (path ++ range_of path l ∷ [])) 1

abbrev pub weight_in : Stmt → Weighing
weight_in = fold-Stmt Weighing Weighing weight_at weight_inside

abbrev pub weight_in_loop : Loop → Weighing
weight_in_loop = fold-Loop Weighing Weighing weight_at weight_inside

abbrev pub weight_in_list : List Stmt → Weighing
weight_in_list xs = list_weight (map weight_in xs)

-- The weight of a unit is the sum of those of its outermost loops.
abbrev pub weight_of : Unit → ℕ
weight_of u = weight_in_list u.body []

-- the greatest weight that is told from greater ones
abbrev pub most_weight : ℕ
most_weight = 2 ^ 100

-- the loops around a place, which have these ranges
pub record IsAround (ranges : List Range) (n : Nesting) : Type 0 where
  pub path : n.path ≡ ranges
  pub level : n.level ≡ length ranges
