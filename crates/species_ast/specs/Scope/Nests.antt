-- Perfectly nested loops, and the parallel marks on them.
use Rattle.std.specs.Prelude.{ℕ, ◌+◌, Bool, true, false, ◌&&◌, ◌||◌, nat_lt, nat_le, List, [], ◌∷◌, ◌++◌, take, length, flat_map}
use Rattle.std.specs.List.{list_any}
use Rattle.species_ast.specs.declared.tree.Expr.{Expr}
use Rattle.species_ast.specs.declared.tree.Mark.{Mark}
use Rattle.species_ast.specs.declared.tree.Mark.TheVariants.{Plain, Parallel}
use Rattle.species_ast.specs.declared.tree.Loop.{Loop, fold-Loop}
use Rattle.species_ast.specs.declared.tree.Stmt.TheOpen.{Stmt-F, Loop-F}
use Rattle.species_ast.specs.Scope.Forms.{iterators_in}

pub record Bounds : Type 0 where
  pub start : Expr
  pub limit : Expr

-- the loops that are perfectly nested in a list of one statement; a list of more, or of none, has no such loops
abbrev pub only_loops : List (List Bounds) → List Bounds
only_loops (loops ∷ []) = loops
only_loops others = []

-- a statement's: blocks of one statement are looked through
abbrev pub front_step : Stmt-F (List Bounds) (List Bounds) → List Bounds
front_step (Stmt-F.For loops) = loops
front_step (Stmt-F.Block body) = only_loops body
front_step s = []

-- a loop with these bounds, and the loops that are perfectly nested in it
abbrev pub front_with : Expr → Expr → List (List Bounds) → List Bounds
front_with start limit body = record { start = start; limit = limit } ∷ only_loops body

abbrev pub front_layer : Loop-F (List Bounds) (List Bounds) → List Bounds
front_layer l = front_with l.start l.limit l.body

-- The bounds of a loop and of the loops that are perfectly nested in it: the body of each but the last is one loop.
abbrev pub front_of : Loop → List Bounds
front_of = fold-Loop (List Bounds) (List Bounds) front_step front_layer

-- the iterators that these bounds name
abbrev pub named_in : List Bounds → List ℕ
named_in loops = flat_map (λ b. iterators_in b.start ++ iterators_in b.limit) loops

abbrev pub is_parallel : Mark → Bool
is_parallel Plain = false
is_parallel (Parallel depth schedule) = true

-- A mark of this depth on a loop of this level does not fit: fewer loops are perfectly nested there, or one of those that it
-- means has a bound that names an iterator of these.
abbrev pub is_unfit : ℕ → Mark → List Bounds → Bool
is_unfit level Plain front = false
is_unfit level (Parallel depth schedule) front =
    nat_lt (length front) depth || list_any (λ i. nat_le level i && nat_lt i (level + depth)) (named_in (take depth front))

-- A mark on a loop of this level is a parallel one inside a parallel nest (true), or it does not fit.
abbrev pub is_bad_mark : Bool → ℕ → Mark → List Bounds → Bool
is_bad_mark inside level mark front = (inside && is_parallel mark) || is_unfit level mark front
