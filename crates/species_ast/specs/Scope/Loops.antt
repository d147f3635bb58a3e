-- The loops of a unit, each where it stands.
use Rattle.std.specs.Prelude.{ℕ, suc, Bool, false, ◌||◌, List, [], ◌∷◌, ◌++◌, flat_map, map, length}
use Rattle.species_ast.specs.declared.tree.Stmt.{Stmt, para-Stmt}
use Rattle.species_ast.specs.declared.tree.Loop.{Loop}
use Rattle.species_ast.specs.declared.tree.Stmt.TheOpen.{Stmt-F, Loop-F}
use Rattle.species_ast.specs.declared.tree.Unit.{Unit}
use Rattle.species_ast.specs.Scope.Hulls.{Range, range_of, passes_hull}
use Rattle.species_ast.specs.Scope.Limits.{is_too_deep}
use Rattle.species_ast.specs.Scope.Magnitudes.{passes_bound}
use Rattle.species_ast.specs.Scope.Nests.{is_parallel}

-- The loops around a place: how many, the ranges of their iterators, by level, and whether one has a parallel mark.
pub record Nesting : Type 0 where
  pub level : ℕ
  pub path : List Range
  pub in_nest : Bool

abbrev pub no_loops : Nesting
no_loops = record { level = 0; path = []; in_nest = false }

-- inside a loop
abbrev pub entered : {X Y : Type 0} → Loop-F X Y → Nesting → Nesting
entered l n = record { level = suc n.level; path = n.path ++ range_of n.path l ∷ []; in_nest = n.in_nest || is_parallel l.mark }

-- Where statements stand: their position, as a Site says it, the loops around them, and whether one of these passes the limits
-- Loops, Hull or Bound.
pub record Standing : Type 0 where
  pub statement : List ℕ
  pub around : Nesting
  pub passed : Bool

-- A loop where it stands.
pub record PlacedLoop : Type 0 where
  pub head : Loop
  pub stands : Standing

-- a loop with these loops around it passes one of these limits
abbrev pub passes : {X Y : Type 0} → Nesting → Loop-F X Y → Bool
passes n l = is_too_deep n.level || (passes_hull n.path l || passes_bound n.path l)

abbrev pub standing_in : {X Y : Type 0} → Loop-F X Y → Standing → Standing
standing_in l s = record s { around = entered l s.around; passed = s.passed || passes s.around l }

abbrev pub numbered : Standing → ℕ → Standing
numbered s k = record s { statement = s.statement ++ k ∷ [] }

abbrev pub Placing : Type 0
Placing = Standing → List PlacedLoop

-- the statements of a list, of which the first has number k inside the statement around it
abbrev pub list_loops : List Placing → Standing → ℕ → List PlacedLoop
list_loops [] s k = []
list_loops (x ∷ xs) s k = x (numbered s k) ++ list_loops xs s (suc k)

abbrev pub loops_at : Stmt-F (Stmt × Placing) (Loop × Placing) → Placing
loops_at (Stmt-F.Assign place a subs value) s = []
loops_at (Stmt-F.AddTo place a subs value atomic) s = []
loops_at (Stmt-F.Declare place x init) s = []
loops_at (Stmt-F.SetLocal place x value) s = []
loops_at (Stmt-F.If place test body otherwise) s = list_loops (map (λ x. x.1) body) s 0 ++ list_loops (map (λ x. x.1) otherwise) s (length body)
loops_at (Stmt-F.For l) s = record { head = l.0; stands = s } ∷ l.1 s
loops_at (Stmt-F.Block body) s = list_loops (map (λ x. x.1) body) s 0

abbrev pub loops_inside : Loop-F (Stmt × Placing) (Loop × Placing) → Placing
loops_inside l s = list_loops (map (λ x. x.1) l.body) (standing_in l s) 0

-- the loops in a statement, in the order of the text
abbrev pub loops_in : Stmt → Placing
loops_in = para-Stmt Placing Placing loops_at loops_inside

abbrev pub outside_loops : Standing
outside_loops = record { statement = []; around = no_loops; passed = false }

-- The loops of a unit, in the order of the text.
abbrev pub placed_loops : Unit → List PlacedLoop
placed_loops u = list_loops (map loops_in u.body) outside_loops 0

-- ---- outermost loops

abbrev pub outermost_at : Stmt-F (Stmt × List Loop) (Loop × List Loop) → List Loop
outermost_at (Stmt-F.Assign place a subs value) = []
outermost_at (Stmt-F.AddTo place a subs value atomic) = []
outermost_at (Stmt-F.Declare place x init) = []
outermost_at (Stmt-F.SetLocal place x value) = []
outermost_at (Stmt-F.If place test body otherwise) = flat_map (λ x. x.1) body ++ flat_map (λ x. x.1) otherwise
outermost_at (Stmt-F.For l) = l.0 ∷ []
outermost_at (Stmt-F.Block body) = flat_map (λ x. x.1) body

-- the loops in a statement that stand in no other of its loops
abbrev pub outermost_in : Stmt → List Loop
outermost_in = para-Stmt (List Loop) (List Loop) outermost_at (λ l. [])

abbrev pub outermost_loops : Unit → List Loop
outermost_loops u = flat_map outermost_in u.body
