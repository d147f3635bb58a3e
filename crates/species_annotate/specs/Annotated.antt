-- The unit with the species line of each loop that is planned.
use Rattle.std.specs.Prelude.{◌≡◌, ℕ, zero, suc, Bool, List, [], ◌∷◌, ◌++◌, map, Option, Some}
use Rattle.species_arcs.specs.declared.plans.Nest.{Nest}
use Rattle.species_ast.specs.declared.tree.Expr.{Expr}
use Rattle.species_ast.specs.declared.tree.Loop.{Loop, out-Loop, roll-Loop}
use Rattle.species_ast.specs.declared.tree.Mark.TheVariants.{Plain}
use Rattle.species_ast.specs.declared.tree.Stmt.{Stmt}
use Rattle.species_ast.specs.declared.tree.Stmt.TheVariants as stmt
use Rattle.species_ast.specs.declared.tree.Unit.{Unit as Program}
use Rattle.species_ast.specs.Line.{Line}
use Rattle.species_ast.specs.Scope.Hulls.{Range, range_of}
use Rattle.species_ast.specs.Strip.{source_of}
use Rattle.species_classify.specs.Plans.{IsPlan}
use Rattle.species_nests.specs.Nests.{Placed, nest_of}
use Rattle.species_notation.specs.Written.{line_text}
use Rattle.species_notation.specs.declared.given.Names.{Names}

-- ---- lines

-- The loops around a place, the outermost first: the ranges of their iterators, and the names of these.
pub record Around : Type 0 where
  pub path : List Range
  pub iters : List (List ℕ)

abbrev pub outside : Around
outside = record { path = []; iters = [] }

-- inside a loop
abbrev pub within : Loop → Around → Around
within head w = record { path = w.path ++ range_of w.path (out-Loop head) ∷ []; iters = w.iters ++ (out-Loop head).iter ∷ [] }

abbrev pub iterators_of : List Placed → List (List ℕ)
iterators_of loops = map (λ p. (out-Loop p.loop).iter) loops

-- the names of the iterators of a band of this depth
abbrev pub band_names : ℕ → Loop → List ℕ → List (List ℕ)
band_names zero head at = []
band_names (suc below) head at = iterators_of (nest_of below head at).loops

-- the names of the arrays and locals of a unit, with these of iterators
abbrev pub names_in : Program → List (List ℕ) → Names
names_in u iters = record { arrays = map (λ a. a.name) u.arrays; iters = iters; locals = map (λ l. l.name) u.locals }

-- The line of a loop with this plan, where the loop is. The iterators of the loops around it and of the band have names in it.
abbrev pub plan_line : Program → Around → Loop → Nest → Line
plan_line u w head nest = record { text = line_text (names_in u (w.iters ++ band_names nest.depth head [])) nest; place = (out-Loop head).place }

-- a loop with this line and this body, and a plain mark
abbrev pub lined : Loop → Line → List Stmt → Loop
lined head line body = roll-Loop (record (out-Loop head) { body = body; line = Some line; mark = Plain })

-- ---- the walk

mutual
  -- A statement of a unit in such loops, and what it becomes.
  pub data BecomesStmt (u : Program) : Around → Stmt → Stmt → Type 0 where
    -- a statement with no statement in it stays
    assign : (w : Around) (place a : ℕ) (subs : List Expr) (value : Expr) → BecomesStmt u w (stmt.Assign place a subs value) (stmt.Assign place a subs value)
    add_to : (w : Around) (place a : ℕ) (subs : List Expr) (value : Expr) (atomic : Bool) → BecomesStmt u w (stmt.AddTo place a subs value atomic) (stmt.AddTo place a subs value atomic)
    declare : (w : Around) (place n : ℕ) (init : Option Expr) → BecomesStmt u w (stmt.Declare place n init) (stmt.Declare place n init)
    set_local : (w : Around) (place n : ℕ) (value : Expr) → BecomesStmt u w (stmt.SetLocal place n value) (stmt.SetLocal place n value)
    -- loops in branches and blocks are planned where they stand
    choice : (w : Around) (place : ℕ) (test : Expr) (body otherwise new other : List Stmt) → BecomeAll u w body new → BecomeAll u w otherwise other
        → BecomesStmt u w (stmt.If place test body otherwise) (stmt.If place test new other)
    block : (w : Around) (body new : List Stmt) → BecomeAll u w body new → BecomesStmt u w (stmt.Block body) (stmt.Block new)
    -- a loop gets the line of its plan
    loop : (w : Around) (head : Loop) (nest : Nest) (new : List Stmt) → IsPlan u head w.path nest → BecomesBody u w head nest.depth new
        → BecomesStmt u w (stmt.For head) (stmt.For (lined head (plan_line u w head nest) new))

  -- The body of a loop in such loops, with a plan of this depth.
  pub data BecomesBody (u : Program) : Around → Loop → ℕ → List Stmt → Type 0 where
    -- the loops in a parallel nest are not planned
    parallel : (w : Around) (head : Loop) (below : ℕ) → BecomesBody u w head (suc below) (out-Loop head).body
    -- the statements in a sequential loop are planned in it
    sequential : (w : Around) (head : Loop) (new : List Stmt) → BecomeAll u (within head w) (out-Loop head).body new → BecomesBody u w head zero new

  -- Statements, one after another.
  pub data BecomeAll (u : Program) : Around → List Stmt → List Stmt → Type 0 where
    none : (w : Around) → BecomeAll u w [] []
    more : (w : Around) (x y : Stmt) (xs ys : List Stmt) → BecomesStmt u w x y → BecomeAll u w xs ys → BecomeAll u w (x ∷ xs) (y ∷ ys)

-- The source of a unit, without the marks and the lines that it has, and with the line of each loop that is planned.
pub record IsAnnotated (u v : Program) : Type 0 where
  pub body : BecomeAll (source_of u) outside (source_of u).body v.body
  pub rest : v ≡ record (source_of u) { body = v.body }
