-- How many references a nest has at most, wherever it stands: as many as if each of its loops had turns, and each `+=` were a read
-- and a write.
use Rattle.std.specs.Prelude.{ℕ, ◌+◌, List, [], ◌∷◌, map, Option, Some, None}
use Rattle.species_ast.specs.declared.tree.Expr.{Expr}
use Rattle.species_ast.specs.declared.tree.Stmt.{Stmt, fold-Stmt}
use Rattle.species_ast.specs.declared.tree.Stmt.TheOpen.{Stmt-F, Loop-F}
use Rattle.species_ast.specs.declared.tree.Loop.{Loop, fold-Loop}
use Rattle.species_ast.specs.Scope.References.{elements_of, subscripts}

-- the elements in several expressions
abbrev pub elements_in : List Expr → ℕ
elements_in es = (subscripts es).count

-- and in an initial value, if there is one
abbrev pub elements_in_init : Option Expr → ℕ
elements_in_init (Some e) = (elements_of e).count
elements_in_init None = 0

abbrev pub total : List ℕ → ℕ
total [] = 0
total (n ∷ ns) = n + total ns

abbrev pub most_at : Stmt-F ℕ ℕ → ℕ
most_at (Stmt-F.Assign place a subs value) = elements_in subs + ((elements_of value).count + 1)
most_at (Stmt-F.AddTo place a subs value atomic) = elements_in subs + ((elements_of value).count + 2)
most_at (Stmt-F.Declare place x init) = elements_in_init init
most_at (Stmt-F.SetLocal place x value) = (elements_of value).count
most_at (Stmt-F.If place test body otherwise) = (elements_of test).count + (total body + total otherwise)
most_at (Stmt-F.For n) = n
most_at (Stmt-F.Block body) = total body

abbrev pub most_inside : Loop-F ℕ ℕ → ℕ
most_inside l = total l.body

-- The references that a statement has at most.
abbrev pub most_in : Stmt → ℕ
most_in = fold-Stmt ℕ ℕ most_at most_inside

abbrev pub most_in_list : List Stmt → ℕ
most_in_list xs = total (map most_in xs)

-- And those of the nest of a loop.
abbrev pub most_in_loop : Loop → ℕ
most_in_loop = fold-Loop ℕ ℕ most_at most_inside
