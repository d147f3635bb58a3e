-- The arrays that a nest gathers as sums: those of an unsigned kind to which it adds by `+=`, and which it uses in no other way.
use Rattle.std.specs.Prelude.{ℕ, suc, ◌&&◌, List, [], ◌∷◌, ◌++◌, map, flat_map, Option, Some, None, Bool, not, nat_eq, if◌then◌else◌}
use Rattle.std.specs.List.{list_any}
use Rattle.species_ast.specs.declared.tree.Array.{Array}
use Rattle.species_ast.specs.declared.tree.Expr.{Expr, fold-Expr}
use Rattle.species_ast.specs.declared.tree.Expr.TheOpen.{Expr-F}
use Rattle.species_ast.specs.declared.tree.Kind.{Kind}
use Rattle.species_ast.specs.declared.tree.Loop.{Loop, out-Loop}
use Rattle.species_ast.specs.declared.tree.Stmt.{Stmt, fold-Stmt}
use Rattle.species_ast.specs.declared.tree.Stmt.TheOpen.{Stmt-F}
use Rattle.species_ast.specs.declared.tree.Unit.{Unit as Program}
use Rattle.species_ast.specs.Operators.{is_signed}

-- ---- the arrays of the elements in an expression

abbrev pub read_at : Expr-F (List ℕ) → List ℕ
read_at (Expr-F.Literal v) = []
read_at (Expr-F.Iter level) = []
read_at (Expr-F.Local x) = []
read_at (Expr-F.Elem a subs) = a ∷ flat_map (λ xs. xs) subs
read_at (Expr-F.Unary op a) = a
read_at (Expr-F.Binary op a b) = a ++ b
read_at (Expr-F.And a b) = a ++ b
read_at (Expr-F.Or a b) = a ++ b
read_at (Expr-F.Cond c a b) = c ++ (a ++ b)
read_at (Expr-F.Cast k a) = a

abbrev pub read_by : Expr → List ℕ
read_by = fold-Expr (List ℕ) read_at

abbrev pub read_in : List Expr → List ℕ
read_in es = flat_map (λ xs. xs) (map read_by es)

abbrev pub read_first : Option Expr → List ℕ
read_first None = []
read_first (Some e) = read_by e

-- ---- statements, of which the bounds of loops read no array

-- the arrays to which they add by `+=`, at any depth
abbrev pub summed_at : Stmt-F (List ℕ) (List ℕ) → List ℕ
summed_at (Stmt-F.Assign place a subs value) = []
summed_at (Stmt-F.AddTo place a subs value atomic) = a ∷ []
summed_at (Stmt-F.Declare place x init) = []
summed_at (Stmt-F.SetLocal place x value) = []
summed_at (Stmt-F.If place test body otherwise) = flat_map (λ xs. xs) body ++ flat_map (λ xs. xs) otherwise
summed_at (Stmt-F.For l) = l
summed_at (Stmt-F.Block body) = flat_map (λ xs. xs) body

abbrev pub summed_by : Stmt → List ℕ
summed_by = fold-Stmt (List ℕ) (List ℕ) summed_at (λ l. flat_map (λ xs. xs) l.body)

abbrev pub summed_in : List Stmt → List ℕ
summed_in ss = flat_map (λ xs. xs) (map summed_by ss)

-- the arrays that they read or set otherwise
abbrev pub used_at : Stmt-F (List ℕ) (List ℕ) → List ℕ
used_at (Stmt-F.Assign place a subs value) = a ∷ (read_in subs ++ read_by value)
used_at (Stmt-F.AddTo place a subs value atomic) = read_in subs ++ read_by value
used_at (Stmt-F.Declare place x init) = read_first init
used_at (Stmt-F.SetLocal place x value) = read_by value
used_at (Stmt-F.If place test body otherwise) = read_by test ++ (flat_map (λ xs. xs) body ++ flat_map (λ xs. xs) otherwise)
used_at (Stmt-F.For l) = l
used_at (Stmt-F.Block body) = flat_map (λ xs. xs) body

abbrev pub used_by : Stmt → List ℕ
used_by = fold-Stmt (List ℕ) (List ℕ) used_at (λ l. flat_map (λ xs. xs) l.body)

abbrev pub used_in : List Stmt → List ℕ
used_in ss = flat_map (λ xs. xs) (map used_by ss)

-- ---- the arrays that are gathered

-- the array of this number and kind, in the nest of a loop with this body
abbrev pub is_summed : List Stmt → ℕ → Kind → Bool
is_summed body a k = not (is_signed k) && (list_any (nat_eq a) (summed_in body) && not (list_any (nat_eq a) (used_in body)))

-- of these arrays, of which the first has number k, the numbers of those that are gathered
abbrev pub summed_from : List Stmt → ℕ → List Array → List ℕ
summed_from body k [] = []
summed_from body k (x ∷ xs) = if is_summed body k x.kind then k ∷ summed_from body (suc k) xs else summed_from body (suc k) xs

abbrev pub summed_arrays : Program → Loop → List ℕ
summed_arrays u head = summed_from (out-Loop head).body 0 u.arrays
