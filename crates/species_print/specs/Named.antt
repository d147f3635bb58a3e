-- The names that a statement needs.
use Rattle.std.specs.Prelude.{ℕ, ◌+◌, Bool, true, false, IsTrue, ◌&&◌, nat_lt, List, length, Option, Some, None}
use Rattle.std.specs.List.{list_all}
use Rattle.species_ast.specs.Marks.{all_true}
use Rattle.species_ast.specs.declared.tree.Expr.{Expr, fold-Expr}
use Rattle.species_ast.specs.declared.tree.Expr.TheOpen.{Expr-F}
use Rattle.species_ast.specs.declared.tree.Loop.{Loop, fold-Loop}
use Rattle.species_ast.specs.declared.tree.Stmt.{Stmt, out-Stmt, fold-Stmt}
use Rattle.species_ast.specs.declared.tree.Stmt.TheOpen.{Stmt-F, Loop-F}
use Rattle.species_ast.specs.declared.tree.Unit.{Unit}

abbrev pub expr_names : Unit → ℕ → Expr-F Bool → Bool
expr_names u levels (Expr-F.Literal v) = true
expr_names u levels (Expr-F.Iter level) = nat_lt level levels
expr_names u levels (Expr-F.Local n) = nat_lt n (length u.locals)
expr_names u levels (Expr-F.Elem array subs) = nat_lt array (length u.arrays) && all_true subs
expr_names u levels (Expr-F.Unary op a) = a
expr_names u levels (Expr-F.Binary op a b) = a && b
expr_names u levels (Expr-F.And a b) = a && b
expr_names u levels (Expr-F.Or a b) = a && b
expr_names u levels (Expr-F.Cond c a b) = c && (a && b)
expr_names u levels (Expr-F.Cast k a) = a

-- each array and local that the expression names is one of the unit, and each iterator has a level below this
abbrev pub has_names : Unit → ℕ → Expr → Bool
has_names u levels = fold-Expr Bool (expr_names u levels)

abbrev pub init_has_names : Unit → ℕ → Option Expr → Bool
init_has_names u levels None = true
init_has_names u levels (Some e) = has_names u levels e

abbrev pub element_has_names : Unit → ℕ → ℕ → List Expr → Expr → Bool
element_has_names u levels array subs value =
    nat_lt array (length u.arrays) && (list_all (has_names u levels) subs && has_names u levels value)

abbrev pub stmt_names : Unit → Stmt-F (ℕ → Bool) (ℕ → Bool) → ℕ → Bool
stmt_names u (Stmt-F.Assign place array subs value) levels = element_has_names u levels array subs value
stmt_names u (Stmt-F.AddTo place array subs value atomic) levels = element_has_names u levels array subs value
stmt_names u (Stmt-F.Declare place n init) levels = nat_lt n (length u.locals) && init_has_names u levels init
stmt_names u (Stmt-F.SetLocal place n value) levels = nat_lt n (length u.locals) && has_names u levels value
stmt_names u (Stmt-F.If place test body otherwise) levels =
    has_names u levels test && (list_all (λ s. s levels) body && list_all (λ s. s levels) otherwise)
stmt_names u (Stmt-F.For l) levels = l levels
stmt_names u (Stmt-F.Block body) levels = list_all (λ s. s levels) body

-- a loop is around its limit and its body
abbrev pub loop_names : Unit → Loop-F (ℕ → Bool) (ℕ → Bool) → ℕ → Bool
loop_names u l levels =
    has_names u levels l.start && (has_names u (levels + 1) l.limit && list_all (λ s. s (levels + 1)) l.body)

-- Under so many loops, the arrays and locals named in the statement are ones that the unit has, and each
-- iterator is that of a loop around the place where it is named.
abbrev pub IsNamed : Unit → ℕ → Stmt → Type 0
IsNamed u levels s = IsTrue (fold-Stmt (ℕ → Bool) (ℕ → Bool) (stmt_names u) (loop_names u) s levels)

abbrev pub IsNamedLoop : Unit → ℕ → Loop → Type 0
IsNamedLoop u levels l = IsTrue (fold-Loop (ℕ → Bool) (ℕ → Bool) (stmt_names u) (loop_names u) l levels)

abbrev pub head_test : Stmt-F Stmt Loop → Bool
head_test (Stmt-F.If place test body otherwise) = true
head_test (Stmt-F.For l) = true
head_test _ = false

-- the statement is an `if` or a loop
abbrev pub HasHead : Stmt → Type 0
HasHead s = IsTrue (head_test (out-Stmt s))
