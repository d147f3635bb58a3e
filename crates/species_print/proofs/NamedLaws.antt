-- When a loop and a statement have the names that they need, by their parts.
use Rattle.std.proofs.Common.{◌≡◌, ◌∙◌, ap, refl, ℕ, ◌+◌, Bool, true, List, [], ◌∷◌, map, ◌&&◌}
use Rattle.std.proofs.Common.{sym, subst, arith, zero, suc, ◌<◌, ◌++◌, length, slice_index_or}
use Rattle.std.specs.Prelude.{All}
use Rattle.std.specs.List.{list_all}
use Rattle.species_print.specs.Named.{IsNamed, IsNamedLoop, HasHead, head_test}
use Rattle.species_ast.specs.declared.tree.Expr.TheVariants as expr
use Rattle.species_ast.specs.declared.tree.Loop.{Loop, out-Loop, fold-Loop}
use Rattle.species_ast.specs.declared.tree.Stmt.{Stmt, fold-Stmt}
use Rattle.species_ast.specs.declared.tree.Stmt.TheVariants as stmt
use Rattle.species_ast.specs.declared.tree.Unit.{Unit}
use Rattle.species_ast.specs.declared.tree.Value.{Value}
use Rattle.species_ast.proofs.Folds.{fold_expr-Literal, fold_stmt-For, fold_loop-out}
use Rattle.species_print.specs.Named.{expr_names, has_names, stmt_names, loop_names}

abbrev named : Unit → Stmt → ℕ → Bool
named u = fold-Stmt (ℕ → Bool) (ℕ → Bool) (stmt_names u) (loop_names u)

abbrev named_in : Unit → Loop → ℕ → Bool
named_in u = fold-Loop (ℕ → Bool) (ℕ → Bool) (stmt_names u) (loop_names u)

list_all-map : {X Y : Type 0} (p : Y → Bool) (f : X → Y) (xs : List X) → list_all p (map f xs) ≡ list_all (λ x. p (f x)) xs
list_all-map p f [] = refl
list_all-map p f (x ∷ xs) = ap (λ b. p (f x) && b) (list_all-map p f xs)

pub names-Literal : (u : Unit) (levels : ℕ) (v : Value) → has_names u levels (expr.Literal v) ≡ true
names-Literal u levels v = fold_expr-Literal (expr_names u levels) v

pub names-loop : (u : Unit) (levels : ℕ) (l : Loop) →
    named_in u l levels ≡
    (has_names u levels (out-Loop l).start && (has_names u (levels + 1) (out-Loop l).limit && list_all (λ s. named u s (levels + 1)) (out-Loop l).body))
names-loop u levels l =
    ap (λ f. f levels) (fold_loop-out (stmt_names u) (loop_names u) l) ∙
    ap (λ b. has_names u levels (out-Loop l).start && (has_names u (levels + 1) (out-Loop l).limit && b))
    (list_all-map (λ s. s (levels + 1)) (named u) (out-Loop l).body)

pub names-For : (u : Unit) (levels : ℕ) (l : Loop) → named u (stmt.For l) levels ≡ named_in u l levels
names-For u levels l = ap (λ f. f levels) (fold_stmt-For (stmt_names u) (loop_names u) l)

-- a list of one loop
pub one_named : (u : Unit) (l : Loop) (all : List Stmt) → all ≡ [] ++ stmt.For l ∷ [] → IsNamedLoop u 0 l → All (IsNamed u 0) all × All HasHead all
one_named u l all is h = subst (λ x. All (IsNamed u 0) x × All HasHead x) (sym is) (
  (λ k d lt. first (λ s. IsNamed u 0 s) k d lt (names-For u 0 l ∙ h)),
  (λ k d lt. first HasHead k d lt (ap head_test (stmt.outs-For l))),
)
  where
    first : (P : Stmt → Type 0) (k : ℕ) (d : Stmt) → k < 1 → P (stmt.For l) → P (slice_index_or (stmt.For l ∷ []) k d)
    first P zero d lt p = p
    first P (suc k) d lt p = absurd (omega (arith, lt))

pub named_item : (P : Stmt → Type 0) (all : List Stmt) (k : ℕ) (s : Stmt) → All P all → s ≡ slice_index_or all k s → k < length all → P s
named_item P all k s h is lt = subst P (sym is) (h k s lt)
