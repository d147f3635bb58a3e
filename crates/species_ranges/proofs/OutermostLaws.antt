-- The loops of a statement that stand in no other of its loops, at each kind of statement.
use Rattle.std.proofs.Common.{◌≡◌, refl, ap, ◌∙◌, subst, arith, ℕ, zero, suc, List, [], ◌∷◌, ◌++◌, map}
use Rattle.std.specs.List.{Contains, flat_map}
use Rattle.species_ast.specs.declared.tree.Expr.{Expr}
use Rattle.species_ast.specs.declared.tree.Loop.{Loop}
use Rattle.species_ast.specs.declared.tree.Stmt.{Stmt}
use Rattle.species_ast.specs.declared.tree.Stmt.TheVariants as stmt
use Rattle.species_ast.specs.Scope.Loops.{outermost_at, outermost_in}
use Rattle.species_ast.proofs.Induction.{Each}
use Rattle.species_ast.proofs.Paras.{beside, para_stmt-If, para_stmt-For, para_stmt-Block}

flat_seconds : {X Y : Type 0} (f : X → List Y) (xs : List X) → flat_map (λ p. p.1) (map (beside f) xs) ≡ flat_map f xs
flat_seconds f [] = refl
flat_seconds f (x ∷ xs) = ap (λ l. f x ++ l) (flat_seconds f xs)

pub outermost-If : (place : ℕ) (test : Expr) (body otherwise : List Stmt) → outermost_in (stmt.If place test body otherwise) ≡ flat_map outermost_in body ++ flat_map outermost_in otherwise
outermost-If place test body otherwise =
    para_stmt-If outermost_at (λ l. []) place test body otherwise ∙ (λ i. flat_seconds outermost_in body i ++ flat_seconds outermost_in otherwise i)

pub outermost-For : (l : Loop) → outermost_in (stmt.For l) ≡ l ∷ []
outermost-For l = para_stmt-For outermost_at (λ l. []) l

pub outermost-Block : (body : List Stmt) → outermost_in (stmt.Block body) ≡ flat_map outermost_in body
outermost-Block body = para_stmt-Block outermost_at (λ l. []) body ∙ flat_seconds outermost_in body

-- what holds of each holds of one of them
pub each_contains : {X : Type 0} (P : X → Type 0) (xs : List X) → Each P xs → (x : X) → Contains xs x → P x
each_contains P [] h x c = let below = c.1 in absurd (omega (arith, below))
each_contains P (y ∷ xs) h x (zero, below, is) = subst P is h.0
each_contains P (y ∷ xs) h x (suc k, below, is) = each_contains P xs h.1 x (k, omega (arith, below), is)
