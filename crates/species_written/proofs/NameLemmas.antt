-- The names that are noted in an expression are no more than its tokens.
use Rattle.std.proofs.Common.{◌≡◌, ◌∙◌, ap, sym, subst, ℕ, suc, ◌+◌, ◌≤◌, List, [], ◌∷◌, ◌++◌, length, arith, length-append}
use Rattle.species_ast.specs.Token.{Token}
use Rattle.species_ast.specs.declared.tree.Expr.TheVariants as expr
use Rattle.species_ast.specs.declared.raw.RawExpr.{RawExpr}
use Rattle.species_ast.specs.declared.raw.RawTarget.{RawTarget}
use Rattle.species_ast.specs.declared.raw.RawTerm.TheOpen.{RawTerm-F}
use Rattle.species_ast.specs.Grammar.Words.{sign, punctuator}
use Rattle.species_ast.specs.Grammar.Expressions.{Expression, Subscripts, Target, Operation, operation, operation_sign, expression, place_of, target}
use Rattle.species_ast.specs.Scope.Meanings.{Scope}
use Rattle.species_ast.specs.Scope.Expressions.{ExprReading, ResolvedTarget, reading, target_in, names_of, taken, one_part, two_parts, unary_expr, term_at}
use Rattle.species_ast.proofs.ScopeLaws.{reading-Number, reading-Target, reading-Paren, reading-Unary, reading-Cast, reading-Binary, reading-And, reading-Or, reading-Cond, readings, target_with, target_in-target}

-- the names noted in the expression are no more than so many
abbrev pub Fits : Scope → RawExpr → ℕ → Type 0
Fits s x n = length (reading x s).names ≤ n

read_as : (s : Scope) (x : RawExpr) (n : ℕ) (r : ExprReading) → reading x s ≡ r → length r.names ≤ n → Fits s x n
read_as s x n r is h = subst (λ (z : ExprReading). length z.names ≤ n) (sym is) h

operated : (s : Scope) (o : Operation) (p : ℕ) (x y : RawExpr) (n : ℕ) → length ((reading x s).names ++ (reading y s).names) ≤ n
    → Fits s (expression p (operation o x y)) n
operated s (Operation.strict o) p x y n h = read_as s _ n (two_parts (expr.Binary o) (reading x s) (reading y s)) (reading-Binary p o x y s) h
operated s Operation.logical_and p x y n h = read_as s _ n (two_parts expr.And (reading x s) (reading y s)) (reading-And p x y s) h
operated s Operation.logical_or p x y n h = read_as s _ n (two_parts expr.Or (reading x s) (reading y s)) (reading-Or p x y s) h

-- lists that are no longer than others, one behind another
joined : {X : Type 0} (a b : List X) (m n : ℕ) → length a ≤ m → length b ≤ n → length (a ++ b) ≤ m + n
joined a b m n h k = omega (arith, h, k, length-append a b)

mutual
  pub expr_fits : (s : Scope) (n : ℕ) (x : RawExpr) (ts : List Token) → Expression n x ts → Fits s x (length ts)
  expr_fits s n x ts (Expression.conditional p q c y z cs ys zs dc dy dz) =
      let a = expr_fits s _ c cs dc in
      let b = expr_fits s _ y ys dy in
      let d = expr_fits s _ z zs dz in
      let e = joined (reading y s).names (reading z s).names (length ys) (length zs) b d in
      let f = joined (reading c s).names ((reading y s).names ++ (reading z s).names) (length cs) (length ys + length zs) a e in
      let behind = ys ++ (punctuator q ":" ∷ zs) in
      read_as s _ (length (cs ++ (punctuator p "?" ∷ behind))) (term_at s (RawTerm-F.Cond (reading c s) (reading y s) (reading z s))) (reading-Cond (place_of c) c y z s) (omega (arith, f, length-append cs (punctuator p "?" ∷ behind), length-append ys (punctuator q ":" ∷ zs)))
  expr_fits s n x ts (Expression.binary_operation p o y z ys zs dy dz) =
      let a = expr_fits s _ y ys dy in
      let b = expr_fits s _ z zs dz in
      let e = joined (reading y s).names (reading z s).names (length ys) (length zs) a b in
      operated s o (place_of y) y z (length (ys ++ (sign p (operation_sign o) ∷ zs))) (omega (arith, e, length-append ys (sign p (operation_sign o) ∷ zs)))
  expr_fits s n x ts (Expression.unary_operation p o y ys d) =
      let a = expr_fits s _ y ys d in
      read_as s _ (suc (length ys)) (one_part (unary_expr o) (reading y s)) (reading-Unary p o y s) (omega (arith, a))
  expr_fits s n x ts (Expression.cast p q r k y ks ys t d) =
      let a = expr_fits s _ y ys d in
      read_as s _ (suc (length ((ks ++ punctuator r ")" ∷ []) ++ ys))) (one_part (expr.Cast k) (reading y s)) (reading-Cast p k y s) (omega (arith, a, length-append (ks ++ punctuator r ")" ∷ []) ys))
  expr_fits s n x ts (Expression.constant m v) = read_as s _ 1 (record { expr = expr.Literal v; names = [] }) (reading-Number m.place v s) (omega arith)
  expr_fits s n x ts (Expression.element m subs us d) =
      let a = subs_fit s subs us d in
      read_as s _ (suc (length us)) (taken s (target_with m (readings subs s) s)) (reading-Target m.place (target m subs) s ∙ ap (taken s) (target_in-target m subs s)) (omega (arith, a))
  expr_fits s n x ts (Expression.paren p q y ys d) =
      let a = expr_fits s _ y ys d in
      read_as s _ (suc (length (ys ++ punctuator q ")" ∷ []))) (reading y s) (reading-Paren p y s) (omega (arith, a, length-append ys (punctuator q ")" ∷ [])))
  expr_fits s n x ts (Expression.higher m y ys d) = expr_fits s _ y ys d

  pub subs_fit : (s : Scope) (subs : List RawExpr) (ts : List Token) → Subscripts subs ts → length (names_of (readings subs s)) ≤ length ts
  subs_fit s subs ts Subscripts.none = omega arith
  subs_fit s subs ts (Subscripts.more p q x more xs us d e) =
      let a = expr_fits s _ x xs d in
      let b = subs_fit s more us e in
      let c = joined (reading x s).names (names_of (readings more s)) (length xs) (length us) a b in
      omega (arith, c, length-append (xs ++ punctuator q "]" ∷ []) us, length-append xs (punctuator q "]" ∷ []))

-- a target: its own name, and those in its subscripts
pub target_fits : (s : Scope) (t : RawTarget) (ts : List Token) → Target t ts → suc (length (target_in t s).names) ≤ length ts
target_fits s t ts (Target.element n subs us d) =
    let a = subs_fit s subs us d in
    let e : length (target_in (target n subs) s).names ≡ length (names_of (readings subs s)) = ap (λ (z : ResolvedTarget). length z.names) (target_in-target n subs s) in
    omega (arith, a, e)
