-- Induction over expressions and statements, whose children may stand in lists.
use Rattle.std.proofs.Common.{◌≡◌, sym, refl, subst, ℕ, List, [], ◌∷◌, Bool, Option, map}
use Rattle.species_ast.specs.declared.tree.Binary.{Binary}
use Rattle.species_ast.specs.declared.tree.Expr.{Expr, roll-Expr, ind-Expr, map-Expr}
use Rattle.species_ast.specs.declared.tree.Expr.TheOpen.{Expr-F}
use Rattle.species_ast.specs.declared.tree.Expr.TheVariants as expr
use Rattle.species_ast.specs.declared.tree.Kind.{Kind}
use Rattle.species_ast.specs.declared.tree.Loop.{Loop, roll-Loop}
use Rattle.species_ast.specs.declared.tree.Stmt.{Stmt, roll-Stmt, ind-Stmt, map-Stmt}
use Rattle.species_ast.specs.declared.tree.Stmt.TheOpen.{Stmt-F, Loop-F}
use Rattle.species_ast.specs.declared.tree.Stmt.TheVariants as stmt
use Rattle.species_ast.specs.declared.tree.Unary.{Unary}
use Rattle.species_ast.specs.declared.tree.Value.{Value}

-- P holds of each element
abbrev pub Each : {X : Type 0} → (X → Type 0) → List X → Type 0
Each P [] = Unit {0}
Each P (x ∷ xs) = P x × Each P xs

-- a value of which P is known
abbrev Known : {X : Type 0} → (X → Type 0) → Type 0
Known {X} P = (x : X) × P x

each_of : {X : Type 0} (P : X → Type 0) (ks : List (Known P)) → Each P (map (λ k. k.0) ks)
each_of P [] = tt
each_of P (k ∷ ks) = (k.1, each_of P ks)

-- what an induction over expressions has to show: P at each variant, given P at its children
pub record ExprCases (P : Expr → Type 0) : Type 0 where
  pub literal : (v : Value) → P (expr.Literal v)
  pub iter : (level : ℕ) → P (expr.Iter level)
  pub local : (n : ℕ) → P (expr.Local n)
  pub elem : (array : ℕ) (subs : List Expr) → Each P subs → P (expr.Elem array subs)
  pub unary : (op : Unary) (a : Expr) → P a → P (expr.Unary op a)
  pub binary : (op : Binary) (a b : Expr) → P a → P b → P (expr.Binary op a b)
  pub both : (a b : Expr) → P a → P b → P (expr.And a b)
  pub either : (a b : Expr) → P a → P b → P (expr.Or a b)
  pub cond : (c a b : Expr) → P c → P a → P b → P (expr.Cond c a b)
  pub cast : (kind : Kind) (a : Expr) → P a → P (expr.Cast kind a)

pub expr_ind : (P : Expr → Type 0) → ExprCases P → (x : Expr) → P x
expr_ind P cases = ind-Expr P (λ x y h. subst (λ z. P (roll-Expr z)) h (go y))
  where
    go : (y : Expr-F (Known P)) → P (roll-Expr (map-Expr (Known P) Expr (λ k. k.0) y))
    go (Expr-F.Literal v) = subst P (sym (expr.rolls-Literal v)) (cases.literal v)
    go (Expr-F.Iter n) = subst P (sym (expr.rolls-Iter n)) (cases.iter n)
    go (Expr-F.Local n) = subst P (sym (expr.rolls-Local n)) (cases.local n)
    go (Expr-F.Elem a subs) =
        subst P (sym (expr.rolls-Elem a (map (λ k. k.0) subs))) (cases.elem a (map (λ k. k.0) subs) (each_of P subs))
    go (Expr-F.Unary o a) = subst P (sym (expr.rolls-Unary o a.0)) (cases.unary o a.0 a.1)
    go (Expr-F.Binary o a b) = subst P (sym (expr.rolls-Binary o a.0 b.0)) (cases.binary o a.0 b.0 a.1 b.1)
    go (Expr-F.And a b) = subst P (sym (expr.rolls-And a.0 b.0)) (cases.both a.0 b.0 a.1 b.1)
    go (Expr-F.Or a b) = subst P (sym (expr.rolls-Or a.0 b.0)) (cases.either a.0 b.0 a.1 b.1)
    go (Expr-F.Cond c a b) = subst P (sym (expr.rolls-Cond c.0 a.0 b.0)) (cases.cond c.0 a.0 b.0 c.1 a.1 b.1)
    go (Expr-F.Cast k a) = subst P (sym (expr.rolls-Cast k a.0)) (cases.cast k a.0 a.1)

-- what an induction over statements has to show: P at each variant, given P at the statements in it;
-- a loop is given by its layer, whose body is a list of statements
pub record StmtCases (P : Stmt → Type 0) : Type 0 where
  pub assign : (place array : ℕ) (subs : List Expr) (value : Expr) → P (stmt.Assign place array subs value)
  pub add_to : (place array : ℕ) (subs : List Expr) (value : Expr) (atomic : Bool) → P (stmt.AddTo place array subs value atomic)
  pub declare : (place n : ℕ) (init : Option Expr) → P (stmt.Declare place n init)
  pub set_local : (place n : ℕ) (value : Expr) → P (stmt.SetLocal place n value)
  pub choice : (place : ℕ) (test : Expr) (body otherwise : List Stmt) → Each P body → Each P otherwise → P (stmt.If place test body otherwise)
  pub loop : (l : Loop-F Stmt Loop) → Each P l.body → P (stmt.For (roll-Loop l))
  pub block : (body : List Stmt) → Each P body → P (stmt.Block body)

-- what is known of a loop: the layer that it is rolled of, with P at its body
abbrev LoopKnown : (Stmt → Type 0) → Loop → Type 0
LoopKnown P l = (f : Loop-F Stmt Loop) × (roll-Loop f ≡ l) × Each P f.body

pub stmt_ind : (P : Stmt → Type 0) → StmtCases P → (x : Stmt) → P x
stmt_ind P cases =
    ind-Stmt P (LoopKnown P) (λ x y h. subst (λ z. P (roll-Stmt z)) h (go y))
    (λ x y h. (x, refl, subst (λ z. Each P z.body) h (each_of P y.body)))
  where
    go : (y : Stmt-F (Known P) (Known (LoopKnown P))) →
        P (roll-Stmt (map-Stmt (Known P) (Known (LoopKnown P)) Stmt Loop (λ k. k.0) (λ k. k.0) y))
    go (Stmt-F.Assign place array subs value) = subst P (sym (stmt.rolls-Assign place array subs value)) (cases.assign place array subs value)
    go (Stmt-F.AddTo place array subs value atomic) =
        subst P (sym (stmt.rolls-AddTo place array subs value atomic)) (cases.add_to place array subs value atomic)
    go (Stmt-F.Declare place n init) = subst P (sym (stmt.rolls-Declare place n init)) (cases.declare place n init)
    go (Stmt-F.SetLocal place n value) = subst P (sym (stmt.rolls-SetLocal place n value)) (cases.set_local place n value)
    go (Stmt-F.If place test body otherwise) =
        subst P (sym (stmt.rolls-If place test (map (λ k. k.0) body) (map (λ k. k.0) otherwise)))
        (cases.choice place test (map (λ k. k.0) body) (map (λ k. k.0) otherwise) (each_of P body) (each_of P otherwise))
    go (Stmt-F.For l) = subst P (sym (stmt.rolls-For l.0)) (subst (λ z. P (stmt.For z)) l.1.1 (cases.loop l.1.0 l.1.2))
    go (Stmt-F.Block body) = subst P (sym (stmt.rolls-Block (map (λ k. k.0) body))) (cases.block (map (λ k. k.0) body) (each_of P body))

-- each element of a list, where P holds of every value
pub each_all : {X : Type 0} (P : X → Type 0) → ((x : X) → P x) → (xs : List X) → Each P xs
each_all P h [] = tt
each_all P h (x ∷ xs) = (h x, each_all P h xs)

-- two functions that agree on each element map the list alike
pub map-each : {X Y : Type 0} (f g : X → Y) (xs : List X) → Each (λ x. f x ≡ g x) xs → map f xs ≡ map g xs
map-each f g [] h = refl
map-each f g (x ∷ xs) h = rw (h.0, map-each f g xs h.1) refl
