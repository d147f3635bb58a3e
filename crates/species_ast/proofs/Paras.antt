-- What a recursion that has each part itself beside its result gives, at each variant of an expression and a statement.
use Rattle.std.proofs.Common.{◌≡◌, ◌∙◌, ap, sym, refl, ℕ, List, [], ◌∷◌, Bool, Option, map}
use Rattle.species_ast.specs.declared.tree.Binary.{Binary}
use Rattle.species_ast.specs.declared.tree.Expr.{Expr, para-Expr, para-roll-Expr}
use Rattle.species_ast.specs.declared.tree.Expr.TheOpen.{Expr-F}
use Rattle.species_ast.specs.declared.tree.Expr.TheVariants as expr
use Rattle.species_ast.specs.declared.tree.Kind.{Kind}
use Rattle.species_ast.specs.declared.tree.Loop.{Loop, roll-Loop, para-Loop, para-roll-Loop, map-Loop}
use Rattle.species_ast.specs.declared.tree.Stmt.{Stmt, para-Stmt, para-roll-Stmt}
use Rattle.species_ast.specs.declared.tree.Stmt.TheOpen.{Stmt-F, Loop-F}
use Rattle.species_ast.specs.declared.tree.Stmt.TheVariants as stmt
use Rattle.species_ast.specs.declared.tree.Unary.{Unary}
use Rattle.species_ast.specs.declared.tree.Value.{Value}

-- a value beside what a function gives of it, and the second parts of such pairs
abbrev pub beside : {X Y : Type 0} → (X → Y) → X → X × Y
beside f x = (x, f x)

pub firsts : {X Y Z : Type 0} (g : X → Z) (f : X → Y) (xs : List X) → map (λ p. g p.0) (map (beside f) xs) ≡ map g xs
firsts g f [] = refl
firsts g f (x ∷ xs) = ap (λ r. g x ∷ r) (firsts g f xs)

pub seconds : {X Y : Type 0} (f : X → Y) (xs : List X) → map (λ p. p.1) (map (beside f) xs) ≡ map f xs
seconds f [] = refl
seconds f (x ∷ xs) = ap (λ r. f x ∷ r) (seconds f xs)

pub para_expr-Literal : {X : Type 0} (step : Expr-F (Expr × X) → X) (v : Value) → para-Expr X step (expr.Literal v) ≡ step (Expr-F.Literal v)
para_expr-Literal {X} step v = ap (para-Expr X step) (sym (expr.rolls-Literal v)) ∙ para-roll-Expr X step (Expr-F.Literal v)

pub para_expr-Iter : {X : Type 0} (step : Expr-F (Expr × X) → X) (level : ℕ) → para-Expr X step (expr.Iter level) ≡ step (Expr-F.Iter level)
para_expr-Iter {X} step level = ap (para-Expr X step) (sym (expr.rolls-Iter level)) ∙ para-roll-Expr X step (Expr-F.Iter level)

pub para_expr-Local : {X : Type 0} (step : Expr-F (Expr × X) → X) (n : ℕ) → para-Expr X step (expr.Local n) ≡ step (Expr-F.Local n)
para_expr-Local {X} step n = ap (para-Expr X step) (sym (expr.rolls-Local n)) ∙ para-roll-Expr X step (Expr-F.Local n)

pub para_expr-Elem : {X : Type 0} (step : Expr-F (Expr × X) → X) (array : ℕ) (subs : List Expr) →
    para-Expr X step (expr.Elem array subs) ≡ step (Expr-F.Elem array (map (beside (para-Expr X step)) subs))
para_expr-Elem {X} step array subs = ap (para-Expr X step) (sym (expr.rolls-Elem array subs)) ∙ para-roll-Expr X step (Expr-F.Elem array subs)

pub para_expr-Unary : {X : Type 0} (step : Expr-F (Expr × X) → X) (op : Unary) (a : Expr) →
    para-Expr X step (expr.Unary op a) ≡ step (Expr-F.Unary op (beside (para-Expr X step) a))
para_expr-Unary {X} step op a = ap (para-Expr X step) (sym (expr.rolls-Unary op a)) ∙ para-roll-Expr X step (Expr-F.Unary op a)

pub para_expr-Binary : {X : Type 0} (step : Expr-F (Expr × X) → X) (op : Binary) (a b : Expr) →
    para-Expr X step (expr.Binary op a b) ≡ step (Expr-F.Binary op (beside (para-Expr X step) a) (beside (para-Expr X step) b))
para_expr-Binary {X} step op a b = ap (para-Expr X step) (sym (expr.rolls-Binary op a b)) ∙ para-roll-Expr X step (Expr-F.Binary op a b)

pub para_expr-And : {X : Type 0} (step : Expr-F (Expr × X) → X) (a b : Expr) →
    para-Expr X step (expr.And a b) ≡ step (Expr-F.And (beside (para-Expr X step) a) (beside (para-Expr X step) b))
para_expr-And {X} step a b = ap (para-Expr X step) (sym (expr.rolls-And a b)) ∙ para-roll-Expr X step (Expr-F.And a b)

pub para_expr-Or : {X : Type 0} (step : Expr-F (Expr × X) → X) (a b : Expr) →
    para-Expr X step (expr.Or a b) ≡ step (Expr-F.Or (beside (para-Expr X step) a) (beside (para-Expr X step) b))
para_expr-Or {X} step a b = ap (para-Expr X step) (sym (expr.rolls-Or a b)) ∙ para-roll-Expr X step (Expr-F.Or a b)

pub para_expr-Cond : {X : Type 0} (step : Expr-F (Expr × X) → X) (c a b : Expr) → para-Expr X step (expr.Cond c a b) ≡
    step (Expr-F.Cond (beside (para-Expr X step) c) (beside (para-Expr X step) a) (beside (para-Expr X step) b))
para_expr-Cond {X} step c a b = ap (para-Expr X step) (sym (expr.rolls-Cond c a b)) ∙ para-roll-Expr X step (Expr-F.Cond c a b)

pub para_expr-Cast : {X : Type 0} (step : Expr-F (Expr × X) → X) (kind : Kind) (a : Expr) →
    para-Expr X step (expr.Cast kind a) ≡ step (Expr-F.Cast kind (beside (para-Expr X step) a))
para_expr-Cast {X} step kind a = ap (para-Expr X step) (sym (expr.rolls-Cast kind a)) ∙ para-roll-Expr X step (Expr-F.Cast kind a)

-- Statements: `step` is the step at a statement, `at` the step at a loop.

pub para_stmt-Assign : {X Y : Type 0} (step : Stmt-F (Stmt × X) (Loop × Y) → X) (at : Loop-F (Stmt × X) (Loop × Y) → Y) (place array : ℕ) (subs : List Expr) (value : Expr) →
    para-Stmt X Y step at (stmt.Assign place array subs value) ≡ step (Stmt-F.Assign place array subs value)
para_stmt-Assign {X} {Y} step at place array subs value =
    ap (para-Stmt X Y step at) (sym (stmt.rolls-Assign place array subs value)) ∙ para-roll-Stmt X Y step at (Stmt-F.Assign place array subs value)

pub para_stmt-AddTo : {X Y : Type 0} (step : Stmt-F (Stmt × X) (Loop × Y) → X) (at : Loop-F (Stmt × X) (Loop × Y) → Y) (place array : ℕ) (subs : List Expr) (value : Expr) (atomic : Bool) →
    para-Stmt X Y step at (stmt.AddTo place array subs value atomic) ≡ step (Stmt-F.AddTo place array subs value atomic)
para_stmt-AddTo {X} {Y} step at place array subs value atomic =
    ap (para-Stmt X Y step at) (sym (stmt.rolls-AddTo place array subs value atomic)) ∙
    para-roll-Stmt X Y step at (Stmt-F.AddTo place array subs value atomic)

pub para_stmt-Declare : {X Y : Type 0} (step : Stmt-F (Stmt × X) (Loop × Y) → X) (at : Loop-F (Stmt × X) (Loop × Y) → Y) (place n : ℕ) (init : Option Expr) →
    para-Stmt X Y step at (stmt.Declare place n init) ≡ step (Stmt-F.Declare place n init)
para_stmt-Declare {X} {Y} step at place n init =
    ap (para-Stmt X Y step at) (sym (stmt.rolls-Declare place n init)) ∙ para-roll-Stmt X Y step at (Stmt-F.Declare place n init)

pub para_stmt-SetLocal : {X Y : Type 0} (step : Stmt-F (Stmt × X) (Loop × Y) → X) (at : Loop-F (Stmt × X) (Loop × Y) → Y) (place n : ℕ) (value : Expr) →
    para-Stmt X Y step at (stmt.SetLocal place n value) ≡ step (Stmt-F.SetLocal place n value)
para_stmt-SetLocal {X} {Y} step at place n value =
    ap (para-Stmt X Y step at) (sym (stmt.rolls-SetLocal place n value)) ∙ para-roll-Stmt X Y step at (Stmt-F.SetLocal place n value)

pub para_stmt-If : {X Y : Type 0} (step : Stmt-F (Stmt × X) (Loop × Y) → X) (at : Loop-F (Stmt × X) (Loop × Y) → Y) (place : ℕ) (test : Expr) (body otherwise : List Stmt) →
    para-Stmt X Y step at (stmt.If place test body otherwise) ≡
    step (Stmt-F.If place test (map (beside (para-Stmt X Y step at)) body) (map (beside (para-Stmt X Y step at)) otherwise))
para_stmt-If {X} {Y} step at place test body otherwise =
    ap (para-Stmt X Y step at) (sym (stmt.rolls-If place test body otherwise)) ∙
    para-roll-Stmt X Y step at (Stmt-F.If place test body otherwise)

pub para_stmt-For : {X Y : Type 0} (step : Stmt-F (Stmt × X) (Loop × Y) → X) (at : Loop-F (Stmt × X) (Loop × Y) → Y) (l : Loop) →
    para-Stmt X Y step at (stmt.For l) ≡ step (Stmt-F.For (beside (para-Loop X Y step at) l))
para_stmt-For {X} {Y} step at l = ap (para-Stmt X Y step at) (sym (stmt.rolls-For l)) ∙ para-roll-Stmt X Y step at (Stmt-F.For l)

pub para_stmt-Block : {X Y : Type 0} (step : Stmt-F (Stmt × X) (Loop × Y) → X) (at : Loop-F (Stmt × X) (Loop × Y) → Y) (body : List Stmt) →
    para-Stmt X Y step at (stmt.Block body) ≡ step (Stmt-F.Block (map (beside (para-Stmt X Y step at)) body))
para_stmt-Block {X} {Y} step at body =
    ap (para-Stmt X Y step at) (sym (stmt.rolls-Block body)) ∙ para-roll-Stmt X Y step at (Stmt-F.Block body)

-- at a loop that is given by its layer
pub para_loop : {X Y : Type 0} (step : Stmt-F (Stmt × X) (Loop × Y) → X) (at : Loop-F (Stmt × X) (Loop × Y) → Y) (l : Loop-F Stmt Loop) →
    para-Loop X Y step at (roll-Loop l) ≡ at (map-Loop Stmt Loop (Stmt × X) (Loop × Y) (beside (para-Stmt X Y step at)) (beside (para-Loop X Y step at)) l)
para_loop {X} {Y} step at l = para-roll-Loop X Y step at l
