-- What a fold gives at each variant of an expression and a statement, for every fold at once.
use Rattle.std.proofs.Common.{◌≡◌, ◌∙◌, ap, sym, ℕ, List, Bool, Option, map}
use Rattle.species_ast.specs.declared.tree.Binary.{Binary}
use Rattle.species_ast.specs.declared.tree.Expr.{Expr, fold-Expr, fold-roll-Expr}
use Rattle.species_ast.specs.declared.tree.Expr.TheOpen.{Expr-F}
use Rattle.species_ast.specs.declared.tree.Expr.TheVariants as expr
use Rattle.species_ast.specs.declared.tree.Kind.{Kind}
use Rattle.species_ast.specs.declared.tree.Loop.{Loop, roll-Loop, fold-Loop, fold-roll-Loop, map-Loop, out-Loop, fold_out-Loop}
use Rattle.species_ast.specs.declared.tree.Stmt.{Stmt, fold-Stmt, fold-roll-Stmt}
use Rattle.species_ast.specs.declared.tree.Stmt.TheOpen.{Stmt-F, Loop-F}
use Rattle.species_ast.specs.declared.tree.Stmt.TheVariants as stmt
use Rattle.species_ast.specs.declared.tree.Unary.{Unary}
use Rattle.species_ast.specs.declared.tree.Value.{Value}

pub fold_expr-Literal : {X : Type 0} (step : Expr-F X → X) (v : Value) → fold-Expr X step (expr.Literal v) ≡ step (Expr-F.Literal v)
fold_expr-Literal {X} step v = ap (fold-Expr X step) (sym (expr.rolls-Literal v)) ∙ fold-roll-Expr X step (Expr-F.Literal v)

pub fold_expr-Iter : {X : Type 0} (step : Expr-F X → X) (level : ℕ) → fold-Expr X step (expr.Iter level) ≡ step (Expr-F.Iter level)
fold_expr-Iter {X} step level = ap (fold-Expr X step) (sym (expr.rolls-Iter level)) ∙ fold-roll-Expr X step (Expr-F.Iter level)

pub fold_expr-Local : {X : Type 0} (step : Expr-F X → X) (n : ℕ) → fold-Expr X step (expr.Local n) ≡ step (Expr-F.Local n)
fold_expr-Local {X} step n = ap (fold-Expr X step) (sym (expr.rolls-Local n)) ∙ fold-roll-Expr X step (Expr-F.Local n)

pub fold_expr-Elem : {X : Type 0} (step : Expr-F X → X) (array : ℕ) (subs : List Expr) →
    fold-Expr X step (expr.Elem array subs) ≡ step (Expr-F.Elem array (map (fold-Expr X step) subs))
fold_expr-Elem {X} step array subs = ap (fold-Expr X step) (sym (expr.rolls-Elem array subs)) ∙ fold-roll-Expr X step (Expr-F.Elem array subs)

pub fold_expr-Unary : {X : Type 0} (step : Expr-F X → X) (op : Unary) (a : Expr) →
    fold-Expr X step (expr.Unary op a) ≡ step (Expr-F.Unary op (fold-Expr X step a))
fold_expr-Unary {X} step op a = ap (fold-Expr X step) (sym (expr.rolls-Unary op a)) ∙ fold-roll-Expr X step (Expr-F.Unary op a)

pub fold_expr-Binary : {X : Type 0} (step : Expr-F X → X) (op : Binary) (a b : Expr) →
    fold-Expr X step (expr.Binary op a b) ≡ step (Expr-F.Binary op (fold-Expr X step a) (fold-Expr X step b))
fold_expr-Binary {X} step op a b = ap (fold-Expr X step) (sym (expr.rolls-Binary op a b)) ∙ fold-roll-Expr X step (Expr-F.Binary op a b)

pub fold_expr-And : {X : Type 0} (step : Expr-F X → X) (a b : Expr) →
    fold-Expr X step (expr.And a b) ≡ step (Expr-F.And (fold-Expr X step a) (fold-Expr X step b))
fold_expr-And {X} step a b = ap (fold-Expr X step) (sym (expr.rolls-And a b)) ∙ fold-roll-Expr X step (Expr-F.And a b)

pub fold_expr-Or : {X : Type 0} (step : Expr-F X → X) (a b : Expr) →
    fold-Expr X step (expr.Or a b) ≡ step (Expr-F.Or (fold-Expr X step a) (fold-Expr X step b))
fold_expr-Or {X} step a b = ap (fold-Expr X step) (sym (expr.rolls-Or a b)) ∙ fold-roll-Expr X step (Expr-F.Or a b)

pub fold_expr-Cond : {X : Type 0} (step : Expr-F X → X) (c a b : Expr) →
    fold-Expr X step (expr.Cond c a b) ≡ step (Expr-F.Cond (fold-Expr X step c) (fold-Expr X step a) (fold-Expr X step b))
fold_expr-Cond {X} step c a b = ap (fold-Expr X step) (sym (expr.rolls-Cond c a b)) ∙ fold-roll-Expr X step (Expr-F.Cond c a b)

pub fold_expr-Cast : {X : Type 0} (step : Expr-F X → X) (kind : Kind) (a : Expr) →
    fold-Expr X step (expr.Cast kind a) ≡ step (Expr-F.Cast kind (fold-Expr X step a))
fold_expr-Cast {X} step kind a = ap (fold-Expr X step) (sym (expr.rolls-Cast kind a)) ∙ fold-roll-Expr X step (Expr-F.Cast kind a)

-- Statements: `step` is the fold's step at a statement, `at` its step at a loop.

pub fold_stmt-Assign : {X Y : Type 0} (step : Stmt-F X Y → X) (at : Loop-F X Y → Y) (place array : ℕ) (subs : List Expr) (value : Expr) →
    fold-Stmt X Y step at (stmt.Assign place array subs value) ≡ step (Stmt-F.Assign place array subs value)
fold_stmt-Assign {X} {Y} step at place array subs value =
    ap (fold-Stmt X Y step at) (sym (stmt.rolls-Assign place array subs value)) ∙ fold-roll-Stmt X Y step at (Stmt-F.Assign place array subs value)

pub fold_stmt-AddTo : {X Y : Type 0} (step : Stmt-F X Y → X) (at : Loop-F X Y → Y) (place array : ℕ) (subs : List Expr) (value : Expr) (atomic : Bool) →
    fold-Stmt X Y step at (stmt.AddTo place array subs value atomic) ≡ step (Stmt-F.AddTo place array subs value atomic)
fold_stmt-AddTo {X} {Y} step at place array subs value atomic =
    ap (fold-Stmt X Y step at) (sym (stmt.rolls-AddTo place array subs value atomic)) ∙
    fold-roll-Stmt X Y step at (Stmt-F.AddTo place array subs value atomic)

pub fold_stmt-Declare : {X Y : Type 0} (step : Stmt-F X Y → X) (at : Loop-F X Y → Y) (place n : ℕ) (init : Option Expr) →
    fold-Stmt X Y step at (stmt.Declare place n init) ≡ step (Stmt-F.Declare place n init)
fold_stmt-Declare {X} {Y} step at place n init =
    ap (fold-Stmt X Y step at) (sym (stmt.rolls-Declare place n init)) ∙ fold-roll-Stmt X Y step at (Stmt-F.Declare place n init)

pub fold_stmt-SetLocal : {X Y : Type 0} (step : Stmt-F X Y → X) (at : Loop-F X Y → Y) (place n : ℕ) (value : Expr) →
    fold-Stmt X Y step at (stmt.SetLocal place n value) ≡ step (Stmt-F.SetLocal place n value)
fold_stmt-SetLocal {X} {Y} step at place n value =
    ap (fold-Stmt X Y step at) (sym (stmt.rolls-SetLocal place n value)) ∙ fold-roll-Stmt X Y step at (Stmt-F.SetLocal place n value)

pub fold_stmt-If : {X Y : Type 0} (step : Stmt-F X Y → X) (at : Loop-F X Y → Y) (place : ℕ) (test : Expr) (body otherwise : List Stmt) →
    fold-Stmt X Y step at (stmt.If place test body otherwise) ≡
    step (Stmt-F.If place test (map (fold-Stmt X Y step at) body) (map (fold-Stmt X Y step at) otherwise))
fold_stmt-If {X} {Y} step at place test body otherwise =
    ap (fold-Stmt X Y step at) (sym (stmt.rolls-If place test body otherwise)) ∙
    fold-roll-Stmt X Y step at (Stmt-F.If place test body otherwise)

pub fold_stmt-For : {X Y : Type 0} (step : Stmt-F X Y → X) (at : Loop-F X Y → Y) (l : Loop) →
    fold-Stmt X Y step at (stmt.For l) ≡ step (Stmt-F.For (fold-Loop X Y step at l))
fold_stmt-For {X} {Y} step at l = ap (fold-Stmt X Y step at) (sym (stmt.rolls-For l)) ∙ fold-roll-Stmt X Y step at (Stmt-F.For l)

pub fold_stmt-Block : {X Y : Type 0} (step : Stmt-F X Y → X) (at : Loop-F X Y → Y) (body : List Stmt) →
    fold-Stmt X Y step at (stmt.Block body) ≡ step (Stmt-F.Block (map (fold-Stmt X Y step at) body))
fold_stmt-Block {X} {Y} step at body =
    ap (fold-Stmt X Y step at) (sym (stmt.rolls-Block body)) ∙ fold-roll-Stmt X Y step at (Stmt-F.Block body)

-- a loop's layer, with what the fold gives at the statements of its body
abbrev pub folded_layer : {X Y : Type 0} → (Stmt-F X Y → X) → (Loop-F X Y → Y) → Loop-F Stmt Loop → Loop-F X Y
folded_layer {X} {Y} step at = map-Loop Stmt Loop X Y (fold-Stmt X Y step at) (fold-Loop X Y step at)

-- at a loop that is given by its layer
pub fold_loop : {X Y : Type 0} (step : Stmt-F X Y → X) (at : Loop-F X Y → Y) (l : Loop-F Stmt Loop) →
    fold-Loop X Y step at (roll-Loop l) ≡ at (folded_layer step at l)
fold_loop {X} {Y} step at l = fold-roll-Loop X Y step at l

-- at a loop, by the layer that it shows
pub fold_loop-out : {X Y : Type 0} (step : Stmt-F X Y → X) (at : Loop-F X Y → Y) (l : Loop) →
    fold-Loop X Y step at l ≡ at (folded_layer step at (out-Loop l))
fold_loop-out {X} {Y} step at l = fold_out-Loop X Y step at l
