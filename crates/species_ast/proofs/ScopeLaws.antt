-- What each construct of the grammar becomes, from what its parts become.
use Rattle.std.proofs.Common.{◌≡◌, ◌∙◌, ap, sym, ℕ, List, [], map, Some, None}
use Rattle.species_ast.specs.Spelling.{Spelling}
use Rattle.species_ast.specs.Grammar.Expressions.{expression, target, place_of}
use Rattle.species_ast.specs.Grammar.Declarations.{statement}
use Rattle.species_ast.specs.declared.tree.Kind.{Kind}
use Rattle.species_ast.specs.declared.tree.Value.{Value}
use Rattle.species_ast.specs.declared.tree.Binary.{Binary}
use Rattle.species_ast.specs.declared.tree.Expr.TheVariants as expr
use Rattle.species_ast.specs.declared.raw.RawUnary.{RawUnary}
use Rattle.species_ast.specs.declared.raw.RawExpr.{RawExpr, fold-roll-RawExpr}
use Rattle.species_ast.specs.declared.raw.RawTerm.{RawTerm, roll-RawTerm, map-RawTerm, fold-RawTerm, fold-roll-RawTerm}
use Rattle.species_ast.specs.declared.raw.RawTarget.{RawTarget, fold-roll-RawTarget}
use Rattle.species_ast.specs.declared.raw.RawTerm.TheOpen.{RawTerm-F}
use Rattle.species_ast.specs.declared.raw.RawTerm.TheVariants as term
use Rattle.species_ast.specs.declared.raw.RawLocal.{RawLocal}
use Rattle.species_ast.specs.declared.raw.RawChange.{RawChange}
use Rattle.species_ast.specs.declared.raw.RawStmt.{RawStmt, fold-roll-RawStmt}
use Rattle.species_ast.specs.declared.raw.RawWhat.{RawWhat, roll-RawWhat, map-RawWhat, fold-RawWhat, fold-roll-RawWhat}
use Rattle.species_ast.specs.declared.raw.RawLoop.{RawLoop, roll-RawLoop, fold-RawLoop, fold-roll-RawLoop}
use Rattle.species_ast.specs.declared.raw.RawWhat.TheOpen.{RawWhat-F, RawLoop-F}
use Rattle.species_ast.specs.declared.raw.RawWhat.TheVariants as what
use Rattle.species_ast.specs.Scope.Meanings.{Scope, meaning_of}
use Rattle.species_ast.specs.Scope.Expressions.{ExprReading, ResolvedTarget, reading, target_in, taken, term_at, expr_at, target_at, one_part, two_parts, unary_expr, exprs_of, names_of}
use Rattle.species_ast.specs.Scope.Statements.{Walk, PlacedWalk, Parts, in_order, declarator, change_fragment, step_reading, loop_fragment, if_fragment, block_fragment, empty_fragment, atomic_fragment, what_at, loop_at, stmt_at, stmt_fragment}

-- ---- expressions

abbrev term_reading : Scope → RawTerm → ExprReading
term_reading s = fold-RawTerm ExprReading ExprReading ResolvedTarget (term_at s) expr_at (target_at s)

at_place : (p : ℕ) (t : RawTerm) (s : Scope) → reading (expression p t) s ≡ term_reading s t
at_place p t s = fold-roll-RawExpr ExprReading ExprReading ResolvedTarget (term_at s) expr_at (target_at s) (record { place = p; what = t })

rolled : (s : Scope) (f : RawTerm-F RawTerm RawExpr RawTarget) → term_reading s (roll-RawTerm f)
    ≡ term_at s (map-RawTerm RawTerm RawExpr RawTarget ExprReading ExprReading ResolvedTarget (term_reading s) (λ e. reading e s) (λ t. target_in t s) f)
rolled s f = fold-roll-RawTerm ExprReading ExprReading ResolvedTarget (term_at s) expr_at (target_at s) f

pub reading-Number : (p : ℕ) (v : Value) (s : Scope) → reading (expression p (term.Number v)) s ≡ record { expr = expr.Literal v; names = [] }
reading-Number p v s = at_place p (term.Number v) s ∙ ap (term_reading s) (sym (term.rolls-Number v)) ∙ rolled s (RawTerm-F.Number v)

pub reading-Target : (p : ℕ) (t : RawTarget) (s : Scope) → reading (expression p (term.Target t)) s ≡ taken s (target_in t s)
reading-Target p t s = at_place p (term.Target t) s ∙ ap (term_reading s) (sym (term.rolls-Target t)) ∙ rolled s (RawTerm-F.Target t)

pub reading-Paren : (p : ℕ) (a : RawExpr) (s : Scope) → reading (expression p (term.Paren a)) s ≡ reading a s
reading-Paren p a s = at_place p (term.Paren a) s ∙ ap (term_reading s) (sym (term.rolls-Paren a)) ∙ rolled s (RawTerm-F.Paren a)

pub reading-Unary : (p : ℕ) (op : RawUnary) (a : RawExpr) (s : Scope)
    → reading (expression p (term.Unary op a)) s ≡ one_part (unary_expr op) (reading a s)
reading-Unary p op a s = at_place p (term.Unary op a) s ∙ ap (term_reading s) (sym (term.rolls-Unary op a)) ∙ rolled s (RawTerm-F.Unary op a)

pub reading-Cast : (p : ℕ) (k : Kind) (a : RawExpr) (s : Scope) → reading (expression p (term.Cast k a)) s ≡ one_part (expr.Cast k) (reading a s)
reading-Cast p k a s = at_place p (term.Cast k a) s ∙ ap (term_reading s) (sym (term.rolls-Cast k a)) ∙ rolled s (RawTerm-F.Cast k a)

pub reading-Binary : (p : ℕ) (op : Binary) (a b : RawExpr) (s : Scope)
    → reading (expression p (term.Binary op a b)) s ≡ two_parts (expr.Binary op) (reading a s) (reading b s)
reading-Binary p op a b s =
    at_place p (term.Binary op a b) s ∙ ap (term_reading s) (sym (term.rolls-Binary op a b)) ∙ rolled s (RawTerm-F.Binary op a b)

pub reading-And : (p : ℕ) (a b : RawExpr) (s : Scope) → reading (expression p (term.And a b)) s ≡ two_parts expr.And (reading a s) (reading b s)
reading-And p a b s = at_place p (term.And a b) s ∙ ap (term_reading s) (sym (term.rolls-And a b)) ∙ rolled s (RawTerm-F.And a b)

pub reading-Or : (p : ℕ) (a b : RawExpr) (s : Scope) → reading (expression p (term.Or a b)) s ≡ two_parts expr.Or (reading a s) (reading b s)
reading-Or p a b s = at_place p (term.Or a b) s ∙ ap (term_reading s) (sym (term.rolls-Or a b)) ∙ rolled s (RawTerm-F.Or a b)

pub reading-Cond : (p : ℕ) (c a b : RawExpr) (s : Scope)
    → reading (expression p (term.Cond c a b)) s ≡ term_at s (RawTerm-F.Cond (reading c s) (reading a s) (reading b s))
reading-Cond p c a b s =
    at_place p (term.Cond c a b) s ∙ ap (term_reading s) (sym (term.rolls-Cond c a b)) ∙ rolled s (RawTerm-F.Cond c a b)

-- what these subscripts become
abbrev pub readings : List RawExpr → Scope → List ExprReading
readings es s = map (λ e. reading e s) es

-- a name and what its subscripts become
abbrev pub target_with : Spelling → List ExprReading → Scope → ResolvedTarget
target_with n subs s = record { name = n; means = meaning_of s n; subs = exprs_of subs; names = names_of subs }

pub target_in-target : (n : Spelling) (subs : List RawExpr) (s : Scope) → target_in (target n subs) s ≡ target_with n (readings subs s) s
target_in-target n subs s = fold-roll-RawTarget ExprReading ExprReading ResolvedTarget (term_at s) expr_at (target_at s) (record { name = n; subs = subs })

-- ---- statements

abbrev what_fragment : RawWhat → PlacedWalk
what_fragment = fold-RawWhat PlacedWalk PlacedWalk Walk what_at loop_at stmt_at

stands : (p : ℕ) (w : RawWhat) → stmt_fragment (statement p w) ≡ what_fragment w p
stands p w = fold-roll-RawStmt PlacedWalk PlacedWalk Walk what_at loop_at stmt_at (record { place = p; what = w })

abbrev loop_walk : RawLoop → PlacedWalk
loop_walk = fold-RawLoop PlacedWalk PlacedWalk Walk what_at loop_at stmt_at

rolled_what : (p : ℕ) (f : RawWhat-F RawWhat RawLoop RawStmt) → what_fragment (roll-RawWhat f) p
    ≡ what_at (map-RawWhat RawWhat RawLoop RawStmt PlacedWalk PlacedWalk Walk what_fragment loop_walk stmt_fragment f) p
rolled_what p f = ap (λ w. w p) (fold-roll-RawWhat PlacedWalk PlacedWalk Walk what_at loop_at stmt_at f)

pub stmt_fragment-Declare : (p : ℕ) (k : Kind) (locals : List RawLocal)
    → stmt_fragment (statement p (what.Declare k locals)) ≡ in_order (map (declarator k) locals)
stmt_fragment-Declare p k locals =
    stands p (what.Declare k locals) ∙ ap (λ w. what_fragment w p) (sym (what.rolls-Declare k locals)) ∙ rolled_what p (RawWhat-F.Declare k locals)

pub stmt_fragment-Block : (p : ℕ) (body : List RawStmt) → stmt_fragment (statement p (what.Block body)) ≡ block_fragment (map stmt_fragment body)
stmt_fragment-Block p body =
    stands p (what.Block body) ∙ ap (λ w. what_fragment w p) (sym (what.rolls-Block body)) ∙ rolled_what p (RawWhat-F.Block body)

pub stmt_fragment-Empty : (p : ℕ) → stmt_fragment (statement p what.Empty) ≡ empty_fragment
stmt_fragment-Empty p = stands p what.Empty ∙ ap (λ w. what_fragment w p) (sym what.rolls-Empty) ∙ rolled_what p RawWhat-F.Empty

pub stmt_fragment-If : (p : ℕ) (test : RawExpr) (body : RawStmt)
    → stmt_fragment (statement p (what.If test body None)) ≡ if_fragment p (reading test) (stmt_fragment body) None
stmt_fragment-If p test body =
    stands p (what.If test body None) ∙ ap (λ w. what_fragment w p) (sym (what.rolls-If test body None)) ∙ rolled_what p (RawWhat-F.If test body None)

pub stmt_fragment-IfElse : (p : ℕ) (test : RawExpr) (body otherwise : RawStmt)
    → stmt_fragment (statement p (what.If test body (Some otherwise))) ≡ if_fragment p (reading test) (stmt_fragment body) (Some (stmt_fragment otherwise))
stmt_fragment-IfElse p test body otherwise =
    stands p (what.If test body (Some otherwise))
    ∙ ap (λ w. what_fragment w p) (sym (what.rolls-If test body (Some otherwise)))
    ∙ rolled_what p (RawWhat-F.If test body (Some otherwise))

pub stmt_fragment-Change : (p : ℕ) (c : RawChange) → stmt_fragment (statement p (what.Change c)) ≡ change_fragment p c
stmt_fragment-Change p c =
    stands p (what.Change c) ∙ ap (λ w. what_fragment w p) (sym (what.rolls-Change c)) ∙ rolled_what p (RawWhat-F.Change c)

pub stmt_fragment-Atomic : (p : ℕ) (t : RawTarget) (e : RawExpr)
    → stmt_fragment (statement p (what.Atomic t e)) ≡ atomic_fragment p (target_in t) (reading e)
stmt_fragment-Atomic p t e =
    stands p (what.Atomic t e) ∙ ap (λ w. what_fragment w p) (sym (what.rolls-Atomic t e)) ∙ rolled_what p (RawWhat-F.Atomic t e)

-- a loop's parts, each as what it becomes
abbrev pub parts_in : RawLoop-F RawWhat RawLoop RawStmt → Parts
parts_in l = record {
  line = l.line;
  parallel = l.parallel;
  typed = l.typed;
  iter = l.iter;
  start = reading l.start;
  start_place = place_of l.start;
  tested = l.tested;
  test = l.test;
  limit = reading l.limit;
  limit_place = place_of l.limit;
  step = step_reading l.step;
  body = stmt_fragment l.body;
}

pub stmt_fragment-Loop : (p : ℕ) (l : RawLoop-F RawWhat RawLoop RawStmt)
    → stmt_fragment (statement p (what.Loop (roll-RawLoop l))) ≡ loop_fragment (parts_in l) p
stmt_fragment-Loop p l =
    stands p (what.Loop (roll-RawLoop l))
    ∙ ap (λ w. what_fragment w p) (sym (what.rolls-Loop (roll-RawLoop l)))
    ∙ rolled_what p (RawWhat-F.Loop (roll-RawLoop l))
    ∙ ap (λ w. w p) (fold-roll-RawLoop PlacedWalk PlacedWalk Walk what_at loop_at stmt_at l)
