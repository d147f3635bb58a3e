-- What an expression becomes in the scope where it stands, and the names in it.
use Rattle.std.specs.Prelude.{List, [], ◌∷◌, ◌++◌, map, flat_map, length, pos, Option, Some, None}
use Rattle.species_ast.specs.Spelling.{Spelling}
use Rattle.species_ast.specs.declared.tree.Value.TheVariants.{Int}
use Rattle.species_ast.specs.declared.tree.Unary.TheVariants as unary
use Rattle.species_ast.specs.declared.tree.Expr.{Expr}
use Rattle.species_ast.specs.declared.tree.Expr.TheVariants as expr
use Rattle.species_ast.specs.declared.raw.RawUnary.{RawUnary}
use Rattle.species_ast.specs.declared.raw.RawUnary.TheVariants as raw_unary
use Rattle.species_ast.specs.declared.raw.RawExpr.{RawExpr, fold-RawExpr}
use Rattle.species_ast.specs.declared.raw.RawTarget.{RawTarget, fold-RawTarget}
use Rattle.species_ast.specs.declared.raw.RawTerm.TheOpen.{RawTerm-F, RawExpr-F, RawTarget-F}
use Rattle.species_ast.specs.Scope.Meanings.{Meaning, Scope, meaning_of, local_number, Taken, Occurrence, occurrence}

-- an expression of a unit, and the names that stand in it
pub record ExprReading : Type 0 where
  pub expr : Expr
  pub names : List Occurrence

-- a name with subscripts: what it means, the subscripts, and the names that stand in them
pub record ResolvedTarget : Type 0 where
  pub name : Spelling
  pub means : Option Meaning
  pub subs : List Expr
  pub names : List Occurrence

abbrev pub exprs_of : List ExprReading → List Expr
exprs_of rs = map (λ r. r.expr) rs

abbrev pub names_of : List ExprReading → List Occurrence
names_of rs = flat_map (λ r. r.names) rs

-- what stands for a name without a meaning, which no lawful program has
abbrev pub nothing : Expr
nothing = expr.Literal (Int (pos 0))

-- the value of a target: an element of an array, a local, or the iterator of a loop by its level
abbrev pub value_of : Scope → ResolvedTarget → Expr
value_of s t = elim t.means [
  | Some m ↦ elim m [
    | Meaning.Array a n ↦ expr.Elem a t.subs
    | Meaning.Variable x ↦ expr.Local (local_number s x.serial)
    | Meaning.Iterator level ↦ expr.Iter level
    | Meaning.Function ↦ nothing
  ]
  | None ↦ nothing
]

-- a target whose value is taken
abbrev pub taken : Scope → ResolvedTarget → ExprReading
taken s t = record { expr = value_of s t; names = occurrence (Taken (length t.subs)) s t.name ∷ t.names }

-- unary `+` leaves nothing behind
abbrev pub unary_expr : RawUnary → Expr → Expr
unary_expr raw_unary.Neg e = expr.Unary unary.Neg e
unary_expr raw_unary.Plus e = e
unary_expr raw_unary.Not e = expr.Unary unary.Not e
unary_expr raw_unary.LogNot e = expr.Unary unary.LogNot e

abbrev pub one_part : (Expr → Expr) → ExprReading → ExprReading
one_part make a = record { expr = make a.expr; names = a.names }

abbrev pub two_parts : (Expr → Expr → Expr) → ExprReading → ExprReading → ExprReading
two_parts make a b = record { expr = make a.expr b.expr; names = a.names ++ b.names }

abbrev pub term_at : Scope → RawTerm-F ExprReading ExprReading ResolvedTarget → ExprReading
term_at s (RawTerm-F.Number v) = record { expr = expr.Literal v; names = [] }
term_at s (RawTerm-F.Target t) = taken s t
term_at s (RawTerm-F.Paren a) = a
term_at s (RawTerm-F.Unary op a) = one_part (unary_expr op) a
term_at s (RawTerm-F.Cast k a) = one_part (expr.Cast k) a
term_at s (RawTerm-F.Binary op a b) = two_parts (expr.Binary op) a b
term_at s (RawTerm-F.And a b) = two_parts expr.And a b
term_at s (RawTerm-F.Or a b) = two_parts expr.Or a b
term_at s (RawTerm-F.Cond c a b) = record { expr = expr.Cond c.expr a.expr b.expr; names = c.names ++ (a.names ++ b.names) }

abbrev pub expr_at : RawExpr-F ExprReading ExprReading ResolvedTarget → ExprReading
expr_at e = e.what

abbrev pub target_at : Scope → RawTarget-F ExprReading ExprReading ResolvedTarget → ResolvedTarget
target_at s t = record { name = t.name; means = meaning_of s t.name; subs = exprs_of t.subs; names = names_of t.subs }

-- What an expression becomes in a scope, and the names in it.
abbrev pub reading : RawExpr → Scope → ExprReading
reading e s = fold-RawExpr ExprReading ExprReading ResolvedTarget (term_at s) expr_at (target_at s) e

-- What a target means in a scope, and the names in its subscripts.
abbrev pub target_in : RawTarget → Scope → ResolvedTarget
target_in t s = fold-RawTarget ExprReading ExprReading ResolvedTarget (term_at s) expr_at (target_at s) t
