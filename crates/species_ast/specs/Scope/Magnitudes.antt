-- How large the parts of a bound may get, so that none overflows.
use Rattle.std.specs.Prelude.{ℕ, ◌+◌, ◌*◌, max, Bool, ◌||◌, nat_lt, List, unsigned_abs, option_map, unwrap_or, slice_get}
use Rattle.species_ast.specs.declared.tree.Unary.TheVariants.{Neg}
use Rattle.species_ast.specs.declared.tree.Binary.TheVariants.{Mul, Add, Sub}
use Rattle.species_ast.specs.declared.tree.Expr.{Expr, fold-Expr}
use Rattle.species_ast.specs.declared.tree.Expr.TheOpen.{Expr-F}
use Rattle.species_ast.specs.declared.tree.Stmt.TheOpen.{Loop-F}
use Rattle.species_ast.specs.Operators.{number_of}
use Rattle.species_ast.specs.Scope.Hulls.{Range}

-- The magnitude of an expression, and the greatest of those of its parts and its own.
pub record Magnitude : Type 0 where
  pub size : ℕ
  pub greatest : ℕ

abbrev pub single : ℕ → Magnitude
single n = record { size = n; greatest = n }

abbrev pub joined : ℕ → Magnitude → Magnitude → Magnitude
joined n a b = record { size = n; greatest = max n (max a.greatest b.greatest) }

-- the greatest size of an end of an iterator's range
abbrev pub iterator_size : List Range → ℕ → ℕ
iterator_size path level = unwrap_or (option_map (λ r. max (unsigned_abs r.low) (unsigned_abs r.high)) (slice_get path level)) 0

-- of an affine expression; others, which are no bounds, count as 0
abbrev pub magnitude_at : List Range → Expr-F Magnitude → Magnitude
magnitude_at path (Expr-F.Literal v) = single (unsigned_abs (number_of v))
magnitude_at path (Expr-F.Iter level) = single (iterator_size path level)
magnitude_at path (Expr-F.Unary Neg a) = a
magnitude_at path (Expr-F.Binary Add a b) = joined (a.size + b.size) a b
magnitude_at path (Expr-F.Binary Sub a b) = joined (a.size + b.size) a b
magnitude_at path (Expr-F.Binary Mul a b) = joined (a.size * b.size) a b
magnitude_at path e = single 0

abbrev pub magnitude : List Range → Expr → Magnitude
magnitude path = fold-Expr Magnitude (magnitude_at path)

abbrev pub most_magnitude : ℕ
most_magnitude = 2147483647

-- LimitPassed(Bound): a part of a bound of a loop in loops with these ranges has a greater magnitude
abbrev pub passes_bound : {X Y : Type 0} → List Range → Loop-F X Y → Bool
passes_bound path l =
    nat_lt most_magnitude (magnitude path l.start).greatest || nat_lt most_magnitude (magnitude path l.limit).greatest
