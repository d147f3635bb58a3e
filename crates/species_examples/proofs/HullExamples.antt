-- Ranges of loops at the edges: far ends that move, empty loops, triangles, and the limits on ends and magnitudes.
use Rattle.std.proofs.Common.{◌≡◌, refl, [], ◌∷◌, Some, None, true, false, pos, negsuc}
use Rattle.std.specs.Prelude.{codes}
use Rattle.species_ast.specs.declared.tree.Binary.TheVariants.{Mul}
use Rattle.species_ast.specs.declared.tree.Test.{Test}
use Rattle.species_ast.specs.declared.tree.Test.TheVariants.{Lt, Le}
use Rattle.species_ast.specs.declared.tree.Mark.TheVariants.{Plain}
use Rattle.species_ast.specs.declared.tree.Expr.{Expr}
use Rattle.species_ast.specs.declared.tree.Expr.TheVariants as expr
use Rattle.species_ast.specs.declared.tree.Stmt.{Stmt}
use Rattle.species_ast.specs.declared.tree.Loop.{Loop}
use Rattle.species_ast.specs.declared.tree.Stmt.TheOpen.{Loop-F}
use Rattle.species_ast.specs.Scope.Hulls.{Range, fixed_range, range_between, passes_hull}
use Rattle.species_ast.specs.Scope.Forms.{constant_form, iterator_form}
use Rattle.species_ast.specs.Scope.Magnitudes.{passes_bound}
use Rattle.species_examples.proofs.ScopeParts.{int, folded}

-- from a constant to a constant: `for (i = 1; i <= 9; i += 3)` ends at 7, and `for (i = 9; i >= 1; i -= 5)` at 4
up_by_three : fixed_range (pos 3) (pos 1) (pos 9) ≡ record { low = pos 1; high = pos 7; step = pos 3; start = Some (pos 1); fixed = true }
up_by_three = refl

down_by_five : fixed_range (negsuc 4) (pos 9) (pos 1) ≡ record { low = pos 4; high = pos 9; step = negsuc 4; start = Some (pos 9); fixed = true }
down_by_five = refl

-- one value, and none: the far end of an empty range is not moved
one_value : fixed_range (pos 3) (pos 5) (pos 7) ≡ record { low = pos 5; high = pos 5; step = pos 3; start = Some (pos 5); fixed = true }
one_value = refl

no_value : fixed_range (pos 3) (pos 5) (pos 4) ≡ record { low = pos 5; high = pos 4; step = pos 3; start = Some (pos 5); fixed = true }
no_value = refl

-- a loop from 0 up to 9
abbrev ten : Range
ten = record { low = pos 0; high = pos 9; step = pos 1; start = Some (pos 0); fixed = true }

-- triangles inside of it: `for (j = i; j <= 9; j += 2)`, whose far end is not moved, and `for (j = 9; j >= i; j -= 2)`
from_iterator : range_between (ten ∷ []) (pos 2) (iterator_form 0) (constant_form (pos 9)) ≡
    record { low = pos 0; high = pos 9; step = pos 2; start = None; fixed = true }
from_iterator = refl

down_to_iterator : range_between (ten ∷ []) (negsuc 1) (constant_form (pos 9)) (iterator_form 0) ≡
    record { low = pos 0; high = pos 9; step = negsuc 1; start = Some (pos 9); fixed = false }
down_to_iterator = refl

-- an empty loop, and loops inside of it: a triangle has no values, and a loop between constants keeps its ends
abbrev none : Range
none = record { low = pos 5; high = pos 4; step = pos 1; start = Some (pos 5); fixed = true }

triangle_in_empty : range_between (none ∷ []) (pos 1) (iterator_form 0) (constant_form (pos 9)) ≡
    record { low = pos 1; high = pos 0; step = pos 1; start = None; fixed = true }
triangle_in_empty = refl

constants_in_empty : range_between (none ∷ []) (pos 2) (constant_form (pos 0)) (constant_form (pos 9)) ≡
    record { low = pos 0; high = pos 8; step = pos 2; start = Some (pos 0); fixed = true }
constants_in_empty = refl

-- ---- limits

-- `for (i = a; i test b; i++)`
abbrev header : Expr → Test → Expr → Loop-F Stmt Loop
header a test b = record { place = 0; iter = codes "i"; start = a; test = test; limit = b; step = pos 1; body = []; line = None; mark = Plain }

-- both ends may be 2 ^ 30; `i < 1073741825` ends there too
both_ends : passes_hull [] (header (int 1073741824) Le (int 1073741824)) ≡ false
both_ends = simp folded refl

one_below : passes_hull [] (header (int 1073741824) Lt (int 1073741825)) ≡ false
one_below = simp folded refl

one_past : passes_hull [] (header (int 1073741825) Le (int 1073741825)) ≡ true
one_past = simp folded refl

-- `j < 2147483647 * i` inside a loop of ten turns passes both limits, and neither limit on the hull speaks under an empty loop
abbrev steep : Loop-F Stmt Loop
steep = header (int 0) Lt (expr.Binary Mul (int 2147483647) (expr.Iter 0))

steep_hull : passes_hull (ten ∷ []) steep ≡ true
steep_hull = simp folded refl

steep_bound : passes_bound (ten ∷ []) steep ≡ true
steep_bound = simp folded refl

steep_in_empty : passes_hull (none ∷ []) steep ≡ false
steep_in_empty = refl

-- where the loop around it has at most one value, 1, the magnitude is that of the literal
steep_once : passes_bound (record { low = pos 0; high = pos 1; step = pos 1; start = Some (pos 0); fixed = true } ∷ []) steep ≡ false
steep_once = simp folded refl
