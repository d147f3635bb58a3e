-- Loops whose ranges can be found: each keeps the limit on hulls, and at most 16 stand one in the other.
use Rattle.std.specs.Prelude.{Bool, true, ◌&&◌, not, nat_lt, List, [], ◌∷◌, ◌++◌, map, length}
use Rattle.species_ast.specs.declared.tree.Stmt.{Stmt, fold-Stmt}
use Rattle.species_ast.specs.declared.tree.Loop.{Loop, fold-Loop}
use Rattle.species_ast.specs.declared.tree.Stmt.TheOpen.{Stmt-F, Loop-F}
use Rattle.species_ast.specs.Scope.Hulls.{Range, range_of, passes_hull}

-- of what stands in loops with these ranges
abbrev pub Fitting : Type 0
Fitting = List Range → Bool

abbrev pub list_fits : List Fitting → Fitting
list_fits [] path = true
list_fits (x ∷ xs) path = x path && list_fits xs path

abbrev pub fits_at : Stmt-F Fitting Fitting → Fitting
fits_at (Stmt-F.If place test body otherwise) path = list_fits body path && list_fits otherwise path
fits_at (Stmt-F.For l) path = l path
fits_at (Stmt-F.Block body) path = list_fits body path
fits_at s path = true

abbrev pub fits_within : Loop-F Fitting Fitting → Fitting
fits_within l path = nat_lt (length path) 16 && (not (passes_hull path l) && list_fits l.body (path ++ range_of path l ∷ []))

abbrev pub fits_in : Stmt → Fitting
fits_in = fold-Stmt Fitting Fitting fits_at fits_within

abbrev pub fits_in_list : List Stmt → Fitting
fits_in_list xs = list_fits (map fits_in xs)

abbrev pub fits_in_loop : Loop → Fitting
fits_in_loop = fold-Loop Fitting Fitting fits_at fits_within
