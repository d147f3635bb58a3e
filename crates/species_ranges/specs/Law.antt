-- Each loop of a well made unit fits where it stands.
use Rattle.std.specs.Prelude.{◌≡◌, true, List, [], All}
use Rattle.species_ast.specs.declared.tree.Unit.{Unit as Program}
use Rattle.species_ast.specs.Scope.Loops.{PlacedLoop, placed_loops, outermost_loops}
use Rattle.species_ast.specs.Scope.WellMade.{IsWellMade}
use Rattle.species_ranges.specs.Fitting.{fits_in_loop}

-- the loop fits in the loops around it
abbrev pub FitsThere : PlacedLoop → Type 0
FitsThere l = fits_in_loop l.head l.stands.around.path ≡ true

abbrev pub LoopsFit : Type 0
LoopsFit = (u : Program) → IsWellMade u → All FitsThere (placed_loops u)

-- So do those that stand in no other, in none.
abbrev pub OutermostLoopsFit : Type 0
OutermostLoopsFit = (u : Program) → IsWellMade u → All (λ l. fits_in_loop l [] ≡ true) (outermost_loops u)
