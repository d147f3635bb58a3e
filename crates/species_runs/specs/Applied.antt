-- What accesses do to the arrays.
use Rattle.std.specs.Prelude.{List, [], ◌∷◌}
use Rattle.species_ast.specs.declared.tree.Value.{Value}
use Rattle.species_ast.specs.Accesses.{Joins, Cells, Element, changed, Direction, Reads, Writes, Adds, Access}

abbrev pub applied_as : Joins → Direction → Element → Value → Cells → Cells
applied_as join Reads e v m = m
applied_as join Writes e v m = changed m e (λ c. v)
applied_as join Adds e v m = changed m e (λ c. join e.array c v)

-- the arrays after an access
abbrev pub applied : Joins → Access → Cells → Cells
applied join a m = applied_as join a.direction a.element a.value m

-- the arrays after these accesses in order
abbrev pub all_applied : Joins → List Access → Cells → Cells
all_applied join [] m = m
all_applied join (a ∷ rest) m = all_applied join rest (applied join a m)
