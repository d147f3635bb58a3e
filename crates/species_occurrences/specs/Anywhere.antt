-- References without their positions.
use Rattle.std.specs.Prelude.{[]}
use Rattle.species_ast.specs.Scope.References.{Reference}

-- what the analysis sees of a reference: all but its statement and its number there
abbrev pub unplaced : Reference → Reference
unplaced r = record r { statement = []; number = 0 }
