-- The ranges that the analysis holds, as the definitions have them.
use Rattle.std.specs.Prelude.{List, map}
use Rattle.species_ast.specs.Scope.Hulls.{Range}
use Rattle.species_linear.specs.declared.loops.LoopRange.{LoopRange}

abbrev pub range_seen : LoopRange → Range
range_seen r = record { low = r.low; high = r.high; step = r.step; start = r.start; fixed = r.fixed }

abbrev pub ranges_seen : List LoopRange → List Range
ranges_seen path = map range_seen path
