-- The ranges of the loops in a statement.
use Rattle.std.specs.Prelude.{List, [], ◌∷◌, ◌++◌, map}
use Rattle.species_ast.specs.declared.tree.Stmt.{Stmt, fold-Stmt}
use Rattle.species_ast.specs.declared.tree.Loop.{Loop, fold-Loop}
use Rattle.species_ast.specs.declared.tree.Stmt.TheOpen.{Stmt-F, Loop-F}
use Rattle.species_ast.specs.Scope.Hulls.{Range, range_of}
use Rattle.species_linear.specs.declared.loops.LoopRange.{LoopRange}

-- a range as the analysis holds it
abbrev pub range_seen : LoopRange → Range
range_seen r = record { low = r.low; high = r.high; step = r.step; start = r.start; fixed = r.fixed }

abbrev pub ranges_seen : List LoopRange → List Range
ranges_seen rs = map range_seen rs

-- of what stands in loops with these ranges
abbrev pub Ranging : Type 0
Ranging = List Range → List Range

abbrev pub list_ranges : List Ranging → Ranging
list_ranges [] path = []
list_ranges (x ∷ xs) path = x path ++ list_ranges xs path

abbrev pub ranges_at : Stmt-F Ranging Ranging → Ranging
ranges_at (Stmt-F.If place test body otherwise) path = list_ranges body path ++ list_ranges otherwise path
ranges_at (Stmt-F.For l) path = l path
ranges_at (Stmt-F.Block body) path = list_ranges body path
ranges_at s path = []

-- a loop before those in it
abbrev pub ranges_within : Loop-F Ranging Ranging → Ranging
ranges_within l path = range_of path l ∷ list_ranges l.body (path ++ range_of path l ∷ [])

-- The ranges of all loops in a statement, in the order of the text.
abbrev pub ranges_in : Stmt → Ranging
ranges_in = fold-Stmt Ranging Ranging ranges_at ranges_within

abbrev pub ranges_in_list : List Stmt → Ranging
ranges_in_list xs = list_ranges (map ranges_in xs)

-- The ranges of a loop and of all loops in it.
abbrev pub ranges_in_loop : Loop → Ranging
ranges_in_loop = fold-Loop Ranging Ranging ranges_at ranges_within
