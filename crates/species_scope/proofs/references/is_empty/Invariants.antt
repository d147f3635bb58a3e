-- No range before a place is empty.
use Rattle.std.proofs.Common.{◌≡◌, drop}
use Rattle.species_ast.specs.Scope.Hulls.{has_empty}
use Rattle.species_loops.specs.Ranges.{ranges_seen}
use Rattle.species_scope.proofs.references.is_empty.Given as goal

abbrev pub invariant-loop-range : goal.invariant-loop-range
invariant-loop-range l = has_empty (ranges_seen (drop l.range-index l.path)) ≡ has_empty (ranges_seen l.path)
