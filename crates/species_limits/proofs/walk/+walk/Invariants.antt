use Rattle.std.proofs.Common.{◌≡◌, ℕ, map, take}
use Rattle.species_ast.specs.Scope.Loops.{Standing, list_loops, loops_in}
use Rattle.species_limits.specs.Found.{found_of}
use Rattle.species_limits.specs.Standings.{StandsAt}
use Rattle.species_limits.proofs.walk.+walk.Given as goal

abbrev pub invariant-walk_all-loop-stmt : goal.invariant-walk_all-loop-stmt
invariant-walk_all-loop-stmt l = record {
  same : l.path ≡ l.initial.path;
  found : (s : Standing) (k : ℕ) → StandsAt l.at l.initial.path s → l.limits ≡ found_of l.initial.limits (list_loops (map loops_in (take l.stmt-index l.all)) s k);
}
