use Rattle.std.proofs.Common.{◌≡◌, ℕ, map, take}
use Rattle.std.specs.Prelude.{min, IsTrue}
use Rattle.species_ast.specs.Scope.Loops.{Nesting}
use Rattle.species_ast.specs.Scope.WellMade.{made, list_keeps}
use Rattle.species_loops.specs.Weights.{weight_in_list, most_weight, IsAround}
use Rattle.species_loops.proofs.weigh.+weigh.Given as goal

abbrev pub invariant-weigh_all-loop-stmt : goal.invariant-weigh_all-loop-stmt
invariant-weigh_all-loop-stmt l = record {
  same : l.path ≡ l.initial.path;
  value : (n : Nesting) → IsAround l.initial.path n → IsTrue (list_keeps (map made l.all) n) → l.total ≡ min (weight_in_list (take l.stmt-index l.all) l.initial.path) most_weight;
}
