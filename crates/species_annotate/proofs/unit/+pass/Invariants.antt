use Rattle.std.proofs.Common.{◌≡◌, ◌++◌, ◌+◌, ℕ, List, drop}
use Rattle.species_ast.specs.Scope.Loops.{Standing}
use Rattle.species_annotate.specs.Loops.{Head, heads_in_list}
use Rattle.species_annotate.proofs.unit.+pass.Given as goal

abbrev pub invariant-pass_list-loop-statement : goal.invariant-pass_list-loop-statement
invariant-pass_list-loop-statement l = record {
  unit : l.loops.unit ≡ l.initial.loops.unit;
  left : (s : Standing) (k : ℕ) (rest : List Head) → l.initial.loops.left ≡ heads_in_list l.statements s k ++ rest → l.loops.left ≡ heads_in_list (drop l.statement-index l.statements) s (k + l.statement-index) ++ rest;
}
