use Rattle.std.proofs.Common.{◌≡◌, ◌++◌, ◌+◌, ℕ, List, drop, take}
use Rattle.species_ast.specs.Scope.Loops.{Standing}
use Rattle.species_annotate.specs.Annotated.{Around, BecomeAll, names_in}
use Rattle.species_annotate.specs.Loops.{Head, heads_in_list}
use Rattle.species_annotate.proofs.unit.+annotate.Given as goal

abbrev pub invariant-annotate_list-loop-statement : goal.invariant-annotate_list-loop-statement
invariant-annotate_list-loop-statement l = record {
  unit : l.loops.unit ≡ l.initial.loops.unit;
  names : l.names ≡ l.initial.names;
  left : (s : Standing) (k : ℕ) (rest : List Head) → l.initial.loops.left ≡ heads_in_list l.statements s k ++ rest → l.loops.left ≡ heads_in_list (drop l.statement-index l.statements) s (k + l.statement-index) ++ rest;
  becomes : (w : Around) (s : Standing) (k : ℕ) (rest : List Head) → s.around.path ≡ w.path → l.initial.names ≡ names_in l.initial.loops.unit w.iters
      → l.initial.loops.left ≡ heads_in_list l.statements s k ++ rest → BecomeAll l.initial.loops.unit w (take l.statement-index l.statements) l.lined;
}
