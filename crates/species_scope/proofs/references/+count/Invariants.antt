-- The references before a place in a list of statements.
use Rattle.std.proofs.Common.{◌≡◌, ◌+◌, ℕ, true, map, take, length}
use Rattle.species_ast.specs.Scope.Loops.{Nesting}
use Rattle.species_ast.specs.Scope.References.{Where, no_adds, stmt_references, list_references}
use Rattle.species_ast.specs.Scope.WellMade.{made, list_keeps}
use Rattle.species_scope.specs.Referenced.{Reached}
use Rattle.species_scope.proofs.references.+count.Given as goal

abbrev pub invariant-count_list-loop-stmt : goal.invariant-count_list-loop-stmt
invariant-count_list-loop-stmt l = record {
  same : l.path ≡ l.initial.path;
  found : (n : Nesting) (g : Where) (k : ℕ) → Reached l.initial.path n g → list_keeps (map made (take l.stmt-index l.all)) n ≡ true
      → l.count.references ≡ l.initial.count.references + length (list_references (map (stmt_references no_adds) (take l.stmt-index l.all)) g k 0);
}
