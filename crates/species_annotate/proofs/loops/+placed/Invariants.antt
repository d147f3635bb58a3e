use Rattle.std.proofs.Common.{◌≡◌, ◌++◌, ℕ, true, take}
use Rattle.species_ast.specs.Scope.Loops.{Standing}
use Rattle.species_ranges.specs.Fitting.{fits_in_list}
use Rattle.species_annotate.specs.Loops.{heads_in_list}
use Rattle.species_annotate.proofs.loops.+placed.Given as goal

abbrev pub invariant-add_list-loop-statement : goal.invariant-add_list-loop-statement
invariant-add_list-loop-statement l = record {
  same : l.path ≡ l.initial.path;
  found : fits_in_list l.statements l.initial.path ≡ true → (s : Standing) (k : ℕ) → s.around.path ≡ l.initial.path → l.found.items ≡ l.initial.found.items ++ heads_in_list (take l.statement-index l.statements) s k;
}
