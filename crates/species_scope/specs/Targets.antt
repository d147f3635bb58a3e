-- Targets that are set, without their names.
use Rattle.std.specs.Prelude.{List, [], Option, option_map}
use Rattle.species_ast.specs.declared.tree.Expr.{Expr}
use Rattle.species_ast.specs.Scope.Meanings.{Meaning}
use Rattle.species_ast.specs.Scope.Expressions.{ResolvedTarget}
use Rattle.species_scope.specs.declared.changes.Target as code
use Rattle.species_names.specs.Seen.{seen}

-- what a change asks of a target: what it means, and its subscripts
abbrev pub resolved : Option Meaning → List Expr → ResolvedTarget
resolved means subs = record { name = record { text = []; place = 0 }; means = means; subs = subs; names = [] }

abbrev pub bare : ResolvedTarget → ResolvedTarget
bare t = resolved t.means t.subs

abbrev pub target_seen : code.Target → ResolvedTarget
target_seen t = resolved (option_map seen t.means) t.subs
