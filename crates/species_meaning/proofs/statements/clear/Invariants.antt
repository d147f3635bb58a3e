use Rattle.std.proofs.Common.{◌≡◌, drop}
use Rattle.species_ast.specs.Run.{source_context, cleared}
use Rattle.species_meaning.specs.Effects.{locals_declared}
use Rattle.species_meaning.proofs.statements.clear.Given as goal

abbrev pub invariant-loop-s : goal.invariant-loop-s
invariant-loop-s l = cleared (locals_declared (source_context l.unit) l.all) l.initial.frame ≡ cleared (locals_declared (source_context l.unit) (drop l.s-index l.all)) l.frame
