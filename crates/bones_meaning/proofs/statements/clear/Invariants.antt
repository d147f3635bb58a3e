use Rattle.std.proofs.Common.{◌≡◌, drop}
use Rattle.species_ast.specs.Run.{cleared}
use Rattle.bones_meaning.specs.Walked.{context, locals_declared}
use Rattle.bones_meaning.proofs.statements.clear.Given as goal

abbrev pub invariant-loop-s : goal.invariant-loop-s
invariant-loop-s l = cleared (locals_declared (context l._unit l._whole) l.all) l.initial.frame ≡ cleared (locals_declared (context l._unit l._whole) (drop l.s-index l.all)) l.frame
