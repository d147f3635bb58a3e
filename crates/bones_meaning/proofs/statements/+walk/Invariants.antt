use Rattle.std.proofs.Common.{◌≡◌, drop, length}
use Rattle.species_ast.specs.declared.tree.Loop.{out-Loop}
use Rattle.species_ast.specs.Run.{iterator_values}
use Rattle.bones_meaning.specs.Walked.{context, effects, turns_effect}
use Rattle.bones_meaning.proofs.statements.+walk.Given as goal

-- what all do is what is left does
abbrev pub invariant-walk_all-loop-s : goal.invariant-walk_all-loop-s
invariant-walk_all-loop-s l =
    (effects (context l.unit l.whole) l.all l.initial.frame l.initial.tape ≡ effects (context l.unit l.whole) (drop l.s-index l.all) l.frame l.tape)
    × (l.frame.iters ≡ l.initial.frame.iters)

abbrev pub invariant-walk_turns-loop-frame : goal.invariant-walk_turns-loop-frame
invariant-walk_turns-loop-frame l =
    (turns_effect (context l.unit l.whole) l.head l.start l.limit l.initial.frame l.initial.tape ≡ turns_effect (context l.unit l.whole) l.head l.at l.limit l.frame l.tape)
    × (l.frame.iters ≡ l.initial.frame.iters)

abbrev pub decreases-walk_turns-loop-frame : goal.decreases-walk_turns-loop-frame
decreases-walk_turns-loop-frame l = length (iterator_values (out-Loop l.head).test l.at l.limit (out-Loop l.head).step)
