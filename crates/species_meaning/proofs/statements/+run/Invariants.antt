use Rattle.std.proofs.Common.{◌≡◌, drop, length}
use Rattle.species_ast.specs.declared.tree.Loop.{out-Loop}
use Rattle.species_ast.specs.Run.{source_context, iterator_values}
use Rattle.species_meaning.specs.Effects.{effects, turns_effect}
use Rattle.species_meaning.proofs.statements.+run.Given as goal

-- what all do is what is left does
abbrev pub invariant-run_all-loop-s : goal.invariant-run_all-loop-s
invariant-run_all-loop-s l =
    (effects (source_context l.unit) l.all l.initial.frame l.initial.arrays ≡ effects (source_context l.unit) (drop l.s-index l.all) l.frame l.arrays)
    × (l.frame.iters ≡ l.initial.frame.iters)

abbrev pub invariant-run_turns-loop-arrays : goal.invariant-run_turns-loop-arrays
invariant-run_turns-loop-arrays l =
    (turns_effect (source_context l.unit) l.head l.start l.limit l.initial.frame l.initial.arrays ≡ turns_effect (source_context l.unit) l.head l.at l.limit l.frame l.arrays)
    × (l.frame.iters ≡ l.initial.frame.iters)

abbrev pub decreases-run_turns-loop-arrays : goal.decreases-run_turns-loop-arrays
decreases-run_turns-loop-arrays l = length (iterator_values (out-Loop l.head).test l.at l.limit (out-Loop l.head).step)
