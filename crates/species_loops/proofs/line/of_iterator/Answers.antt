use Rattle.std.proofs.Common.{◌≡◌, sym, refl, arith, pos, subst, slice_index_or}
use Rattle.species_ast.specs.Scope.Forms.{one_at}
use Rattle.species_loops.proofs.LineLaws.{iterator_here, iterator_away}
use Rattle.species_loops.proofs.line.of_iterator.Goals as goal

pub returns-then-at-level-clause-value : goal.returns-then-at-level-clause-value
returns-then-at-level-clause-value c =
    let same : c.args.at ≡ c.args.level = omega arith in
    (refl, sym (subst (λ k. slice_index_or (one_at c.args.at) k (pos 0) ≡ pos 1) same (iterator_here c.args.at)))

pub returns-else-at-level-clause-value : goal.returns-else-at-level-clause-value
returns-else-at-level-clause-value c = (refl, sym (iterator_away c.args.at c.args.level c.if-at-level.false))
