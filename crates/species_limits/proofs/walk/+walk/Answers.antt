use Rattle.std.proofs.Common.{◌∙◌, ◌+◌, ap, sym, subst, map, length}
use Rattle.species_ast.specs.declared.tree.Loop.{out-Loop}
use Rattle.species_ast.specs.Scope.Loops.{numbered, standing_in, list_loops, loops_at, loops_inside, loops_in}
use Rattle.species_ast.proofs.Paras.{para_stmt-Assign, para_stmt-AddTo, para_stmt-Declare, para_stmt-SetLocal}
use Rattle.species_limits.specs.Found.{found_of}
use Rattle.species_limits.specs.Standings.{StandsAt}
use Rattle.species_limits.proofs.WalkLaws.{walked_next, numbered_stands, whole_loop, inner_stands, both_branches, at_for, at_block}
use Rattle.species_limits.proofs.walk.+walk.Goals as goal

pub walk_all-loop-stmt-preserved : goal.walk_all-loop-stmt-preserved
walk_all-loop-stmt-preserved t c = record {
  same = c.in_ok-walk.ensures.same ∙ c.loop-stmt.invariant.same;
  found = λ s k h.
      walked_next c.args.all.now c.loop-stmt.stmt-index _ c.args.limits.now c.loop-stmt.limits c.walk.new.limits s k c.stmt-item.is c.loop-stmt-test.true (c.loop-stmt.invariant.found s k h)
      (c.in_ok-walk.ensures.found (numbered s (k + c.loop-stmt.stmt-index))
      (subst (λ p. StandsAt c.args.at p (numbered s (k + c.loop-stmt.stmt-index))) (sym c.loop-stmt.invariant.same) (numbered_stands c.args.at c.args.path.now s (k + c.loop-stmt.stmt-index) h)));
}

pub walk-returns-in_ok-walk_loop-in-For-clause-found : goal.walk-returns-in_ok-walk_loop-in-For-clause-found
walk-returns-in_ok-walk_loop-in-For-clause-found t c s h =
    c.in_ok-walk_loop-in-For.ensures.found s h ∙ ap (found_of c.args.limits.now) (sym (ap (λ x. loops_in x s) c.in-For.is ∙ at_for c.in-For.head s))

pub walk-returns-in_ok-walk_all-in-If-2-clause-found : goal.walk-returns-in_ok-walk_all-in-If-2-clause-found
walk-returns-in_ok-walk_all-in-If-2-clause-found t c s h =
    let old = c.args.limits.now in
    let mid = c.walk_all.new.limits in
    let later = subst (λ p. StandsAt c.args.at p s) (sym c.in_ok-walk_all-in-If.ensures.same) h in
    both_branches c.in-If.place c.in-If.test c.in-If.body c.in-If.otherwise s old mid c.walk_all-in-If.new.limits
    (c.in_ok-walk_all-in-If.ensures.found s 0 h ∙ ap (λ xs. found_of old (list_loops (map loops_in xs) s 0)) c.as_slice.ensures)
    (c.in_ok-walk_all-in-If-2.ensures.found s (length c.in-If.body) later ∙ ap (λ xs. found_of mid (list_loops (map loops_in xs) s (length c.in-If.body))) c.as_slice-in-If.ensures)
    ∙ ap (found_of old) (sym (ap (λ x. loops_in x s) c.in-If.is))

pub walk-returns-in_ok-walk_all-in-Block-clause-found : goal.walk-returns-in_ok-walk_all-in-Block-clause-found
walk-returns-in_ok-walk_all-in-Block-clause-found t c s h =
    let old = c.args.limits.now in
    c.in_ok-walk_all-in-Block.ensures.found s 0 h ∙ ap (λ xs. found_of old (list_loops (map loops_in xs) s 0)) c.as_slice-in-Block.ensures
    ∙ ap (found_of old) (sym (ap (λ x. loops_in x s) c.in-Block.is ∙ at_block c.in-Block.body s))

pub walk-returns-in-Assign-clause-found : goal.walk-returns-in-Assign-clause-found
walk-returns-in-Assign-clause-found t c s h =
    sym (ap (found_of c.args.limits.now) (ap (λ x. loops_in x s) c.in-Assign.is
    ∙ ap (λ f. f s) (para_stmt-Assign loops_at loops_inside c.in-Assign.place c.in-Assign.array c.in-Assign.subs c.in-Assign.value)))

pub walk-returns-in-AddTo-clause-found : goal.walk-returns-in-AddTo-clause-found
walk-returns-in-AddTo-clause-found t c s h =
    sym (ap (found_of c.args.limits.now) (ap (λ x. loops_in x s) c.in-AddTo.is
    ∙ ap (λ f. f s) (para_stmt-AddTo loops_at loops_inside c.in-AddTo.place c.in-AddTo.array c.in-AddTo.subs c.in-AddTo.value c.in-AddTo.atomic)))

pub walk-returns-in-Declare-clause-found : goal.walk-returns-in-Declare-clause-found
walk-returns-in-Declare-clause-found t c s h =
    sym (ap (found_of c.args.limits.now) (ap (λ x. loops_in x s) c.in-Declare.is
    ∙ ap (λ f. f s) (para_stmt-Declare loops_at loops_inside c.in-Declare.place c.in-Declare.local c.in-Declare.init)))

pub walk-returns-in-SetLocal-clause-found : goal.walk-returns-in-SetLocal-clause-found
walk-returns-in-SetLocal-clause-found t c s h =
    sym (ap (found_of c.args.limits.now) (ap (λ x. loops_in x s) c.in-SetLocal.is
    ∙ ap (λ f. f s) (para_stmt-SetLocal loops_at loops_inside c.in-SetLocal.place c.in-SetLocal.local c.in-SetLocal.value)))

pub walk_loop-returns-clause-found : goal.walk_loop-returns-clause-found
walk_loop-returns-clause-found t c s h =
    let l = out-Loop c.args.head.now in
    let inside = inner_stands c.args.at c.in_ok-inner.inner c.args.path.now c.enter.new.path s l h c.in_ok-inner.ensures.level c.in_ok-inner.ensures.in_nest c.in_ok-inner.ensures.passed c.in_ok-enter.ensures.open in
    whole_loop c.args.head.now s c.args.limits.now c.note_loop.new.limits c.walk_all.new.limits (c.in_ok-inner.ensures.found s h)
    (c.in_ok-walk_all.ensures.found (standing_in l s) 0 inside ∙ ap (λ xs. found_of c.note_loop.new.limits (list_loops (map loops_in xs) (standing_in l s) 0)) c.as_slice.ensures)
