-- The references of each kind of statement.
use Rattle.std.proofs.Common.{◌≡◌, ◌∙◌, ◌+◌, refl, ap, sym, subst, map, length, true, false}
use Rattle.species_ast.specs.declared.tree.Loop.{out-Loop}
use Rattle.species_ast.specs.declared.tree.Stmt.TheVariants as stmt
use Rattle.species_ast.specs.Scope.Loops.{entered}
use Rattle.species_ast.specs.Scope.Hulls.{has_empty}
use Rattle.species_ast.specs.Scope.References.{perhaps, placed, in_turn, list_references, unless_empty}
use Rattle.species_ast.specs.Scope.WellMade.{made, list_keeps}
use Rattle.species_scope.specs.Referenced.{Reached}
use Rattle.species_scope.proofs.CountLemmas.{refers, before, assign_counted, add_counted, init_counted, no_init_counted, set_counted, if_counted, block_counted, for_counted, kept_if, kept_block, kept_for, kept_next, listed_next, placed_reached, perhaps_reached, kept_loop, reached_inside, loop_counted, unless_counted}
use Rattle.species_scope.proofs.references.+count.Goals as goal

pub count_stmt-returns-in_ok-more-in-Assign-clause-found : goal.count_stmt-returns-in_ok-more-in-Assign-clause-found
count_stmt-returns-in_ok-more-in-Assign-clause-found t c n g h k =
    let i = c.in-Assign in
    assign_counted c.args.stmt.now i.place i.array i.subs c.as_slice.result.now i.value _ _ _ _ g i.is c.as_slice.ensures
    c.in_ok-count_in_all-in-Assign.ensures c.in_ok-count_in-in-Assign.ensures c.in_ok-more-in-Assign.ensures

pub count_stmt-returns-in_ok-more-in-AddTo-clause-found : goal.count_stmt-returns-in_ok-more-in-AddTo-clause-found
count_stmt-returns-in_ok-more-in-AddTo-clause-found t c n g h k =
    let i = c.in-AddTo in
    add_counted c.args.stmt.now i.place i.array i.subs c.as_slice-in-AddTo.result.now i.value i.atomic _ _ _ _ g i.is c.as_slice-in-AddTo.ensures
    c.in_ok-count_in_all-in-AddTo.ensures c.in_ok-count_in-in-AddTo.ensures c.in_ok-more-in-AddTo.ensures

pub count_stmt-returns-in_ok-count_in-in-Some-clause-found : goal.count_stmt-returns-in_ok-count_in-in-Some-clause-found
count_stmt-returns-in_ok-count_in-in-Some-clause-found t c n g h k =
    let i = c.in-Declare in
    init_counted c.args.stmt.now i.place i.local c.in-Some.value _ _ g (i.is ∙ ap (stmt.Declare i.place i.local) c.in-Some.is) c.in_ok-count_in-in-Some.ensures

pub count_stmt-returns-in-None-clause-found : goal.count_stmt-returns-in-None-clause-found
count_stmt-returns-in-None-clause-found t c n g h k =
    let i = c.in-Declare in
    no_init_counted c.args.stmt.now i.place i.local _ g (i.is ∙ ap (stmt.Declare i.place i.local) c.in-None.is)

pub count_stmt-returns-in_ok-count_in-in-SetLocal-clause-found : goal.count_stmt-returns-in_ok-count_in-in-SetLocal-clause-found
count_stmt-returns-in_ok-count_in-in-SetLocal-clause-found t c n g h k =
    let i = c.in-SetLocal in
    set_counted c.args.stmt.now i.place i.local i.value _ _ g i.is c.in_ok-count_in-in-SetLocal.ensures

pub count_stmt-returns-in_ok-count_list-in-If-2-clause-found : goal.count_stmt-returns-in_ok-count_list-in-If-2-clause-found
count_stmt-returns-in_ok-count_list-in-If-2-clause-found t c n g h k =
    let i = c.in-If in
    let keeps = kept_if i.place i.test i.body i.otherwise n (sym (ap (λ x. (made x).keeps n) i.is) ∙ k) in
    let there = perhaps_reached c.args.path.now n g h in
    let first = c.in_ok-count_list-in-If.ensures in
    let second = c.in_ok-count_list-in-If-2.ensures in
    let later = subst (λ p. Reached p n (perhaps g)) (sym first.same) there in
    if_counted c.args.stmt.now i.place i.test i.body i.otherwise _ c.count_in-in-If.new.count.references c.count_list.new.count.references _ g i.is c.in_ok-count_in-in-If.ensures
    (subst (λ b. list_keeps (map made b) n ≡ true → c.count_list.new.count.references ≡ c.count_in-in-If.new.count.references + length (list_references (map refers b) (perhaps g) 0 0)) c.as_slice-in-If.ensures (first.found n (perhaps g) 0 there) keeps.0)
    (subst (λ b. list_keeps (map made b) n ≡ true → c.count_list-in-If.new.count.references ≡ c.count_list.new.count.references + length (list_references (map refers b) (perhaps g) (length (map refers i.body)) 0)) c.as_slice-in-If-2.ensures (second.found n (perhaps g) (length (map refers i.body)) later) keeps.1)

pub count_stmt-returns-in_ok-count_list-in-Block-clause-found : goal.count_stmt-returns-in_ok-count_list-in-Block-clause-found
count_stmt-returns-in_ok-count_list-in-Block-clause-found t c n g h k =
    let i = c.in-Block in
    let keeps = kept_block i.body n (sym (ap (λ x. (made x).keeps n) i.is) ∙ k) in
    block_counted c.args.stmt.now i.body _ _ g i.is
    (subst (λ b. list_keeps (map made b) n ≡ true → c.count_list-in-Block.new.count.references ≡ c.args.count.now.references + length (list_references (map refers b) g 0 0)) c.as_slice-in-Block.ensures (c.in_ok-count_list-in-Block.ensures.found n g 0 h) keeps)

pub count_stmt-returns-in_ok-count_loop-in-For-clause-found : goal.count_stmt-returns-in_ok-count_loop-in-For-clause-found
count_stmt-returns-in_ok-count_loop-in-For-clause-found t c n g h k =
    let i = c.in-For in
    for_counted c.args.stmt.now i.head _ _ g i.is (c.in_ok-count_loop-in-For.ensures.found n g h (kept_for i.head n (sym (ap (λ x. (made x).keeps n) i.is) ∙ k)))

pub count_list-loop-stmt-preserved : goal.count_list-loop-stmt-preserved
count_list-loop-stmt-preserved t c = record {
  same = c.in_ok-count_stmt.ensures.same ∙ c.loop-stmt.invariant.same;
  found = λ n g k h keeps.
      let parts = kept_next c.args.all.now c.loop-stmt.stmt-index _ n c.stmt-item.is c.loop-stmt-test.true keeps in
      let there = placed g (k + before c.args.all.now c.loop-stmt.stmt-index) in
      listed_next c.args.all.now c.loop-stmt.stmt-index _ _ c.loop-stmt.count.references _ g k c.stmt-item.is c.loop-stmt-test.true
      (c.loop-stmt.invariant.found n g k h parts.0)
      (c.in_ok-count_stmt.ensures.found n there
      (subst (λ p. Reached p n there) (sym c.loop-stmt.invariant.same) (placed_reached c.args.path.now n g (k + before c.args.all.now c.loop-stmt.stmt-index) h)) parts.1);
}

pub count_loop-returns-clause-found : goal.count_loop-returns-clause-found
count_loop-returns-clause-found t c n g h k =
    let l = out-Loop c.args.head.now in
    let keeps = kept_loop c.args.head.now n k in
    let inside = reached_inside c.args.head.now c.args.path.now c.enter.new.path n g h keeps c.in_ok-enter.ensures.open in
    loop_counted c.args.head.now c.enter.new.path c.args.count.now.references c.count_inside.new.count.references g (entered l n) inside
    (subst (λ b. list_keeps (map made b) (entered l n) ≡ true → c.count_inside.new.count.references ≡ c.args.count.now.references + length (unless_empty 0 c.enter.new.path (list_references (map refers b) (in_turn g l) 0 0))) c.as_slice.ensures (c.in_ok-count_inside.ensures.found (entered l n) (in_turn g l) inside) keeps.inside)

pub count_inside-returns-then-is_empty-clause-found : goal.count_inside-returns-then-is_empty-clause-found
count_inside-returns-then-is_empty-clause-found t c n g h k =
    let path = c.args.path.now in
    let empty : true ≡ has_empty path = sym c.if-is_empty.true ∙ c.is_empty.ensures ∙ ap has_empty c.as_slice.ensures.value in
    unless_counted true path (list_references (map refers c.args.all.now) g 0 0) c.args.count.now.references c.args.count.now.references empty (λ e. refl) (λ e. absurd cc)

pub count_inside-returns-clause-found : goal.count_inside-returns-clause-found
count_inside-returns-clause-found t c n g h k =
    let path = c.args.path.now in
    let full : false ≡ has_empty path = sym c.if-is_empty.false ∙ c.is_empty.ensures ∙ ap has_empty c.as_slice.ensures.value in
    unless_counted false path (list_references (map refers c.args.all.now) g 0 0) c.args.count.now.references c.count_list.new.count.references full (λ e. absurd cc) (λ e. c.in_ok-count_list.ensures.found n g 0 h k)
