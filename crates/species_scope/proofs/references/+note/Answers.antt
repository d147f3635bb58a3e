-- What is found of each kind of statement.
use Rattle.std.proofs.Common.{◌≡◌, ◌∙◌, refl, ap, sym, subst, map, true, nat_lt}
use Rattle.species_ast.specs.declared.tree.Loop.{out-Loop}
use Rattle.std.specs.List.{flat_map}
use Rattle.species_ast.specs.Scope.Loops.{no_loops, outermost_in}
use Rattle.species_ast.specs.Scope.WellMade.{made, list_keeps}
use Rattle.species_names.specs.Kept.{kept}
use Rattle.species_scope.specs.Referenced.{large_in}
use Rattle.species_scope.proofs.CountLemmas.{kept_if, kept_block, kept_for, kept_next}
use Rattle.species_scope.proofs.LargeLemmas.{large_next, two_large, in_block, one_large, none_large, in_assign, in_add, in_declare, in_set}
use Rattle.species_scope.proofs.references.+note.Goals as goal

pub note_list-loop-stmt-preserved : goal.note_list-loop-stmt-preserved
note_list-loop-stmt-preserved t c keeps =
    let parts = kept_next c.args.all.now c.loop-stmt.stmt-index _ no_loops c.stmt-item.is c.loop-stmt-test.true keeps in
    large_next c.args.all.now c.loop-stmt.stmt-index _ c.args.found.now c.loop-stmt.found c.note_stmt.new.found c.stmt-item.is c.loop-stmt-test.true
    (c.loop-stmt.invariant parts.0) (c.in_ok-note_stmt.ensures parts.1)

pub note_stmt-returns-in_ok-note_list-in-If-2 : goal.note_stmt-returns-in_ok-note_list-in-If-2
note_stmt-returns-in_ok-note_list-in-If-2 t c k =
    let i = c.in-If in
    let keeps = kept_if i.place i.test i.body i.otherwise no_loops (sym (ap (λ x. (made x).keeps no_loops) i.is) ∙ k) in
    two_large c.args.stmt.now i.place i.test i.body i.otherwise c.args.found.now c.note_list.new.found c.note_list-in-If.new.found i.is
    (subst (λ b. list_keeps (map made b) no_loops ≡ true → c.note_list.new.found ≡ kept c.args.found.now (large_in (flat_map outermost_in b))) c.as_slice.ensures c.in_ok-note_list-in-If.ensures keeps.0)
    (subst (λ b. list_keeps (map made b) no_loops ≡ true → c.note_list-in-If.new.found ≡ kept c.note_list.new.found (large_in (flat_map outermost_in b))) c.as_slice-in-If.ensures c.in_ok-note_list-in-If-2.ensures keeps.1)

pub note_stmt-returns-in_ok-note_list-in-Block : goal.note_stmt-returns-in_ok-note_list-in-Block
note_stmt-returns-in_ok-note_list-in-Block t c k =
    let i = c.in-Block in
    let keeps = kept_block i.body no_loops (sym (ap (λ x. (made x).keeps no_loops) i.is) ∙ k) in
    subst (λ b. list_keeps (map made b) no_loops ≡ true → c.note_list-in-Block.new.found ≡ kept c.args.found.now (large_in (flat_map outermost_in b))) c.as_slice-in-Block.ensures c.in_ok-note_list-in-Block.ensures keeps
    ∙ ap (λ l. kept c.args.found.now (large_in l)) (sym (in_block i.body) ∙ ap outermost_in (sym i.is))

pub note_stmt-returns-in_ok-count-in-For : goal.note_stmt-returns-in_ok-count-in-For
note_stmt-returns-in_ok-count-in-For t c k =
    let i = c.in-For in
    one_large c.args.stmt.now i.head c.in_ok-count-in-For.count (out-Loop i.head).place (nat_lt 512 c.in_ok-count-in-For.count) c.args.found.now c.note_if.new.self i.is
    (c.in_ok-count-in-For.ensures (kept_for i.head no_loops (sym (ap (λ x. (made x).keeps no_loops) i.is) ∙ k))) refl refl c.note_if.ensures

pub note_stmt-returns-in-Assign : goal.note_stmt-returns-in-Assign
note_stmt-returns-in-Assign t c k =
    let i = c.in-Assign in
    none_large c.args.stmt.now _ c.args.found.now i.is (in_assign i.place i.array i.subs i.value)

pub note_stmt-returns-in-AddTo : goal.note_stmt-returns-in-AddTo
note_stmt-returns-in-AddTo t c k =
    let i = c.in-AddTo in
    none_large c.args.stmt.now _ c.args.found.now i.is (in_add i.place i.array i.subs i.value i.atomic)

pub note_stmt-returns-in-Declare : goal.note_stmt-returns-in-Declare
note_stmt-returns-in-Declare t c k =
    let i = c.in-Declare in
    none_large c.args.stmt.now _ c.args.found.now i.is (in_declare i.place i.local i.init)

pub note_stmt-returns-in-SetLocal : goal.note_stmt-returns-in-SetLocal
note_stmt-returns-in-SetLocal t c k =
    let i = c.in-SetLocal in
    none_large c.args.stmt.now _ c.args.found.now i.is (in_set i.place i.local i.value)
