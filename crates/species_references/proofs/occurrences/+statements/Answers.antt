use Rattle.std.proofs.Common.{rules, ◌≡◌, ◌-◌, ◌∷◌, [], ◌++◌, ap, sym, ◌∙◌, refl, true, false, get_or, take, drop, length}
use Rattle.species_ast.specs.declared.tree.Loop.{out-Loop}
use Rattle.species_linear.specs.Box.{zero_range}
use Rattle.species_ast.specs.Scope.Hulls.{has_empty}
use Rattle.species_references.specs.Occurrences.{seen, all_seen, is_left_out}
use Rattle.species_references.specs.Ranges.{range_seen, ranges_seen}
use Rattle.species_references.specs.References.{adds_of}
use Rattle.species_references.proofs.SeenLemmas.{map_append}
use Rattle.species_references.proofs.StatementLemmas.{assign_more, add_more, if_more, block_more, next_stmt, all_stmts, loop_more, first_is, take_front}
use Rattle.species_references.proofs.occurrences.+statements.Goals as goal

pub add_stmt-returns-in_ok-add_element-in-Assign : goal.add_stmt-returns-in_ok-add_element-in-Assign
add_stmt-returns-in_ok-add_element-in-Assign t c =
    assign_more (adds_of c.args.gathered.now) c.args.statement.now c.in-Assign.place c.in-Assign.array c.in-Assign.subs c.as_slice.result.now c.as_slice-in-Assign.result.now c.in-Assign.value (ranges_seen c.args.path.now) (ranges_seen c.args.ranges.now) c.args.conditional c.args.band _ _ _ _
    c.in-Assign.is c.as_slice.ensures c.as_slice-in-Assign.ensures c.in_ok-add_all_reads-in-Assign.ensures c.in_ok-add_reads-in-Assign.ensures c.in_ok-add_element-in-Assign.ensures

pub add_stmt-returns-in_ok-add_addition-in-AddTo : goal.add_stmt-returns-in_ok-add_addition-in-AddTo
add_stmt-returns-in_ok-add_addition-in-AddTo t c =
    add_more (adds_of c.args.gathered.now) c.args.statement.now c.in-AddTo.place c.in-AddTo.array c.in-AddTo.subs c.as_slice-in-AddTo.result.now c.as_slice-in-AddTo-2.result.now c.in-AddTo.value c.in-AddTo.atomic c.is_gathered.result (ranges_seen c.args.path.now) (ranges_seen c.args.ranges.now) c.args.conditional c.args.band _ _ _
    c.in-AddTo.is c.as_slice-in-AddTo.ensures c.as_slice-in-AddTo-2.ensures c.is_gathered.ensures c.in_ok-add_all_reads-in-AddTo.ensures c.in_ok-add_addition-in-AddTo.ensures

pub add_stmt-returns-in_ok-rest-in-If-2 : goal.add_stmt-returns-in_ok-rest-in-If-2
add_stmt-returns-in_ok-rest-in-If-2 t c =
    if_more (adds_of c.args.gathered.now) c.args.statement.now c.in-If.place c.in-If.test c.in-If.body c.in-If.otherwise c.as_slice-in-If.result.now c.as_slice-in-If-2.result.now (ranges_seen c.args.path.now) (ranges_seen c.args.ranges.now) _ _ c.args.conditional c.args.band _ _ _ _
    c.in-If.is c.as_slice-in-If.ensures c.as_slice-in-If-2.ensures c.in_ok-add_reads-in-If.ensures c.in_ok-rest-in-If.ensures c.in_ok-rest-in-If-2.ensures

pub add_stmt-returns-in_ok-rest-in-Block : goal.add_stmt-returns-in_ok-rest-in-Block
add_stmt-returns-in_ok-rest-in-Block t c =
    block_more (adds_of c.args.gathered.now) c.args.statement.now c.in-Block.body c.as_slice-in-Block.result.now (ranges_seen c.args.path.now) (ranges_seen c.args.ranges.now) _ c.args.conditional c.args.band _ _
    c.in-Block.is c.as_slice-in-Block.ensures c.in_ok-rest-in-Block.ensures

pub add_list-loop-statement-preserved : goal.add_list-loop-statement-preserved
add_list-loop-statement-preserved t c =
    next_stmt (adds_of c.args.gathered.now) c.args.statements.now c.loop-statement.statement-index c.statement-item.result (ranges_seen c.args.path.now) (ranges_seen c.args.ranges.now) (ranges_seen c.loop-statement.rest.now) _ c.args.conditional c.args.band _ _ _
    c.statement-item.is c.loop-statement-test.true c.in_ok-rest.ensures c.loop-statement.invariant

pub add_list-returns : goal.add_list-returns
add_list-returns t c =
    all_stmts (adds_of c.args.gathered.now) c.args.statements.now c.loop-statement.statement-index (ranges_seen c.args.path.now) (ranges_seen c.args.ranges.now) (ranges_seen c.loop-statement.rest.now) c.args.conditional c.args.band _ _
    c.loop-statement-test.false c.loop-statement.invariant

pub add_loop-returns-else-is_left_out : goal.add_loop-returns-else-is_left_out
add_loop-returns-else-is_left_out t c =
    let ranges = c.args.ranges.now in
    let range = get_or ranges 0 zero_range in
    let after = take (length ranges - 1) (drop 1 ranges) in
    let inner = c.as_slice-in-len1-up.result.now in
    let within : inner ≡ c.args.path.now ++ range ∷ [] = search rules in
    let body : c.as_slice.result.now ≡ (out-Loop c.args.head.now).body = search rules in
    let less : c.saturating_sub-below.result ≡ c.args.band - 1 = search rules in
    let again : c.as_slice-in-len1-up-2.result.now ≡ inner = search rules in
    let kept : is_left_out c.args.band (has_empty (ranges_seen inner)) ≡ false = ap (λ z. is_left_out c.args.band (has_empty (ranges_seen z))) (sym again) ∙ sym c.is_left_out.ensures ∙ c.if-is_left_out.false in
    loop_more (adds_of c.args.gathered.now) c.args.head.now (ranges_seen c.args.path.now) (ranges_seen ranges) (ranges_seen after) (ranges_seen inner) (ranges_seen c.in_ok-rest-in-len1-up.rest.now) (range_seen range) c.as_slice.result.now c.args.conditional c.args.band c.saturating_sub-below.result
    false (all_seen c.args.found.now.items) (all_seen c.add_list.new.found.items) (all_seen c.add_list.new.found.items) (ap ranges_seen (first_is ranges zero_range c.in-len1-up.len_at_least)) (ap ranges_seen within ∙ map_append range_seen c.args.path.now (range ∷ [])) body less c.in_ok-rest-in-len1-up.ensures kept (λ more h. refl)

pub add_loop-returns-then-is_left_out : goal.add_loop-returns-then-is_left_out
add_loop-returns-then-is_left_out t c =
    let ranges = c.args.ranges.now in
    let range = get_or ranges 0 zero_range in
    let after = take (length ranges - 1) (drop 1 ranges) in
    let inner = c.as_slice-in-len1-up.result.now in
    let within : inner ≡ c.args.path.now ++ range ∷ [] = search rules in
    let body : c.as_slice.result.now ≡ (out-Loop c.args.head.now).body = search rules in
    let less : c.saturating_sub-below.result ≡ c.args.band - 1 = search rules in
    let again : c.as_slice-in-len1-up-2.result.now ≡ inner = search rules in
    let before : c.len-before.result ≡ length c.args.found.now.items = search rules in
    let cut : c.truncate.new.self.items ≡ take c.len-before.result c.add_list.new.found.items = search rules in
    let dropped : is_left_out c.args.band (has_empty (ranges_seen inner)) ≡ true = ap (λ z. is_left_out c.args.band (has_empty (ranges_seen z))) (sym again) ∙ sym c.is_left_out.ensures ∙ c.if-is_left_out.true in
    loop_more (adds_of c.args.gathered.now) c.args.head.now (ranges_seen c.args.path.now) (ranges_seen ranges) (ranges_seen after) (ranges_seen inner) (ranges_seen c.in_ok-rest-in-len1-up.rest.now) (range_seen range) c.as_slice.result.now c.args.conditional c.args.band c.saturating_sub-below.result
    true (all_seen c.args.found.now.items) (all_seen c.add_list.new.found.items) (all_seen c.truncate.new.self.items) (ap ranges_seen (first_is ranges zero_range c.in-len1-up.len_at_least)) (ap ranges_seen within ∙ map_append range_seen c.args.path.now (range ∷ [])) body less c.in_ok-rest-in-len1-up.ensures dropped
    (λ more h. ap all_seen cut ∙ take_front seen c.args.found.now.items c.add_list.new.found.items more c.len-before.result before h)
