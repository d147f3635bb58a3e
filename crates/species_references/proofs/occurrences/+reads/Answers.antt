use Rattle.std.proofs.Common.{ap, ◌∙◌}
use Rattle.species_references.specs.Occurrences.{seen_in}
use Rattle.species_references.specs.Ranges.{ranges_seen}
use Rattle.species_references.proofs.SeenLemmas as eq
use Rattle.species_references.proofs.ReadLemmas.{none_more, one_more, elem_more, two_more, three_more, next_more}
use Rattle.species_references.proofs.occurrences.+reads.Goals as goal

pub add_all_reads-loop-value-preserved : goal.add_all_reads-loop-value-preserved
add_all_reads-loop-value-preserved t c =
    next_more c.args.values.now c.loop-value.value-index c.value-item.result (ranges_seen c.args.path.now) c.args.conditional _ _ _ c.value-item.is c.loop-value-test.true c.in_ok-add_reads.ensures c.loop-value.invariant

pub add_reads-returns-in_ok-add_reads-in-Unary : goal.add_reads-returns-in_ok-add_reads-in-Unary
add_reads-returns-in_ok-add_reads-in-Unary t c =
    one_more c.args.value.now c.in-Unary.a c.get.result.now (ranges_seen c.args.path.now) c.args.conditional _ _
    (ap (λ x. seen_in x (ranges_seen c.args.path.now) c.args.conditional) c.in-Unary.is ∙ eq.seen-Unary c.in-Unary.field-0 c.in-Unary.a (ranges_seen c.args.path.now) c.args.conditional) c.get.ensures c.in_ok-add_reads-in-Unary.ensures

pub add_reads-returns-in_ok-add_reads-in-Cast : goal.add_reads-returns-in_ok-add_reads-in-Cast
add_reads-returns-in_ok-add_reads-in-Cast t c =
    one_more c.args.value.now c.in-Cast.a c.get-in-Cast.result.now (ranges_seen c.args.path.now) c.args.conditional _ _
    (ap (λ x. seen_in x (ranges_seen c.args.path.now) c.args.conditional) c.in-Cast.is ∙ eq.seen-Cast c.in-Cast.field-0 c.in-Cast.a (ranges_seen c.args.path.now) c.args.conditional) c.get-in-Cast.ensures c.in_ok-add_reads-in-Cast.ensures

pub add_reads-returns-in_ok-add_reads-in-Binary-2 : goal.add_reads-returns-in_ok-add_reads-in-Binary-2
add_reads-returns-in_ok-add_reads-in-Binary-2 t c =
    two_more c.args.value.now c.in-Binary.a c.in-Binary.b c.get-in-Binary.result.now c.get-in-Binary-2.result.now (ranges_seen c.args.path.now) c.args.conditional c.args.conditional _ _ _
    (ap (λ x. seen_in x (ranges_seen c.args.path.now) c.args.conditional) c.in-Binary.is ∙ eq.seen-Binary c.in-Binary.field-0 c.in-Binary.a c.in-Binary.b (ranges_seen c.args.path.now) c.args.conditional)
    c.get-in-Binary.ensures c.get-in-Binary-2.ensures c.in_ok-add_reads-in-Binary.ensures c.in_ok-add_reads-in-Binary-2.ensures

pub add_reads-returns-in_ok-add_reads-in-And-2 : goal.add_reads-returns-in_ok-add_reads-in-And-2
add_reads-returns-in_ok-add_reads-in-And-2 t c =
    two_more c.args.value.now c.in-And.left c.in-And.right c.get-in-And.result.now c.get-in-And-2.result.now (ranges_seen c.args.path.now) c.args.conditional _ _ _ _
    (ap (λ x. seen_in x (ranges_seen c.args.path.now) c.args.conditional) c.in-And.is ∙ eq.seen-And c.in-And.left c.in-And.right (ranges_seen c.args.path.now) c.args.conditional)
    c.get-in-And.ensures c.get-in-And-2.ensures c.in_ok-add_reads-in-And.ensures c.in_ok-add_reads-in-And-2.ensures

pub add_reads-returns-in_ok-add_reads-in-Or-2 : goal.add_reads-returns-in_ok-add_reads-in-Or-2
add_reads-returns-in_ok-add_reads-in-Or-2 t c =
    two_more c.args.value.now c.in-Or.a c.in-Or.b c.get-in-Or.result.now c.get-in-Or-2.result.now (ranges_seen c.args.path.now) c.args.conditional _ _ _ _
    (ap (λ x. seen_in x (ranges_seen c.args.path.now) c.args.conditional) c.in-Or.is ∙ eq.seen-Or c.in-Or.a c.in-Or.b (ranges_seen c.args.path.now) c.args.conditional)
    c.get-in-Or.ensures c.get-in-Or-2.ensures c.in_ok-add_reads-in-Or.ensures c.in_ok-add_reads-in-Or-2.ensures

pub add_reads-returns-in_ok-add_reads-in-Cond-3 : goal.add_reads-returns-in_ok-add_reads-in-Cond-3
add_reads-returns-in_ok-add_reads-in-Cond-3 t c =
    three_more c.args.value.now c.in-Cond.test c.in-Cond.a c.in-Cond.b c.get-in-Cond.result.now c.get-in-Cond-2.result.now c.get-in-Cond-3.result.now (ranges_seen c.args.path.now) c.args.conditional _ _ _ _
    (ap (λ x. seen_in x (ranges_seen c.args.path.now) c.args.conditional) c.in-Cond.is ∙ eq.seen-Cond c.in-Cond.test c.in-Cond.a c.in-Cond.b (ranges_seen c.args.path.now) c.args.conditional)
    c.get-in-Cond.ensures c.get-in-Cond-2.ensures c.get-in-Cond-3.ensures c.in_ok-add_reads-in-Cond.ensures c.in_ok-add_reads-in-Cond-2.ensures c.in_ok-add_reads-in-Cond-3.ensures

pub add_reads-returns-in-Literal : goal.add_reads-returns-in-Literal
add_reads-returns-in-Literal t c =
    none_more _ _ (ap (λ x. seen_in x (ranges_seen c.args.path.now) c.args.conditional) c.in-Literal.is ∙ eq.seen-Literal c.in-Literal.field-0 (ranges_seen c.args.path.now) c.args.conditional)

pub add_reads-returns-in-Iter : goal.add_reads-returns-in-Iter
add_reads-returns-in-Iter t c =
    none_more _ _ (ap (λ x. seen_in x (ranges_seen c.args.path.now) c.args.conditional) c.in-Iter.is ∙ eq.seen-Iter c.in-Iter.field-0 (ranges_seen c.args.path.now) c.args.conditional)

pub add_reads-returns-in-Local : goal.add_reads-returns-in-Local
add_reads-returns-in-Local t c =
    none_more _ _ (ap (λ x. seen_in x (ranges_seen c.args.path.now) c.args.conditional) c.in-Local.is ∙ eq.seen-Local c.in-Local.field-0 (ranges_seen c.args.path.now) c.args.conditional)

pub add_reads-returns-in_ok-add_element-in-Elem : goal.add_reads-returns-in_ok-add_element-in-Elem
add_reads-returns-in_ok-add_element-in-Elem t c =
    elem_more c.args.value.now c.in-Elem.array c.in-Elem.subs c.as_slice.result.now c.as_slice-in-Elem.result.now (ranges_seen c.args.path.now) c.args.conditional _ _ _
    (ap (λ x. seen_in x (ranges_seen c.args.path.now) c.args.conditional) c.in-Elem.is ∙ eq.seen-Elem c.in-Elem.array c.in-Elem.subs (ranges_seen c.args.path.now) c.args.conditional)
    c.as_slice.ensures c.as_slice-in-Elem.ensures c.in_ok-add_all_reads-in-Elem.ensures c.in_ok-add_element-in-Elem.ensures
