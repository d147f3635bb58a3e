-- The elements of each kind of expression.
use Rattle.species_classify.proofs.CountLemmas.{count-Literal, count-Iter, count-Local, elem_counted, none_counted, count-Unary, count-Cast, count-Binary, count-And, count-Or, count-Cond, one_counted, two_counted, three_counted, counted_next}
use Rattle.species_classify.proofs.counts.+elements.Goals as goal

pub count_in_all-loop-e-preserved : goal.count_in_all-loop-e-preserved
count_in_all-loop-e-preserved t c =
    counted_next c.args.all.now c.loop-e.e-index _ _ _ _ c.e-item.is c.loop-e-test.true c.loop-e.invariant c.in_ok-count_in.ensures

pub count_in-returns-in_ok-count_in-in-Unary : goal.count_in-returns-in_ok-count_in-in-Unary
count_in-returns-in_ok-count_in-in-Unary t c =
    one_counted c.args.e.now _ c.in-Unary.a c.get.result.now _ _ c.in-Unary.is (count-Unary c.in-Unary.field-0 c.in-Unary.a) c.get.ensures c.in_ok-count_in-in-Unary.ensures

pub count_in-returns-in_ok-count_in-in-Cast : goal.count_in-returns-in_ok-count_in-in-Cast
count_in-returns-in_ok-count_in-in-Cast t c =
    one_counted c.args.e.now _ c.in-Cast.a c.get-in-Cast.result.now _ _ c.in-Cast.is (count-Cast c.in-Cast.field-0 c.in-Cast.a) c.get-in-Cast.ensures c.in_ok-count_in-in-Cast.ensures

pub count_in-returns-in_ok-count_in-in-Binary-2 : goal.count_in-returns-in_ok-count_in-in-Binary-2
count_in-returns-in_ok-count_in-in-Binary-2 t c =
    two_counted c.args.e.now _ c.in-Binary.a c.in-Binary.b c.get-in-Binary.result.now c.get-in-Binary-2.result.now _ _ _ c.in-Binary.is
    (count-Binary c.in-Binary.field-0 c.in-Binary.a c.in-Binary.b) c.get-in-Binary.ensures c.get-in-Binary-2.ensures c.in_ok-count_in-in-Binary.ensures c.in_ok-count_in-in-Binary-2.ensures

pub count_in-returns-in_ok-count_in-in-And-2 : goal.count_in-returns-in_ok-count_in-in-And-2
count_in-returns-in_ok-count_in-in-And-2 t c =
    two_counted c.args.e.now _ c.in-And.a c.in-And.b c.get-in-And.result.now c.get-in-And-2.result.now _ _ _ c.in-And.is
    (count-And c.in-And.a c.in-And.b) c.get-in-And.ensures c.get-in-And-2.ensures c.in_ok-count_in-in-And.ensures c.in_ok-count_in-in-And-2.ensures

pub count_in-returns-in_ok-count_in-in-Or-2 : goal.count_in-returns-in_ok-count_in-in-Or-2
count_in-returns-in_ok-count_in-in-Or-2 t c =
    two_counted c.args.e.now _ c.in-Or.a c.in-Or.b c.get-in-Or.result.now c.get-in-Or-2.result.now _ _ _ c.in-Or.is
    (count-Or c.in-Or.a c.in-Or.b) c.get-in-Or.ensures c.get-in-Or-2.ensures c.in_ok-count_in-in-Or.ensures c.in_ok-count_in-in-Or-2.ensures

pub count_in-returns-in_ok-count_in-in-Cond-3 : goal.count_in-returns-in_ok-count_in-in-Cond-3
count_in-returns-in_ok-count_in-in-Cond-3 t c =
    three_counted c.args.e.now _ c.in-Cond.test c.in-Cond.a c.in-Cond.b c.get-in-Cond.result.now c.get-in-Cond-2.result.now c.get-in-Cond-3.result.now _ _ _ _ c.in-Cond.is
    (count-Cond c.in-Cond.test c.in-Cond.a c.in-Cond.b) c.get-in-Cond.ensures c.get-in-Cond-2.ensures c.get-in-Cond-3.ensures
    c.in_ok-count_in-in-Cond.ensures c.in_ok-count_in-in-Cond-2.ensures c.in_ok-count_in-in-Cond-3.ensures

pub count_in-returns-in_ok-more-in-Elem : goal.count_in-returns-in_ok-more-in-Elem
count_in-returns-in_ok-more-in-Elem t c =
    elem_counted c.args.e.now c.in-Elem.field-0 c.in-Elem.subs c.as_slice.result.now _ _ _ c.in-Elem.is c.as_slice.ensures c.in_ok-count_in_all-in-Elem.ensures c.in_ok-more-in-Elem.ensures

pub count_in-returns-in-Literal : goal.count_in-returns-in-Literal
count_in-returns-in-Literal t c = none_counted c.args.e.now _ _ c.in-Literal.is (count-Literal c.in-Literal.field-0)

pub count_in-returns-in-Iter : goal.count_in-returns-in-Iter
count_in-returns-in-Iter t c = none_counted c.args.e.now _ _ c.in-Iter.is (count-Iter c.in-Iter.field-0)

pub count_in-returns-in-Local : goal.count_in-returns-in-Local
count_in-returns-in-Local t c = none_counted c.args.e.now _ _ c.in-Local.is (count-Local c.in-Local.field-0)
