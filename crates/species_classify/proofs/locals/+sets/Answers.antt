use Rattle.std.proofs.Common.{sym, ◌∙◌}
use Rattle.species_ast.specs.Run.{locals_in}
use Rattle.species_classify.proofs.LocalLemmas.{set_there, set_next, if_first, if_second}
use Rattle.species_classify.proofs.locals.+sets.Goals as goal

pub first_set-returns-in-Some : goal.first_set-returns-in-Some
first_set-returns-in-Some t c =
    sym (c.loop-s.invariant ∙ set_there c.args.all.now c.loop-s.s-index c.s-item.result (locals_in c.args.body.now) c.first_set_in.result c.in-Some.local c.s-item.is c.loop-s-test.true c.in-Some.is c.first_set_in.ensures)

pub first_set-loop-s-preserved : goal.first_set-loop-s-preserved
first_set-loop-s-preserved t c =
    c.loop-s.invariant ∙ set_next c.args.all.now c.loop-s.s-index c.s-item.result (locals_in c.args.body.now) c.first_set_in.result c.s-item.is c.loop-s-test.true c.in_default.is c.first_set_in.ensures

pub first_set_in-returns-in-Some : goal.first_set_in-returns-in-Some
first_set_in-returns-in-Some t c =
    let i = c.in-If in
    if_first c.args.s.now i.place i.test i.first i.otherwise c.as_slice.result.now (locals_in c.args.body.now) c.first_set.result c.in-Some.local i.is c.as_slice.ensures c.first_set.ensures c.in-Some.is

pub first_set_in-returns-in-None : goal.first_set_in-returns-in-None
first_set_in-returns-in-None t c =
    let i = c.in-If in
    if_second c.args.s.now i.place i.test i.first i.otherwise c.as_slice.result.now c.as_slice-in-None.result.now (locals_in c.args.body.now) c.first_set.result c.first_set-in-None.result i.is c.as_slice.ensures c.as_slice-in-None.ensures
    c.first_set.ensures c.in-None.is c.first_set-in-None.ensures
