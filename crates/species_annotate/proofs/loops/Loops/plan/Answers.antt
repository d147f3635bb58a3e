use Rattle.std.proofs.Common.{◌∙◌, ap, sym, Some}
use Rattle.species_loops.specs.Ranges.{ranges_seen}
use Rattle.species_annotate.proofs.HeadLemmas.{item_there, stands_there}
use Rattle.species_annotate.proofs.loops.Loops.plan.Goals as goal

pub plan_nest-requires-clause-stands : goal.plan_nest-requires-clause-stands
plan_nest-requires-clause-stands c =
    let all = c.as_slice.result.now in
    let look = c.get.ensures.lookup in
    stands_there c.self.inside.unit.now all c.self.inside.next c.placed.inside.head.now (ranges_seen c.as_slice-in-Some.result.now) (c.as_slice.ensures.value ∙ c.self.invariant.1)
    (item_there (λ x. x.now) all c.self.inside.next c.get.result c.in-Some.placed c.in-Some.is look.0 look.1 ∙ ap Some (sym c.placed.view_is)
    ∙ ap (λ p. Some (record { loop = c.placed.inside.head.now; path = p })) (sym c.as_slice-in-Some.ensures.value))
