use Rattle.std.proofs.Common.{rules, ◌≡◌, subst, sym, All}
use Rattle.species_merge.specs.Classes.{members, column}
use Rattle.species_merge.specs.Hulls.{IsHullOf}
use Rattle.species_merge.specs.Reaches.{IsSmallSpan}
use Rattle.species_merge.proofs.ArcLemmas.{column_boxes, small_spans, hull_small}
use Rattle.species_merge.proofs.arcs.reach_of.Goals as goal

pub hull-reach-requires-clause-small : goal.hull-reach-requires-clause-small
hull-reach-requires-clause-small c =
    let items : c.as_slice.result.now ≡ column (members c.args.class.now) c.args.number = search (rules, c.as_slice.ensures.value, c.in_ok-spans.ensures) in
    subst (λ xs. All IsSmallSpan xs) (sym items) (small_spans (column (members c.args.class.now) c.args.number) (column_boxes (members c.args.class.now) c.args.number c.requires))

pub returns-clause-small : goal.returns-clause-small
returns-clause-small c =
    let items : c.as_slice.result.now ≡ column (members c.args.class.now) c.args.number = search (rules, c.as_slice.ensures.value, c.in_ok-spans.ensures) in
    hull_small (column (members c.args.class.now) c.args.number) c.hull-reach.result (column_boxes (members c.args.class.now) c.args.number c.requires)
    (subst (λ xs. IsHullOf xs c.hull-reach.result) items c.hull-reach.ensures)
