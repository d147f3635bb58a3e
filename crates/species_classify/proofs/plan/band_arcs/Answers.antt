-- The arcs of a band.
use Rattle.std.proofs.Common.{sym, subst, refl, arith, length, [], All}
use Rattle.species_merge.specs.Sizes.{IsMergeable}
use Rattle.species_references.specs.Ranges.{ranges_seen}
use Rattle.species_references.specs.References.{adds_of}
use Rattle.species_classify.proofs.ArcLemmas.{no_arcs, band_mergeable, band_arcs}
use Rattle.species_classify.proofs.CountLemmas.{nest_few}
use Rattle.species_classify.proofs.DecisionLemmas.{outer_fits, path_short, path_small}
use Rattle.species_classify.proofs.StandLemmas.{stands_fits, stands_shallow}
use Rattle.species_classify.proofs.plan.band_arcs.Goals as goal

pub returns-then-depth-eq0-clause-arcs : goal.returns-then-depth-eq0-clause-arcs
returns-then-depth-eq0-clause-arcs c =
    no_arcs c.args.depth c.args.unit.now c.args.head.now c.args.path.now c.args.gathered.now c.new.result c.if-depth-eq0.true c.new.ensures

pub references-requires-clause-few : goal.references-requires-clause-few
references-requires-clause-few c = nest_few (adds_of c.args.gathered.now) c.args.head.now [] (ranges_seen c.args.path.now) c.args.depth c.requires.few

pub band_bounds-requires-clause-short : goal.band_bounds-requires-clause-short
band_bounds-requires-clause-short c = path_short c.args.unit.now c.args.head.now c.args.path.now c.requires.made c.requires.stands

pub band_bounds-requires-clause-ends : goal.band_bounds-requires-clause-ends
band_bounds-requires-clause-ends c = path_small c.args.unit.now c.args.head.now c.args.path.now c.requires.made c.requires.stands

pub band_bounds-requires-clause-fits : goal.band_bounds-requires-clause-fits
band_bounds-requires-clause-fits c = stands_fits c.args.unit.now c.args.head.now (ranges_seen c.args.path.now) c.requires.made c.requires.stands

pub overflow_cast-path : goal.overflow_cast-path
overflow_cast-path c = omega (arith, outer_fits c.args.unit.now c.args.head.now c.args.path.now c.requires.made c.requires.stands)

pub merge-requires-clause-few : goal.merge-requires-clause-few
merge-requires-clause-few c = omega (arith, c.requires.deep, stands_shallow c.args.unit.now c.args.head.now (ranges_seen c.args.path.now) c.requires.made c.requires.stands)

pub merge-requires-clause-refs : goal.merge-requires-clause-refs
merge-requires-clause-refs c =
    subst (All IsMergeable) (sym c.as_slice.ensures.value)
    (band_mergeable c.args.unit.now c.args.head.now c.args.path.now c.args.depth c.args.gathered.now c.in_ok-refs.refs.items c.requires.made c.requires.stands (c.in_ok-refs.ensures.listed []))

pub returns-clause-arcs : goal.returns-clause-arcs
returns-clause-arcs c =
    band_arcs c.args.depth c.args.unit.now c.args.head.now c.args.path.now c.args.gathered.now c.in_ok-refs.refs.items c.as_slice.result.now c.in_ok-bands.bands.items c.as_slice-2.result.now c.from_vec.result c.in_ok-arcs.arcs.items
    (length c.args.path.now) (omega (arith, c.if-depth-eq0.false)) refl c.as_slice.ensures.value c.as_slice-2.ensures.value c.from_vec.ensures (c.in_ok-refs.ensures.listed []) c.in_ok-bands.ensures.bounds c.in_ok-arcs.ensures.arcs
