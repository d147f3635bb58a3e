-- The bounds of a band, and their number.
use Rattle.std.proofs.Common.{◌∙◌, ◌-◌, ap, []}
use Rattle.species_ranges.specs.Fitting.{fits_in_loop}
use Rattle.species_classify.proofs.ArcLemmas.{bounds_are, bounds_count}
use Rattle.species_classify.proofs.plan.band_bounds.Goals as goal

pub returns-clause-bounds : goal.returns-clause-bounds
returns-clause-bounds c = bounds_are (c.args.depth - 1) c.args.head.now c.new-found.result.items c.add_bounds.new.found.items c.new-found.ensures.items (c.in_ok-add_bounds.ensures.bounds (ap (fits_in_loop c.args.head.now) c.in_ok-around.ensures ∙ c.requires.fits) [])

pub returns-clause-count : goal.returns-clause-count
returns-clause-count c =
    bounds_count c.args.depth c.args.head.now c.add_bounds.new.found.items c.requires.some c.requires.deep
    (bounds_are (c.args.depth - 1) c.args.head.now c.new-found.result.items c.add_bounds.new.found.items c.new-found.ensures.items (c.in_ok-add_bounds.ensures.bounds (ap (fits_in_loop c.args.head.now) c.in_ok-around.ensures ∙ c.requires.fits) []))
