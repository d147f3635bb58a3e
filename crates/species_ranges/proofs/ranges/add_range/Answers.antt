use Rattle.std.proofs.Common.{◌∙◌, ap, subst, sym}
use Rattle.species_linear.specs.Box.{HasSmallEnds, HasSmallPath}
use Rattle.species_references.specs.Ranges.{ranges_seen}
use Rattle.species_ranges.proofs.RangeLemmas.{seen_more, all_more}
use Rattle.species_ranges.proofs.ranges.add_range.Goals as goal

pub returns-clause-found : goal.returns-clause-found
returns-clause-found c = ap ranges_seen c.in_ok-push.ensures.ok ∙ seen_more c.args.found.now c.args.range

pub returns-clause-ends : goal.returns-clause-ends
returns-clause-ends c h = subst HasSmallPath (sym c.in_ok-push.ensures.ok) (all_more HasSmallEnds c.args.found.now c.args.range h c.requires)
