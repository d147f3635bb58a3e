use Rattle.std.proofs.Common.{[]}
use Rattle.species_report.proofs.PartLemmas.{first_there, first_seen, head_fits, few_references, nest_mergeable}
use Rattle.species_report.proofs.unit.nest_of.Goals as goal

pub bounds-as_slice-0 : goal.bounds-as_slice-0
bounds-as_slice-0 c =
    first_there c.in_ok-ranges.ranges c.as_slice.result.now c.args.head.now c.as_slice.ensures (c.in_ok-ranges.ensures.ranges (head_fits c.args.unit.now c.args.head.now c.requires.made c.requires.there))

pub references-requires-clause-ranges : goal.references-requires-clause-ranges
references-requires-clause-ranges c = c.in_ok-ranges.ensures.ranges (head_fits c.args.unit.now c.args.head.now c.requires.made c.requires.there)

pub references-requires-clause-few : goal.references-requires-clause-few
references-requires-clause-few c = few_references c.args.unit.now c.args.head.now c.requires.made c.requires.there

pub returns-clause-ends : goal.returns-clause-ends
returns-clause-ends c =
    c.in_ok-bound.ensures.bound []
    (first_seen c.in_ok-ranges.ranges c.as_slice.result.now c.args.head.now c.as_slice.ensures (c.in_ok-ranges.ensures.ranges (head_fits c.args.unit.now c.args.head.now c.requires.made c.requires.there)))

pub returns-clause-mergeable : goal.returns-clause-mergeable
returns-clause-mergeable c =
    nest_mergeable c.args.unit.now c.args.head.now c.in_ok-references.references.items c.requires.made c.requires.there
    (record { shown = λ at. c.in_ok-references.ensures.listed at; numbered = c.in_ok-references.ensures.numbered })
