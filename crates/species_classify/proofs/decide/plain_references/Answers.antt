-- The plain references of a nest are those of its text.
use Rattle.std.proofs.Common.{[]}
use Rattle.species_references.specs.Ranges.{ranges_seen}
use Rattle.species_references.specs.References.{adds_of}
use Rattle.species_classify.proofs.CountLemmas.{nest_few}
use Rattle.species_classify.proofs.DecisionLemmas.{are_plain}
use Rattle.species_classify.proofs.decide.plain_references.Goals as goal

pub references-requires-clause-few : goal.references-requires-clause-few
references-requires-clause-few c = nest_few (adds_of []) c.args.head.now [] (ranges_seen c.args.path.now) _ c.requires.few

pub returns : goal.returns
returns c = are_plain c.args.unit.now c.args.head.now c.args.path.now c.in_ok-plain.plain.items c.in_ok-refs.refs c.in_ok-refs.ensures c.in_ok-plain.ensures.listed c.in_ok-plain.ensures.numbered
