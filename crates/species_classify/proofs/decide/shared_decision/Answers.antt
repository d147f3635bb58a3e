use Rattle.species_classify.proofs.ReasonLemmas.{shared_carried}
use Rattle.species_classify.proofs.decide.shared_decision.Goals as goal

pub returns-in-Carried : goal.returns-in-Carried
returns-in-Carried c =
    shared_carried c.args.refs.now c.args.outer c.args.front c.args.gathered c.as_slice.result.now c.band_of.result c.array_of-array.result c.in-Carried.first c.in-Carried.second c.sequential.result c.as_slice.ensures
    c.in-Carried.is c.band_of.ensures c.array_of-array.ensures c.sequential.ensures
