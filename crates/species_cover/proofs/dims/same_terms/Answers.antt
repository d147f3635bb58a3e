use Rattle.std.proofs.lemmas.Slice.Eq.{slice_eq-Decides}
use Rattle.species_cover.proofs.DimLemmas.{same_term}
use Rattle.species_cover.proofs.dims.same_terms.Goals as goal

pub returns : goal.returns
returns c = slice_eq-Decides same_term c.args.given.now c.args.derived.now c.eq.result c.eq.ensures
