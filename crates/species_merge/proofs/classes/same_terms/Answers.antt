use Rattle.std.proofs.lemmas.Slice.Eq.{slice_eq-Decides}
use Rattle.species_merge.specs.Classes.{same_terms}
use Rattle.species_merge.proofs.ClassLemmas.{same_term, same_tests, terms_decide}
use Rattle.species_merge.proofs.classes.same_terms.Goals as goal

pub returns : goal.returns
returns c =
    same_tests c.eq.result (same_terms c.args.a.now c.args.b.now) (slice_eq-Decides same_term c.args.a.now c.args.b.now c.eq.result c.eq.ensures)
    (terms_decide c.args.a.now c.args.b.now)
