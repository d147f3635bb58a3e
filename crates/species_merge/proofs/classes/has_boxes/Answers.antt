use Rattle.std.proofs.Common.{◌≡◌, subst}
use Rattle.std.specs.Bool.{Decides}
use Rattle.std.proofs.lemmas.Slice.Eq.{slice_eq-Decides}
use Rattle.species_merge.proofs.ClassLemmas.{same_span}
use Rattle.species_merge.proofs.classes.has_boxes.Goals as goal

pub returns : goal.returns
returns c =
    subst (λ xs. Decides c.eq.result (xs ≡ c.args.boxes.now)) c.as_slice.ensures
    (slice_eq-Decides same_span c.as_slice.result.now c.args.boxes.now c.eq.result c.eq.ensures)
