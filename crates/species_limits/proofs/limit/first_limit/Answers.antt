use Rattle.std.proofs.Common.{◌∙◌, ap, None}
use Rattle.species_names.specs.Kept.{kept}
use Rattle.species_limits.specs.Found.{arrays_found}
use Rattle.species_limits.proofs.LimitLaws.{first_is}
use Rattle.species_limits.proofs.limit.first_limit.Goals as goal

pub returns : goal.returns
returns c p h =
    c.first.ensures ∙ first_is p c.args.unit.now c.args.places.now c.note_arrays.new.limits c.note_loops.new.limits h
    (c.note_arrays.ensures ∙ ap (λ m. kept m (arrays_found c.as_slice.result.now c.args.places.now)) c.new-limits.ensures ∙ ap (λ as_. kept None (arrays_found as_ c.args.places.now)) c.as_slice.ensures)
    c.in_ok-note_loops.ensures
