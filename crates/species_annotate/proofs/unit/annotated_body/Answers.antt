use Rattle.species_annotate.proofs.UnitLemmas.{body_becomes}
use Rattle.species_annotate.proofs.unit.annotated_body.Goals as goal

pub returns : goal.returns
returns c =
    body_becomes c.args.unit.now c.in_ok-loops.loops c.in_ok-names.names c.as_slice.result.now c.in_ok-annotate_list.field-0 c.in_ok-loops.ensures c.in_ok-names.ensures c.as_slice.ensures c.in_ok-annotate_list.ensures.becomes
