use Rattle.species_plan_truth.proofs.SpeltLaws.{spelt_marks}
use Rattle.species_cli.proofs.TextLemmas.{is_annotated_text}
use Rattle.species_cli.proofs.command.annotated_text.Goals as goal

pub returns : goal.returns
returns c =
    is_annotated_text c.law_lines.ensures c.law_marked_read_back.ensures c.args.unit.now c.in_ok-lined.lined c.in_ok-text.text.items c.requires
    c.in_ok-lined.ensures.plan c.in_ok-lined.ensures.source
    (λ s. spelt_marks c.args.unit.now c.in_ok-lined.lined s c.in_ok-lined.ensures.plan) c.in_ok-text.ensures
