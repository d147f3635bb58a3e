use Rattle.species_cli.proofs.TextLemmas.{is_arcs_text}
use Rattle.species_cli.proofs.command.arcs_text.Goals as goal

pub returns : goal.returns
returns c = is_arcs_text c.law_table.ensures c.args.unit.now c.in_ok-text.text.items c.requires c.in_ok-text.ensures
