-- The canonical text of a unit is read as the same unit, up to places.
use Rattle.std.proofs.Common.{◌∙◌, ap, sym, true, []}
use Rattle.species_ast.specs.Text.Stream.{grammar_tokens}
use Rattle.species_ast.proofs.Cutting.{cuts_one_way}
use Rattle.species_print.specs.Printed.{tokens_from}
use Rattle.species_print.specs.Units.{unit_printed, canonical_text}
use Rattle.species_readback.specs.ReadBack.{ReadsBack}
use Rattle.species_readback.proofs.TokenLemmas.{has_tokens}
use Rattle.species_readback.proofs.UnitLemmas.{unit_reads}
use Rattle.species_readback.proofs.SpeltLemmas.{unit_lines}

pub reads_back : ReadsBack
reads_back u s m =
    let h = has_tokens (unit_printed true u) ((unit_lines u s).apart []) in
    let d = (unit_reads u m).at 0 in
    record {
      tokens = tokens_from 0 (unit_printed true u);
      cut = h;
      only = λ others o. o.3 ∙ ap (λ z. grammar_tokens z.tokens) (cuts_one_way.at_most_one (canonical_text u) o.0 h.0 o.1 h.1) ∙ sym h.3;
      raw = d.raw;
      derives = d.derives;
      becomes = d.becomes;
    }
