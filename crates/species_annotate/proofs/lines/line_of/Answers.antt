use Rattle.std.proofs.Common.{[], refl}
use Rattle.species_annotate.specs.Annotated.{band_names}
use Rattle.species_annotate.proofs.NameLemmas.{names_back}
use Rattle.species_annotate.proofs.lines.line_of.Goals as goal

pub returns-clause-same : goal.returns-clause-same
returns-clause-same c =
    names_back c.args.names.now c.enter_band.new.names c.enter_band.new.names c.leave.new.names (band_names c.args.nest.now.depth c.args.head.now []) c.len-level.result c.len-level.ensures (c.in_ok-enter_band.ensures []) refl c.leave.ensures
