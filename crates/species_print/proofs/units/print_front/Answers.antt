use Rattle.std.proofs.Common.{refl}
use Rattle.species_print.proofs.UnitTexts.{text-front}
use Rattle.species_print.proofs.units.print_front.Goals as goal

pub returns-clause-ok : goal.returns-clause-ok
returns-clause-ok c =
    rw (c.in_ok-put.ensures.ok, c.as_slice.ensures.value, c.in_ok-put_front.ensures, c.new-text.ensures.items, text-front c.args.unit.now) refl
