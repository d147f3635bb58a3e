use Rattle.std.proofs.Common.{append_assoc, codes, []}
use Rattle.species_print.specs.Texts.{front_text, stmts_text}
use Rattle.species_print.proofs.UnitTexts.{text-unit}
use Rattle.species_print.proofs.units.print.Goals as goal

pub returns : goal.returns
returns c =
    rw (c.in_ok-put.ensures.ok, c.in_ok-print_all.ensures, c.in_ok-put_front.ensures, c.new-text.ensures.items, c.as_slice.ensures, text-unit c.args.unit.now c.requires)
    (append_assoc (front_text c.args.unit.now) (stmts_text c.args.unit.now [] (codes "    ") c.args.unit.now.body) (codes "}\n"))
