use Rattle.std.proofs.Common.{codes}
use Rattle.species_notation.specs.Parts.{parts_text}
use Rattle.species_notation.specs.Spelled.{listed_parts, form_parts, mark_text}
use Rattle.species_notation.specs.Written.{written_arc, arc_shape}
use Rattle.species_notation.proofs.ArcTexts.{regroup}
use Rattle.species_notation.proofs.TableTexts.{tail_text}
use Rattle.species_notation.proofs.table.put_tail.Goals as goal

pub returns : goal.returns
returns c =
    let raw = written_arc c.args.names.now c.args.arc.now in
    rw (
      tail_text raw,
      c.in_ok-put-3.ensures,
      c.in_ok-put-2.ensures,
      c.in_ok-put_forms.ensures,
      c.in_ok-put.ensures,
      c.in_ok-put_shape.ensures,
      c.mark_text.ensures,
      c.as_slice.ensures,
      c.as_slice-2.ensures,
    )
    (regroup c.args.out.now.items (parts_text (arc_shape raw)) (codes " at (") (parts_text (listed_parts 44 form_parts raw.forms)) (codes ") ") (mark_text raw.exact))
