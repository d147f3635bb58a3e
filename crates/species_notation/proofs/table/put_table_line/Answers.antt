use Rattle.species_notation.specs.Written.{written_arc, arc_tail, sizes_pieces, table_front}
use Rattle.species_notation.proofs.TableTexts.{line_text_of}
use Rattle.species_notation.proofs.table.put_table_line.Goals as goal

pub returns : goal.returns
returns c =
    let raw = written_arc c.args.names.now c.args.arc.now in
    let ds = c.args.arc.now.dims in
    rw (
      c.in_ok-put_tail.ensures,
      c.in_ok-put_sizes.ensures,
      c.in_ok-put_head.ensures,
      c.as_slice.ensures,
    )
    (line_text_of c.args.out.now.items (table_front c.args.number c.args.arc.now.dir raw) (sizes_pieces ds) (arc_tail raw))
