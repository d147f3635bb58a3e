use Rattle.std.proofs.Common.{◌≡◌, codes, decimal, rules}
use Rattle.species_notation.specs.Parts.{parts_text}
use Rattle.species_notation.specs.Written.{written_arc, dir_text, arc_domain}
use Rattle.species_notation.proofs.ArcTexts.{regroup}
use Rattle.species_notation.proofs.TableTexts.{front_text}
use Rattle.species_notation.proofs.table.put_head.Goals as goal

pub returns : goal.returns
returns c =
    let raw = written_arc c.args.names.now c.args.arc.now in
    let d = c.args.arc.now.dir in
    let wide : c.from.result ≡ c.args.number = search rules in
    rw (
      front_text c.args.number d raw,
      c.in_ok-put_domain.ensures,
      c.in_ok-put-3.ensures,
      c.in_ok-put-2.ensures,
      c.in_ok-put.ensures,
      c.in_ok-put_number.ensures,
      c.dir_text.ensures,
      wide,
    )
    (regroup c.args.out.now.items (decimal c.args.number) (codes " ") (dir_text d) (codes " ") (parts_text (arc_domain raw)))
