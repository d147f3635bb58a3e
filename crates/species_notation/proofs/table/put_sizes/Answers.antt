use Rattle.std.proofs.Common.{codes, map}
use Rattle.species_arcs.specs.declared.places.ArcDim.{ArcDim}
use Rattle.species_notation.specs.Parts.{parts_text}
use Rattle.species_notation.specs.Spelled.{listed_parts}
use Rattle.species_notation.specs.Written.{number_parts}
use Rattle.species_notation.proofs.ArcTexts.{regroup}
use Rattle.species_notation.proofs.TableTexts.{sizes_text}
use Rattle.species_notation.proofs.table.put_sizes.Goals as goal

pub returns : goal.returns
returns c =
    let ds = c.args.dims.now in
    rw (
      sizes_text ds,
      c.in_ok-put-3.ensures,
      c.in_ok-put_steps.ensures,
      c.in_ok-put-2.ensures,
      c.in_ok-put_elements.ensures,
      c.in_ok-put.ensures,
    )
    (regroup c.args.out.now.items (codes " elements (") (parts_text (listed_parts 44 number_parts (map (λ (d : ArcDim). d.elements) ds))) (codes ") step (") (parts_text (listed_parts 44 number_parts (map (λ (d : ArcDim). d.step) ds))) (codes ")"))
