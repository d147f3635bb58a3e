use Rattle.std.proofs.Common.{◌∙◌, ap, sym, slice_index_or, ◌++◌}
use Rattle.species_arcs.specs.declared.places.Arc.{Arc}
use Rattle.species_notation.specs.Parts.{text_of}
use Rattle.species_notation.specs.Written.{is_on, arc_after, written_arc}
use Rattle.species_notation.proofs.ArcTexts.{side_next}
use Rattle.species_notation.proofs.writing.put_side.Goals as goal

pub loop-arc-preserved : goal.loop-arc-preserved
loop-arc-preserved c =
    let arc : Arc = slice_index_or c.args.arcs.now c.loop-arc.arc-index c.arc-item.result in
    let names = c.args.names.now in
    side_next (written_arc names) (is_on c.args.left) c.args.arcs.now c.loop-arc.arc-index c.arc-item.result c.args.out.now.items c.loop-arc.out.items
    c.put_next_arc.new.out.items c.loop-arc.is_empty c.loop-arc-test.true
    (ap (λ (a : Arc). is_on c.args.left a) (sym c.arc-item.is) ∙ sym c.is_on.ensures ∙ c.if-not-is_on.false)
    c.loop-arc.invariant
    (c.in_ok-put_next_arc.ensures ∙ ap (λ (a : Arc). c.loop-arc.out.items ++ text_of (arc_after c.loop-arc.is_empty (written_arc names a))) c.arc-item.is)
