use Rattle.species_notation.specs.Written.{is_on, written_arc}
use Rattle.species_notation.proofs.ArcTexts.{SideWritten}
use Rattle.species_notation.proofs.writing.put_side.Given as goal

abbrev pub invariant-loop-arc : goal.invariant-loop-arc
invariant-loop-arc l = SideWritten (written_arc l.names) (is_on l.left) l.arcs l.arc-index l.initial.out.items l.out.items l.is_empty
