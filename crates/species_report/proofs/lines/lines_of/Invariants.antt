use Rattle.std.proofs.Common.{take}
use Rattle.species_report.specs.Lines.{HaveLines}
use Rattle.species_report.proofs.lines.lines_of.Given as goal

abbrev pub invariant-loop-reference : goal.invariant-loop-reference
invariant-loop-reference l = HaveLines l.names l.bound (take l.reference-index l.references) l.text.items
