use Rattle.std.proofs.Common.{[], subst, sym, rules}
use Rattle.species_merge.specs.Sizes.{IsMergeable}
use Rattle.species_report.specs.Lines.{HaveLines}
use Rattle.species_report.proofs.PartLemmas.{no_lines, lines_next, all_lines}
use Rattle.species_report.proofs.lines.lines_of.Goals as goal

pub loop-reference-init : goal.loop-reference-init
loop-reference-init c = subst (HaveLines c.args.names.now c.args.bound.now []) (sym c.new-text.ensures.items) (no_lines c.args.names.now c.args.bound.now)

pub line_of-requires-clause-reference : goal.line_of-requires-clause-reference
line_of-requires-clause-reference c = subst IsMergeable (sym c.reference-item.is) (c.requires.references c.loop-reference.reference-index c.reference-item.result c.loop-reference-test.true)

pub loop-reference-preserved : goal.loop-reference-preserved
loop-reference-preserved c =
    lines_next c.args.names.now c.args.bound.now c.args.references.now c.loop-reference.reference-index c.reference-item.result c.loop-reference.text.items c.in_ok-line.line.items c.extend_from_slice.new.self.items
    c.reference-item.is c.loop-reference-test.true c.loop-reference.invariant c.in_ok-line.ensures (search rules)

pub returns : goal.returns
returns c = all_lines c.args.names.now c.args.bound.now c.args.references.now c.loop-reference.reference-index c.loop-reference.text.items c.loop-reference-test.false c.loop-reference.invariant
