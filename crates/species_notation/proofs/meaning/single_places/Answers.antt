-- The goals of `single_places` that need an answer.
use Rattle.std.proofs.Common.{rules, refl, pos}
use Rattle.species_arcs.specs.declared.spans.Span.{Span}
use Rattle.species_notation.specs.declared.raw.RawForm.{RawForm}
use Rattle.species_notation.specs.declared.raw.RawSpan.{RawSpan}
use Rattle.species_notation.specs.Meaning.{each_some, offset_of}
use Rattle.species_notation.proofs.GivenForms.{no_offsets, singles_turn}
use Rattle.species_notation.proofs.meaning.single_places.Goals as goal

pub loop-number-preserved : goal.loop-number-preserved
loop-number-preserved c =
    let forms = c.args.forms.now in
    let one : Span = record { low = pos 0; high = pos 0; stride = 1 } in
    singles_turn RawForm RawSpan offset_of forms c.loop-number._number one (each_some offset_of (no_offsets RawForm RawSpan forms)) c.loop-number.spans c.push.new.self
    (search rules) c.loop-number.invariant refl (search rules)
