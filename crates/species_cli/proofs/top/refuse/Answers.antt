use Rattle.std.proofs.Common.{◌∙◌, ap, sym, Some}
use Rattle.species_reading.specs.declared.refusal.InputRefusal.TheVariants as input
use Rattle.species_cli.specs.Answer.{IsSaid, read_fault_line}
use Rattle.species_cli.specs.Refusals.{too_long_line}
use Rattle.species_cli.proofs.TopLemmas.{said, partly_said}
use Rattle.species_cli.proofs.top.refuse.Goals as goal

pub returns-in-ReadFault-clause-said : goal.returns-in-ReadFault-clause-said
returns-in-ReadFault-clause-said g c = λ p q.
    said c.args.refusal input.ReadFault 4 c.say.result read_fault_line _ _ c.in-ReadFault.is IsSaid.read_fault c.say.ensures.status c.say.ensures.whole p

pub returns-in-ReadFault-clause-part : goal.returns-in-ReadFault-clause-part
returns-in-ReadFault-clause-part g c = λ cut.
    partly_said c.args.refusal input.ReadFault 4 c.say.result read_fault_line _ _ c.in-ReadFault.is IsSaid.read_fault c.say.ensures.part cut

pub returns-in-TooLong-clause-said : goal.returns-in-TooLong-clause-said
returns-in-TooLong-clause-said g c = λ p q.
    said c.args.refusal input.TooLong 1 c.say-in-TooLong.result too_long_line _ _ c.in-TooLong.is IsSaid.too_long
    c.say-in-TooLong.ensures.status c.say-in-TooLong.ensures.whole p

pub returns-in-TooLong-clause-part : goal.returns-in-TooLong-clause-part
returns-in-TooLong-clause-part g c = λ cut.
    partly_said c.args.refusal input.TooLong 1 c.say-in-TooLong.result too_long_line _ _ c.in-TooLong.is IsSaid.too_long c.say-in-TooLong.ensures.part cut

pub returns-in-Ok-clause-said : goal.returns-in-Ok-clause-said
returns-in-Ok-clause-said g c = λ p q.
    said c.args.refusal (input.Program c.in-Program.program) 1 c.say-in-Ok.result c.deref.result.now _ _ c.in-Program.is
    (IsSaid.program c.in-Program.program c.deref.result.now (c.in-Ok.ensures ∙ ap Some (sym c.deref.ensures.value)))
    c.say-in-Ok.ensures.status c.say-in-Ok.ensures.whole p

pub returns-in-Ok-clause-part : goal.returns-in-Ok-clause-part
returns-in-Ok-clause-part g c = λ cut.
    partly_said c.args.refusal (input.Program c.in-Program.program) 1 c.say-in-Ok.result c.deref.result.now _ _ c.in-Program.is
    (IsSaid.program c.in-Program.program c.deref.result.now (c.in-Ok.ensures ∙ ap Some (sym c.deref.ensures.value)))
    c.say-in-Ok.ensures.part cut
