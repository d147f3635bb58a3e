-- The goals of `read` that need an answer.
use Rattle.std.proofs.Common.{rules, ◌≡◌, ◌+◌, ◌-◌, ◌≤◌, length, take, drop, take_all, length-drop, Some, ap, arith, sym, ◌∙◌}
use Rattle.species_io.proofs.ToldLemmas.{copied_on}
use Rattle.species_io.proofs.memory.MemSourceSource.read.Goals as goal

pub returns-clause-took : goal.returns-clause-took
returns-clause-took c =
    let copied = c.copy_from_slice.new.self in
    let at = c.self.inside.at in
    let bytes = c.self.inside.bytes.items in
    let n = c.min-n.result in
    let fits : at + n ≤ length bytes = search rules in
    let all = c.deref-2.result.now in
    let is : copied ≡ take n (drop at bytes) =
    c.copy_from_slice.ensures.after ∙ ap (λ x. take n x) (take_all (length all - at) (drop at all) (omega (arith, length-drop at all)))
    ∙ ap (λ x. take n (drop at x)) c.deref-2.ensures.value in
    ap (λ s. Some s.bytes) (sym c.self.view_is) ∙ ap (λ x. Some x) (copied_on bytes copied (drop n c.args.buf.now) at n is fits)
