-- The goals of `read_whole` that need an answer.
use Rattle.std.proofs.Common.{rules, ◌≤◌, ◌+◌, ◌++◌, take, length, length-append, length-take, arith, ap, ◌∙◌}
use Rattle.species_io.specs.Told.{before}
use Rattle.species_io.proofs.ToldLemmas.{before-before}
use Rattle.species_io.proofs.whole.read_whole.Goals as goal

-- the bytes of the last read came from the source, though there was no memory to keep them
pub returns-in_err-extend_from_slice-in-Ok-clause-budget : goal.returns-in_err-extend_from_slice-in-Ok-clause-budget
returns-in_err-extend_from_slice-in-Ok-clause-budget g c =
    let whole = c.loop-buffer.whole.items in
    let buffer = c.read.new.buf in
    let n = c.in-Ok.n in
    let upto : n ≤ c.min-size.result = search rules in
    let room : length whole + c.min-size.result ≤ c.args.limit + 1 = search rules in
    let fits : length (whole ++ take n buffer) ≤ c.args.limit + 1 = omega (arith, upto, room, length-append whole (take n buffer), length-take n buffer) in
    (whole ++ take n buffer, fits, c.loop-buffer.invariant.0 ∙ ap (λ told. before whole told) c.in-Ok.ensures.took ∙ before-before whole (take n buffer) _)
