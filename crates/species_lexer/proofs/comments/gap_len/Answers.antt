-- The goals of `gap_len` that need an answer.
use Rattle.std.proofs.Common.{rules, arith, sym, ◌∙◌, ◌<◌}
use Rattle.species_lexer.proofs.Runs.{gap_more}
use Rattle.species_lexer.proofs.comments.gap_len.Goals as goal

pub loop-at-preserved : goal.loop-at-preserved
loop-at-preserved c =
    let some : 0 < c.blank_len-n.result = search (arith, c.if-n-eq0.false) in
    (search rules, c.loop-at.invariant.1 ∙ gap_more c.args.line.now c.loop-at.at c.blank_len-n.result (sym c.blank_len-n.ensures.value) some c.blank_len-n.ensures.within)
