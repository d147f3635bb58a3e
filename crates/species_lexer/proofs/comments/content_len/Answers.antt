-- The goals of `content_len` that need an answer.
use Rattle.std.proofs.Common.{rules, arith, sym, ◌∙◌, ◌<◌}
use Rattle.species_lexer.proofs.Runs.{content_more}
use Rattle.species_lexer.proofs.comments.content_len.Goals as goal

pub loop-at-preserved : goal.loop-at-preserved
loop-at-preserved c =
    let some : 0 < c.plain_len-n.result = search (arith, c.if-n-eq0.false) in
    (search rules, c.loop-at.invariant.1 ∙ content_more c.args.line.now c.loop-at.at c.plain_len-n.result (sym c.plain_len-n.ensures.value) some c.plain_len-n.ensures.within)
