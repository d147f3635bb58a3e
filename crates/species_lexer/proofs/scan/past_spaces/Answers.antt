-- The goals of `past_spaces` that need an answer.
use Rattle.std.proofs.Common.{arith, ◌<◌}
use Rattle.species_lexer.proofs.Stops.{past_one}
use Rattle.species_lexer.proofs.scan.past_spaces.Goals as goal

pub loop-rest-preserved : goal.loop-rest-preserved
loop-rest-preserved c =
    let some : 0 < c.space_in-n.result = search (arith, c.if-n-eq0.false) in
    past_one c.args.text.now c.behind-rest.result.now c.front.result.now c.loop-rest.at c.space_in-n.result c.args.start c.loop-rest.is_head c.head_behind-is_head.result c.piece_at-piece.result
    c.loop-rest.invariant c.behind-rest.ensures c.front.ensures c.head_behind-is_head.ensures
    c.piece_at-piece.ensures.value c.piece_at-piece.ensures.fits c.space_in-n.ensures some
