-- The goals of `piece_at` that need an answer.
use Rattle.std.proofs.Common.{rules, ◌<◌, length, sym}
use Rattle.species_lexer.proofs.PieceLemmas.{at_digit, at_hash, at_letter}
use Rattle.species_lexer.proofs.pieces.piece_at.Goals as goal

pub returns-then-is_digit-clause-value : goal.returns-then-is_digit-clause-value
returns-then-is_digit-clause-value c =
    let some : 0 < length c.args.bytes.now = search rules in
    at_digit c.args.is_head c.args.bytes.now c.behind-more.result.now c.run_more.result _ some c.behind-more.ensures (search rules) (search rules) (search rules) (search rules) (search rules) c.run_more.ensures.value c.number.ensures.value

pub returns-then-b-eq35-clause-value : goal.returns-then-b-eq35-clause-value
returns-then-b-eq35-clause-value c =
    let some : 0 < length c.args.bytes.now = search rules in
    at_hash c.args.is_head c.args.bytes.now c.behind-more.result.now c.line_len-then-b-eq35.result _ some c.behind-more.ensures (sym c.if-b-eq35.true) c.line_len-then-b-eq35.ensures.value c.hash.ensures.value

pub returns-then-is_letter-clause-value : goal.returns-then-is_letter-clause-value
returns-then-is_letter-clause-value c =
    let some : 0 < length c.args.bytes.now = search rules in
    at_letter c.args.is_head c.args.bytes.now c.behind-more.result.now c.word_len.result _ some c.behind-more.ensures (search rules) (search rules) (search rules) (search rules) c.word_len.ensures.value c.word.ensures.value
