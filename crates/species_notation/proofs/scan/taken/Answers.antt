-- The goals of `taken` that need an answer.
use Rattle.std.proofs.Common.{rules, arith}
use Rattle.species_notation.proofs.Fronts.{word_taken, number_taken}
use Rattle.species_notation.proofs.scan.taken.Goals as goal

pub returns-then-is_letter-clause-value : goal.returns-then-is_letter-clause-value
returns-then-is_letter-clause-value c =
    word_taken c.args.text.now c.word_len.result c.word_in.result (search rules) (search rules) (omega (arith, c.gap_len-gap.ensures.value, c.if-gap-gt0.false)) (search rules) c.word_in.ensures.value

pub returns-then-is_digit-clause-value : goal.returns-then-is_digit-clause-value
returns-then-is_digit-clause-value c =
    number_taken c.args.text.now c.word_len-then-is_digit.result c.number_in.result (search rules) (search rules)
    (omega (arith, c.gap_len-gap.ensures.value, c.if-gap-gt0.false)) (search rules) (search rules) c.number_in.ensures.value
