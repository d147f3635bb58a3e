-- The goals of `number` that need an answer.
use Rattle.std.proofs.Common.{sym, ◌∙◌, suc, ◌+◌, ◌*◌, drop}
use Rattle.species_lexer.proofs.Digits.{too_large, next_digit}
use Rattle.species_lexer.proofs.numbers.number.Goals as goal

pub returns-then-n-gt18446744073709551615 : goal.returns-then-n-gt18446744073709551615
returns-then-n-gt18446744073709551615 c =
    sym (too_large c.args.radix (c.loop-digit.n * c.args.radix + c.digit_value.result) (drop (suc c.loop-digit.digit-index) c.args.digits.now) c.args.digits.now c.requires.some
    (c.loop-digit.invariant.1 ∙ next_digit c.args.radix c.loop-digit.n c.loop-digit.digit-index c.digit_value.result c.args.digits.now c.loop-digit-test.true c.digit_value.ensures.value)
    c.if-n-gt18446744073709551615.true)
