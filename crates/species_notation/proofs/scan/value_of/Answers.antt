-- The goals of `value_of` that need an answer.
use Rattle.std.proofs.Common.{rules, arith, sym, ◌∙◌, ◌+◌, ◌*◌, suc, drop}
use Rattle.species_notation.proofs.Fronts.{too_large, next_digit}
use Rattle.species_notation.proofs.scan.value_of.Goals as goal

pub returns-then-number-gt-MOST : goal.returns-then-number-gt-MOST
returns-then-number-gt-MOST c =
    let all = c.args.digits.now in
    let n = c.loop-digit.number in
    let v = c.digit_value.result in
    let i = c.loop-digit.digit-index in
    let next = next_digit n i v all (search rules) (search rules) in
    sym (too_large (n * 10 + v) (drop (suc i) all) all (c.loop-digit.invariant.1 ∙ next) (omega (arith, c.if-number-gt-MOST.true)))
