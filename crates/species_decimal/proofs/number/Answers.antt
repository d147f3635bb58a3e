use Rattle.std.proofs.Common.{arith, subst, ap, ◌∙◌, ◌<◌}
use Rattle.std.specs.Char.{digit_value}
use Rattle.std.proofs.lemmas.Int.Digits.{digits_more, digits_value_more}
use Rattle.species_decimal.proofs.Digits.{not_digits, too_large}
use Rattle.species_decimal.proofs.number.Goals as goal

pub returns-in_default : goal.returns-in_default
returns-in_default c = λ (all, within).
    not_digits c.loop-digit.digit-index c.args.digits.now c.loop-digit-test.true
    (subst (λ d. digit_value d < 10 → ⊥) c.from.ensures c.in_default.ensures.value) all

pub returns-then-number-from : goal.returns-then-number-from
returns-then-number-from c = λ (all, within).
    let value = c.in-Some.ensures.value.1 ∙ ap digit_value c.from.ensures in
    too_large c.loop-digit.digit-index c.loop-digit.number c.args.most c.args.digits.now c.loop-digit-test.true
    c.loop-digit.invariant.value (omega arith) within

pub loop-digit-preserved : goal.loop-digit-preserved
loop-digit-preserved c =
    let value = c.in-Some.ensures.value.1 ∙ ap digit_value c.from.ensures in
    let below = subst (λ d. digit_value d < 10) c.from.ensures c.in-Some.ensures.value.0 in
    record {
      digits = digits_more 10 c.args.digits.now c.loop-digit.digit-index c.loop-digit-test.true c.loop-digit.invariant.digits below;
      value = omega (arith, digits_value_more 10 c.args.digits.now c.loop-digit.digit-index c.loop-digit-test.true);
      within = omega arith;
    }
