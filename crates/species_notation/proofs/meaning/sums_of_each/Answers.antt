-- The goals of `sums_of_each` that need an answer.
use Rattle.std.proofs.Common.{rules, arith, ◌≡◌, suc, ◌+◌, drop, subst}
use Rattle.species_notation.specs.Meaning.{each_some, sums_of}
use Rattle.species_notation.proofs.GivenForms.{behind_all, each_turn}
use Rattle.species_notation.proofs.meaning.sums_of_each.Goals as goal

pub loop-form-preserved : goal.loop-form-preserved
loop-form-preserved c =
    let forms = c.args.forms.now in
    let i = c.loop-form.form-index in
    let next : suc i ≡ i + 1 = omega arith in
    subst (λ j. each_some sums_of forms ≡ behind_all c.push.new.self (each_some sums_of (drop j forms))) next
    (each_turn sums_of forms i c.form-item.result c.in_ok-sums_of.field-0 (each_some sums_of forms) c.loop-form.sums c.push.new.self
    (search rules) (search rules) c.loop-form.invariant c.in_ok-sums_of.ensures (search rules))
