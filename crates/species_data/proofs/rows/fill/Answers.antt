use Rattle.std.proofs.Common.{rules, arith, sym, ap, ◌∙◌, ◌≡◌, ◌<◌, [], Err}
use Rattle.species_data.specs.Data.{values_of, given_row}
use Rattle.species_data.specs.Seen.{seen}
use Rattle.species_data.proofs.RowLemmas.{filling_goes_on, few_fail}
use Rattle.species_data.proofs.rows.fill.Goals as goal

pub loop-word-preserved : goal.loop-word-preserved
loop-word-preserved c =
    let k = c.args.array.now.kind in
    let size = c.in_ok-size.size in
    let less : c.loop-word.at < size = omega (arith, c.if-at-size.false, c.loop-word.invariant.within) in
    filling_goes_on c.args.arrays.now c.loop-word.arrays c.set.new.self c.args.number c.loop-word.at size c.args.end k (seen c.in-Some.word) c.loop-word.words c.next.new.self
    c.in-Some-element.value (values_of k c.args.end size c.args.words.now) (c.requires ∙ sym c.in_ok-size.ensures) less c.in-Some.ensures
    (sym c.element.ensures.value ∙ c.in-Some-element.is) c.set.ensures c.loop-word.invariant

pub returns-then-at-size-2-clause-syntax : goal.returns-then-at-size-2-clause-syntax
returns-then-at-size-2-clause-syntax c = λ p is.
    let here : c.args.end ≡ p = cc in
    let k = c.args.array.now.kind in
    let size = c.in_ok-size.size in
    let none : c.loop-word.words ≡ [] = search rules in
    ap (λ n. given_row c.args.arrays.now c.args.number (values_of k c.args.end n c.args.words.now)) (sym c.in_ok-size.ensures)
    ∙ few_fail c.args.arrays.now c.loop-word.arrays c.args.number c.loop-word.at size c.args.end k c.loop-word.words (values_of k c.args.end size c.args.words.now)
    c.if-at-size-2.true none c.loop-word.invariant
    ∙ ap Err here
