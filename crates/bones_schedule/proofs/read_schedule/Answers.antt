use Rattle.std.proofs.Common.{rules, arith, ◌≡◌, ◌∙◌, ap, sym, ◌++◌, ◌∷◌, [], ◌+◌, Err}
use Rattle.bones_schedule.proofs.ScheduleLemmas.{before, left, blank_turn, number_turn, other_turn}
use Rattle.bones_schedule.proofs.read_schedule.Goals as goal

pub loop-at-preserved-then-len-eq0 : goal.loop-at-preserved-then-len-eq0
loop-at-preserved-then-len-eq0 c = record {
  within = omega arith;
  read =
      c.loop-at.invariant.read
      ∙ ap (before c.loop-at.numbers.items)
      (blank_turn c.args.base c.loop-at.at c.args.text.now c.loop-at-test.true (sym c.word_len-len.ensures.value ∙ c.if-len-eq0.true));
}

pub returns-in-None-clause-syntax : goal.returns-in-None-clause-syntax
returns-in-None-clause-syntax c = λ place is.
    let here : c.args.base + c.loop-at.at ≡ place = cc in
    c.loop-at.invariant.read
    ∙ other_turn c.args.base c.loop-at.at c.word_len-len.result c.args.text.now c.loop-at.numbers.items
    c.word_len-len.ensures.value c.if-len-eq0.false (sym c.read_decimal.ensures.value ∙ c.in-None.is)
    ∙ ap Err here

pub loop-at-preserved : goal.loop-at-preserved
loop-at-preserved c = record {
  within = search rules;
  read =
      let pushed : c.push.new.self.items ≡ c.loop-at.numbers.items ++ c.in-Some.number ∷ [] = search rules in
      c.loop-at.invariant.read
      ∙ number_turn c.args.base c.loop-at.at c.word_len-len.result c.in-Some.number c.args.text.now c.loop-at.numbers.items
      c.word_len-len.ensures.value c.if-len-eq0.false (sym c.read_decimal.ensures.value ∙ c.in-Some.is)
      ∙ ap (λ ns. before ns (left c.args.base (c.loop-at.at + c.word_len-len.result) c.args.text.now)) (sym pushed);
}
