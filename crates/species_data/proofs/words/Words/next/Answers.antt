use Rattle.std.proofs.Common.{arith, sym, ap, ◌∙◌, ◌∷◌, ◌+◌, ◌<◌, take}
use Rattle.species_decimal.specs.Words.{Word, words_at}
use Rattle.species_data.specs.Lines.{is_gap}
use Rattle.species_data.proofs.WordLemmas.{rest_of, no_word, one_word, behind}
use Rattle.species_data.proofs.words.Words.next.Goals as goal

pub returns-then-len-eq0 : goal.returns-then-len-eq0
returns-then-len-eq0 c =
    sym c.self.view_is
    ∙ no_word c.self.inside.place c.gap_len-gap.result c.word_len-len.result c.self.inside.line.now c.gap_len-gap.ensures.value c.word_len-len.ensures.value c.if-len-eq0.true

pub returns : goal.returns
returns c =
    let gap = c.gap_len-gap.result in
    let len = c.word_len-len.result in
    let rest = rest_of gap c.self.inside.line.now in
    let place = c.self.inside.place in
    let word : Word = record { place = place + gap; text = take len rest } in
    let some : 0 < len = omega arith in
    sym c.self.view_is
    ∙ one_word place gap len c.self.inside.line.now c.gap_len-gap.ensures.value c.word_len-len.ensures.value some
    ∙ ap (λ bytes. word ∷ words_at is_gap (place + gap + len) bytes) (sym (behind len rest))
