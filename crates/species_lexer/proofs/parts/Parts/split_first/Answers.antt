-- The goals of `split_first` that need an answer.
use Rattle.std.proofs.Common.{rules, ◌<◌, length}
use Rattle.species_lexer.proofs.PartLemmas.{parts_next}
use Rattle.species_lexer.proofs.parts.Parts.split_first.Goals as goal

pub returns : goal.returns
returns c =
    let some : 0 < length c.behind-rest.result.now = search rules in
    parts_next c.args.self.at c.gap_len-gap.result c.part_len-n.result c.args.self.rest.now c.behind-rest.result.now c.behind.result.now c.front.result.now c.behind-2.result.now
    c.gap_len-gap.ensures.value c.behind-rest.ensures some c.behind.ensures c.part_len-n.ensures.value c.front.ensures c.behind-2.ensures
