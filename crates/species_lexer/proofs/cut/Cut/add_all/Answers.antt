-- The goals of `add_all` that need an answer.
use Rattle.species_lexer.specs.Pieces.{seen_piece}
use Rattle.species_lexer.specs.SeenCut.{seen_cut}
use Rattle.species_lexer.proofs.Feeding.{all_next}
use Rattle.species_lexer.proofs.cut.Cut.add_all.Goals as goal

pub loop-piece-preserved : goal.loop-piece-preserved
loop-piece-preserved c =
    let l = c.loop-piece in
    all_next (seen_cut c.args.self.now) (seen_cut l.self) (seen_cut c.add.new.self) c.args.bytes.now c.behind-rest.result.now l.at c.in_ok-at-in-Some.field-0 (seen_piece c.in-Some.piece)
    l.invariant.0 l.invariant.1 l.invariant.2 c.behind-rest.ensures c.in-Some.ensures.value c.in_ok-at-in-Some.ensures
