-- The goals of `finish` that need an answer.
use Rattle.std.proofs.Common.{rules, ◌≡◌, Err}
use Rattle.species_lexer.specs.SeenCut.{seen_cut}
use Rattle.species_lexer.proofs.Feeding.{whole_cut, whole_answered}
use Rattle.species_lexer.proofs.cutter.Cutter.finish.Goals as goal

pub returns-in_err-add_all : goal.returns-in_err-add_all
returns-in_err-add_all c =
    let s = c.self.inside in
    let same : c.from_residual.result ≡ Err c.in_err-add_all.field-0.0 = search rules in
    whole_answered (record { cut = seen_cut s.cut; left = s.left.items }) c.args.self c.as_slice.result.now (seen_cut c.add_all.new.self) c.in_err-add_all.field-0.0 c.from_residual.result
    c.self.view_is c.as_slice.ensures.value c.in_err-add_all.ensures same

pub returns : goal.returns
returns c =
    let s = c.self.inside in
    whole_cut (record { cut = seen_cut s.cut; left = s.left.items }) c.args.self c.as_slice.result.now (seen_cut c.add_all.new.self) c.self.view_is c.as_slice.ensures.value
    c.in_ok-add_all.ensures.0 c.in_ok-add_all.ensures.1
