-- The goals of `literal_before` that need an answer.
use Rattle.std.proofs.Common.{◌≡◌, ◌∙◌, ap, sym, arith, rules, ◌-◌, true}
use Rattle.species_lexer.specs.Cursor.{over, before_at}
use Rattle.species_lexer.proofs.Searches.{searches, next, nothing_left}
use Rattle.species_lexer.proofs.scan.literal_before.Goals as goal

pub loop-from-init : goal.loop-from-init
loop-from-init c =
    let k : c.args.at - 0 ≡ c.args.at = omega arith in
    (before_at c.args.text.now c.args.at, omega arith, ap (λ i. over c.args.text.now 0 i true) k ∙ c.requires.reached, search rules)

pub loop-from-preserved : goal.loop-from-preserved
loop-from-preserved c =
    let s = searches c.args.text.now c.behind-rest.result.now c.loop-from.from c.args.at c.loop-from.is_head c.piece_at-piece.result c.args.name.now c.loop-from.invariant.0
    c.loop-from-test.true c.loop-from.invariant.2 c.behind-rest.ensures c.piece_at-piece.ensures.value c.piece_at-piece.ensures.fits in
    next c.args.text.now c.behind-rest.result.now c.front.result.now c.loop-from.from c.args.at c.length_in-n.result c.loop-from.is_head c.head_after-is_head.result c.piece_at-piece.result c.args.name.now c.loop-from.invariant.0
    (before_at c.args.text.now c.args.at).definitions c.definition_in-found.result
    s c.length_in-n.ensures c.behind-rest.ensures c.front.ensures c.head_after-is_head.ensures c.loop-from.invariant.3 c.definition_in-found.ensures (search rules)

pub returns : goal.returns
returns c =
    let k : c.args.at - c.loop-from.from ≡ 0 = omega (arith, c.loop-from-test.false) in
    sym (c.loop-from.invariant.3 ∙ nothing_left _ _ _ c.loop-from.invariant.0 c.args.name.now k c.loop-from.invariant.2)
