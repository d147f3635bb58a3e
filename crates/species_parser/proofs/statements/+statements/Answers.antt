-- The goals of the functions of statements that need an answer.
use Rattle.std.proofs.Common.{rules, arith}
use Rattle.species_grammar.proofs.Free.{closed_done}
use Rattle.species_parser.specs.Words.{the_punctuator}
use Rattle.species_parser.specs.Parsing.{item}
use Rattle.species_parser.proofs.Forms.{item_advances}
use Rattle.species_parser.proofs.Loops.{closed_turn}
use Rattle.species_parser.proofs.statements.+statements.Goals as goal

pub items-returns-in_err-item-clause-value : goal.items-returns-in_err-item-clause-value
items-returns-in_err-item-clause-value t c =
    let turn = closed_turn (the_punctuator "}") item item_advances c.loop-alloc.items c.loop-alloc.cursor (search rules) in
    rw (c.loop-alloc.invariant.0, turn) (search rules)

pub items-loop-alloc-preserved : goal.items-loop-alloc-preserved
items-loop-alloc-preserved t c =
    let turn = closed_turn (the_punctuator "}") item item_advances c.loop-alloc.items c.loop-alloc.cursor (search rules) in
    (rw (c.loop-alloc.invariant.0, turn) (search rules), omega (arith, c.loop-alloc.invariant.1, c.in_ok-item.ensures.shorter))

pub items-returns-clause-value : goal.items-returns-clause-value
items-returns-clause-value t c = closed_done (the_punctuator "}") item _ _ _ c.loop-alloc.invariant.0 _ _ c.in_ok-punctuator.ensures.value
