-- The goals of the functions of expressions that need an answer.
use Rattle.std.proofs.Common.{rules, arith, ◌∙◌, ◌-◌, suc}
use Rattle.std.specs.Prelude.{is_some}
use Rattle.species_grammar.specs.Reader.{one}
use Rattle.species_grammar.proofs.Free.{repeated_done, tail_done}
use Rattle.species_parser.specs.Words.{is_the_punctuator, operators_at}
use Rattle.species_parser.specs.Reading.{operation_of}
use Rattle.species_parser.specs.Parsing.{binary, subscript}
use Rattle.species_parser.proofs.Forms.{binary_top, binary_stuck, pair_advances, subscript_advances}
use Rattle.species_parser.proofs.Levels.{binary_turn}
use Rattle.species_parser.proofs.Loops.{repeated_turn, tail_turn}
use Rattle.species_parser.proofs.expressions.+expressions.Goals as goal

pub binary-returns-in_err-operand-clause-value : goal.binary-returns-in_err-operand-clause-value
binary-returns-in_err-operand-clause-value t c =
    let stops = binary_stuck c.args.level 11 c.requires.least c.requires.most (omega arith) c.args.cursor.now in
    search (rules, stops, binary_top, c.in_err-operand.ensures.value)

pub binary-loop-current-init : goal.binary-loop-current-init
binary-loop-current-init t c = (rw binary_top (search rules), c.requires.most, omega arith, search rules)

pub binary-returns-in_err-left-2-clause-value : goal.binary-returns-in_err-left-2-clause-value
binary-returns-in_err-left-2-clause-value t c =
    let turn = binary_turn c.args.level c.loop-current.current c.requires.least c.loop-current-test.true c.loop-current.invariant.2 c.args.cursor.now c.loop-current.cursor c.loop-current.left c.loop-current.invariant.0 in
    let stops = binary_stuck c.args.level (c.loop-current.current - 1) c.requires.least (omega (arith, c.loop-current-test.true)) (omega (arith, c.loop-current.invariant.2)) c.args.cursor.now in
    search (rules, stops, turn, c.in_err-left-2.ensures.value)

pub binary-loop-current-preserved : goal.binary-loop-current-preserved
binary-loop-current-preserved t c =
    let turn = binary_turn c.args.level c.loop-current.current c.requires.least c.loop-current-test.true c.loop-current.invariant.2 c.args.cursor.now c.loop-current.cursor c.loop-current.left c.loop-current.invariant.0 in (
      turn ∙ c.in_ok-left-2.ensures.value,
      omega (arith, c.loop-current-test.true),
      omega (arith, c.loop-current.invariant.2),
      omega (arith, c.loop-current.invariant.3, c.in_ok-left-2.ensures.within),
    )

pub binary_tail-returns-in_err-binary-clause-value : goal.binary_tail-returns-in_err-binary-clause-value
binary_tail-returns-in_err-binary-clause-value t c =
    let turn = tail_turn operation_of (λ z. is_some (operators_at c.args.level z)) (one (operators_at c.args.level)) (binary (suc c.args.level)) (pair_advances c.args.level) c.loop-alloc.left c.loop-alloc.cursor (search rules) in
    rw (c.loop-alloc.invariant.0, turn) (search rules)

pub binary_tail-loop-alloc-preserved : goal.binary_tail-loop-alloc-preserved
binary_tail-loop-alloc-preserved t c =
    let turn = tail_turn operation_of (λ z. is_some (operators_at c.args.level z)) (one (operators_at c.args.level)) (binary (suc c.args.level)) (pair_advances c.args.level) c.loop-alloc.left c.loop-alloc.cursor (search rules) in
    (rw (c.loop-alloc.invariant.0, turn) (search rules), search rules)

pub binary_tail-returns-clause-value : goal.binary_tail-returns-clause-value
binary_tail-returns-clause-value t c = c.loop-alloc.invariant.0 ∙ tail_done _ _ _ _ _ _ (search rules)

pub subscripts-returns-in_err-subscript-clause-value : goal.subscripts-returns-in_err-subscript-clause-value
subscripts-returns-in_err-subscript-clause-value t c =
    let turn = repeated_turn (is_the_punctuator "[") subscript subscript_advances c.loop-alloc.subs c.loop-alloc.cursor (search rules) in
    rw (c.loop-alloc.invariant.0, turn) (search rules)

pub subscripts-loop-alloc-preserved : goal.subscripts-loop-alloc-preserved
subscripts-loop-alloc-preserved t c =
    let turn = repeated_turn (is_the_punctuator "[") subscript subscript_advances c.loop-alloc.subs c.loop-alloc.cursor (search rules) in
    (rw (c.loop-alloc.invariant.0, turn) (search rules), search rules)

pub subscripts-returns-clause-value : goal.subscripts-returns-clause-value
subscripts-returns-clause-value t c = repeated_done (is_the_punctuator "[") subscript _ _ _ c.loop-alloc.invariant.0 (search rules)
