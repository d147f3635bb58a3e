-- The goals of `arrays` that need an answer.
use Rattle.std.proofs.Common.{rules, arith}
use Rattle.species_grammar.proofs.Free.{repeated_done}
use Rattle.species_parser.specs.Words.{is_the_punctuator}
use Rattle.species_parser.specs.Parsing.{arrays, array, more_arrays, next_array}
use Rattle.species_parser.proofs.Forms.{next_array_advances}
use Rattle.species_parser.proofs.Loops.{list_begins, repeated_turn}
use Rattle.species_parser.proofs.declarations.arrays.Goals as goal

pub loop-alloc-init : goal.loop-alloc-init
unfolding arrays
loop-alloc-init c = (
  let begins = list_begins array more_arrays c.args.cursor.now _ _ c.in_ok-array.ensures.value in rw begins (search rules),
  search rules,
)

pub returns-in_err-next_array-clause-value : goal.returns-in_err-next_array-clause-value
returns-in_err-next_array-clause-value c =
    let turn = repeated_turn (is_the_punctuator ",") next_array next_array_advances c.loop-alloc.arrays c.loop-alloc.cursor (search rules) in
    rw (c.loop-alloc.invariant.0, turn) (search rules)

pub loop-alloc-preserved : goal.loop-alloc-preserved
loop-alloc-preserved c =
    let turn = repeated_turn (is_the_punctuator ",") next_array next_array_advances c.loop-alloc.arrays c.loop-alloc.cursor (search rules) in
    (rw (c.loop-alloc.invariant.0, turn) (search rules), omega (arith, c.loop-alloc.invariant.1, c.in_ok-next_array.ensures.shorter))

pub returns-clause-value : goal.returns-clause-value
returns-clause-value c = repeated_done (is_the_punctuator ",") next_array _ _ _ c.loop-alloc.invariant.0 (search rules)
