use Rattle.std.proofs.Common.{rules, arith}
use Rattle.species_grammar.specs.Reader.{is_of, skip}
use Rattle.species_grammar.proofs.Free.{repeated_done}
use Rattle.species_notation.specs.Readers.{more_of, offset, sign}
use Rattle.species_notation.proofs.Turns.{list_begins, repeated_turn}
use Rattle.species_notation.proofs.Totals.{a_next_offset}
use Rattle.species_notation.proofs.reading.offset_list.Goals as goal

pub loop-found-init : goal.loop-found-init
loop-found-init c = (
  let begins = list_begins offset (more_of 44 offset) c.args.cursor.now _ _ c.in_ok-offset.ensures.value in rw begins (search rules),
  search rules,
)

pub returns-in_err-next_offset-clause-value : goal.returns-in_err-next_offset-clause-value
returns-in_err-next_offset-clause-value c =
    let turn = repeated_turn (is_of (sign 44)) (skip (sign 44) offset) a_next_offset c.loop-found.found c.loop-found.cursor (search rules) in
    rw (c.loop-found.invariant.0, turn) (search rules)

pub loop-found-preserved : goal.loop-found-preserved
loop-found-preserved c =
    let turn = repeated_turn (is_of (sign 44)) (skip (sign 44) offset) a_next_offset c.loop-found.found c.loop-found.cursor (search rules) in
    (rw (c.loop-found.invariant.0, turn) (search rules), omega (arith, c.loop-found.invariant.1, c.in_ok-next_offset.ensures.shorter))

pub returns-clause-value : goal.returns-clause-value
returns-clause-value c = repeated_done (is_of (sign 44)) (skip (sign 44) offset) _ _ _ c.loop-found.invariant.0 (search rules)
