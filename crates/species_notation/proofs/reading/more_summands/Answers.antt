use Rattle.std.proofs.Common.{rules, arith}
use Rattle.species_grammar.specs.Reader.{is_of}
use Rattle.species_grammar.proofs.Free.{repeated_done}
use Rattle.species_notation.specs.Readers.{plus_or_minus, next_summand, more_summands}
use Rattle.species_notation.proofs.Turns.{repeated_turn, nothing_before}
use Rattle.species_notation.proofs.Totals.{a_next}
use Rattle.species_notation.proofs.reading.more_summands.Goals as goal

pub loop-found-init : goal.loop-found-init
loop-found-init c = (rw c.new-found.ensures (nothing_before (more_summands c.args.cursor.now)), search rules)

pub returns-in_err-next_summand-clause-value : goal.returns-in_err-next_summand-clause-value
returns-in_err-next_summand-clause-value c =
    let turn = repeated_turn (is_of plus_or_minus) next_summand a_next c.loop-found.found c.loop-found.cursor (search rules) in
    rw (c.loop-found.invariant.0, turn) (search rules)

pub loop-found-preserved : goal.loop-found-preserved
loop-found-preserved c =
    let turn = repeated_turn (is_of plus_or_minus) next_summand a_next c.loop-found.found c.loop-found.cursor (search rules) in
    (rw (c.loop-found.invariant.0, turn) (search rules), omega (arith, c.loop-found.invariant.1, c.in_ok-next_summand.ensures.shorter))

pub returns-clause-value : goal.returns-clause-value
returns-clause-value c = repeated_done (is_of plus_or_minus) next_summand _ _ _ c.loop-found.invariant.0 (search rules)
