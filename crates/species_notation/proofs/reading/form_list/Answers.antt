use Rattle.std.proofs.Common.{rules, arith}
use Rattle.species_grammar.specs.Reader.{is_of, skip}
use Rattle.species_grammar.proofs.Free.{repeated_done}
use Rattle.species_notation.specs.Readers.{more_of, form, sign}
use Rattle.species_notation.proofs.Turns.{list_begins, repeated_turn}
use Rattle.species_notation.proofs.Totals.{a_next_form}
use Rattle.species_notation.proofs.reading.form_list.Goals as goal

pub loop-alloc-init : goal.loop-alloc-init
loop-alloc-init c = (
  let begins = list_begins form (more_of 44 form) c.args.cursor.now _ _ c.in_ok-form.ensures.value in rw begins (search rules),
  search rules,
)

pub returns-in_err-next_form-clause-value : goal.returns-in_err-next_form-clause-value
returns-in_err-next_form-clause-value c =
    let turn = repeated_turn (is_of (sign 44)) (skip (sign 44) form) a_next_form c.loop-alloc.found c.loop-alloc.cursor (search rules) in
    rw (c.loop-alloc.invariant.0, turn) (search rules)

pub loop-alloc-preserved : goal.loop-alloc-preserved
loop-alloc-preserved c =
    let turn = repeated_turn (is_of (sign 44)) (skip (sign 44) form) a_next_form c.loop-alloc.found c.loop-alloc.cursor (search rules) in
    (rw (c.loop-alloc.invariant.0, turn) (search rules), omega (arith, c.loop-alloc.invariant.1, c.in_ok-next_form.ensures.shorter))

pub returns-clause-value : goal.returns-clause-value
returns-clause-value c = repeated_done (is_of (sign 44)) (skip (sign 44) form) _ _ _ c.loop-alloc.invariant.0 (search rules)
