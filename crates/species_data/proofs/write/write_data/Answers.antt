use Rattle.std.proofs.Common.{arith, ap, ◌∙◌, ◌≡◌, ◌≤◌, ◌<◌, List, length, get_or}
use Rattle.species_ast.specs.declared.tree.Array.{Array}
use Rattle.species_data.proofs.BackLaws.{written_back}
use Rattle.species_data.proofs.WriteLemmas.{row_written, rows_end}
use Rattle.species_data.proofs.write.write_data.Goals as goal

pub loop-number-preserved : goal.loop-number-preserved
loop-number-preserved c = λ h.
    let arrays = c.args.unit.now.arrays in
    let i = c.loop-number.number in
    let x = c.index-declared-number.result in
    let long : length c.as_slice-declared.result.now ≡ length arrays = ap (λ (l : List Array). length l) c.as_slice-declared.ensures in
    let less : i < length arrays = omega (arith, c.loop-number-test.true, c.in_ok-number-end.ensures, long) in
    let is : x ≡ get_or arrays i x = c.index-declared-number.is ∙ ap (λ l. get_or l i x) c.as_slice-declared.ensures in
    row_written arrays c.args.arrays.now i x c.loop-number.text.items c.put_row.new.text.items h less is c.in_ok-put_row.ensures (c.loop-number.invariant h)

pub returns-clause-text : goal.returns-clause-text
returns-clause-text c = λ h.
    let arrays = c.args.unit.now.arrays in
    let long : length c.as_slice-declared.result.now ≡ length arrays = ap (λ (l : List Array). length l) c.as_slice-declared.ensures in
    let ended : length arrays ≤ c.loop-number.number = omega (arith, c.loop-number-test.false, c.in_ok-number-end.ensures, long) in
    rows_end arrays c.args.arrays.now c.loop-number.number c.loop-number.text.items ended (c.loop-number.invariant h)

pub returns-clause-read_back : goal.returns-clause-read_back
returns-clause-read_back c = λ h names.
    written_back c.args.unit.now.arrays c.args.arrays.now c.loop-number.text.items h names (returns-clause-text c h)
