use Rattle.std.proofs.Common.{arith, ap, sym, ◌∙◌, ◌≡◌, ◌+◌, ◌-◌, ◌<◌, length}
use Rattle.species_ast.specs.declared.tree.Array.{Array}
use Rattle.species_data.proofs.NameLemmas.{numbers_next}
use Rattle.species_data.proofs.names.Names.new.Goals as goal

pub loop-number-preserved : goal.loop-number-preserved
loop-number-preserved c =
    let n = c.loop-number.number in
    let arrays = c.as_slice-arrays.result.now in
    let less : n - 1 < length arrays = omega (arith, c.loop-number-test.true, c.loop-number.invariant.within) in
    let after : n ≡ n - 1 + 1 = omega (arith, c.loop-number-test.true) in
    record {
      within = omega (arith, c.loop-number.invariant.within);
      table =
          numbers_next arrays c.loop-number.numbers c.insert.new.self n (n - 1) c.index-arrays-number.result c.as_slice.result.now less
          c.index-arrays-number.is after (c.as_slice.ensures ∙ ap (λ (y : Array). y.name) (sym c.index-arrays-number.is)) c.loop-number.invariant.table c.in_ok-insert.ensures.updates;
    }
