use Rattle.std.proofs.Common.{rules, ◌≡◌, ◌∙◌, get_or, ◌*◌, refl}
use Rattle.species_meaning.proofs.Elements.{product_next}
use Rattle.species_data.proofs.rows.size_of.Goals as goal

pub loop-size-preserved : goal.loop-size-preserved
loop-size-preserved c =
    let more : c.in-Some.more ≡ c.loop-size.count * get_or c.as_slice-sizes.result.now c.loop-size.size-index 0 = search rules in
    product_next c.as_slice-sizes.result.now c.loop-size.size-index c.loop-size.count _ c.in-Some.more c.loop-size-test.true refl more ∙ c.loop-size.invariant
