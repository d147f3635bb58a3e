use Rattle.std.proofs.Common.{◌≡◌, ◌≤◌, ◌<◌, ◌^◌, ◌∙◌, FitsSigned, length, arith, rules, to_z, ℤ, pos, ap, sym, slice_index_or, All}
use Rattle.std.proofs.lemmas.Int.{to_z-of_z}
use Rattle.std.specs.Int.{w128, w64}
use Rattle.std.specs.Int.RustNames.{unsigned_abs}
use Rattle.species_linear.specs.declared.forms.Term.{Term}
use Rattle.species_linear.specs.Value.{form_at, coefficient_at}
use Rattle.species_linear.specs.Box.{zero_range, range_at}
use Rattle.species_linear.specs.Corner.{end_of, corner_of}
use Rattle.species_linear.proofs.Order.{coefficient_of_term}
use Rattle.species_linear.proofs.Running.{running_next, running_small}
use Rattle.species_linear.proofs.CornerEnds.{end_has}
use Rattle.species_linear.proofs.corners.corner.Goals as goal

pub add_term-total-requires-clause-small_total : goal.add_term-total-requires-clause-small_total
add_term-total-requires-clause-small_total c =
    let below : All (λ t. t.level < length c.args.path.now) c.as_slice-term-items.result.now = rw c.as_slice-term-items.ensures.value c.requires.named in
    running_small c.as_slice-term-items.result.now (corner_of c.args.lower c.args.form.now c.args.path.now)
    (form_at c.args.form.now (corner_of c.args.lower c.args.form.now c.args.path.now)) c.loop-term.term-index
    (length c.args.path.now) (to_z w128 c.loop-term.total-bits) c.as_slice-term-items.ensures.rising below c.requires.short (omega (arith, c.loop-term-test.true)) c.loop-term.invariant

pub loop-term-preserved : goal.loop-term-preserved
loop-term-preserved c =
    let nothing : Term = record { level = 0; coefficient = pos 0 } in
    let term : Term = slice_index_or c.as_slice-term-items.result.now c.loop-term.term-index nothing in
    let below : All (λ t. t.level < length c.args.path.now) c.as_slice-term-items.result.now = rw c.as_slice-term-items.ensures.value c.requires.named in
    let small : All (λ t. unsigned_abs t.coefficient < 2 ^ 70) c.as_slice-term-items.result.now = rw c.as_slice-term-items.ensures.value c.requires.small_form.1 in
    let fits : FitsSigned w128 c.add_term-total.result = search rules in
    let end_fits : FitsSigned w64 c.end_of.result = search rules in
    let there : coefficient_at c.args.form.now.terms term.level ≡ term.coefficient =
    rw (← c.as_slice-term-items.ensures.value)
    (coefficient_of_term 0 c.as_slice-term-items.result.now c.loop-term.term-index nothing c.as_slice-term-items.ensures.rising c.loop-term-test.true) in
    let same : c.end_of.result ≡ corner_of c.args.lower c.args.form.now c.args.path.now term.level =
    c.end_of.ensures ∙ ap (λ (z : ℤ). end_of c.args.lower z (range_at c.args.path.now term.level)) (sym there) in
    let step = rw (to_z-of_z w64 c.end_of.result end_fits, same) at c.add_term-total.ensures in
    let ends = c.requires.small_path term.level zero_range (below c.loop-term.term-index nothing c.loop-term-test.true) in
    rw (to_z-of_z w128 c.add_term-total.result fits) (running_next c.as_slice-term-items.result.now (corner_of c.args.lower c.args.form.now c.args.path.now) _
    c.loop-term.term-index nothing (to_z w128 c.loop-term.total-bits) c.add_term-total.result c.loop-term-test.true
    (small c.loop-term.term-index nothing c.loop-term-test.true)
    (end_has (λ z. unsigned_abs z ≤ 2 ^ 40) c.args.lower (coefficient_at c.args.form.now.terms term.level) (range_at c.args.path.now term.level) ends.0 ends.1)
    c.loop-term.invariant step)
