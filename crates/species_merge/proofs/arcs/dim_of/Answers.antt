use Rattle.std.proofs.Common.{◌≡◌, ◌∙◌, refl, ap, sym, subst, arith, rules, suc, ◌+◌, ◌/◌, ℤ, ◌+ℤ◌, ◌-ℤ◌, length, FitsSigned, to_z, of_z}
use Rattle.std.proofs.lemmas.Int.{ints, to_z-of_z}
use Rattle.std.specs.Int.{w128}
use Rattle.std.specs.Int.RustNames.{unsigned_abs}
use Rattle.species_arcs.specs.declared.spans.Span.{Span}
use Rattle.species_linear.specs.Rising.{IsRising}
use Rattle.species_merge.specs.Bands.{moves_of, IsLeastAmong}
use Rattle.species_merge.specs.Classes.{terms_of, terms_below, terms_from}
use Rattle.species_merge.specs.Hulls.{IsHullOf}
use Rattle.species_merge.proofs.ArcLemmas.{fixed_terms, fixed_levels, driven_is, span_same}
use Rattle.species_merge.proofs.arcs.dim_of.Goals as goal

pub end_of-requires-clause-terms : goal.end_of-requires-clause-terms
end_of-requires-clause-terms c =
    let top = c.args.outer + length c.args.bands.now in
    fixed_terms top c.args.subscript.now c.in_ok-terms.terms (c.in_ok-terms.ensures ∙ c.terms_below-fixed.ensures.value ∙ ap (λ ts. terms_below top ts) c.terms_of.ensures.value) c.requires.subscript

pub end_of-requires-clause-levels : goal.end_of-requires-clause-levels
end_of-requires-clause-levels c =
    let top = c.args.outer + length c.args.bands.now in
    fixed_levels top c.terms_of.result.now c.in_ok-terms.terms (c.in_ok-terms.ensures ∙ c.terms_below-fixed.ensures.value)

pub end_of-requires-2-clause-terms : goal.end_of-requires-2-clause-terms
end_of-requires-2-clause-terms c =
    let top = c.args.outer + length c.args.bands.now in
    fixed_terms top c.args.subscript.now c.in_ok-terms.terms (c.in_ok-terms.ensures ∙ c.terms_below-fixed.ensures.value ∙ ap (λ ts. terms_below top ts) c.terms_of.ensures.value) c.requires.subscript

pub end_of-requires-2-clause-levels : goal.end_of-requires-2-clause-levels
end_of-requires-2-clause-levels c =
    let top = c.args.outer + length c.args.bands.now in
    fixed_levels top c.terms_of.result.now c.in_ok-terms.terms (c.in_ok-terms.ensures ∙ c.terms_below-fixed.ensures.value)

pub step_of-step-requires-clause-small : goal.step_of-step-requires-clause-small
step_of-step-requires-clause-small c =
    let top = c.args.outer + length c.args.bands.now in
    fixed_terms top c.args.subscript.now c.as_slice.result.now
    (c.as_slice.ensures.value ∙ c.in_ok-terms.ensures ∙ c.terms_below-fixed.ensures.value ∙ ap (λ ts. terms_below top ts) c.terms_of.ensures.value) c.requires.subscript

pub step_of-step-requires-clause-levels : goal.step_of-step-requires-clause-levels
step_of-step-requires-clause-levels c =
    let top = c.args.outer + length c.args.bands.now in
    fixed_levels top c.terms_of.result.now c.as_slice.result.now (c.as_slice.ensures.value ∙ c.in_ok-terms.ensures ∙ c.terms_below-fixed.ensures.value)

pub returns-clause-dim : goal.returns-clause-dim
returns-clause-dim c = λ xs is.
    let top = c.args.outer + length c.args.bands.now in
    let fits_constant : FitsSigned w128 c.offsets_of-offsets.result.constant = search rules in
    let fits_a : FitsSigned w128 c.offsets_of-offsets.result.a = search rules in
    let fits_b : FitsSigned w128 c.offsets_of-offsets.result.b = search rules in
    let constant : to_z w128 (of_z w128 c.offsets_of-offsets.result.constant) ≡ c.offsets_of-offsets.result.constant = to_z-of_z w128 c.offsets_of-offsets.result.constant fits_constant in
    let a : to_z w128 (of_z w128 c.offsets_of-offsets.result.a) ≡ c.offsets_of-offsets.result.a = to_z-of_z w128 c.offsets_of-offsets.result.a fits_a in
    let b : to_z w128 (of_z w128 c.offsets_of-offsets.result.b) ≡ c.offsets_of-offsets.result.b = to_z-of_z w128 c.offsets_of-offsets.result.b fits_b in
    let terms : c.in_ok-terms.terms ≡ terms_below top (terms_of c.args.subscript.now) =
    c.in_ok-terms.ensures ∙ c.terms_below-fixed.ensures.value ∙ ap (λ ts. terms_below top ts) c.terms_of.ensures.value in
    let low : ℤ = to_z w128 (of_z w128 c.offsets_of-offsets.result.constant) +ℤ to_z w128 (of_z w128 c.offsets_of-offsets.result.a) in
    let high : ℤ = to_z w128 (of_z w128 c.offsets_of-offsets.result.constant) +ℤ to_z w128 (of_z w128 c.offsets_of-offsets.result.b) in
    let added : Span = record { low = low; high = high; stride = c.args.reach.stride } in
    let at_low : low ≡ c.args.reach.low = omega (arith, ints, constant, a, c.offsets_of-offsets.ensures.low) in
    let at_high : high ≡ c.args.reach.high = omega (arith, ints, constant, b, c.offsets_of-offsets.ensures.high) in
    let same : added ≡ c.args.reach = span_same added c.args.reach at_low at_high refl in
    let way : c.offsets_of-offsets.result.b -ℤ c.offsets_of-offsets.result.a
    ≡ to_z w128 (of_z w128 c.offsets_of-offsets.result.b) -ℤ to_z w128 (of_z w128 c.offsets_of-offsets.result.a) = omega (arith, ints, a, b) in
    record {
      terms = terms;
      rising = subst IsRising (sym c.in_ok-terms.ensures) c.terms_below-fixed.ensures.rising;
      hull = subst (λ h. IsHullOf xs h) (sym same) is;
      single = λ e. a ∙ c.offsets_of-offsets.ensures.single (sym a ∙ e ∙ b);
      several = λ n. constant ∙ c.offsets_of-offsets.ensures.several (λ e. n (a ∙ e ∙ sym b));
      elements = c.offsets_of-offsets.ensures.elements ∙ ap (λ (z : ℤ). suc (unsigned_abs z / c.args.reach.stride)) way;
      driven = driven_is c.is_empty-driven.result c.terms_from.result.now (terms_from c.args.outer c.in_ok-terms.terms) c.is_empty-driven.ensures
          (c.terms_from.ensures.value ∙ ap (λ ts. terms_from c.args.outer ts) c.as_slice-2.ensures.value);
      step = subst (λ ts. IsLeastAmong (moves_of c.args.outer c.args.bands.now ts) c.step_of-step.result) c.as_slice.ensures.value c.step_of-step.ensures;
      low = c.in_ok-low.ensures;
      high = c.in_ok-high.ensures;
    }
