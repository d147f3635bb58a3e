use Rattle.std.proofs.Common.{◌≡◌, ◌∙◌, ◌≤◌, ap, sym, subst, arith, rules, ◌+◌, ◌*◌, ◌<◌, ◌^◌, ℤ, length, FitsSigned, to_z, of_z}
use Rattle.std.proofs.lemmas.Int.{ints, to_z-of_z}
use Rattle.std.specs.Int.{w128}
use Rattle.std.specs.Int.RustNames.{unsigned_abs}
use Rattle.species_linear.specs.Rising.{IsRising}
use Rattle.species_linear.specs.Value.{sum_at}
use Rattle.species_merge.specs.Classes.{terms_below, terms_from}
use Rattle.species_merge.specs.Sizes.{HasTerms}
use Rattle.species_merge.proofs.BandLemmas.{in_band, small_in_band, few_in_band, below_terms, more_terms, end_more, end_ends, IsEndSoFar}
use Rattle.species_merge.proofs.TermLemmas.{no_term}
use Rattle.species_merge.proofs.bands.end_of.Goals as goal

pub loop-term-init : goal.loop-term-init
loop-term-init c =
    let fits : FitsSigned w128 c.offset_from-constant.result = search rules in
    let whole : to_z w128 (of_z w128 c.offset_from-constant.result) ≡ c.offset_from-constant.result = to_z-of_z w128 c.offset_from-constant.result fits in
    let same : to_z w128 (of_z w128 c.args.offset) ≡ c.args.offset = to_z-of_z w128 c.args.offset c.ranges.offset in
    let terms : c.in_ok-terms.terms ≡ terms_below c.args.outer c.args.at.now.terms =
    c.in_ok-terms.ensures ∙ c.terms_below.ensures.value ∙ ap (λ ts. terms_below c.args.outer ts) c.as_slice-all.ensures.value in
    record {
      rising = subst IsRising (sym c.in_ok-terms.ensures) c.terms_below.ensures.rising;
      value = λ p. omega (arith, ints, whole, same, c.offset_from-constant.ensures.value, ap (λ us. sum_at us p) terms);
      numbers = (
        subst (λ (z : ℤ). unsigned_abs z ≤ 2 ^ 71) (sym whole) c.offset_from-constant.ensures.number,
        subst (λ us. HasTerms (2 ^ 71) us) (sym terms) (below_terms (2 ^ 71) c.args.outer c.args.at.now.terms (more_terms (2 ^ 40) (2 ^ 71) c.args.at.now.terms (omega arith) c.requires.terms)),
      );
    }

pub bound_for-bound-requires-clause-from : goal.bound_for-bound-requires-clause-from
bound_for-bound-requires-clause-from c =
    let shown : c.terms_from-term-items.result.now ≡ terms_from c.args.outer c.args.at.now.terms = c.terms_from-term-items.ensures.value ∙ ap (λ ts. terms_from c.args.outer ts) c.as_slice-all.ensures.value in
    (in_band c.args.outer (length c.args.bands.now) c.args.at.now.terms c.terms_from-term-items.result.now c.loop-term.term-index no_term shown c.requires.levels c.loop-term-test.true).0

pub bound_for-bound-requires-clause-below : goal.bound_for-bound-requires-clause-below
bound_for-bound-requires-clause-below c =
    let shown : c.terms_from-term-items.result.now ≡ terms_from c.args.outer c.args.at.now.terms = c.terms_from-term-items.ensures.value ∙ ap (λ ts. terms_from c.args.outer ts) c.as_slice-all.ensures.value in
    (in_band c.args.outer (length c.args.bands.now) c.args.at.now.terms c.terms_from-term-items.result.now c.loop-term.term-index no_term shown c.requires.levels c.loop-term-test.true).1

pub with_end-requires-clause-small : goal.with_end-requires-clause-small
with_end-requires-clause-small c =
    let shown : c.terms_from-term-items.result.now ≡ terms_from c.args.outer c.args.at.now.terms = c.terms_from-term-items.ensures.value ∙ ap (λ ts. terms_from c.args.outer ts) c.as_slice-all.ensures.value in
    let rising : IsRising c.args.at.now.terms = subst IsRising c.as_slice-all.ensures.value c.as_slice-all.ensures.rising in
    let few : length (terms_from c.args.outer c.args.at.now.terms) ≤ length c.args.bands.now = few_in_band c.args.outer (length c.args.bands.now) c.args.at.now.terms rising c.requires.levels in
    let turn : c.loop-term.term-index < 16 = omega (arith, c.loop-term-test.true, ap length shown, few, c.requires.few) in
    let small : 2 ^ 71 + c.loop-term.term-index * 2 ^ 112 ≤ 2 ^ 118 = omega (arith, turn) in
    let numbers = c.loop-term.invariant.numbers in
    (omega (arith, numbers.0, small), more_terms (2 ^ 71 + c.loop-term.term-index * 2 ^ 112) (2 ^ 118) c.loop-term.form.terms small numbers.1)

pub with_end-requires-clause-term : goal.with_end-requires-clause-term
with_end-requires-clause-term c =
    let shown : c.terms_from-term-items.result.now ≡ terms_from c.args.outer c.args.at.now.terms = c.terms_from-term-items.ensures.value ∙ ap (λ ts. terms_from c.args.outer ts) c.as_slice-all.ensures.value in
    small_in_band (2 ^ 40) c.args.outer c.args.at.now.terms c.terms_from-term-items.result.now c.loop-term.term-index no_term shown c.requires.terms c.loop-term-test.true

pub loop-term-preserved : goal.loop-term-preserved
loop-term-preserved c =
    let i = c.loop-term.term-index in
    let shown : c.terms_from-term-items.result.now ≡ terms_from c.args.outer c.args.at.now.terms = c.terms_from-term-items.ensures.value ∙ ap (λ ts. terms_from c.args.outer ts) c.as_slice-all.ensures.value in
    let rising : IsRising c.args.at.now.terms = subst IsRising c.as_slice-all.ensures.value c.as_slice-all.ensures.rising in
    let same : to_z w128 (of_z w128 c.args.offset) ≡ c.args.offset = to_z-of_z w128 c.args.offset c.ranges.offset in
    let so : IsEndSoFar c.args.lower c.args.outer c.args.bands.now c.args.at.now c.args.offset i c.loop-term.form = λ p. omega (arith, ints, c.loop-term.invariant.value p, same) in
    let next : IsEndSoFar c.args.lower c.args.outer c.args.bands.now c.args.at.now c.args.offset (i + 1) c.in_ok-form.form =
    end_more c.args.lower c.args.outer c.args.bands.now c.args.at.now c.args.offset c.terms_from-term-items.result.now i no_term c.loop-term.form c.in_ok-form.form c.bound_for-bound.result.now
    rising c.requires.levels shown c.loop-term-test.true so c.bound_for-bound.ensures c.in_ok-form.ensures.value in
    let numbers = c.in_ok-form.ensures.numbers (2 ^ 71 + i * 2 ^ 112) c.loop-term.invariant.numbers in
    record {
      rising = c.in_ok-form.ensures.rising;
      value = λ p. omega (arith, ints, next p, same);
      numbers = (omega (arith, numbers.0), more_terms ((2 ^ 71 + i * 2 ^ 112) + 2 ^ 112) (2 ^ 71 + (i + 1) * 2 ^ 112) c.in_ok-form.form.terms (omega arith) numbers.1);
    }

pub returns : goal.returns
returns c =
    let shown : c.terms_from-term-items.result.now ≡ terms_from c.args.outer c.args.at.now.terms = c.terms_from-term-items.ensures.value ∙ ap (λ ts. terms_from c.args.outer ts) c.as_slice-all.ensures.value in
    let rising : IsRising c.args.at.now.terms = subst IsRising c.as_slice-all.ensures.value c.as_slice-all.ensures.rising in
    let same : to_z w128 (of_z w128 c.args.offset) ≡ c.args.offset = to_z-of_z w128 c.args.offset c.ranges.offset in
    end_ends c.args.lower c.args.outer c.args.bands.now c.args.at.now c.args.offset c.terms_from-term-items.result.now c.loop-term.term-index c.loop-term.form
    rising c.loop-term.invariant.rising shown c.loop-term-test.false (λ p. omega (arith, ints, c.loop-term.invariant.value p, same))
