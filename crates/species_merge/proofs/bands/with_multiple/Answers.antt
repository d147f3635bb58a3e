use Rattle.std.proofs.Common.{◌≡◌, ◌∙◌, ap, sym, subst, arith, rules, ◌+◌, ◌*◌, ◌^◌, ◌<◌, ◌+ℤ◌, ◌*ℤ◌, take, slice_index_or, to_z, of_z}
use Rattle.std.proofs.lemmas.Int.{to_z-of_z}
use Rattle.std.specs.Int.{w128}
use Rattle.std.specs.Int.RustNames.{unsigned_abs}
use Rattle.species_linear.specs.Value.{sum_at}
use Rattle.species_linear.specs.declared.forms.Term.{Term}
use Rattle.species_merge.specs.Sizes.{HasTerms}
use Rattle.species_merge.proofs.BandLemmas.{more_terms, multiple_more, rising_index}
use Rattle.species_merge.proofs.TermLemmas.{no_term}
use Rattle.species_merge.proofs.bands.with_multiple.Goals as goal

pub with_term-requires-clause-small : goal.with_term-requires-clause-small
with_term-requires-clause-small c =
    subst (λ us. HasTerms (2 ^ 120) us) (sym c.as_slice.ensures.value)
    (more_terms (2 ^ 118 + c.loop-term.term-index * 2 ^ 80) (2 ^ 120) c.loop-term.sum (omega (arith, c.loop-term.invariant.count)) (c.loop-term.invariant.numbers (2 ^ 118) c.requires.small))

pub returns-clause-numbers : goal.returns-clause-numbers
returns-clause-numbers c = λ m h.
    more_terms (m + c.loop-term.term-index * 2 ^ 80) (m + 2 ^ 112) c.loop-term.sum (omega (arith, c.loop-term.invariant.count)) (c.loop-term.invariant.numbers m h)

pub loop-term-preserved : goal.loop-term-preserved
loop-term-preserved c =
    let i = c.loop-term.term-index in
    let t : Term = slice_index_or c.args.others.now i no_term in
    let same : to_z w128 (of_z w128 c.args.c) ≡ c.args.c = to_z-of_z w128 c.args.c c.ranges.c in
    let wide : t.level < 2 ^ 32 = search rules in
    let coefficient : c.times.result.coefficient ≡ c.args.c *ℤ t.coefficient = cc (c.times.ensures.value, same) in
    record {
      rising = c.in_ok-sum.ensures.rising;
      value = λ p.
          let so : sum_at c.loop-term.sum p ≡ sum_at c.args.terms p +ℤ c.args.c *ℤ sum_at (take i c.args.others.now) p = cc (c.loop-term.invariant.value p, same) in
          let step : sum_at c.in_ok-sum.sum p ≡ sum_at c.loop-term.sum p +ℤ c.times.result.coefficient *ℤ p c.times.result.level =
          c.in_ok-sum.ensures.value p ∙ ap (λ us. sum_at us p +ℤ c.times.result.coefficient *ℤ p c.times.result.level) c.as_slice.ensures.value in
          cc (
            multiple_more c.args.terms c.loop-term.sum c.in_ok-sum.sum c.args.c c.args.others.now i no_term c.times.result p c.loop-term-test.true so step c.times.ensures.level coefficient,
            same,
          );
      numbers = λ m h.
          let before : HasTerms (m + i * 2 ^ 80) c.as_slice.result.now = subst (λ us. HasTerms (m + i * 2 ^ 80) us) (sym c.as_slice.ensures.value) (c.loop-term.invariant.numbers m h) in
          more_terms ((m + i * 2 ^ 80) + unsigned_abs c.times.result.coefficient) (m + (i + 1) * 2 ^ 80) c.in_ok-sum.sum (omega (arith, c.times.ensures.small))
          (c.in_ok-sum.ensures.numbers (m + i * 2 ^ 80) before);
      count = omega (arith, wide, rising_index 0 c.args.others.now i no_term c.requires.rising c.loop-term-test.true);
    }
