use Rattle.std.proofs.Common.{◌≡◌, ◌∙◌, ap, sym, subst, ◌+◌, ◌^◌, ◌<◌, ◌+ℤ◌, ◌*ℤ◌, List, ◌++◌, All}
use Rattle.std.specs.Int.RustNames.{unsigned_abs}
use Rattle.species_linear.specs.Rising.{IsRising, IsRisingFrom}
use Rattle.species_linear.specs.Value.{sum_at}
use Rattle.species_linear.specs.declared.forms.Term.{Term}
use Rattle.species_merge.specs.Bands.{unless_zero}
use Rattle.species_merge.specs.Classes.{terms_below, terms_from}
use Rattle.species_merge.specs.Sizes.{HasTerms}
use Rattle.species_merge.proofs.BandLemmas.{from_above, from_terms, below_level, with_rising, with_value, with_numbers}
use Rattle.species_merge.proofs.TermLemmas.{below_rising}
use Rattle.species_merge.proofs.bands.with_term.Goals as goal

pub joined-requires-clause-rising : goal.joined-requires-clause-rising
joined-requires-clause-rising c =
    subst (λ us. IsRisingFrom c.args.added.level us) (sym c.terms_from.ensures.value) (from_above c.args.added.level 0 c.args.terms.now c.requires.rising)

pub joined-requires-clause-small : goal.joined-requires-clause-small
joined-requires-clause-small c =
    subst (λ us. HasTerms (2 ^ 120) us) (sym c.terms_from.ensures.value) (from_terms (2 ^ 120) c.args.added.level c.args.terms.now c.requires.small)

pub put-requires : goal.put-requires
put-requires c =
    subst (λ us. All (λ t. t.level < c.joined.result.0.level) us) (sym (c.in_ok-out.ensures ∙ c.terms_below.ensures.value))
    (below_level c.args.added.level c.args.terms.now c.joined.result.0 c.joined.ensures.level)

pub append-requires : goal.append-requires
append-requires c =
    let t : Term = c.joined.result.0 in
    let front : List Term = terms_below c.args.added.level c.args.terms.now in
    let put : c.put.new.out ≡ front ++ unless_zero t = c.in_ok-put.ensures ∙ ap (λ us. us ++ unless_zero t) (c.in_ok-out.ensures ∙ c.terms_below.ensures.value) in
    subst (λ us. IsRising (us ++ c.joined.result.1.now)) (sym put)
    (with_rising c.args.added.level c.args.terms.now t c.joined.result.1.now (below_rising c.args.added.level 0 c.args.terms.now c.requires.rising) c.joined.ensures.level c.joined.ensures.rising)

pub returns-clause-value : goal.returns-clause-value
returns-clause-value c = λ p.
    let t : Term = c.joined.result.0 in
    let added : Term = c.args.added in
    let front : List Term = terms_below c.args.added.level c.args.terms.now in
    let put : c.put.new.out ≡ front ++ unless_zero t = c.in_ok-put.ensures ∙ ap (λ us. us ++ unless_zero t) (c.in_ok-out.ensures ∙ c.terms_below.ensures.value) in
    let all : c.append.new.out ≡ (front ++ unless_zero t) ++ c.joined.result.1.now = c.in_ok-append.ensures ∙ ap (λ us. us ++ c.joined.result.1.now) put in
    subst (λ us. sum_at us p ≡ sum_at c.args.terms.now p +ℤ added.coefficient *ℤ p added.level) (sym all)
    (with_value c.args.terms.now added t c.joined.result.1.now p c.requires.rising c.joined.ensures.level
    (c.joined.ensures.value p ∙ ap (λ us. sum_at us p +ℤ added.coefficient *ℤ p added.level) c.terms_from.ensures.value))

pub returns-clause-numbers : goal.returns-clause-numbers
returns-clause-numbers c = λ m h.
    let t : Term = c.joined.result.0 in
    let added : Term = c.args.added in
    let front : List Term = terms_below c.args.added.level c.args.terms.now in
    let put : c.put.new.out ≡ front ++ unless_zero t = c.in_ok-put.ensures ∙ ap (λ us. us ++ unless_zero t) (c.in_ok-out.ensures ∙ c.terms_below.ensures.value) in
    let all : c.append.new.out ≡ (front ++ unless_zero t) ++ c.joined.result.1.now = c.in_ok-append.ensures ∙ ap (λ us. us ++ c.joined.result.1.now) put in
    let shown : HasTerms m (terms_from added.level c.args.terms.now) → HasTerms m c.terms_from.result.now = λ s. subst (λ us. HasTerms m us) (sym c.terms_from.ensures.value) s in
    subst (λ us. HasTerms (m + unsigned_abs added.coefficient) us) (sym all)
    (with_numbers added.level c.args.terms.now t c.joined.result.1.now m (unsigned_abs added.coefficient) c.requires.rising
    (λ s. c.joined.ensures.numbers m (shown s)) (λ s. c.joined.ensures.behind m (shown s)) h)
