use Rattle.std.proofs.Common.{◌≡◌, ◌∙◌, ap, sym, subst, arith, ◌+ℤ◌, ◌*ℤ◌, List, ◌∷◌, drop, slice_index_or}
use Rattle.std.proofs.lemmas.List.{take_rest}
use Rattle.species_linear.specs.Value.{sum_at}
use Rattle.species_linear.specs.declared.forms.Term.{Term}
use Rattle.species_merge.specs.Sizes.{HasTerms}
use Rattle.species_merge.proofs.BandLemmas.{joined_value, first_and_behind, behind_terms}
use Rattle.species_merge.proofs.TermLemmas.{no_term}
use Rattle.species_merge.proofs.bands.joined.Goals as goal

pub returns-clause-value : goal.returns-clause-value
returns-clause-value c = λ p.
    let rest : List Term = c.args.rest.now in
    let t : Term = c.joint.result in
    let added : Term = c.args.added in
    let whole : rest ≡ slice_index_or rest 0 no_term ∷ drop 1 rest = first_and_behind rest no_term (omega (arith, c.in-len1-up.len_at_least)) in
    ap (λ us. t.coefficient *ℤ p added.level +ℤ sum_at us p) (take_rest rest 1)
    ∙ joined_value (slice_index_or rest 0 no_term) added t (drop 1 rest) p c.if-first-added.false c.joint.ensures.value
    ∙ ap (λ us. sum_at us p +ℤ added.coefficient *ℤ p added.level) (sym whole)

pub returns-clause-behind : goal.returns-clause-behind
returns-clause-behind c = λ m h. subst (λ us. HasTerms m us) (sym (take_rest c.args.rest.now 1)) (behind_terms m c.args.rest.now h)
