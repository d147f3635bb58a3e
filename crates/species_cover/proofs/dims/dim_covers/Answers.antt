use Rattle.std.proofs.Common.{◌∙◌, sym, refl}
use Rattle.species_cover.proofs.DimLemmas.{not_within, covers_plain, covers_exact, is_no_wider}
use Rattle.species_cover.proofs.dims.dim_covers.Goals as goal

pub returns-then-not-is_within : goal.returns-then-not-is_within
returns-then-not-is_within c = (
  (λ t. absurd (cc t)),
  (λ h. absurd (not_within c.args.exact c.args.given.now c.args.derived.now c.derived_span-of_derived.result c.given_span-of_given.result
      c.derived_span-of_derived.ensures c.given_span-of_given.ensures (λ w. absurd (cc (c.is_within.ensures.1 w, c.if-not-is_within.true))) h)),
)

pub returns-then-not-exact : goal.returns-then-not-exact
returns-then-not-exact c =
    let terms = sym c.as_slice.ensures.value ∙ c.same_terms.ensures.0 c.if-not-same_terms.false ∙ c.as_slice-2.ensures.value in (
      (λ t. covers_plain c.args.exact c.args.given.now c.args.derived.now c.derived_span-of_derived.result c.given_span-of_given.result
          c.derived_span-of_derived.ensures c.given_span-of_given.ensures terms (c.is_within.ensures.0 c.if-not-is_within.false) c.if-not-exact.true),
      (λ h. refl),
    )

pub returns : goal.returns
returns c =
    let terms = sym c.as_slice.ensures.value ∙ c.same_terms.ensures.0 c.if-not-same_terms.false ∙ c.as_slice-2.ensures.value in (
      (λ t. covers_exact c.args.exact c.args.given.now c.args.derived.now c.derived_span-of_derived.result c.given_span-of_given.result
          c.derived_span-of_derived.ensures c.given_span-of_given.ensures terms (c.is_within.ensures.0 c.if-not-is_within.false) (c.is_within-2.ensures.0 t)),
      (λ h. c.is_within-2.ensures.1
          (is_no_wider c.args.exact c.args.given.now c.args.derived.now c.derived_span-of_derived.result c.given_span-of_given.result
          c.derived_span-of_derived.ensures c.given_span-of_given.ensures c.if-not-exact.false h)),
    )
