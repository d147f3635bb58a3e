use Rattle.std.proofs.Common.{◌≡◌, subst, arith, inl, inr}
use Rattle.std.proofs.lemmas.Bool.{cases_lt}
use Rattle.species_merge.specs.Exact.{FillsAlong}
use Rattle.species_merge.proofs.Covering.{clash, not_true}
use Rattle.species_merge.proofs.exact.fills.Goals as goal

pub loop-number-preserved : goal.loop-number-preserved
loop-number-preserved c = λ k l h. elim (cases_lt k c.loop-number.number) [
  | inl below ↦ c.loop-number.invariant k below h
  | inr from ↦
      let here : k ≡ c.loop-number.number = omega (arith, l, from) in
      clash c.in_ok-fills_along.field-0 (c.in_ok-fills_along.ensures.1 (subst (λ j. FillsAlong c.args.class.now c.args.hulls.now j) here h)) c.if-branch.false
]

pub returns : goal.returns
returns c = (
  (λ t. not_true t),
  (λ h. absurd (elim h [
    | inl some ↦ clash c.some_has.result (c.some_has.ensures.1 some) c.if-some_has.false
    | inr along ↦ c.loop-number.invariant along.0 (omega (arith, along.1.within, c.loop-number-test.false)) along.1
  ])),
)
