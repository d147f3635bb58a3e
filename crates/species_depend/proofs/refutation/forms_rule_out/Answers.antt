use Rattle.std.proofs.Common.{inl, inr}
use Rattle.species_depend.proofs.refutation.forms_rule_out.Goals as goal

pub returns-then-divides : goal.returns-then-divides
returns-then-divides c = (
  (λ t. inr (c.excluded.ensures.excluded.0 t)),
  (λ h. elim h [
    | inl not ↦ absurd (not (c.divides.ensures.divides.0 c.if-divides.true))
    | inr signs ↦ c.excluded.ensures.excluded.1 signs
  ]),
)
