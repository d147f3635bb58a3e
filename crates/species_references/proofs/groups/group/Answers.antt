use Rattle.species_references.specs.Groups.{AreGroups}
use Rattle.std.proofs.Common.{subst}
use Rattle.species_references.proofs.groups.group.Goals as goal

pub invariant_of-result : goal.invariant_of-result
invariant_of-result c = subst (λ rs. AreGroups rs c.in_ok-groups.groups.items) c.as_slice.ensures.value c.in_ok-groups.ensures
