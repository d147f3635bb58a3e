use Rattle.std.proofs.Common.{◌≡◌, refl, true, false}
use Rattle.species_references.proofs.GroupLemmas.{has_at, has_none}
use Rattle.species_references.proofs.groups.has_group.Goals as goal

pub returns-then-group-array : goal.returns-then-group-array
returns-then-group-array c =
    ((λ t. has_at c.args.groups.now c.args.array c.loop-group.group-index c.group-item.result c.loop-group-test.true c.group-item.is c.if-group-array.true), (λ h. refl))

pub returns : goal.returns
returns c = ((λ (t : false ≡ true). absurd cc), (λ h. absurd (has_none c.args.groups.now c.args.array c.loop-group.group-index c.loop-group-test.false c.loop-group.invariant h)))
