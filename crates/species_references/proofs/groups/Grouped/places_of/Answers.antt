use Rattle.std.proofs.Common.{◌≡◌, subst, sym, rules}
use Rattle.species_references.specs.Groups.{AreGroups}
use Rattle.species_references.proofs.GroupLemmas.{places_none}
use Rattle.species_references.proofs.groups.Grouped.places_of.Goals as goal

pub returns : goal.returns
returns c =
    let view : c.self.inside.list.items ≡ c.args.self.now = search rules in
    let groups : c.as_slice-group-items.result.now ≡ c.self.inside.groups.items = search rules in
    sym (places_none c.args.self.now c.as_slice-group-items.result.now c.args.array c.loop-group.group-index c.loop-group-test.false c.loop-group.invariant
    (subst (λ rs. AreGroups rs c.as_slice-group-items.result.now) view (subst (λ gs. AreGroups c.self.inside.list.items gs) (sym groups) c.self.invariant)))
