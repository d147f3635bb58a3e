use Rattle.std.proofs.Common.{◌≡◌, refl, rules, [], ◌∷◌, ◌++◌}
use Rattle.species_references.specs.declared.groups.ArrayPlaces.{ArrayPlaces}
use Rattle.species_references.specs.Groups.{HasGroup}
use Rattle.species_references.proofs.GroupLemmas.{all_groups, there_more, push_more}
use Rattle.species_references.proofs.groups.groups_of.Goals as goal

pub returns : goal.returns
returns c = all_groups c.args.refs.now c.loop-reference.reference-index c.loop-reference.groups.items c.loop-reference-test.false c.loop-reference.invariant

pub loop-reference-preserved-then-has_group : goal.loop-reference-preserved-then-has_group
loop-reference-preserved-then-has_group c =
    let has : HasGroup c.as_slice.result.now c.reference-item.result.array = c.has_group.ensures.0 (search rules) in
    there_more c.args.refs.now c.loop-reference.reference-index c.reference-item.result c.loop-reference.groups.items c.as_slice.result.now c.loop-reference-test.true c.reference-item.is c.as_slice.ensures.value has c.loop-reference.invariant

pub loop-reference-preserved : goal.loop-reference-preserved
loop-reference-preserved c =
    let g : ArrayPlaces = record { array = c.reference-item.result.array; places = c.in_ok-places.places } in
    let more : c.push.new.self.items ≡ c.loop-reference.groups.items ++ g ∷ [] = search rules in
    push_more c.args.refs.now c.loop-reference.reference-index c.reference-item.result c.loop-reference.groups.items c.push.new.self.items g c.loop-reference-test.true c.reference-item.is more refl c.in_ok-places.ensures c.loop-reference.invariant
