use Rattle.std.proofs.Common.{subst, sym, rules, ℕ, ◌+◌, ◌<◌, length, Option}
use Rattle.std.specs.Prelude.{slice_index_or}
use Rattle.species_references.specs.Groups.{places_of}
use Rattle.species_depend.specs.Carried.{Carries}
use Rattle.species_depend.proofs.PlaceLemmas.{IsLeastAmong, place_inside, asked_there, skip_place, take_place, keep_place, least_there}
use Rattle.species_depend.proofs.groups.first_with.Goals.{then-is_better, else-is_better}
use Rattle.species_depend.proofs.groups.first_with.Goals as goal

pub has_twin-requires : goal.has_twin-requires
has_twin-requires c =
    place_inside c.args.refs.now c.as_slice-list.result.now c.places_of-place-items.result.now c.index-list-first.result.array c.loop-place.place-index c.as_slice-list.ensures c.places_of-place-items.ensures c.loop-place-test.true

pub loop-place-preserved-then-has_twin : goal.loop-place-preserved-then-has_twin
loop-place-preserved-then-has_twin c =
    skip_place c.args.refs.now c.as_slice-list.result.now c.places_of-place-items.result.now c.args.outer c.args.level c.args.exempt.now c.loop-place.place-index c.index-list-first.result c.loop-place.least
    c.as_slice-list.ensures c.places_of-place-items.ensures c.loop-place-test.true (c.has_twin.ensures c.if-has_twin.true) c.loop-place.invariant

pub offset_bounds-list-place : goal.offset_bounds-list-place
offset_bounds-list-place c =
    let inside : slice_index_or c.places_of-place-items.result.now c.loop-place.place-index 0 < length c.as_slice-list.result.now =
    place_inside c.args.refs.now c.as_slice-list.result.now c.places_of-place-items.result.now c.index-list-first.result.array c.loop-place.place-index c.as_slice-list.ensures c.places_of-place-items.ensures
    c.loop-place-test.true in
    search rules

pub bounds-list-place : goal.bounds-list-place
bounds-list-place c =
    place_inside c.args.refs.now c.as_slice-list.result.now c.places_of-place-items.result.now c.index-list-first.result.array c.loop-place.place-index c.as_slice-list.ensures c.places_of-place-items.ensures c.loop-place-test.true

pub is_better-requires : goal.is_better-requires
is_better-requires c =
    asked_there c.args.refs.now c.as_slice-list.result.now c.args.outer c.args.level c.args.first (slice_index_or c.places_of-place-items.result.now c.loop-place.place-index 0) c.index-list-first.result
    c.index-list-place.result c.as_slice-list.ensures c.requires.here
    (place_inside c.args.refs.now c.as_slice-list.result.now c.places_of-place-items.result.now c.index-list-first.result.array c.loop-place.place-index c.as_slice-list.ensures c.places_of-place-items.ensures
    c.loop-place-test.true)
    c.index-list-first.is c.index-list-place.is c.requires.asked

pub loop-place-preserved : goal.loop-place-preserved
loop-place-preserved c =
    let refs = c.args.refs.now in
    let p = c.index-list-first.result in
    let q = c.index-list-place.result in
    let next : Option ℕ → Type 0 = λ o. IsLeastAmong (Carries c.args.outer c.args.level c.args.exempt.now p) refs (places_of p.array refs) (c.loop-place.place-index + 1) o in
    elim c.if-is_better.branch [
      | then-is_better w ↦
          let found = c.is_better.ensures.0 w.if-is_better.true in
          subst next (sym w.least-is)
          (take_place refs c.as_slice-list.result.now c.places_of-place-items.result.now c.args.outer c.args.level c.args.exempt.now c.loop-place.place-index p q c.loop-place.least c.as_slice-list.ensures
          c.places_of-place-items.ensures c.loop-place-test.true c.index-list-place.is c.loop-place.invariant found.0 found.1)
      | else-is_better w ↦
          subst next (sym w.least-is)
          (keep_place refs c.as_slice-list.result.now c.places_of-place-items.result.now c.args.outer c.args.level c.args.exempt.now c.loop-place.place-index p q c.loop-place.least c.as_slice-list.ensures
          c.places_of-place-items.ensures c.loop-place-test.true c.index-list-place.is c.loop-place.invariant (λ h. cc (c.is_better.ensures.1 h, w.if-is_better.false)))
    ]

pub returns : goal.returns
returns c =
    least_there c.args.refs.now c.as_slice-list.result.now c.places_of-place-items.result.now c.args.outer c.args.level c.args.exempt.now c.args.first c.loop-place.place-index c.index-list-first.result
    c.loop-place.least c.as_slice-list.ensures c.places_of-place-items.ensures c.loop-place-test.false c.requires.here c.index-list-first.is c.loop-place.invariant
