use Rattle.std.proofs.Common.{subst, sym, ℕ, ◌+◌, ◌<◌, ◌≤◌, List, length, Option, Some, All}
use Rattle.std.specs.Prelude.{slice_index_or}
use Rattle.species_references.specs.declared.nest.Reference.{Reference}
use Rattle.species_depend.specs.Carried.{Carries, IsLeastNumber, AtOrBefore}
use Rattle.species_depend.specs.Alike.{HasTwin}
use Rattle.species_depend.proofs.AlikeLemmas.{skip_first}
use Rattle.species_depend.proofs.LeastLemmas.{IsFirstBelow, if_some, if_none, keep_there, take_there, first_end}
use Rattle.species_depend.proofs.groups.carried_in.Goals.{in-Some, in_default}
use Rattle.species_depend.proofs.groups.carried_in.Goals as goal

pub loop-first-preserved-then-has_twin : goal.loop-first-preserved-then-has_twin
loop-first-preserved-then-has_twin c =
    let twin = subst (λ (xs : List Reference). HasTwin xs c.loop-first.first 0) c.as_slice.ensures (c.has_twin.ensures c.if-has_twin.true) in
    skip_first c.args.refs.now c.args.outer c.args.level c.args.exempt.now c.loop-first.first 0 c.loop-first.found twin c.loop-first.invariant

pub loop-first-preserved : goal.loop-first-preserved
loop-first-preserved c =
    let C = Carries c.args.outer c.args.level c.args.exempt.now in
    let refs = c.args.refs.now in
    let i = c.loop-first.first in
    let below : i < length refs = subst (λ (xs : List Reference). i < length xs) c.as_slice-first-end.ensures c.loop-first-test.true in
    let next : Option (ℕ × ℕ) → Type 0 = λ o. IsFirstBelow C refs (i + 1) o in
    elim c.match-first_from.branch [
      | in-Some w ↦
          let n = w.in-Some.second in
          let p = w.index-as_slice-first.result in
          let one = if_some (λ m. IsLeastNumber (C (slice_index_or refs i p)) refs (Some m) × ¬ AtOrBefore c.loop-first.found (slice_index_or refs i p).number m) c.first_from.result n w.in-Some.is (c.first_from.ensures.some p) in
          subst next (sym w.found-is) (take_there C refs w.as_slice-in-Some.result.now i p c.loop-first.found n w.as_slice-in-Some.ensures below c.loop-first.invariant one)
      | in_default w ↦
          subst next (sym w.found-is)
          (keep_there C refs i c.loop-first.found c.loop-first.invariant
          (λ d. if_none (All (λ q. C (slice_index_or refs i d) q → AtOrBefore c.loop-first.found (slice_index_or refs i d).number q.number) refs) c.first_from.result w.in_default.is (c.first_from.ensures.none d)))
    ]

pub returns : goal.returns
returns c =
    let all = subst (λ (xs : List Reference). length xs ≤ c.loop-first.first) c.as_slice-first-end.ensures c.loop-first-test.false in
    let few = subst (λ (xs : List Reference). c.loop-first.first ≤ length xs) c.as_slice-first-end.ensures c.loop-first.auto.first-end in
    first_end (Carries c.args.outer c.args.level c.args.exempt.now) c.args.refs.now c.loop-first.first c.loop-first.found all few c.loop-first.invariant
