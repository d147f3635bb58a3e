use Rattle.std.proofs.Common.{◌≡◌, subst, sym, ℕ, ◌+◌, All, Option, Some, true}
use Rattle.species_references.specs.declared.nest.Reference.{Reference}
use Rattle.species_depend.specs.Refuted.{directed, IsTestable}
use Rattle.species_depend.specs.Carried.{Carries, IsLeastNumber, AtOrBefore}
use Rattle.species_depend.proofs.LeastLemmas.{IsFirstBelow, if_some, if_none, keep_first, take_first, first_end}
use Rattle.species_depend.proofs.search.carried.Goals.{in-Some, in_default}
use Rattle.species_depend.proofs.search.carried.Goals as goal

pub first_from-requires : goal.first_from-requires
first_from-requires c =
    subst (λ (p : Reference). All (λ q. p.array ≡ q.array → IsTestable (directed c.args.outer c.args.level true) p q) c.args.refs.now) (sym c.p-item.is)
    (c.requires c.loop-p.p-index c.p-item.result c.loop-p-test.true)

pub loop-p-preserved : goal.loop-p-preserved
loop-p-preserved c =
    let C = Carries c.args.outer c.args.level c.args.exempt.now in
    let refs = c.args.refs.now in
    let next : Option (ℕ × ℕ) → Type 0 = λ o. IsFirstBelow C refs (c.loop-p.p-index + 1) o in
    elim c.match-first_from.branch [
      | in-Some w ↦
          let found = if_some (λ n. IsLeastNumber (C c.p-item.result) refs (Some n) × ¬ AtOrBefore c.loop-p.first c.p-item.result.number n) c.first_from.result w.in-Some.second w.in-Some.is c.first_from.ensures.some in
          subst next (sym w.first-is) (take_first C refs c.loop-p.p-index c.p-item.result c.loop-p.first w.in-Some.second c.loop-p-test.true c.p-item.is c.loop-p.invariant found.0 found.1)
      | in_default w ↦
          let none = if_none (All (λ q. C c.p-item.result q → AtOrBefore c.loop-p.first c.p-item.result.number q.number) refs) c.first_from.result w.in_default.is c.first_from.ensures.none in
          subst next (sym w.first-is) (keep_first C refs c.loop-p.p-index c.p-item.result c.loop-p.first c.loop-p-test.true c.p-item.is c.loop-p.invariant none)
    ]

pub returns : goal.returns
returns c = first_end (Carries c.args.outer c.args.level c.args.exempt.now) c.args.refs.now c.loop-p.p-index c.loop-p.first c.loop-p-test.false c.loop-p.auto.p-index-end c.loop-p.invariant
