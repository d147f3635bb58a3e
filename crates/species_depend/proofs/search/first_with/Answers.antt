use Rattle.std.proofs.Common.{subst, sym, ℕ, ◌+◌, Option}
use Rattle.species_depend.specs.Carried.{Carries}
use Rattle.species_depend.proofs.LeastLemmas.{IsLeastBelow, keep_least, take_least, least_end}
use Rattle.species_depend.proofs.search.first_with.Goals.{then-is_better, else-is_better}
use Rattle.species_depend.proofs.search.first_with.Goals as goal

pub loop-q-preserved : goal.loop-q-preserved
loop-q-preserved c =
    let P = Carries c.args.outer c.args.level c.args.exempt.now c.args.p.now in
    let refs = c.args.refs.now in
    let next : Option ℕ → Type 0 = λ o. IsLeastBelow P refs (c.loop-q.q-index + 1) o in
    elim c.if-is_better.branch [
      | then-is_better w ↦
          let found = c.is_better.ensures.0 w.if-is_better.true in
          subst next (sym w.least-is) (take_least P refs c.loop-q.q-index c.q-item.result c.loop-q.least c.loop-q-test.true c.q-item.is c.loop-q.invariant found.0 found.1)
      | else-is_better w ↦
          subst next (sym w.least-is) (keep_least P refs c.loop-q.q-index c.q-item.result c.loop-q.least c.loop-q-test.true c.q-item.is c.loop-q.invariant
          (λ h. cc (c.is_better.ensures.1 h, w.if-is_better.false)))
    ]

pub returns : goal.returns
returns c = least_end (Carries c.args.outer c.args.level c.args.exempt.now c.args.p.now) c.args.refs.now c.loop-q.q-index c.loop-q.least c.loop-q-test.false c.loop-q.auto.q-index-end c.loop-q.invariant
