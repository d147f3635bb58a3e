use Rattle.std.proofs.Common.{true, refl, inl, inr}
use Rattle.std.proofs.lemmas.Bool.{OnTrue_from}
use Rattle.species_region.specs.Region.{NeverMeet}
use Rattle.species_banerjee.proofs.Regroup.{never_both, not_open_empty}
use Rattle.species_banerjee.proofs.Signs.{excluded_never_met}
use Rattle.species_banerjee.proofs.excluded.Goals as goal

pub returns-then-all_open-clause-refuted : goal.returns-then-all_open-clause-refuted
returns-then-all_open-clause-refuted c =
    OnTrue_from c.has_one_sign.result (NeverMeet c.args.p.now c.args.q.now c.args.at.now c.args.p_path.now c.args.q_path.now)
    (λ t. excluded_never_met c.args.p.now c.args.q.now c.args.at.now c.args.p_path.now c.args.q_path.now (inr (c.has_one_sign.ensures.0 t)))

pub returns-else-all_open-clause-excluded : goal.returns-else-all_open-clause-excluded
returns-else-all_open-clause-excluded c = (
  (λ t. inl (not_open_empty c.args.at.now c.args.p_path.now c.args.q_path.now c.requires.loops
      (λ each. never_both c.all_open.result (c.all_open.ensures.1 each) c.if-all_open.false))),
  (λ h. refl),
)

pub returns-else-all_open-clause-refuted : goal.returns-else-all_open-clause-refuted
returns-else-all_open-clause-refuted c =
    OnTrue_from true (NeverMeet c.args.p.now c.args.q.now c.args.at.now c.args.p_path.now c.args.q_path.now)
    (λ t. excluded_never_met c.args.p.now c.args.q.now c.args.at.now c.args.p_path.now c.args.q_path.now
    (inl (not_open_empty c.args.at.now c.args.p_path.now c.args.q_path.now c.requires.loops
    (λ each. never_both c.all_open.result (c.all_open.ensures.1 each) c.if-all_open.false))))
