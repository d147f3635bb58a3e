use Rattle.std.proofs.Common.{ℕ, false, arith, refl, sym, subst, inl, inr}
use Rattle.species_banerjee.specs.declared.pairs.LoopPair.{LoopPair}
use Rattle.species_banerjee.specs.LoopPair.{loop_pair_at, IsOpen}
use Rattle.species_banerjee.proofs.Regroup.{never_both, before_or_here, all_from_16}
use Rattle.species_banerjee.proofs.all_open.Goals as goal

pub returns-then-not-is_open : goal.returns-then-not-is_open
returns-then-not-is_open c = (
  (λ t. absurd (never_both false t refl)),
  (λ each. absurd (never_both c.is_open.result
      (c.is_open.ensures.1 (subst (λ (l : LoopPair). IsOpen l) (sym c.loop_pair_at.ensures) (each c.loop-level.level)))
      c.if-not-is_open.true)),
)

pub loop-level-preserved : goal.loop-level-preserved
loop-level-preserved c = λ k h. elim (before_or_here k c.loop-level.level h) [
  | inl s ↦ c.loop-level.invariant k s
  | inr e ↦ subst (λ (j : ℕ). IsOpen (loop_pair_at c.args.at.now c.args.p_path.now c.args.q_path.now j)) (sym e)
      (subst (λ (l : LoopPair). IsOpen l) c.loop_pair_at.ensures (c.is_open.ensures.0 c.if-not-is_open.false))
]

pub returns : goal.returns
returns c = (
  (λ t. all_from_16 c.loop-level.level c.args.at.now c.args.p_path.now c.args.q_path.now c.requires.loops c.requires.first_path c.requires.second_path
      (omega arith) c.loop-level.invariant),
  (λ each. refl),
)
