use Rattle.std.proofs.Common.{◌≡◌, ◌≤◌, ◌^◌, ℕ, ℤ, pos, ◌-ℤ◌, ◌<ℤ◌, FitsSigned, to_z, true, arith, sym, subst, rules, inl, inr}
use Rattle.std.specs.Int.{w128}
use Rattle.std.specs.Int.RustNames.{unsigned_abs, int_lt}
use Rattle.std.proofs.lemmas.Int.{ints, to_z-of_z, fits_signed_from_abs}
use Rattle.species_integers.proofs.Sizes.{abs_difference}
use Rattle.species_linear.specs.Value.{NamesOnly}
use Rattle.species_region.proofs.Levels.{small_coefficient, names_16}
use Rattle.species_banerjee.specs.declared.pairs.LoopPair.{LoopPair}
use Rattle.species_banerjee.specs.LoopPair.{IsOpen, IsUsable}
use Rattle.species_banerjee.proofs.Regroup.{usable}
use Rattle.species_banerjee.proofs.Signs.{least_first, greatest_first, least_more, greatest_more, more_small, sign_by_extremes}
use Rattle.species_banerjee.proofs.has_one_sign.Goals as goal

pub loop-level-init : goal.loop-level-init
loop-level-init c =
    let first : FitsSigned w128 c.args.p.now.constant = search rules in
    let second : FitsSigned w128 c.args.q.now.constant = search rules in
    let small : unsigned_abs (c.args.p.now.constant -ℤ c.args.q.now.constant) ≤ 2 ^ 112 =
    omega (arith, c.requires.first_form.small.0, c.requires.second_form.small.0, abs_difference c.args.p.now.constant c.args.q.now.constant) in
    let apart : FitsSigned w128 (c.args.p.now.constant -ℤ c.args.q.now.constant) =
    fits_signed_from_abs w128 (c.args.p.now.constant -ℤ c.args.q.now.constant) (omega (arith, small)) in
    simp to_z-of_z (record {
      least = least_first c.args.p.now c.args.q.now c.args.at.now c.args.p_path.now c.args.q_path.now;
      greatest = greatest_first c.args.p.now c.args.q.now c.args.at.now c.args.p_path.now c.args.q_path.now;
      small_least = omega (arith, small);
      small_greatest = omega (arith, small);
      rising_first = λ h. absurd (omega (arith, h));
      rising_second = λ h. absurd (omega (arith, h));
    })

pub extremes_of-found-requires-clause-usable : goal.extremes_of-found-requires-clause-usable
extremes_of-found-requires-clause-usable c =
    subst (λ (l : LoopPair). IsUsable l) (sym c.loop_pair_at-loops.ensures)
    (usable c.args.at.now c.args.p_path.now c.args.q_path.now c.loop-level.level c.requires.loops c.requires.first_path c.requires.second_path)

pub extremes_of-found-requires-clause-inhabited : goal.extremes_of-found-requires-clause-inhabited
extremes_of-found-requires-clause-inhabited c =
    subst (λ (l : LoopPair). IsOpen l) (sym c.loop_pair_at-loops.ensures) (c.requires.inhabited c.loop-level.level)

pub extremes_of-found-requires-clause-small_a : goal.extremes_of-found-requires-clause-small_a
extremes_of-found-requires-clause-small_a c =
    let fits : FitsSigned w128 c.coefficient.result = search rules in
    rw (to_z-of_z w128 c.coefficient.result fits, c.coefficient.ensures.value) (small_coefficient c.args.p.now c.loop-level.level c.requires.first_form.small)

pub extremes_of-found-requires-clause-small_b : goal.extremes_of-found-requires-clause-small_b
extremes_of-found-requires-clause-small_b c =
    let fits : FitsSigned w128 c.coefficient-in-loop-level.result = search rules in
    rw (to_z-of_z w128 c.coefficient-in-loop-level.result fits, c.coefficient-in-loop-level.ensures.value) (small_coefficient c.args.q.now c.loop-level.level c.requires.second_form.small)

pub loop-level-preserved : goal.loop-level-preserved
loop-level-preserved c =
    let a_fits : FitsSigned w128 c.coefficient.result = search rules in
    let b_fits : FitsSigned w128 c.coefficient-in-loop-level.result = search rules in
    let least_fits : FitsSigned w128 c.extremes_of-found.result.least = search rules in
    let greatest_fits : FitsSigned w128 c.extremes_of-found.result.greatest = search rules in
    let low_fits : FitsSigned w128 c.plus-least.result = search rules in
    let high_fits : FitsSigned w128 c.plus-greatest.result = search rules in
    let low_step = simp to_z-of_z at c.plus-least.ensures in
    let high_step = simp to_z-of_z at c.plus-greatest.ensures in
    let least = simp to_z-of_z at c.extremes_of-found.ensures.least in
    let greatest = simp to_z-of_z at c.extremes_of-found.ensures.greatest in
    simp to_z-of_z (record {
      least = least_more c.args.p.now c.args.q.now c.args.at.now c.args.p_path.now c.args.q_path.now c.loop-level.level (to_z w128 c.loop-level.least-bits)
          c.extremes_of-found.result.least c.plus-least.result c.coefficient.result c.coefficient-in-loop-level.result c.loop_pair_at-loops.result
          c.loop-level.invariant.least c.loop_pair_at-loops.ensures c.coefficient.ensures.value c.coefficient-in-loop-level.ensures.value least low_step;
      greatest = greatest_more c.args.p.now c.args.q.now c.args.at.now c.args.p_path.now c.args.q_path.now c.loop-level.level (to_z w128 c.loop-level.greatest-bits)
          c.extremes_of-found.result.greatest c.plus-greatest.result c.coefficient.result c.coefficient-in-loop-level.result c.loop_pair_at-loops.result
          c.loop-level.invariant.greatest c.loop_pair_at-loops.ensures c.coefficient.ensures.value c.coefficient-in-loop-level.ensures.value greatest high_step;
      small_least = more_small c.loop-level.level (to_z w128 c.loop-level.least-bits) c.extremes_of-found.result.least c.plus-least.result
          c.loop-level.invariant.small_least c.extremes_of-found.ensures.small.0 low_step;
      small_greatest = more_small c.loop-level.level (to_z w128 c.loop-level.greatest-bits) c.extremes_of-found.result.greatest c.plus-greatest.result
          c.loop-level.invariant.small_greatest c.extremes_of-found.ensures.small.1 high_step;
      rising_first = λ h. c.coefficient.ensures.rising;
      rising_second = λ h. c.coefficient-in-loop-level.ensures.rising;
    })

lt_from : (a b : ℤ) → int_lt a b ≡ true → a <ℤ b
lt_from a b h = grind (arith, ints)

lt_to : (a b : ℤ) → a <ℤ b → int_lt a b ≡ true
lt_to a b h = grind (arith, ints)

pub returns-then-least-gt0 : goal.returns-then-least-gt0
returns-then-least-gt0 c =
    let all : 16 ≡ c.loop-level.level = omega arith in
    let named_p : NamesOnly c.args.p.now c.loop-level.level = subst (λ (n : ℕ). NamesOnly c.args.p.now n) all (names_16 c.args.p.now c.args.p_path.now c.requires.first_form.named c.requires.first_path.short) in
    let named_q : NamesOnly c.args.q.now c.loop-level.level = subst (λ (n : ℕ). NamesOnly c.args.q.now n) all (names_16 c.args.q.now c.args.q_path.now c.requires.second_form.named c.requires.second_path.short) in
    let law = sign_by_extremes c.loop-level.level c.args.p.now c.args.q.now c.args.at.now c.args.p_path.now c.args.q_path.now
    (to_z w128 c.loop-level.least-bits) (to_z w128 c.loop-level.greatest-bits)
    (c.loop-level.invariant.rising_first (omega arith)) (c.loop-level.invariant.rising_second (omega arith)) named_p named_q
    c.requires.first_form.named c.requires.second_form.named c.requires.loops c.requires.inhabited c.loop-level.invariant.least c.loop-level.invariant.greatest in
    ((λ t. law.0 (inl (lt_from (pos 0) (to_z w128 c.loop-level.least-bits) t))), (λ s. c.if-least-gt0.true))

pub returns-else-least-gt0 : goal.returns-else-least-gt0
returns-else-least-gt0 c =
    let all : 16 ≡ c.loop-level.level = omega arith in
    let named_p : NamesOnly c.args.p.now c.loop-level.level = subst (λ (n : ℕ). NamesOnly c.args.p.now n) all (names_16 c.args.p.now c.args.p_path.now c.requires.first_form.named c.requires.first_path.short) in
    let named_q : NamesOnly c.args.q.now c.loop-level.level = subst (λ (n : ℕ). NamesOnly c.args.q.now n) all (names_16 c.args.q.now c.args.q_path.now c.requires.second_form.named c.requires.second_path.short) in
    let law = sign_by_extremes c.loop-level.level c.args.p.now c.args.q.now c.args.at.now c.args.p_path.now c.args.q_path.now
    (to_z w128 c.loop-level.least-bits) (to_z w128 c.loop-level.greatest-bits)
    (c.loop-level.invariant.rising_first (omega arith)) (c.loop-level.invariant.rising_second (omega arith)) named_p named_q
    c.requires.first_form.named c.requires.second_form.named c.requires.loops c.requires.inhabited c.loop-level.invariant.least c.loop-level.invariant.greatest in (
      (λ t. law.0 (inr (lt_from (to_z w128 c.loop-level.greatest-bits) (pos 0) t))),
      (λ s. elim (law.1 s) [
        | inl positive ↦ cc (lt_to (pos 0) (to_z w128 c.loop-level.least-bits) positive, c.if-least-gt0.false)
        | inr negative ↦ lt_to (to_z w128 c.loop-level.greatest-bits) (pos 0) negative
      ]),
    )
