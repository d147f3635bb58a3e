use Rattle.std.proofs.Common.{◌≡◌, ◌<◌, ◌≤◌, ◌^◌, ◌∙◌, ℕ, FitsSigned, to_z, arith, ap, subst, rules}
use Rattle.std.specs.Int.{w128}
use Rattle.std.specs.Int.RustNames.{unsigned_abs}
use Rattle.std.proofs.lemmas.Int.{to_z-of_z}
use Rattle.std.proofs.lemmas.Bool.{OnFalse_from}
use Rattle.species_linear.specs.Value.{NamesOnly}
use Rattle.species_region.specs.Region.{level_of, NeverMeet}
use Rattle.species_region.proofs.Levels.{step_nonzero, small_coefficient, names_16}
use Rattle.species_gcd.proofs.Solutions.{residue_of}
use Rattle.species_gcd.proofs.Steps.{divisor_next, constant_next, constant_next_small, divides_at_end, never_met_at_end}
use Rattle.species_gcd.proofs.divides.Goals as goal

pub divisor_of_level-requires-clause-small_a : goal.divisor_of_level-requires-clause-small_a
divisor_of_level-requires-clause-small_a c =
    let fits : FitsSigned w128 c.coefficient-a.result = search rules in
    rw (to_z-of_z w128 c.coefficient-a.result fits, c.coefficient-a.ensures.value) (small_coefficient c.args.p.now c.loop-level.level c.requires.first_form.small)

pub divisor_of_level-requires-clause-small_b : goal.divisor_of_level-requires-clause-small_b
divisor_of_level-requires-clause-small_b c =
    let fits : FitsSigned w128 c.coefficient-b.result = search rules in
    rw (to_z-of_z w128 c.coefficient-b.result fits, c.coefficient-b.ensures.value) (small_coefficient c.args.q.now c.loop-level.level c.requires.second_form.small)

pub residue-requires : goal.residue-requires
residue-requires c = rw c.range_or_zero-first.ensures (step_nonzero c.args.p_path.now c.loop-level.level c.requires.first_path)

pub residue-requires-in-loop-level : goal.residue-requires-in-loop-level
residue-requires-in-loop-level c = rw c.range_or_zero-second.ensures (step_nonzero c.args.q_path.now c.loop-level.level c.requires.second_path)

pub add_products-constant-requires-clause-small_a : goal.add_products-constant-requires-clause-small_a
add_products-constant-requires-clause-small_a c =
    let fits : FitsSigned w128 c.coefficient-a.result = search rules in
    rw (to_z-of_z w128 c.coefficient-a.result fits, c.coefficient-a.ensures.value) (small_coefficient c.args.p.now c.loop-level.level c.requires.first_form.small)

pub add_products-constant-requires-clause-small_b : goal.add_products-constant-requires-clause-small_b
add_products-constant-requires-clause-small_b c =
    let fits : FitsSigned w128 c.coefficient-b.result = search rules in
    rw (to_z-of_z w128 c.coefficient-b.result fits, c.coefficient-b.ensures.value) (small_coefficient c.args.q.now c.loop-level.level c.requires.second_form.small)

pub loop-level-preserved : goal.loop-level-preserved
loop-level-preserved c =
    let a_fits : FitsSigned w128 c.coefficient-a.result = search rules in
    let b_fits : FitsSigned w128 c.coefficient-b.result = search rules in
    let x_fits : FitsSigned w128 c.residue.result = search rules in
    let y_fits : FitsSigned w128 c.residue-in-loop-level.result = search rules in
    let next_fits : FitsSigned w128 c.add_products-constant.result = search rules in
    let step = simp to_z-of_z at c.add_products-constant.ensures in
    let here = simp to_z-of_z at c.divisor_of_level.ensures in
    let small_a : unsigned_abs c.coefficient-a.result < 2 ^ 70 =
    rw c.coefficient-a.ensures.value (small_coefficient c.args.p.now c.loop-level.level c.requires.first_form.small) in
    let small_b : unsigned_abs c.coefficient-b.result < 2 ^ 70 =
    rw c.coefficient-b.ensures.value (small_coefficient c.args.q.now c.loop-level.level c.requires.second_form.small) in
    let constant = constant_next c.args.p.now c.args.q.now c.args.p_path.now c.args.q_path.now c.loop-level.level
    (to_z w128 c.loop-level.constant-bits) c.coefficient-a.result c.coefficient-b.result c.residue.result c.residue-in-loop-level.result c.add_products-constant.result
    c.loop-level.invariant.constant c.coefficient-a.ensures.value c.coefficient-b.ensures.value
    (c.residue.ensures.value ∙ ap residue_of c.range_or_zero-first.ensures) (c.residue-in-loop-level.ensures.value ∙ ap residue_of c.range_or_zero-second.ensures) step in
    let small = constant_next_small c.loop-level.level (to_z w128 c.loop-level.constant-bits) c.coefficient-a.result c.coefficient-b.result
    c.residue.result c.residue-in-loop-level.result c.add_products-constant.result c.loop-level.invariant.small small_a small_b
    c.residue.ensures.small c.residue-in-loop-level.ensures.small step in
    rw (to_z-of_z w128 c.add_products-constant.result next_fits) (record {
      divisors = divisor_next c.args.p.now c.args.q.now c.args.at.now c.args.p_path.now c.args.q_path.now c.loop-level.level
          c.level_of-differs_at.result c.loop-level.divisor c.divisor_of_level.result c.gcd-divisor.result c.coefficient-a.result c.coefficient-b.result
          c.range_or_zero-first.result c.range_or_zero-second.result c.loop-level.invariant.divisors c.level_of-differs_at.ensures
          c.coefficient-a.ensures.value c.coefficient-b.ensures.value c.range_or_zero-first.ensures c.range_or_zero-second.ensures here c.gcd-divisor.ensures;
      constant = constant;
      small = small;
      rising_first = λ h. c.coefficient-a.ensures.rising;
      rising_second = λ h. c.coefficient-b.ensures.rising;
    })

pub returns-clause-divides : goal.returns-clause-divides
returns-clause-divides c =
    let all : 16 ≡ c.loop-level.level = omega arith in
    let named_p : NamesOnly c.args.p.now c.loop-level.level = subst (λ (n : ℕ). NamesOnly c.args.p.now n) all (names_16 c.args.p.now c.args.p_path.now c.requires.first_form.named c.requires.first_path.short) in
    let named_q : NamesOnly c.args.q.now c.loop-level.level = subst (λ (n : ℕ). NamesOnly c.args.q.now n) all (names_16 c.args.q.now c.args.q_path.now c.requires.second_form.named c.requires.second_path.short) in
    let few : level_of c.args.at.now ≤ c.loop-level.level = omega (arith, c.requires.loops.first, c.requires.first_path.short) in
    let end = divides_at_end c.loop-level.level c.args.p.now c.args.q.now c.args.at.now c.args.p_path.now c.args.q_path.now c.loop-level.divisor (to_z w128 c.loop-level.constant-bits)
    (c.loop-level.invariant.rising_first (omega arith)) (c.loop-level.invariant.rising_second (omega arith)) named_p named_q c.requires.loops few
    c.loop-level.invariant.divisors c.loop-level.invariant.constant in
    ((λ t. end.0 (c.is_multiple.ensures.0 t)), (λ h. c.is_multiple.ensures.1 (end.1 h)))

pub returns-clause-refuted : goal.returns-clause-refuted
returns-clause-refuted c =
    let all : 16 ≡ c.loop-level.level = omega arith in
    let named_p : NamesOnly c.args.p.now c.loop-level.level = subst (λ (n : ℕ). NamesOnly c.args.p.now n) all (names_16 c.args.p.now c.args.p_path.now c.requires.first_form.named c.requires.first_path.short) in
    let named_q : NamesOnly c.args.q.now c.loop-level.level = subst (λ (n : ℕ). NamesOnly c.args.q.now n) all (names_16 c.args.q.now c.args.q_path.now c.requires.second_form.named c.requires.second_path.short) in
    let few : level_of c.args.at.now ≤ c.loop-level.level = omega (arith, c.requires.loops.first, c.requires.first_path.short) in
    OnFalse_from c.is_multiple.result (NeverMeet c.args.p.now c.args.q.now c.args.at.now c.args.p_path.now c.args.q_path.now) (λ not_true.
    never_met_at_end c.loop-level.level c.args.p.now c.args.q.now c.args.at.now c.args.p_path.now c.args.q_path.now c.loop-level.divisor (to_z w128 c.loop-level.constant-bits)
    (c.loop-level.invariant.rising_first (omega arith)) (c.loop-level.invariant.rising_second (omega arith)) named_p named_q c.requires.loops few
    c.loop-level.invariant.divisors c.loop-level.invariant.constant
    (λ h. cc (not_true, c.is_multiple.ensures.1 h)))
