use Rattle.std.proofs.Common.{rules, ◌≡◌, ◌≤ℤ◌, FitsSigned, arith, refl, ℤ, false}
use Rattle.std.specs.Int.{w128}
use Rattle.std.specs.Int.RustNames.{int_lt}
use Rattle.std.proofs.lemmas.Int.{to_z-of_z, ints}
use Rattle.species_cover.proofs.WithinLemmas.{first_outside, second_outside, last_in, holds_one, holds_all}
use Rattle.species_cover.proofs.within.is_within.Goals as goal

not_less : (x y : ℤ) → int_lt x y ≡ false → y ≤ℤ x
not_less x y h = grind (arith, ints)

pub returns-then-not-holds_first : goal.returns-then-not-holds_first
returns-then-not-holds_first c =
    let fits_low : FitsSigned w128 c.args.inner.low = search rules in
    let fits_high : FitsSigned w128 c.args.inner.high = search rules in
    let some : c.args.inner.low ≤ℤ c.args.inner.high = not_less c.args.inner.high c.args.inner.low (simp to_z-of_z at c.if-inner.false) in
    ((λ t. absurd (cc t)), (λ w. absurd (first_outside c.args.inner c.args.outer some (λ h. absurd (cc (c.holds_first.ensures.1 h, c.if-not-holds_first.true))) w)))

pub returns-then-is_single : goal.returns-then-is_single
returns-then-is_single c =
    let fits_low : FitsSigned w128 c.args.inner.low = search rules in
    let fits_high : FitsSigned w128 c.args.inner.high = search rules in
    let some : c.args.inner.low ≤ℤ c.args.inner.high = not_less c.args.inner.high c.args.inner.low (simp to_z-of_z at c.if-inner.false) in
    ((λ t. holds_one c.args.inner c.args.outer some (c.holds_first.ensures.0 c.if-not-holds_first.false) (c.is_single.ensures.0 c.if-is_single.true)), (λ w. refl))

pub returns-then-not-holds_second : goal.returns-then-not-holds_second
returns-then-not-holds_second c =
    let fits_low : FitsSigned w128 c.args.inner.low = search rules in
    let fits_high : FitsSigned w128 c.args.inner.high = search rules in
    let some : c.args.inner.low ≤ℤ c.args.inner.high = not_less c.args.inner.high c.args.inner.low (simp to_z-of_z at c.if-inner.false) in (
      (λ t. absurd (cc t)),
      (λ w. absurd (second_outside c.args.inner c.args.outer some (grind (arith, c.is_single.ensures, c.if-is_single.false))
          (λ h. absurd (cc (c.holds_second.ensures.1 h, c.if-not-holds_second.true))) w)),
    )

pub returns : goal.returns
returns c =
    let fits_low : FitsSigned w128 c.args.inner.low = search rules in
    let fits_high : FitsSigned w128 c.args.inner.high = search rules in
    let some : c.args.inner.low ≤ℤ c.args.inner.high = not_less c.args.inner.high c.args.inner.low (simp to_z-of_z at c.if-inner.false) in (
      (λ t. holds_all c.args.inner c.args.outer some (c.holds_first.ensures.0 c.if-not-holds_first.false) (c.holds_last.ensures.0 t)
          (c.holds_second.ensures.0 c.if-not-holds_second.false)),
      (λ w. c.holds_last.ensures.1 (w _ (last_in c.args.inner some))),
    )
