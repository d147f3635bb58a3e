use Rattle.std.proofs.Common.{◌-ℤ◌, FitsSigned, arith, sym}
use Rattle.std.specs.Int.{w128}
use Rattle.std.proofs.lemmas.Nat.Gcd.{dvd_trans}
use Rattle.std.proofs.lemmas.Int.{to_z-of_z, fits_signed_from_abs}
use Rattle.species_integers.proofs.Sizes.{abs_difference}
use Rattle.species_gcd.proofs.Totals.{dvd_same}
use Rattle.species_gcd.proofs.divisor_of_level.Goals as goal

pub returns-then-shared : goal.returns-then-shared
returns-then-shared c =
    let a = c.ranges.a in let b = c.ranges.b in
    let apart : FitsSigned w128 (c.args.a -ℤ c.args.b) =
    fits_signed_from_abs w128 (c.args.a -ℤ c.args.b) (omega (arith, abs_difference c.args.a c.args.b, c.requires.small_a, c.requires.small_b)) in
    let size = simp to_z-of_z at c.scaled_size.ensures in
    rw c.if-shared.true (λ d. ((λ h. dvd_same d _ _ size h), (λ h. dvd_same d _ _ (sym size) h)))

pub returns-else-shared : goal.returns-else-shared
returns-else-shared c =
    let a = c.ranges.a in let b = c.ranges.b in
    let first = simp to_z-of_z at c.scaled_size-else-shared.ensures in
    let second = simp to_z-of_z at c.scaled_size-else-shared-2.ensures in
    rw c.if-shared.false (λ d. (
      (λ h. (dvd_same d _ _ first (dvd_trans d h c.gcd.ensures.0), dvd_same d _ _ second (dvd_trans d h c.gcd.ensures.1))),
      (λ h. c.gcd.ensures.2 d (dvd_same d _ _ (sym first) h.0) (dvd_same d _ _ (sym second) h.1)),
    ))
