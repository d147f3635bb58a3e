use Rattle.std.proofs.Common.{◌≡◌, ◌%◌, ℕ, subst, sym, ◌∙◌}
use Rattle.std.specs.Int.{◌∣◌, w128}
use Rattle.std.specs.Int.RustNames.{unsigned_abs}
use Rattle.std.proofs.Math.Nat.{zero-dvd, dvd_iff_mod-eq-zero}
use Rattle.std.proofs.lemmas.Bool.{eq-eqb, eqb-true}
use Rattle.std.proofs.lemmas.Int.{to_z-of_z}
use Rattle.species_gcd.proofs.is_multiple.Goals as goal

pub returns-then-divisor-eq0 : goal.returns-then-divisor-eq0
returns-then-divisor-eq0 c =
    let size : c.unsigned_abs-size.result ≡ unsigned_abs c.args.number = rw (to_z-of_z w128 c.args.number c.ranges.number) at c.unsigned_abs-size.ensures.value in
    rw c.if-divisor-eq0.true (
      (λ t. zero-dvd.1 (sym size ∙ eqb-true c.unsigned_abs-size.result 0 t)),
      (λ divides. eq-eqb c.unsigned_abs-size.result 0 (size ∙ zero-dvd.0 divides)),
    )

pub returns-else-divisor-eq0 : goal.returns-else-divisor-eq0
returns-else-divisor-eq0 c =
    let size : c.unsigned_abs-size.result ≡ unsigned_abs c.args.number = rw (to_z-of_z w128 c.args.number c.ranges.number) at c.unsigned_abs-size.ensures.value in
    let by_rest = dvd_iff_mod-eq-zero c.args.divisor {n = c.unsigned_abs-size.result} in (
      (λ t. subst (λ (n : ℕ). c.args.divisor ∣ n) size (by_rest.1 (eqb-true (c.unsigned_abs-size.result % c.args.divisor) 0 t))),
      (λ divides. eq-eqb (c.unsigned_abs-size.result % c.args.divisor) 0 (by_rest.0 (subst (λ (n : ℕ). c.args.divisor ∣ n) (sym size) divides))),
    )
