-- Spans, and the test for their numbers.
use Rattle.std.proofs.Common.{◌≡◌, subst, sym, ℕ, ◌%◌, nat_eq, ℤ, ◌-ℤ◌, ◌≤ℤ◌, IsTrue}
use Rattle.std.specs.Int.{◌∣◌}
use Rattle.std.specs.Int.RustNames.{unsigned_abs}
use Rattle.std.proofs.Math.Nat.{dvd_iff_mod-eq-zero}
use Rattle.std.proofs.lemmas.Bool.{eq-eqb, eqb-true}
use Rattle.species_arcs.specs.declared.spans.Span.{Span}
use Rattle.species_arcs.specs.Spans.{IsInSpan}

-- a rest of 0 decides whether d divides
multiple_test : (d n m : ℕ) → n ≡ m → (IsTrue (nat_eq (n % d) 0) → d ∣ m) × (d ∣ m → IsTrue (nat_eq (n % d) 0))
multiple_test d n m e =
    let by_rest = dvd_iff_mod-eq-zero d {n = n} in
    ((λ t. subst (λ z. d ∣ z) e (by_rest.1 (eqb-true (n % d) 0 t))), (λ h. eq-eqb (n % d) 0 (by_rest.0 (subst (λ z. d ∣ z) (sym e) h))))

pub span_test : (s : Span) (v : ℤ) (n : ℕ) → s.low ≤ℤ v → v ≤ℤ s.high → n ≡ unsigned_abs (v -ℤ s.low) →
    (IsTrue (nat_eq (n % s.stride) 0) → IsInSpan s v) × (IsInSpan s v → IsTrue (nat_eq (n % s.stride) 0))
span_test s v n low high e = let m = multiple_test s.stride n (unsigned_abs (v -ℤ s.low)) e in ((λ t. (low, high, m.0 t)), (λ h. m.1 h.2))
