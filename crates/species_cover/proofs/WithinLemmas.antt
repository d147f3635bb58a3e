-- A span lies within another where its first, its second and its last number do.
use Rattle.std.proofs.Common.{◌≡◌, ◌∙◌, ap, sym, subst, ℕ, ◌+◌, ◌-◌, ◌*◌, ◌/◌, ◌%◌, ◌<◌, ◌≤◌, ℤ, pos, ◌+ℤ◌, ◌-ℤ◌, ◌≤ℤ◌, arith}
use Rattle.std.proofs.lemmas.Int.{ints}
use Rattle.std.specs.Int.{◌∣◌}
use Rattle.std.specs.Int.RustNames.{unsigned_abs}
use Rattle.std.proofs.Math.Nat.{mod-le, mod-eq_of_lt, div-add-mod, mul-add-mod_self_left, dvd_iff_mod-eq-zero, dvd-mul_right}
use Rattle.std.proofs.lemmas.Nat.Gcd.{dvd-zero, dvd_refl, dvd_trans}
use Rattle.species_integers.proofs.Divisors.{dvd_sum, dvd_difference}
use Rattle.species_arcs.specs.declared.spans.Span.{Span}
use Rattle.species_arcs.specs.Spans.{IsInSpan}
use Rattle.species_cover.specs.Within.{IsWithin, width, last_of, second_of}

pub low_in : (s : Span) → s.low ≤ℤ s.high → IsInSpan s s.low
low_in s some =
    let none : 0 ≡ unsigned_abs (s.low -ℤ s.low) = omega (arith, ints) in
    (omega (arith, ints), some, subst (λ n. s.stride ∣ n) none (dvd-zero s.stride))

last_far : (s : Span) → s.low ≤ℤ s.high → unsigned_abs (last_of s -ℤ s.low) ≡ s.stride * (width s / s.stride)
last_far s some = omega (arith, ints, div-add-mod (width s) s.stride, mod-le (width s) s.stride)

pub last_in : (s : Span) → s.low ≤ℤ s.high → IsInSpan s (last_of s)
last_in s some = (
  omega (arith, ints, mod-le (width s) s.stride),
  omega (arith, ints),
  subst (λ n. s.stride ∣ n) (sym (last_far s some)) (dvd-mul_right s.stride (width s / s.stride)),
)

-- where the ends are a stride apart, there is a second
pub second_in : (s : Span) → s.low ≤ℤ s.high → s.stride ≤ width s → IsInSpan s (second_of s)
second_in s some long =
    let far : unsigned_abs (second_of s -ℤ s.low) ≡ s.stride = omega (arith, ints) in
    (omega (arith, ints), omega (arith, ints, long), subst (λ n. s.stride ∣ n) (sym far) (dvd_refl s.stride))

-- where they are not, the last is the first
alone : (s : Span) → s.low ≤ℤ s.high → width s < s.stride → last_of s ≡ s.low
alone s some short =
    let rest : width s % s.stride ≡ width s = mod-eq_of_lt {n = width s} {m = s.stride} short in
    ap (λ n. s.high -ℤ pos n) rest ∙ omega (arith, ints, some)

-- a multiple of the stride that fits is at most the last one
before_last : (t n m : ℕ) → t ∣ n → n ≤ m → n ≤ m - m % t
before_last t n m divides within =
    let none : n % t ≡ 0 = (dvd_iff_mod-eq-zero t {n = n}).0 divides in
    let k = n / t in
    let parts : t * k + (m - n) ≡ m = omega (arith, none, div-add-mod n t) in
    let rest : m % t ≡ (m - n) % t = ap (λ x. x % t) (sym parts) ∙ mul-add-mod_self_left t k (m - n) in
    omega (arith, rest, mod-le (m - n) t)

pub to_last : (s : Span) (v : ℤ) → IsInSpan s v → v ≤ℤ last_of s
to_last s v (low, high, divides) =
    let n = unsigned_abs (v -ℤ s.low) in
    let within : n ≤ width s = omega (arith, ints) in
    omega (arith, ints, before_last s.stride n (width s) divides within)

-- ---- the three numbers decide

pub holds_all : (inner outer : Span) → inner.low ≤ℤ inner.high → IsInSpan outer inner.low → IsInSpan outer (last_of inner)
    → IsInSpan outer (second_of inner) → IsWithin inner outer
holds_all inner outer some first last next v (low, high, divides) =
    let apart : unsigned_abs ((second_of inner -ℤ outer.low) -ℤ (inner.low -ℤ outer.low)) ≡ inner.stride = omega (arith, ints) in
    let d : outer.stride ∣ inner.stride =
    subst (λ n. outer.stride ∣ n) apart (dvd_difference outer.stride (second_of inner -ℤ outer.low) (inner.low -ℤ outer.low) next.2 first.2) in
    let far : unsigned_abs ((v -ℤ inner.low) +ℤ (inner.low -ℤ outer.low)) ≡ unsigned_abs (v -ℤ outer.low) = omega (arith, ints) in (
      omega (arith, ints, first.0),
      omega (arith, ints, last.1, to_last inner v (low, high, divides)),
      subst (λ n. outer.stride ∣ n) far
          (dvd_sum outer.stride (v -ℤ inner.low) (inner.low -ℤ outer.low) (dvd_trans outer.stride d divides) first.2),
    )

pub holds_one : (inner outer : Span) → inner.low ≤ℤ inner.high → IsInSpan outer inner.low → width inner < inner.stride → IsWithin inner outer
holds_one inner outer some first short v is =
    let same : inner.low ≡ v = omega (arith, ints, alone inner some short, is.0, to_last inner v is) in
    subst (IsInSpan outer) same first

-- ---- what the test decides

pub first_outside : (inner outer : Span) → inner.low ≤ℤ inner.high → (IsInSpan outer inner.low → ⊥) → IsWithin inner outer → ⊥
first_outside inner outer some out within = out (within inner.low (low_in inner some))

pub second_outside : (inner outer : Span) → inner.low ≤ℤ inner.high → inner.stride ≤ width inner → (IsInSpan outer (second_of inner) → ⊥) → IsWithin inner outer → ⊥
second_outside inner outer some long out within = out (within (second_of inner) (second_in inner some long))
