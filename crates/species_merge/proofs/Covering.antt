-- Which numbers are covered on the way, stretch by stretch.
use Rattle.std.proofs.Common.{◌≡◌, refl, ap, sym, subst, ◌∙◌, arith, ℕ, zero, suc, ◌+◌, ◌*◌, ◌/◌, ◌%◌, ◌<◌, ◌≤◌, List, length, slice_index_or, All, ℤ, pos, ◌+ℤ◌, ◌-ℤ◌, ◌≤ℤ◌, ◌<ℤ◌, ◌⊎◌, inl, inr, Bool, false, IsTrue}
use Rattle.std.specs.List.{Any}
use Rattle.std.specs.Int.{◌∣◌, IsGcd}
use Rattle.std.specs.Int.RustNames.{unsigned_abs, int_le}
use Rattle.std.proofs.lemmas.Int.{ints}
use Rattle.std.proofs.lemmas.List.{get_or_default}
use Rattle.std.proofs.lemmas.Nat.Gcd.{dvd_trans, le_of_dvd, mod-eq-zero_of_dvd, dvd_refl}
use Rattle.std.proofs.Math.Nat.{mod-lt, div-add-mod', dvd-mul_left, dvd-mul_right, eq-zero_of_zero-dvd, mul_assoc, mul_comm, add-mul}
use Rattle.species_arcs.specs.declared.spans.Span.{Span}
use Rattle.species_arcs.specs.Spans.{IsInSpan}
use Rattle.species_merge.specs.Hulls.{Covers}
use Rattle.species_merge.specs.Stretches.{IsSettled, GoesThrough, IsMultiple, IsPeriod, IsEnough, IsBehind}
use Rattle.species_merge.proofs.Divides.{dvd_at, dvd_ways, dvd_turned, dvd_through}

-- ---- some of a list

pub any_at : {X : Type 0} (P : X → Type 0) (xs : List X) (i : ℕ) (d : X) → i < length xs → P (slice_index_or xs i d) → Any P xs
any_at P xs i d lt p = (i, slice_index_or xs i d, lt, get_or_default xs i (slice_index_or xs i d) d lt, p)

pub any_with : {X : Type 0} (P Q R : X → Type 0) (xs : List X) → ((x : X) → P x → Q x → R x) → Any P xs → All Q xs → Any R xs
any_with P Q R xs f h all = (h.0, h.1, h.2, h.3, f h.1 h.4 (subst Q h.3 (all h.0 h.1 h.2)))

pub none_at_end : {X : Type 0} (P : X → Type 0) (xs : List X) (i : ℕ) → length xs ≤ i → ((k : ℕ) (d : X) → k < i → P (slice_index_or xs k d) → ⊥) → Any P xs → ⊥
none_at_end P xs i le none h = none h.0 h.1 (omega (arith, h.2, le)) (subst P (sym h.3) h.4)

which : (k n : ℕ) → k < n + 1 → (k < n) ⊎ (k ≡ n)
which k n l = grind arith

pub none_next : {X : Type 0} (P : X → Type 0) (xs : List X) (i : ℕ) (d : X) → i < length xs → ((k : ℕ) (e : X) → k < i → P (slice_index_or xs k e) → ⊥) → (P (slice_index_or xs i d) → ⊥)
    → (k : ℕ) (e : X) → k < i + 1 → P (slice_index_or xs k e) → ⊥
none_next P xs i d lt none here k e l p = elim (which k i l) [
  | inl below ↦ none k e below p
  | inr same ↦ here (subst P (get_or_default xs i e d lt) (subst (λ (j : ℕ). P (slice_index_or xs j e)) same p))
]

pub all_next : {X : Type 0} (P : X → Type 0) (xs : List X) (i : ℕ) (d : X) → i < length xs → ((k : ℕ) (e : X) → k < i → P (slice_index_or xs k e)) → P (slice_index_or xs i d)
    → (k : ℕ) (e : X) → k < i + 1 → P (slice_index_or xs k e)
all_next P xs i d lt all here k e l = elim (which k i l) [
  | inl below ↦ all k e below
  | inr same ↦ subst (λ (j : ℕ). P (slice_index_or xs j e)) (sym same) (subst P (get_or_default xs i d e lt) here)
]

-- ---- the way

-- Each number from a on, in steps of t, that lies before x is one of some span's.
abbrev pub CoveredTo : List Span → ℤ → ℕ → ℤ → Type 0
CoveredTo xs a t x = (v : ℤ) → a ≤ℤ v → v <ℤ x → t ∣ unsigned_abs (v -ℤ a) → Any (λ b. IsInSpan b v) xs

pub covered_none : (xs : List Span) (a : ℤ) (t : ℕ) → CoveredTo xs a t a
covered_none xs a t v p q d = absurd (omega (arith, ints, p, q))

close_zero : (t n : ℕ) → t ∣ n → n < t → n ≡ 0
close_zero t zero d h = refl
close_zero t (suc n) d h = absurd (omega (arith, le_of_dvd {m = t} {n = suc n} (omega arith) d, h))

far_of : (x v : ℤ) (t : ℕ) → x ≤ℤ v → v <ℤ (x +ℤ pos t) → unsigned_abs (v -ℤ x) < t
far_of x v t p q = grind (arith, ints)

same_of : (x v : ℤ) → x ≤ℤ v → unsigned_abs (v -ℤ x) ≡ 0 → x ≡ v
same_of x v p e = grind (arith, ints)

before_or : (x v : ℤ) → (v <ℤ x) ⊎ (x ≤ℤ v)
before_or x v = grind (arith, ints)

-- one number
pub covered_step : (xs : List Span) (a : ℤ) (t : ℕ) (x : ℤ) → CoveredTo xs a t x → t ∣ unsigned_abs (x -ℤ a) → Any (λ b. IsInSpan b x) xs → CoveredTo xs a t (x +ℤ pos t)
covered_step xs a t x h d has v p q e = elim (before_or x v) [
  | inl before ↦ h v p before e
  | inr after ↦
      let apart : t ∣ unsigned_abs (v -ℤ x) = dvd_ways t v a x e (dvd_turned t x a d) in
      subst (λ z. Any (λ b. IsInSpan b z) xs) (same_of x v after (close_zero t (unsigned_abs (v -ℤ x)) apart (far_of x v t after q))) has
]

pub covered_end : (xs : List Span) (a b : ℤ) (t : ℕ) (x : ℤ) → CoveredTo xs a t x → b <ℤ x → Covers xs (record { low = a; high = b; stride = t })
covered_end xs a b t x all past v p = all v p.0 (omega (arith, ints, p.1, past)) p.2

pub on_step : (t : ℕ) (x a : ℤ) → t ∣ unsigned_abs (x -ℤ a) → t ∣ unsigned_abs ((x +ℤ pos t) -ℤ a)
on_step t x a h = dvd_ways t (x +ℤ pos t) x a (dvd_at t (pos t) ((x +ℤ pos t) -ℤ x) (omega (arith, ints)) (dvd_refl t)) h

-- a number before which not all is covered
pub part_covered : (xs : List Span) (a b : ℤ) (t : ℕ) (x y : ℤ) → a ≤ℤ x → y ≤ℤ b → t ∣ unsigned_abs (x -ℤ a) → Covers xs (record { low = a; high = b; stride = t }) → Covers xs (record { low = x; high = y; stride = t })
part_covered xs a b t x y p q d h v i = h v (omega (arith, ints, p, i.0), omega (arith, ints, q, i.1), dvd_ways t v x a i.2 d)

pub one_covered : (xs : List Span) (a b : ℤ) (t : ℕ) (x : ℤ) → a ≤ℤ x → x ≤ℤ b → t ∣ unsigned_abs (x -ℤ a) → Covers xs (record { low = a; high = b; stride = t }) → Any (λ s. IsInSpan s x) xs
one_covered xs a b t x p q d h = h x (p, q, d)

-- ---- stretches

pub covered_stretch : (xs : List Span) (a : ℤ) (t : ℕ) (x edge next : ℤ) → CoveredTo xs a t x → t ∣ unsigned_abs (x -ℤ a) → Covers xs (record { low = x; high = edge; stride = t }) → IsBehind x edge t next → CoveredTo xs a t next
covered_stretch xs a t x edge next h d cover is v p q e = elim (before_or x v) [
  | inl before ↦ h v p before e
  | inr after ↦
      let apart : t ∣ unsigned_abs (v -ℤ x) = dvd_ways t v a x e (dvd_turned t x a d) in
      within after apart (before_or (edge +ℤ pos 1) v)
]
  where
    within : x ≤ℤ v → t ∣ unsigned_abs (v -ℤ x) → (v <ℤ (edge +ℤ pos 1)) ⊎ ((edge +ℤ pos 1) ≤ℤ v) → Any (λ b. IsInSpan b v) xs
    within after apart (inl inside) = cover v (after, omega (arith, ints, inside), apart)
    within after apart (inr past) =
        let between : t ∣ unsigned_abs (next -ℤ v) = dvd_ways t next x v is.whole (dvd_turned t v x apart) in
        let near : unsigned_abs (next -ℤ v) < t = far_of v next t (omega (arith, ints, q)) (omega (arith, ints, past, is.near)) in
        let same : v ≡ next = same_of v next (omega (arith, ints, q)) (close_zero t (unsigned_abs (next -ℤ v)) between near) in
        absurd (omega (arith, ints, same, q))

-- a span that goes through all numbers of the stretch
pub through : (xs : List Span) (x edge : ℤ) (t : ℕ) → x ≤ℤ edge → All (IsSettled x edge) xs → Any (GoesThrough x t) xs → Covers xs (record { low = x; high = edge; stride = t })
through xs x edge t ahead settled goes v i = any_with (GoesThrough x t) (IsSettled x edge) (λ b. IsInSpan b v) xs (λ b g s. go b g s) goes settled
  where
    go : (b : Span) → GoesThrough x t b → IsSettled x edge b → IsInSpan b v
    go b g (inl on) = (omega (arith, ints, on.0, i.0), omega (arith, ints, on.1, i.1), dvd_ways b.stride v x b.low (dvd_through b.stride t (unsigned_abs (v -ℤ x)) g.0 i.2) g.1.2)
    go b g (inr (inl later)) = absurd (omega (arith, ints, later, ahead, g.1.0))
    go b g (inr (inr earlier)) = absurd (omega (arith, ints, earlier, g.1.1))

above : (x y : ℤ) (k : ℕ) → y ≤ℤ x → unsigned_abs (x -ℤ y) ≡ k → x ≡ y +ℤ pos k
above x y k p e = grind (arith, ints)

-- The stretch is covered where its first period is.
pub enough : (xs : List Span) (x edge : ℤ) (t : ℕ) (last : ℤ) → x ≤ℤ edge → All (IsSettled x edge) xs → IsEnough xs x edge t last → Covers xs (record { low = x; high = last; stride = t }) → Covers xs (record { low = x; high = edge; stride = t })
enough xs x edge t last ahead settled (inl whole) first v i = subst (λ (z : ℤ). Covers xs (record { low = x; high = z; stride = t })) whole first v i
enough xs x edge t last ahead settled (inr p) first v i =
    let period = p.0 in
    let way = unsigned_abs (v -ℤ x) in
    let turns = way / period in
    let back : ℤ = x +ℤ pos (way % period) in
    let split : turns * period + way % period ≡ way = div-add-mod' way period in
    let is : v ≡ x +ℤ pos way = above v x way i.0 refl in
    let moved : v ≡ back +ℤ pos (turns * period) = omega (arith, ints, is, split) in
    let whole : period ∣ unsigned_abs (v -ℤ back) = dvd_at period (pos (turns * period)) (v -ℤ back) (omega (arith, ints, moved)) (dvd-mul_left period turns) in
    let near : way % period < period = mod-lt way {m = period} p.1 in
    let within : back ≤ℤ last = omega (arith, ints, near, p.4) in
    let on : t ∣ unsigned_abs (back -ℤ x) = dvd_ways t back v x (dvd_turned t v back (dvd_through t period (unsigned_abs (v -ℤ back)) p.2 whole)) i.2 in
    let has : Any (λ b. IsInSpan b back) xs = first back (omega (arith, ints), within, on) in
    let both : All (λ b. IsSettled x edge b × ((b.low ≤ℤ x) → (x ≤ℤ b.high) → b.stride ∣ period)) xs = λ k d l. (settled k d l, p.3 k d l) in
    any_with (λ b. IsInSpan b back) (λ b. IsSettled x edge b × ((b.low ≤ℤ x) → (x ≤ℤ b.high) → b.stride ∣ period)) (λ b. IsInSpan b v) xs
    (λ b place s. moves b back (omega (arith, ints)) (omega (arith, ints, moved, i.1)) whole place s.0 s.1) has both
  where
    moves : (b : Span) (back : ℤ) → x ≤ℤ back → back ≤ℤ edge → p.0 ∣ unsigned_abs (v -ℤ back) → IsInSpan b back → IsSettled x edge b → ((b.low ≤ℤ x) → (x ≤ℤ b.high) → b.stride ∣ p.0) → IsInSpan b v
    moves b back from to whole place (inl on) divides = (
      omega (arith, ints, on.0, i.0),
      omega (arith, ints, on.1, i.1),
      dvd_ways b.stride v back b.low (dvd_through b.stride p.0 (unsigned_abs (v -ℤ back)) (divides on.0 (omega (arith, ints, on.1, ahead))) whole) place.2,
    )
    moves b back from to whole place (inr (inl later)) divides = absurd (omega (arith, ints, later, to, place.0))
    moves b back from to whole place (inr (inr earlier)) divides = absurd (omega (arith, ints, earlier, from, place.1))

-- ---- numbers

pub gcd_some : (a b g : ℕ) → IsGcd a b g → 0 < a → 0 < g
gcd_some a b zero h s = absurd (omega (arith, s, eq-zero_of_zero-dvd h.0))
gcd_some a b (suc g) h s = omega arith

quotient : (d n : ℕ) → d ∣ n → n ≡ (n / d) * d
quotient d n h = omega (arith, div-add-mod' n d, mod-eq-zero_of_dvd d h)

product_some : (m n k : ℕ) → m ≡ n * k → 0 < m → 0 < n
product_some m zero k e s = absurd (omega (arith, e, s))
product_some m (suc n) k e s = omega arith

both_some : (m n : ℕ) → 0 < m → 0 < n → 0 < m * n
both_some zero n p q = absurd (omega (arith, p))
both_some (suc m) zero p q = absurd (omega (arith, q))
both_some (suc m) (suc n) p q = omega (arith, add-mul m 1 (suc n))

pub multiple_of : (a b g most : ℕ) → IsGcd a b g → 0 < a → 0 < b → IsMultiple a b most (a * (b / g))
multiple_of a b g most h p q =
    let first : a ≡ (a / g) * g = quotient g a h.0 in
    let second : b ≡ (b / g) * g = quotient g b h.1 in
    let turns = b / g in
    let same : (a / g) * b ≡ a * turns =
    ap (λ (z : ℕ). (a / g) * z) (second ∙ mul_swap turns g) ∙ sym (mul_assoc (a / g) g turns) ∙ ap (λ (z : ℕ). z * turns) (sym first) in
    (both_some a turns p (product_some b turns g second q), inr (dvd-mul_right a turns, subst (λ (z : ℕ). b ∣ z) same (dvd-mul_left b (a / g))))
  where
    mul_swap : (m n : ℕ) → m * n ≡ n * m
    mul_swap m n = mul_comm m n

pub behind_is : (at edge : ℤ) (t n : ℕ) → at ≤ℤ edge → n ≡ unsigned_abs (edge -ℤ at) → 0 < t → IsBehind at edge t (at +ℤ pos ((n / t + 1) * t))
behind_is at edge t n ahead e some =
    let split : n / t * t + n % t ≡ n = div-add-mod' n t in
    let rest : n % t < t = mod-lt n {m = t} some in
    let more : (n / t + 1) * t ≡ n / t * t + 1 * t = add-mul (n / t) 1 t in
    let is : edge ≡ at +ℤ pos n = above edge at n ahead (sym e) in
    record {
      behind = omega (arith, ints, is, split, rest, more);
      near = omega (arith, ints, is, split, rest, more);
      whole = dvd_at t (pos ((n / t + 1) * t)) ((at +ℤ pos ((n / t + 1) * t)) -ℤ at) (omega (arith, ints)) (dvd-mul_left t (n / t + 1));
    }

pub behind_small : (n t m k : ℕ) → n ≤ m → t ≤ k → 0 < t → (n / t + 1) * t ≤ m + k
behind_small n t m k p q some =
    let split : n / t * t + n % t ≡ n = div-add-mod' n t in
    omega (arith, split, add-mul (n / t) 1 t, p, q)

-- ---- the steps of the loops

pub not_true : {P : Type 0} → IsTrue false → P
not_true t = absurd (cc t)

pub clash : (b : Bool) → IsTrue b → b ≡ false → ⊥
clash b t e = cc (t, e)

pub past_of : (x y : ℤ) → int_le x y ≡ false → y <ℤ x
past_of x y h = grind (arith, ints)

pub settled_less : (at edge less : ℤ) (b : Span) → less ≤ℤ edge → IsSettled at edge b → IsSettled at less b
settled_less at edge less b h (inl on) = inl (on.0, omega (arith, ints, h, on.1))
settled_less at edge less b h (inr (inl later)) = inr (inl (omega (arith, ints, h, later)))
settled_less at edge less b h (inr (inr earlier)) = inr (inr earlier)

-- a stretch on the way
pub record IsEdge (xs : List Span) (i : ℕ) (at last edge : ℤ) : Type 0 where
  pub ahead : at ≤ℤ edge
  pub within : edge ≤ℤ last
  pub settled : (k : ℕ) (d : Span) → k < i → IsSettled at edge (slice_index_or xs k d)

pub edge_next : (xs : List Span) (i : ℕ) (d : Span) (at last edge new : ℤ) → i < length xs → IsEdge xs i at last edge → at ≤ℤ new → new ≤ℤ edge → IsSettled at new (slice_index_or xs i d) → IsEdge xs (i + 1) at last new
edge_next xs i d at last edge new lt h ahead less here = record {
  ahead = ahead;
  within = omega (arith, ints, less, h.within);
  settled = all_next (IsSettled at new) xs i d lt (λ k e l. settled_less at edge new (slice_index_or xs k e) less (h.settled k e l)) here;
}

-- a period on the way
abbrev pub Carries : ℤ → ℕ → Span → Type 0
Carries at p x = (x.low ≤ℤ at) → (at ≤ℤ x.high) → x.stride ∣ p

pub record IsPeriodSoFar (xs : List Span) (i : ℕ) (at : ℤ) (stride most p : ℕ) : Type 0 where
  pub some : 0 < p
  pub own : (most < p) ⊎ (stride ∣ p)
  pub each : (most < p) ⊎ ((k : ℕ) (d : Span) → k < i → Carries at p (slice_index_or xs k d))

multiple_above : (most p q : ℕ) → most < p → p ∣ q → 0 < q → most < q
multiple_above most p q h d s = omega (arith, le_of_dvd {m = p} {n = q} s d, h)

pub period_next : (xs : List Span) (i : ℕ) (d : Span) (at : ℤ) (stride most p q : ℕ) → i < length xs → IsPeriodSoFar xs i at stride most p → 0 < q → (most < q) ⊎ (p ∣ q) → (most < q) ⊎ Carries at q (slice_index_or xs i d)
    → IsPeriodSoFar xs (i + 1) at stride most q
period_next xs i d at stride most p q lt h some kept here = record {
  some = some;
  own = own kept h.own;
  each = each kept h.each here;
}
  where
    own : (most < q) ⊎ (p ∣ q) → (most < p) ⊎ (stride ∣ p) → (most < q) ⊎ (stride ∣ q)
    own (inl large) o = inl large
    own (inr divides) (inl large) = inl (multiple_above most p q large divides some)
    own (inr divides) (inr o) = inr (dvd_trans stride o divides)

    each : (most < q) ⊎ (p ∣ q) → (most < p) ⊎ ((k : ℕ) (e : Span) → k < i → Carries at p (slice_index_or xs k e)) → (most < q) ⊎ Carries at q (slice_index_or xs i d)
        → (most < q) ⊎ ((k : ℕ) (e : Span) → k < i + 1 → Carries at q (slice_index_or xs k e))
    each (inl large) o new = inl large
    each (inr divides) (inl large) new = inl (multiple_above most p q large divides some)
    each (inr divides) (inr o) (inl large) = inl large
    each (inr divides) (inr o) (inr new) = inr (all_next (Carries at q) xs i d lt (λ k e l low high. dvd_trans (slice_index_or xs k e).stride (o k e l low high) divides) new)

pub period_begins : (xs : List Span) (at : ℤ) (stride most : ℕ) → 0 < stride → IsPeriodSoFar xs 0 at stride most stride
period_begins xs at stride most some = record { some = some; own = inr (dvd_refl stride); each = inr (λ k d l. absurd (omega (arith, l))) }

pub period_ends : (xs : List Span) (i : ℕ) (at : ℤ) (stride most p : ℕ) → length xs ≤ i → IsPeriodSoFar xs i at stride most p → IsPeriod xs at stride most p
period_ends xs i at stride most p le h = record { some = h.some; own = h.own; each = each h.each }
  where
    each : (most < p) ⊎ ((k : ℕ) (e : Span) → k < i → Carries at p (slice_index_or xs k e)) → (most < p) ⊎ All (Carries at p) xs
    each (inl large) = inl large
    each (inr all) = inr (λ k d l. all k d (omega (arith, l, le)))

pub enough_of : (xs : List Span) (at edge : ℤ) (stride most p : ℕ) → IsPeriod xs at stride most p → p ≤ most → IsEnough xs at edge stride (at +ℤ (pos p -ℤ pos 1))
enough_of xs at edge stride most p h small = inr (p, h.some, own h.own, each h.each, omega (arith, ints))
  where
    own : (most < p) ⊎ (stride ∣ p) → stride ∣ p
    own (inl large) = absurd (omega (arith, large, small))
    own (inr o) = o

    each : (most < p) ⊎ All (Carries at p) xs → All (Carries at p) xs
    each (inl large) = absurd (omega (arith, large, small))
    each (inr all) = all
