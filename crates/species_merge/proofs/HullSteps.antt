-- The steps of the loop that finds a hull.
use Rattle.std.proofs.Common.{◌≡◌, refl, ap, sym, subst, arith, ℕ, zero, suc, ◌+◌, ◌<◌, ◌≤◌, if◌then◌else◌, List, [], ◌∷◌, ◌++◌, take, length, slice_index_or, inl, inr}
use Rattle.std.specs.Int.{◌∣◌, IsGcd}
use Rattle.std.specs.Ordering.{int_eq}
use Rattle.std.proofs.lemmas.Nat.Gcd.{dvd_trans, dvd_refl}
use Rattle.species_arcs.specs.declared.spans.Span.{Span}
use Rattle.species_merge.specs.declared.hulls.Reach.{Reach}
use Rattle.species_merge.specs.Hulls.{own_stride, IsHullOf}
use Rattle.species_merge.specs.Reaches.{IsSmallEnd, IsGcdOfThree, AreNext, IsFirst}
use Rattle.species_merge.proofs.Folding.{IsHullSoFar, hull_first, hull_next, hull_end}

same_at : (d m n : ℕ) → m ≡ n → d ∣ m → d ∣ n
same_at d m n e h = subst (λ z. d ∣ z) e h

pub three : (a b k b' k' g h : ℕ) → IsGcd a b g → IsGcd g k h → b ≡ b' → k ≡ k' → IsGcdOfThree a b' k' h
three a b k b' k' g h p q e f = record {
  first = dvd_trans h q.0 p.0;
  second = same_at h b b' e (dvd_trans h q.0 p.1);
  third = same_at h k k' f q.1;
  greatest = λ d m n o. q.2 d (p.2 d m (same_at d b' b (sym e) n)) (same_at d k' k (sym f) o);
}

one_more : (d : Span) (xs : List Span) (i : ℕ) → i < length xs → take (suc i) xs ≡ take i xs ++ slice_index_or xs i d ∷ []
one_more d [] i h = absurd (omega (arith, h))
one_more d (x ∷ xs) zero h = refl
one_more d (x ∷ xs) (suc i) h = ap (λ l. x ∷ l) (one_more d xs i (omega (arith, h)))

step : (xs : List Span) (so : Reach) (x : Span) (to : Reach) → IsHullSoFar xs so.low so.high so.divisor → AreNext so x to → IsHullSoFar (xs ++ x ∷ []) to.low to.high to.divisor
step xs so x to h n = hull_next xs x so.low so.high to.low to.high so.divisor to.divisor h n.low.0 n.low.1 n.low.2 n.high.0 n.high.1 n.high.2 n.divisor

begin : (x : Span) (to : Reach) → IsFirst x to → IsHullSoFar (x ∷ []) to.low to.high to.divisor
begin x to f =
    subst (λ z. IsHullSoFar (x ∷ []) z to.high to.divisor) (sym f.low) (subst (λ z. IsHullSoFar (x ∷ []) x.low z to.divisor) (sym f.high)
    (subst (λ z. IsHullSoFar (x ∷ []) x.low x.high z) (sym f.divisor) (hull_first x (own_stride x) (dvd_refl _) (λ d k. k))))

pub small_next : (so : Reach) (x : Span) (to : Reach) → AreNext so x to → IsSmallEnd so.low → IsSmallEnd x.low → IsSmallEnd to.low
small_next so x to n p q = elim n.low.2 [ inl e ↦ subst IsSmallEnd (sym e) p | inr e ↦ subst IsSmallEnd (sym e) q ]

pub preserved : (d : Span) (xs : List Span) (i : ℕ) (so to : Reach) → i < length xs → IsHullSoFar (take i xs) so.low so.high so.divisor → AreNext so (slice_index_or xs i d) to → IsHullSoFar (take (i + 1) xs) to.low to.high to.divisor
preserved d xs i so to h s n =
    let e : suc i ≡ i + 1 = omega arith in
    subst (λ k. IsHullSoFar (take k xs) to.low to.high to.divisor) e
    (subst (λ l. IsHullSoFar l to.low to.high to.divisor) (sym (one_more d xs i h)) (step (take i xs) so (slice_index_or xs i d) to s n))

pub started : (d : Span) (xs : List Span) (to : Reach) → 0 < length xs → IsFirst (slice_index_or xs 0 d) to → IsHullSoFar (take 1 xs) to.low to.high to.divisor
started d [] to h f = absurd (omega (arith, h))
started d (x ∷ xs) to h f = begin x to f

take_all : (xs : List Span) (i : ℕ) → length xs ≤ i → take i xs ≡ xs
take_all [] zero h = refl
take_all [] (suc i) h = refl
take_all (x ∷ xs) zero h = absurd (omega (arith, h))
take_all (x ∷ xs) (suc i) h = ap (λ l. x ∷ l) (take_all xs i (omega (arith, h)))

pub ended : (xs : List Span) (i : ℕ) (so : Reach) (x : Span) → length xs ≤ i → IsHullSoFar (take i xs) so.low so.high so.divisor →
    x ≡ record { low = so.low; high = so.high; stride = if int_eq so.low so.high then 1 else so.divisor } → IsHullOf xs x
ended xs i so x h s e =
    subst (λ b. IsHullOf xs b) (sym e) (hull_end xs so.low so.high so.divisor (subst (λ l. IsHullSoFar l so.low so.high so.divisor) (take_all xs i h) s))
