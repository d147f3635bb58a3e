-- Two lists, item by item and by index.
use Rattle.std.proofs.Common.{◌≡◌, ap, arith, ℕ, zero, suc, ◌+◌, ◌<◌, ◌≤◌, List, [], ◌∷◌, length, take, slice_index_or, subst}
use Rattle.species_arcs.specs.Pairwise.{Pairwise}

pub pairwise_length : {X Y : Type 0} (R : X → Y → Type 0) (xs : List X) (ys : List Y) → Pairwise R xs ys → length xs ≡ length ys
pairwise_length R [] [] h = omega arith
pairwise_length R [] (y ∷ ys) h = absurd h
pairwise_length R (x ∷ xs) [] h = absurd h
pairwise_length R (x ∷ xs) (y ∷ ys) h = ap suc (pairwise_length R xs ys h.1)

pub pairwise_at : {X Y : Type 0} (R : X → Y → Type 0) (xs : List X) (ys : List Y) (k : ℕ) (x : X) (y : Y) → Pairwise R xs ys → k < length xs →
    R (slice_index_or xs k x) (slice_index_or ys k y)
pairwise_at R [] [] k x y h l = absurd (omega (arith, l))
pairwise_at R [] (w ∷ ys) k x y h l = absurd h
pairwise_at R (v ∷ xs) [] k x y h l = absurd h
pairwise_at R (v ∷ xs) (w ∷ ys) zero x y h l = h.0
pairwise_at R (v ∷ xs) (w ∷ ys) (suc k) x y h l = pairwise_at R xs ys k x y h.1 (omega (arith, l))

pub pairwise_by_index : {X Y : Type 0} (R : X → Y → Type 0) (xs : List X) (ys : List Y) → length xs ≡ length ys →
    ((k : ℕ) (x : X) (y : Y) → k < length xs → R (slice_index_or xs k x) (slice_index_or ys k y)) → Pairwise R xs ys
pairwise_by_index R [] [] e h = tt
pairwise_by_index R [] (y ∷ ys) e h = absurd (omega (arith, e))
pairwise_by_index R (x ∷ xs) [] e h = absurd (omega (arith, e))
pairwise_by_index R (x ∷ xs) (y ∷ ys) e h = (h zero x y (omega arith), pairwise_by_index R xs ys (omega (arith, e)) (λ k u v l. h (suc k) u v (omega (arith, l))))

-- ---- item after item

pub pairwise_none : {X Y : Type 0} (R : X → Y → Type 0) (xs : List X) (ys : List Y) → Pairwise R (take 0 xs) (take 0 ys)
pairwise_none R xs ys = tt

more : {X Y : Type 0} (R : X → Y → Type 0) (xs : List X) (ys : List Y) (k : ℕ) (x : X) (y : Y) → k < length xs → length ys ≡ length xs →
    Pairwise R (take k xs) (take k ys) → R (slice_index_or xs k x) (slice_index_or ys k y) → Pairwise R (take (suc k) xs) (take (suc k) ys)
more R [] ys k x y l e h r = absurd (omega (arith, l))
more R (v ∷ xs) [] k x y l e h r = absurd (omega (arith, e))
more R (v ∷ xs) (w ∷ ys) zero x y l e h r = (r, tt)
more R (v ∷ xs) (w ∷ ys) (suc k) x y l e h r = (h.0, more R xs ys k x y (omega (arith, l)) (omega (arith, e)) h.1 r)

pub pairwise_more : {X Y : Type 0} (R : X → Y → Type 0) (xs : List X) (ys : List Y) (k : ℕ) (x : X) (y : Y) → k < length xs → length ys ≡ length xs →
    Pairwise R (take k xs) (take k ys) → R (slice_index_or xs k x) (slice_index_or ys k y) → Pairwise R (take (k + 1) xs) (take (k + 1) ys)
pairwise_more R xs ys k x y l e h r =
    let step : suc k ≡ k + 1 = omega arith in
    subst (λ n. Pairwise R (take n xs) (take n ys)) step (more R xs ys k x y l e h r)

pub pairwise_whole : {X Y : Type 0} (R : X → Y → Type 0) (xs : List X) (ys : List Y) (k : ℕ) → length xs ≤ k → length ys ≡ length xs →
    Pairwise R (take k xs) (take k ys) → Pairwise R xs ys
pairwise_whole R [] [] k l e h = tt
pairwise_whole R [] (y ∷ ys) k l e h = absurd (omega (arith, e))
pairwise_whole R (x ∷ xs) [] k l e h = absurd (omega (arith, e))
pairwise_whole R (x ∷ xs) (y ∷ ys) zero l e h = absurd (omega (arith, l))
pairwise_whole R (x ∷ xs) (y ∷ ys) (suc k) l e h = (h.0, pairwise_whole R xs ys k (omega (arith, l)) (omega (arith, e)) h.1)
