-- The values of a loop's iterator: the start and each number a step further, and those among them before the first that
-- fails the test.
use Rattle.std.proofs.Common.{◌≡◌, refl, ap, ◌∙◌, arith, ℕ, zero, suc, ◌+◌, ◌*◌, ◌/◌, ◌<◌, ◌≤◌, Some, ℤ, pos, negsuc, neg_ℤ, ◌+ℤ◌, ◌-ℤ◌, ◌*ℤ◌, ◌<ℤ◌, ◌≤ℤ◌}
use Rattle.std.specs.Prelude.{slice_get}
use Rattle.std.proofs.lemmas.Int.{ints}
use Rattle.std.proofs.Math.Nat.{mod-lt, div-add-mod', mul-le-mul_right}
use Rattle.species_ast.specs.declared.tree.Test.{Test}
use Rattle.species_ast.specs.declared.tree.Test.TheVariants.{Lt, Le, Gt, Ge}
use Rattle.species_ast.specs.Run.{distance, pace, turns_in, counted}

-- a number passes the test of a loop's header
abbrev pub Passes : Test → ℤ → ℤ → Type 0
Passes Lt i limit = i <ℤ limit
Passes Le i limit = i ≤ℤ limit
Passes Gt i limit = limit <ℤ i
Passes Ge i limit = limit ≤ℤ i

-- the number of turn k, from 0
abbrev pub in_turn : ℤ → ℤ → ℕ → ℤ
in_turn start step k = start +ℤ pos k *ℤ step

-- k steps of size p + 1 stay below d exactly for the first turns
below_first : (d p k : ℕ) → k < (d + p) / suc p → k * suc p < d
below_first d p k h =
    let n = (d + p) / suc p in
    let more : suc k * suc p ≤ n * suc p = mul-le-mul_right (suc p) h in
    omega (arith, more, div-add-mod' (d + p) (suc p))

below_last : (d p k : ℕ) → (d + p) / suc p ≤ k → d ≤ k * suc p
below_last d p k h =
    let n = (d + p) / suc p in
    let more : n * suc p ≤ k * suc p = mul-le-mul_right (suc p) h in
    omega (arith, more, div-add-mod' (d + p) (suc p), mod-lt (d + p) {m = suc p} (omega arith))

-- with a step p + 1 upward, or downward
up_below : (d : ℤ) (p k : ℕ) → k < turns_in d (pos (suc p)) → pos (k * suc p) <ℤ d
up_below (pos d) p k h = omega (arith, ints, below_first d p k h)
up_below (negsuc d) p k h = absurd (omega arith)

up_past : (d : ℤ) (p k : ℕ) → turns_in d (pos (suc p)) ≤ k → d ≤ℤ pos (k * suc p)
up_past (pos d) p k h = omega (arith, ints, below_last d p k h)
up_past (negsuc d) p k h = omega (arith, ints)

down : (k p : ℕ) → pos k *ℤ negsuc p ≡ neg_ℤ (pos (k * suc p))
down k p = refl

-- each turn's number passes the test
pub turn_passes : (test : Test) (start limit step : ℤ) (k : ℕ) → pos 0 <ℤ pace test step → k < turns_in (distance test start limit) (pace test step)
    → Passes test (in_turn start step k) limit
turn_passes Lt start limit (pos (suc p)) k h below = omega (arith, ints, up_below (limit -ℤ start) p k below)
turn_passes Le start limit (pos (suc p)) k h below = omega (arith, ints, up_below (limit +ℤ pos 1 -ℤ start) p k below)
turn_passes Gt start limit (negsuc p) k h below = omega (arith, ints, down k p, up_below (start -ℤ limit) p k below)
turn_passes Ge start limit (negsuc p) k h below = omega (arith, ints, down k p, up_below (start +ℤ pos 1 -ℤ limit) p k below)
turn_passes Lt start limit (pos zero) k h below = absurd h.lt
turn_passes Le start limit (pos zero) k h below = absurd h.lt
turn_passes Lt start limit (negsuc p) k h below = absurd h.lt
turn_passes Le start limit (negsuc p) k h below = absurd h.lt
turn_passes Gt start limit (pos zero) k h below = absurd h.lt
turn_passes Ge start limit (pos zero) k h below = absurd h.lt
turn_passes Gt start limit (pos (suc p)) k h below = absurd h.lt
turn_passes Ge start limit (pos (suc p)) k h below = absurd h.lt

-- and the number behind the last turn does not, nor any later one
pub turns_end : (test : Test) (start limit step : ℤ) (k : ℕ) → pos 0 <ℤ pace test step → turns_in (distance test start limit) (pace test step) ≤ k
    → Passes test (in_turn start step k) limit → ⊥
turns_end Lt start limit (pos (suc p)) k h past passes = omega (arith, ints, up_past (limit -ℤ start) p k past, passes)
turns_end Le start limit (pos (suc p)) k h past passes = omega (arith, ints, up_past (limit +ℤ pos 1 -ℤ start) p k past, passes)
turns_end Gt start limit (negsuc p) k h past passes = omega (arith, ints, down k p, up_past (start -ℤ limit) p k past, passes)
turns_end Ge start limit (negsuc p) k h past passes = omega (arith, ints, down k p, up_past (start +ℤ pos 1 -ℤ limit) p k past, passes)
turns_end Lt start limit (pos zero) k h past passes = absurd h.lt
turns_end Le start limit (pos zero) k h past passes = absurd h.lt
turns_end Lt start limit (negsuc p) k h past passes = absurd h.lt
turns_end Le start limit (negsuc p) k h past passes = absurd h.lt
turns_end Gt start limit (pos zero) k h past passes = absurd h.lt
turns_end Ge start limit (pos zero) k h past passes = absurd h.lt
turns_end Gt start limit (pos (suc p)) k h past passes = absurd h.lt
turns_end Ge start limit (pos (suc p)) k h past passes = absurd h.lt

next_turn : (start step : ℤ) (k : ℕ) → in_turn (start +ℤ step) step k ≡ in_turn start step (suc k)
next_turn start (pos s) k = omega (arith, ints)
next_turn start (negsuc s) k = omega (arith, ints, down k s, down (suc k) s)

-- the value of turn k stands at place k
pub counted_at : (n : ℕ) (start step : ℤ) (k : ℕ) → k < n → slice_get (counted n start step) k ≡ Some (in_turn start step k)
counted_at zero start step k h = absurd (omega arith)
counted_at (suc n) start step zero h = ap Some (first start step)
  where
    first : (start step : ℤ) → start ≡ in_turn start step 0
    first start (pos s) = omega (arith, ints)
    first start (negsuc s) = omega (arith, ints)
counted_at (suc n) start step (suc k) h = counted_at n (start +ℤ step) step k (omega arith) ∙ ap Some (next_turn start step k)
