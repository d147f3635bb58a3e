-- That the exact results of products, quotients and remainders fit the words, and what they are.
use Rattle.std.proofs.Common.{◌≡◌, ap, sym, ◌∙◌, refl, arith, unsigned_abs, ◌-ℤ◌, ◌*ℤ◌, ◌^◌, ◌/◌, ◌<◌, ◌≤◌, ◌≤ℤ◌, ◌<ℤ◌, pos, negsuc, neg_ℤ, ℕ, zero, suc, ℤ, Bool, true, false, FitsSigned, to_z, of_z, Ok, Err}
use Rattle.std.specs.Int.{w128}
use Rattle.std.proofs.Math.Nat.{div-le_self, mod-eq_of_lt, mod-lt, mod-le, mul-le-mul, pow-le-pow_right}
use Rattle.std.specs.Prelude.{nat_lt, int_div, int_rem, ◌%◌, ◌*◌, ◌-◌, if◌then◌else◌}
use Rattle.std.specs.Ordering.{int_eq}
use Rattle.std.proofs.lemmas.Bool.Decides.{nat_tests}
use Rattle.std.proofs.lemmas.Int.{ints, to_z_pos, fits_signed_mul, fits_signed_from_abs, quot-rem}
use Rattle.species_ast.specs.declared.tree.Kind.{Kind}
use Rattle.species_ast.specs.declared.tree.Kind.TheVariants as kind
use Rattle.species_ast.specs.declared.tree.Value.{Value}
use Rattle.species_ast.specs.declared.tree.Value.TheVariants.{Int}
use Rattle.species_ast.specs.declared.tree.Binary.{Binary}
use Rattle.species_ast.specs.declared.trap.Undefined.TheVariants.{Overflow, DivZero}
use Rattle.species_ast.specs.Operators.{Answer, is_signed, number_of, in_kind, fits, residue, bits_in, from_bits, bits_of, is_count, exact_in, quotient, remainder, reduced, signed_from, is_shift, binary_in, binary_of}
use Rattle.species_cint.specs.Ranges.{IsNumber}

-- ---- sizes

size_within : (n : ℤ) (m : ℕ) → neg_ℤ (pos m) ≤ℤ n → n ≤ℤ pos m → unsigned_abs n ≤ m
size_within (pos n) m low high = omega (arith, ints)
size_within (negsuc n) m low high = omega (arith, ints)

signed_size : (k : Kind) (n : ℤ) → is_signed k ≡ true → IsNumber k n → unsigned_abs n ≤ 2 ^ 63
signed_size kind.Int n s h = size_within n (2 ^ 63) (omega (arith, ints, h.0)) (omega (arith, ints, h.1))
signed_size kind.Unsigned n s h = absurd cc
signed_size kind.Long n s h = size_within n (2 ^ 63) h.0 (omega (arith, ints, h.1))
signed_size kind.UnsignedLong n s h = absurd cc

pub bounds : (k : Kind) (n : ℤ) → IsNumber k n → (neg_ℤ (pos (2 ^ 64)) ≤ℤ n) × (n ≤ℤ pos (2 ^ 64))
bounds kind.Int n h = (omega (arith, ints, h.0), omega (arith, ints, h.1))
bounds kind.Unsigned n h = (omega (arith, ints, h.0), omega (arith, ints, h.1))
bounds kind.Long n h = (omega (arith, ints, h.0), omega (arith, ints, h.1))
bounds kind.UnsignedLong n h = (omega (arith, ints, h.0), omega (arith, ints, h.1))

any_size : (k : Kind) (n : ℤ) → IsNumber k n → unsigned_abs n ≤ 2 ^ 64
any_size k n h = let b = bounds k n h in size_within n (2 ^ 64) b.0 b.1

pub product_fits : (k : Kind) (a b : ℤ) → is_signed k ≡ true → IsNumber k a → IsNumber k b → FitsSigned w128 (a *ℤ b)
product_fits k a b s p q = fits_signed_mul w128 a b (2 ^ 63) (2 ^ 63) (signed_size k a s p) (signed_size k b s q) (omega arith)

size-neg : (n : ℕ) → unsigned_abs (neg_ℤ (pos n)) ≡ n
size-neg zero = refl
size-neg (suc n) = refl

size-quotient : (a b : ℤ) → unsigned_abs (int_div a b) ≤ unsigned_abs a
size-quotient (pos a) (pos b) = div-le_self a b
size-quotient (pos a) (negsuc b) = omega (arith, size-neg (a / suc b), div-le_self a (suc b))
size-quotient (negsuc a) (pos b) = omega (arith, size-neg (suc a / b), div-le_self (suc a) b)
size-quotient (negsuc a) (negsuc b) = div-le_self (suc a) (suc b)

pub quotient_fits : (k : Kind) (a b : ℤ) → IsNumber k a → FitsSigned w128 (int_div a b)
quotient_fits k a b h = fits_signed_from_abs w128 (int_div a b) (omega (arith, size-quotient a b, any_size k a h))

-- ---- quotients and remainders

not_zero : (b : ℤ) → (of_z w128 b ≡ 0 → ⊥) → int_eq b (pos 0) ≡ false
not_zero (pos zero) h = absurd (h refl)
not_zero (pos (suc n)) h = grind arith
not_zero (negsuc n) h = refl

pub quotient_is : (k : Kind) (a b : ℤ) → (of_z w128 b ≡ 0 → ⊥) → quotient k a b ≡ exact_in k (int_div a b)
quotient_is k a b h = ap (λ t. if t then Err DivZero else exact_in k (int_div a b)) (not_zero b h)

abbrev number_in : Answer → ℤ
number_in (Ok v) = number_of v
number_in (Err why) = pos 0

if_fits : (t : Bool) (n : ℤ) (v q : Value) → number_of v ≡ n → (if t then Ok v else Err Overflow) ≡ Ok q → number_of q ≡ n
if_fits true n v q is h = ap number_in (sym h) ∙ is
if_fits false n v q is h = cc

small_residue : (n : ℤ) (m : ℕ) → (pos 0 ≤ℤ n) × (n <ℤ pos m) → pos (residue n m) ≡ n
small_residue (pos n) m h = ap pos (mod-eq_of_lt (omega (arith, ints, h.1)))
small_residue (negsuc n) m h = absurd (omega (arith, ints, h.0))

exact_number : (k : Kind) (n : ℤ) (q : Value) → (is_signed k ≡ false → IsNumber k n) → exact_in k n ≡ Ok q → number_of q ≡ n
exact_number kind.Int n q within h = if_fits (fits 32 n) n (in_kind kind.Int n) q refl h
exact_number kind.Unsigned n q within h = ap number_in (sym h) ∙ small_residue n (2 ^ 32) (within refl)
exact_number kind.Long n q within h = if_fits (fits 64 n) n (in_kind kind.Long n) q refl h
exact_number kind.UnsignedLong n q within h = ap number_in (sym h) ∙ small_residue n (2 ^ 64) (within refl)

below_quotient : (a b : ℤ) (m : ℕ) → (pos 0 ≤ℤ a) × (a <ℤ pos m) → pos 0 ≤ℤ b → (pos 0 ≤ℤ int_div a b) × (int_div a b <ℤ pos m)
below_quotient (pos a) (pos b) m p q = (omega (arith, ints), omega (arith, ints, p.1, div-le_self a b))
below_quotient (pos a) (negsuc b) m p q = absurd (omega (arith, ints, q))
below_quotient (negsuc a) b m p q = absurd (omega (arith, ints, p.0))

unsigned_quotient : (k : Kind) (a b : ℤ) → IsNumber k a → IsNumber k b → is_signed k ≡ false → IsNumber k (int_div a b)
unsigned_quotient kind.Int a b p q s = absurd cc
unsigned_quotient kind.Unsigned a b p q s = below_quotient a b (2 ^ 32) p q.0
unsigned_quotient kind.Long a b p q s = absurd cc
unsigned_quotient kind.UnsignedLong a b p q s = below_quotient a b (2 ^ 64) p q.0

quotient_number : (k : Kind) (a b : ℤ) (q : Value) → IsNumber k a → IsNumber k b → quotient k a b ≡ Ok q → number_of q ≡ int_div a b
quotient_number k a b q in_a in_b h = go (int_eq b (pos 0)) h
  where
    go : (t : Bool) → (if t then Err DivZero else exact_in k (int_div a b)) ≡ Ok q → number_of q ≡ int_div a b
    go true e = cc
    go false e = exact_number k (int_div a b) q (unsigned_quotient k a b in_a in_b) e

pub remainder_is : (k : Kind) (a b : ℤ) (q : Value) → IsNumber k a → IsNumber k b → quotient k a b ≡ Ok q
    → remainder k a b ≡ Ok (in_kind k (int_rem a b))
remainder_is k a b q in_a in_b h =
    let number : number_of q ≡ int_div a b = quotient_number k a b q in_a in_b h in
    let rest : a -ℤ int_div a b *ℤ b ≡ int_rem a b = omega (arith, ints, quot-rem a b) in
    rw h (ap (λ n. Ok (in_kind k (a -ℤ n *ℤ b))) number ∙ ap (λ n. Ok (in_kind k n)) rest)

-- a rest is between 0 and the number that is divided
rest_between : (low : ℤ) (m : ℕ) (a b : ℤ) → low ≤ℤ pos 0 → 0 < m → (low ≤ℤ a) × (a <ℤ pos m) → (low ≤ℤ int_rem a b) × (int_rem a b <ℤ pos m)
rest_between low m (pos a) (pos b) negative some h = (omega (arith, ints, negative), omega (arith, ints, h.1, mod-le a b))
rest_between low m (pos a) (negsuc b) negative some h = (omega (arith, ints, negative), omega (arith, ints, h.1, mod-le a (suc b)))
rest_between low m (negsuc a) (pos b) negative some h = (omega (arith, ints, h.0, mod-le (suc a) b), omega (arith, ints, some))
rest_between low m (negsuc a) (negsuc b) negative some h = (omega (arith, ints, h.0, mod-le (suc a) (suc b)), omega (arith, ints, some))

pub rest_is_number : (k : Kind) (a b : ℤ) → IsNumber k a → IsNumber k (int_rem a b)
rest_is_number kind.Int a b h = rest_between (neg_ℤ (pos (2 ^ 31))) (2 ^ 31) a b (omega (arith, ints)) (omega arith) h
rest_is_number kind.Unsigned a b h = rest_between (pos 0) (2 ^ 32) a b (omega (arith, ints)) (omega arith) h
rest_is_number kind.Long a b h = rest_between (neg_ℤ (pos (2 ^ 63))) (2 ^ 63) a b (omega (arith, ints)) (omega arith) h
rest_is_number kind.UnsignedLong a b h = rest_between (pos 0) (2 ^ 64) a b (omega (arith, ints)) (omega arith) h

-- ---- shifts

count_below_64 : (k : Kind) (n : ℤ) → is_count (bits_of k) n ≡ true → is_count 64 n ≡ true
count_below_64 kind.Int (pos n) h = grind (arith, nat_tests)
count_below_64 kind.Int (negsuc n) h = h
count_below_64 kind.Unsigned (pos n) h = grind (arith, nat_tests)
count_below_64 kind.Unsigned (negsuc n) h = h
count_below_64 kind.Long n h = h
count_below_64 kind.UnsignedLong n h = h

product_below : (a n : ℕ) → a ≤ 2 ^ 64 - 1 → n < 64 → a * 2 ^ n < 2 ^ 127
product_below a n small count =
    let power : 2 ^ n ≤ 2 ^ 63 = pow-le-pow_right {n = 2} (omega arith) {i = n} {j = 63} (omega (arith, count)) in
    omega (arith, mul-le-mul small power)

scaled_natural : (a n : ℤ) → pos 0 ≤ℤ a → a <ℤ pos (2 ^ 64) → is_count 64 n ≡ true
    → to_z w128 (of_z w128 a * 2 ^ of_z w128 n % 2 ^ 128) ≡ a *ℤ pos (2 ^ unsigned_abs n)
scaled_natural (pos a) (pos n) natural small count =
    let below : a * 2 ^ n < 2 ^ 127 = product_below a n (omega (arith, ints, small)) (grind (arith, nat_tests, count)) in
    ap (to_z w128) (mod-eq_of_lt (omega (arith, below))) ∙ to_z_pos w128 (a * 2 ^ n) below
scaled_natural (pos a) (negsuc n) natural small count = absurd cc
scaled_natural (negsuc a) n natural small count = absurd (omega (arith, ints, natural))

pub scaled_is : (k : Kind) (a n : ℤ) → IsNumber k a → pos 0 ≤ℤ a → is_count (bits_of k) n ≡ true
    → to_z w128 (of_z w128 a * 2 ^ of_z w128 n % 2 ^ 128) ≡ a *ℤ pos (2 ^ unsigned_abs n)
scaled_is k a n h natural count = scaled_natural a n natural (below k a h) (count_below_64 k n count)
  where
    below : (k : Kind) (a : ℤ) → IsNumber k a → a <ℤ pos (2 ^ 64)
    below kind.Int a h = omega (arith, ints, h.1)
    below kind.Unsigned a h = omega (arith, ints, h.1)
    below kind.Long a h = omega (arith, ints, h.1)
    below kind.UnsignedLong a h = h.1

-- ---- bits

residue_below : (n : ℤ) (m : ℕ) → 0 < m → residue n m < m
residue_below (pos n) m h = mod-lt n h
residue_below (negsuc n) m h = omega arith

bits_below : (k : Kind) (n : ℤ) → bits_in k n < 2 ^ 64
bits_below kind.Int n = omega (arith, residue_below n (2 ^ 32) (omega arith))
bits_below kind.Unsigned n = omega (arith, residue_below n (2 ^ 32) (omega arith))
bits_below kind.Long n = residue_below n (2 ^ 64) (omega arith)
bits_below kind.UnsignedLong n = residue_below n (2 ^ 64) (omega arith)

pub bits_are_natural : (f : ℕ → ℕ → ℕ) → ((m n : ℕ) → m < 2 ^ 64 → n < 2 ^ 64 → f m n < 2 ^ 64) → (k : Kind) (a b x y : ℤ)
    → x ≡ pos (bits_in k a) → y ≡ pos (bits_in k b) → pos 0 ≤ℤ to_z w128 (f (of_z w128 x) (of_z w128 y))
bits_are_natural f below k a b x y is_x is_y =
    let m = bits_in k a in
    let n = bits_in k b in
    let small : f m n < 2 ^ 127 = omega (arith, below m n (bits_below k a) (bits_below k b)) in
    let is : to_z w128 (f (of_z w128 x) (of_z w128 y)) ≡ pos (f m n) = (λ i. to_z w128 (f (of_z w128 (is_x i)) (of_z w128 (is_y i)))) ∙ to_z_pos w128 (f m n) small in
    omega (arith, ints, is)

-- an operator on bits, as the words compute it
pub on_bits : (f : ℕ → ℕ → ℕ) → ((m n : ℕ) → m < 2 ^ 64 → n < 2 ^ 64 → f m n < 2 ^ 64) → (k : Kind) (a b x y : ℤ)
    → x ≡ pos (bits_in k a) → y ≡ pos (bits_in k b)
    → from_bits k (unsigned_abs (to_z w128 (f (of_z w128 x) (of_z w128 y)))) ≡ from_bits k (f (bits_in k a) (bits_in k b))
on_bits f below k a b x y is_x is_y =
    let m = bits_in k a in
    let n = bits_in k b in
    let small : f m n < 2 ^ 127 = omega (arith, below m n (bits_below k a) (bits_below k b)) in
    (λ i. from_bits k (unsigned_abs (to_z w128 (f (of_z w128 (is_x i)) (of_z w128 (is_y i))))))
    ∙ ap (λ z. from_bits k (unsigned_abs z)) (to_z_pos w128 (f m n) small)

-- ---- numbers that a kind has

-- bits below the half of the width stand for a number from 0 on, others for one below 0
from_low : (w b : ℕ) → nat_lt b (2 ^ (w - 1)) ≡ true → signed_from w b ≡ pos b
from_low w b h = ap (λ t. if t then pos b else pos b -ℤ pos (2 ^ w)) h

from_high : (w b : ℕ) → nat_lt b (2 ^ (w - 1)) ≡ false → signed_from w b ≡ pos b -ℤ pos (2 ^ w)
from_high w b h = ap (λ t. if t then pos b else pos b -ℤ pos (2 ^ w)) h

pub reduced_same : (k : Kind) (n : ℤ) → IsNumber k n → n ≡ reduced k n
reduced_same kind.Int (pos n) h =
    let below : n < 2 ^ 31 = omega (arith, ints, h.1) in
    let low : nat_lt n (2 ^ 31) ≡ true = grind (arith, nat_tests, below) in
    sym (ap (signed_from 32) (mod-eq_of_lt {n = n} {m = 2 ^ 32} (omega (arith, below))) ∙ from_low 32 n low)
reduced_same kind.Int (negsuc n) h =
    let below : n < 2 ^ 31 = omega (arith, ints, h.0) in
    let rest : n % 2 ^ 32 ≡ n = mod-eq_of_lt {n = n} {m = 2 ^ 32} (omega (arith, below)) in
    let high : nat_lt (2 ^ 32 - 1 - n) (2 ^ 31) ≡ false = grind (arith, nat_tests, below) in
    let number : pos (2 ^ 32 - 1 - n) -ℤ pos (2 ^ 32) ≡ negsuc n = omega (arith, ints, below) in
    sym (ap (λ r. signed_from 32 (2 ^ 32 - 1 - r)) rest ∙ from_high 32 (2 ^ 32 - 1 - n) high ∙ number)
reduced_same kind.Unsigned n h = sym (small_residue n (2 ^ 32) h)
reduced_same kind.Long (pos n) h =
    let below : n < 2 ^ 63 = omega (arith, ints, h.1) in
    let low : nat_lt n (2 ^ 63) ≡ true = grind (arith, nat_tests, below) in
    sym (ap (signed_from 64) (mod-eq_of_lt {n = n} {m = 2 ^ 64} (omega (arith, below))) ∙ from_low 64 n low)
reduced_same kind.Long (negsuc n) h =
    let below : n < 2 ^ 63 = omega (arith, ints, h.0) in
    let rest : n % 2 ^ 64 ≡ n = mod-eq_of_lt {n = n} {m = 2 ^ 64} (omega (arith, below)) in
    let high : nat_lt (2 ^ 64 - 1 - n) (2 ^ 63) ≡ false = grind (arith, nat_tests, below) in
    let number : pos (2 ^ 64 - 1 - n) -ℤ pos (2 ^ 64) ≡ negsuc n = omega (arith, ints, below) in
    sym (ap (λ r. signed_from 64 (2 ^ 64 - 1 - r)) rest ∙ from_high 64 (2 ^ 64 - 1 - n) high ∙ number)
reduced_same kind.UnsignedLong n h = sym (small_residue n (2 ^ 64) h)

-- on two values of `int` an operator works in `int`
pub in_int : (op : Binary) (a b : ℤ) → IsNumber kind.Int a → IsNumber kind.Int b → binary_in kind.Int op a b ≡ binary_of op (Int a) (Int b)
in_int op a b p q = go (is_shift op)
  where
    go : (t : Bool) → binary_in kind.Int op a b ≡ (if t then binary_in kind.Int op a b else binary_in kind.Int op (reduced kind.Int a) (reduced kind.Int b))
    go true = refl
    go false = λ i. binary_in kind.Int op (reduced_same kind.Int a p i) (reduced_same kind.Int b q i)
