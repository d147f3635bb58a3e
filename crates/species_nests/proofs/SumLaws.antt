-- An atomic sum is the sum that the source computes, where the source's has a value; and two sums on one element change places.
use Rattle.std.proofs.Common.{◌≡◌, arith, refl, ap, sym, ◌∙◌, subst, ℕ, ◌/◌, ◌<◌, ℤ, pos, negsuc, ◌+ℤ◌, ◌-ℤ◌, ◌*ℤ◌, Bool, true, false, if◌then◌else◌, Ok, Err}
use Rattle.std.specs.Prelude.{◌^◌, nat_lt}
use Rattle.std.proofs.lemmas.Int.{ints}
use Rattle.std.proofs.Math.Nat.{mod-lt, div-add-mod'}
use Rattle.species_ast.specs.declared.trap.Undefined.TheVariants.{Overflow}
use Rattle.species_ast.specs.declared.tree.Binary.TheVariants.{Add}
use Rattle.species_ast.specs.declared.tree.Kind.{Kind}
use Rattle.species_ast.specs.declared.tree.Kind.TheVariants as kind
use Rattle.species_ast.specs.declared.tree.Value.{Value}
use Rattle.species_ast.specs.Operators.{Answer, kind_of, number_of, in_kind, joint, is_signed, bits_of, fits, residue, signed_from, reduced, converted, exact_in, binary_of}
use Rattle.species_ast.specs.Accesses.{added}
use Rattle.species_ast.proofs.KindLaws.{kind-in_kind}

-- ---- numbers that differ by a multiple of a kind's size

abbrev pub Differs : Kind → ℤ → ℤ → Type 0
Differs k x y = (q : ℤ) × (x ≡ y +ℤ q *ℤ pos (2 ^ bits_of k))

abbrev Rest : ℕ → ℤ → Type 0
Rest m x = (q : ℤ) × (x ≡ pos (residue x m) +ℤ q *ℤ pos m) × (residue x m < m)

rest_32 : (x : ℤ) → Rest (2 ^ 32) x
rest_32 (pos n) = (pos (n / 2 ^ 32), omega (arith, ints, div-add-mod' n (2 ^ 32)), mod-lt n (omega arith))
rest_32 (negsuc n) = (negsuc (n / 2 ^ 32), omega (arith, ints, div-add-mod' n (2 ^ 32), mod-lt n {m = 2 ^ 32} (omega arith)), omega arith)

rest_64 : (x : ℤ) → Rest (2 ^ 64) x
rest_64 (pos n) = (pos (n / 2 ^ 64), omega (arith, ints, div-add-mod' n (2 ^ 64)), mod-lt n (omega arith))
rest_64 (negsuc n) = (negsuc (n / 2 ^ 64), omega (arith, ints, div-add-mod' n (2 ^ 64), mod-lt n {m = 2 ^ 64} (omega arith)), omega arith)

same_32 : (x y q : ℤ) → x ≡ y +ℤ q *ℤ pos (2 ^ 32) → residue x (2 ^ 32) ≡ residue y (2 ^ 32)
same_32 x y q h =
    let a = rest_32 x in
    let b = rest_32 y in
    omega (arith, ints, a.1, a.2, b.1, b.2, h)

same_64 : (x y q : ℤ) → x ≡ y +ℤ q *ℤ pos (2 ^ 64) → residue x (2 ^ 64) ≡ residue y (2 ^ 64)
same_64 x y q h =
    let a = rest_64 x in
    let b = rest_64 y in
    omega (arith, ints, a.1, a.2, b.1, b.2, h)

-- they are reduced to one number
pub reduced_one : (k : Kind) (x y : ℤ) → Differs k x y → reduced k x ≡ reduced k y
reduced_one kind.Int x y h = ap (signed_from 32) (same_32 x y h.0 h.1)
reduced_one kind.Unsigned x y h = ap pos (same_32 x y h.0 h.1)
reduced_one kind.Long x y h = ap (signed_from 64) (same_64 x y h.0 h.1)
reduced_one kind.UnsignedLong x y h = ap pos (same_64 x y h.0 h.1)

signed_32 : (b : ℕ) → (q : ℤ) × (signed_from 32 b ≡ pos b +ℤ q *ℤ pos (2 ^ 32))
signed_32 b = go (nat_lt b (2 ^ 31))
  where
    go : (t : Bool) → (q : ℤ) × ((if t then pos b else pos b -ℤ pos (2 ^ 32)) ≡ pos b +ℤ q *ℤ pos (2 ^ 32))
    go true = (pos 0, omega (arith, ints))
    go false = (negsuc 0, omega (arith, ints))

signed_64 : (b : ℕ) → (q : ℤ) × (signed_from 64 b ≡ pos b +ℤ q *ℤ pos (2 ^ 64))
signed_64 b = go (nat_lt b (2 ^ 63))
  where
    go : (t : Bool) → (q : ℤ) × ((if t then pos b else pos b -ℤ pos (2 ^ 64)) ≡ pos b +ℤ q *ℤ pos (2 ^ 64))
    go true = (pos 0, omega (arith, ints))
    go false = (negsuc 0, omega (arith, ints))

-- a reduced number differs so from the number
pub reduced_differs : (k : Kind) (x : ℤ) → Differs k (reduced k x) x
reduced_differs kind.Int x =
    let a = rest_32 x in
    let b = signed_32 (residue x (2 ^ 32)) in
    (b.0 -ℤ a.0, omega (arith, ints, a.1, b.1))
reduced_differs kind.Unsigned x = let a = rest_32 x in (pos 0 -ℤ a.0, omega (arith, ints, a.1))
reduced_differs kind.Long x =
    let a = rest_64 x in
    let b = signed_64 (residue x (2 ^ 64)) in
    (b.0 -ℤ a.0, omega (arith, ints, a.1, b.1))
reduced_differs kind.UnsignedLong x = let a = rest_64 x in (pos 0 -ℤ a.0, omega (arith, ints, a.1))

differs_same : (k : Kind) (x y : ℤ) → x ≡ y → Differs k x y
differs_same kind.Int x y h = (pos 0, omega (arith, ints, h))
differs_same kind.Unsigned x y h = (pos 0, omega (arith, ints, h))
differs_same kind.Long x y h = (pos 0, omega (arith, ints, h))
differs_same kind.UnsignedLong x y h = (pos 0, omega (arith, ints, h))

differs_sum : (k : Kind) (x y u v : ℤ) → Differs k x y → Differs k u v → Differs k (x +ℤ u) (y +ℤ v)
differs_sum kind.Int x y u v p q = (p.0 +ℤ q.0, omega (arith, ints, p.1, q.1))
differs_sum kind.Unsigned x y u v p q = (p.0 +ℤ q.0, omega (arith, ints, p.1, q.1))
differs_sum kind.Long x y u v p q = (p.0 +ℤ q.0, omega (arith, ints, p.1, q.1))
differs_sum kind.UnsignedLong x y u v p q = (p.0 +ℤ q.0, omega (arith, ints, p.1, q.1))

differs_then : (k : Kind) (x y z : ℤ) → Differs k x y → Differs k y z → Differs k x z
differs_then kind.Int x y z p q = (p.0 +ℤ q.0, omega (arith, ints, p.1, q.1))
differs_then kind.Unsigned x y z p q = (p.0 +ℤ q.0, omega (arith, ints, p.1, q.1))
differs_then kind.Long x y z p q = (p.0 +ℤ q.0, omega (arith, ints, p.1, q.1))
differs_then kind.UnsignedLong x y z p q = (p.0 +ℤ q.0, omega (arith, ints, p.1, q.1))

-- what differs by a multiple of the joint kind's size differs by one of an unsigned side's
narrower : (k j : Kind) → is_signed k ≡ false → (x y : ℤ) → Differs (joint k j) x y → Differs k x y
narrower kind.Int j s x y h = absurd cc
narrower kind.Long j s x y h = absurd cc
narrower kind.Unsigned kind.Int s x y h = h
narrower kind.Unsigned kind.Unsigned s x y h = h
narrower kind.Unsigned kind.Long s x y h = (h.0 *ℤ pos (2 ^ 32), omega (arith, ints, h.1))
narrower kind.Unsigned kind.UnsignedLong s x y h = (h.0 *ℤ pos (2 ^ 32), omega (arith, ints, h.1))
narrower kind.UnsignedLong kind.Int s x y h = h
narrower kind.UnsignedLong kind.Unsigned s x y h = h
narrower kind.UnsignedLong kind.Long s x y h = h
narrower kind.UnsignedLong kind.UnsignedLong s x y h = h

-- ---- sums

number_reduced : (k : Kind) (x : ℤ) → number_of (in_kind k (reduced k x)) ≡ reduced k x
number_reduced kind.Int x = refl
number_reduced kind.Unsigned x = refl
number_reduced kind.Long x = refl
number_reduced kind.UnsignedLong x = refl

abbrev number_in : Answer → ℤ
number_in (Ok v) = number_of v
number_in (Err why) = pos 0

if_fits : (t : Bool) (n : ℤ) (v s : Value) → number_of v ≡ n → (if t then Ok v else Err Overflow) ≡ Ok s → number_of s ≡ n
if_fits true n v s is h = ap number_in (sym h) ∙ is
if_fits false n v s is h = absurd cc

exact_differs : (k : Kind) (n : ℤ) (s : Value) → exact_in k n ≡ Ok s → Differs k (number_of s) n
exact_differs kind.Int n s h = differs_same kind.Int (number_of s) n (if_fits (fits 32 n) n (in_kind kind.Int n) s refl h)
exact_differs kind.Unsigned n s h = subst (λ z. Differs kind.Unsigned z n) (ap number_in h) (reduced_differs kind.Unsigned n)
exact_differs kind.Long n s h = differs_same kind.Long (number_of s) n (if_fits (fits 64 n) n (in_kind kind.Long n) s refl h)
exact_differs kind.UnsignedLong n s h = subst (λ z. Differs kind.UnsignedLong z n) (ap number_in h) (reduced_differs kind.UnsignedLong n)

-- the law: of an unsigned kind, what an atomic addition leaves is the sum, converted
pub sum_is : (k : Kind) (old v s : Value) → is_signed k ≡ false → kind_of old ≡ k → binary_of Add old v ≡ Ok s → added (converted k v) old ≡ converted k s
sum_is k old v s unsigned of h =
    let j = joint (kind_of old) (kind_of v) in
    let exact = exact_differs j (reduced j (number_of old) +ℤ reduced j (number_of v)) s h in
    let both = differs_sum j (reduced j (number_of old)) (number_of old) (reduced j (number_of v)) (number_of v) (reduced_differs j (number_of old)) (reduced_differs j (number_of v)) in
    let wide : Differs j (number_of s) (number_of old +ℤ number_of v) = differs_then j (number_of s) (reduced j (number_of old) +ℤ reduced j (number_of v)) (number_of old +ℤ number_of v) exact both in
    let sum : Differs k (number_of s) (number_of old +ℤ number_of v) =
    narrower k (kind_of v) unsigned (number_of s) (number_of old +ℤ number_of v) (subst (λ i. Differs (joint i (kind_of v)) (number_of s) (number_of old +ℤ number_of v)) of wide) in
    let plus : Differs k (number_of old +ℤ reduced k (number_of v)) (number_of old +ℤ number_of v) =
    differs_sum k (number_of old) (number_of old) (reduced k (number_of v)) (number_of v) (differs_same k (number_of old) (number_of old) refl) (reduced_differs k (number_of v)) in
    (λ i. in_kind (of i) (reduced (of i) (number_of old +ℤ number_reduced k (number_of v) i)))
    ∙ ap (in_kind k) (reduced_one k (number_of old +ℤ reduced k (number_of v)) (number_of old +ℤ number_of v) plus)
    ∙ ap (in_kind k) (sym (reduced_one k (number_of s) (number_of old +ℤ number_of v) sum))

-- two sums on one element
added_both : (c v w : Value) → added w (added v c) ≡ in_kind (kind_of c) (reduced (kind_of c) (number_of c +ℤ number_of v +ℤ number_of w))
added_both c v w =
    let k = kind_of c in
    let sum = number_of c +ℤ number_of v in
    let same : Differs k (reduced k sum +ℤ number_of w) (sum +ℤ number_of w) =
    differs_sum k (reduced k sum) sum (number_of w) (number_of w) (reduced_differs k sum) (differs_same k (number_of w) (number_of w) refl) in
    (λ i. in_kind (kind-in_kind k (reduced k sum) i) (reduced (kind-in_kind k (reduced k sum) i) (number_reduced k sum i +ℤ number_of w)))
    ∙ ap (in_kind k) (reduced_one k (reduced k sum +ℤ number_of w) (sum +ℤ number_of w) same)

pub added_trade : (c v w : Value) → added w (added v c) ≡ added v (added w c)
added_trade c v w =
    let same : number_of c +ℤ number_of v +ℤ number_of w ≡ number_of c +ℤ number_of w +ℤ number_of v = omega (arith, ints) in
    added_both c v w ∙ ap (λ n. in_kind (kind_of c) (reduced (kind_of c) n)) same ∙ sym (added_both c w v)
