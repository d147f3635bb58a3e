-- Operators on values give values: what they give is a number of its kind.
use Rattle.std.proofs.Common.{◌≡◌, refl, ap, sym, ◌∙◌, subst, arith, ℕ, suc, ◌+◌, ◌^◌, ◌<◌, ◌≤◌, ℤ, pos, negsuc, neg_ℤ, ◌-ℤ◌, ◌*ℤ◌, ◌≤ℤ◌, ◌<ℤ◌, Bool, true, false, if◌then◌else◌, Ok, Err}
use Rattle.std.specs.Prelude.{◌-◌, ◌%◌, nat_lt, unsigned_abs, int_div, int_rem, int_lt, int_le, not, bit_and, bit_or, bit_xor}
use Rattle.std.specs.Ordering.{int_eq}
use Rattle.std.specs.Int.{int_shr}
use Rattle.std.proofs.Math.Nat.{div-le_self, mod-eq_of_lt, mod-le}
use Rattle.std.proofs.lemmas.Bool.Decides.{nat_tests}
use Rattle.std.proofs.lemmas.Int.{ints, quot-rem}
use Rattle.species_ast.specs.declared.trap.Undefined.TheVariants.{Overflow, DivZero, BadShift}
use Rattle.species_ast.specs.declared.tree.Binary.{Binary}
use Rattle.species_ast.specs.declared.tree.Binary.TheVariants.{Mul, Div, Rem, Add, Sub, Shl, Shr, Lt, Le, Gt, Ge, Eq, Ne, BitAnd, BitXor, BitOr}
use Rattle.species_ast.specs.declared.tree.Kind.{Kind}
use Rattle.species_ast.specs.declared.tree.Kind.TheVariants as kind
use Rattle.species_ast.specs.declared.tree.Unary.{Unary}
use Rattle.species_ast.specs.declared.tree.Unary.TheVariants.{Neg, Not, LogNot}
use Rattle.species_ast.specs.declared.tree.Value.{Value}
use Rattle.species_ast.specs.Operators.{Answer, kind_of, number_of, in_kind, joint, is_signed, bits_of, fits, residue, signed_from, bits_in, reduced, IsValue, exact_in, truth, is_true, quotient, remainder, and_then, is_count, left_by, right_by, binary_of, unary_of}
use Rattle.species_runs.proofs.ValueLaws.{residue_below, same_number, value_in}

-- what an operator gives, if it gives anything, is a value
abbrev pub GivesValue : Answer → Type 0
GivesValue (Ok v) = IsValue v
GivesValue (Err why) = Unit {0}

gives_one : (t : Bool) (a b : Answer) → (t ≡ true → GivesValue a) → (t ≡ false → GivesValue b) → GivesValue (if t then a else b)
gives_one true a b p q = p refl
gives_one false a b p q = q refl

-- ---- the numbers of a kind

-- n is at least `low`, and less than m
abbrev IsFrom : ℤ → ℕ → ℤ → Type 0
IsFrom low m n = (low ≤ℤ n) × (n <ℤ pos m)

abbrev IsNumber : Kind → ℤ → Type 0
IsNumber kind.Int n = IsFrom (neg_ℤ (pos (2 ^ 31))) (2 ^ 31) n
IsNumber kind.Unsigned n = IsFrom (pos 0) (2 ^ 32) n
IsNumber kind.Long n = IsFrom (neg_ℤ (pos (2 ^ 63))) (2 ^ 63) n
IsNumber kind.UnsignedLong n = IsFrom (pos 0) (2 ^ 64) n

-- a number that fits is the one that its bits stand for
fits_back : (w : ℕ) → 2 ^ (w - 1) + 2 ^ (w - 1) ≡ 2 ^ w → (n : ℤ) → fits w n ≡ true → signed_from w (residue n (2 ^ w)) ≡ n
fits_back w half (pos a) h =
    let small : a < 2 ^ (w - 1) = grind (arith, nat_tests) in
    let same : a % 2 ^ w ≡ a = mod-eq_of_lt (omega (arith, small, half)) in
    ap (signed_from w) same ∙ ap (λ t. if t then pos a else pos a -ℤ pos (2 ^ w)) h
fits_back w half (negsuc a) h =
    let small : a < 2 ^ (w - 1) = grind (arith, nat_tests) in
    let same : a % 2 ^ w ≡ a = mod-eq_of_lt (omega (arith, small, half)) in
    let bits : 2 ^ w - 1 - a % 2 ^ w ≡ 2 ^ w - 1 - a = ap (λ r. 2 ^ w - 1 - r) same in
    let great : 2 ^ (w - 1) ≤ 2 ^ w - 1 - a = omega (arith, small, half) in
    let past : nat_lt (2 ^ w - 1 - a) (2 ^ (w - 1)) ≡ false = grind (arith, nat_tests) in
    let less : a < 2 ^ w = omega (arith, small, half) in
    let last : pos (2 ^ w - 1 - a) -ℤ pos (2 ^ w) ≡ negsuc a = omega (arith, ints, less) in
    ap (signed_from w) bits ∙ ap (λ t. if t then pos (2 ^ w - 1 - a) else pos (2 ^ w - 1 - a) -ℤ pos (2 ^ w)) past ∙ last

within_fits : (w : ℕ) (n : ℤ) → IsFrom (neg_ℤ (pos (2 ^ (w - 1)))) (2 ^ (w - 1)) n → fits w n ≡ true
within_fits w (pos a) h = let small : a < 2 ^ (w - 1) = omega (arith, ints, h.1) in grind (arith, nat_tests)
within_fits w (negsuc a) h = let small : a < 2 ^ (w - 1) = omega (arith, ints, h.0) in grind (arith, nat_tests)

natural_back : (m : ℕ) (n : ℤ) → IsFrom (pos 0) m n → pos (residue n m) ≡ n
natural_back m (pos a) h = ap pos (mod-eq_of_lt (omega (arith, ints, h.1)))
natural_back m (negsuc a) h = absurd (omega (arith, ints, h.0))

back : (k : Kind) (n : ℤ) → IsNumber k n → reduced k n ≡ n
back kind.Int n h = fits_back 32 (omega arith) n (within_fits 32 n h)
back kind.Unsigned n h = natural_back (2 ^ 32) n h
back kind.Long n h = fits_back 64 (omega arith) n (within_fits 64 n h)
back kind.UnsignedLong n h = natural_back (2 ^ 64) n h

signed_within : (w b : ℕ) → 2 ^ (w - 1) + 2 ^ (w - 1) ≡ 2 ^ w → b < 2 ^ w → IsFrom (neg_ℤ (pos (2 ^ (w - 1)))) (2 ^ (w - 1)) (signed_from w b)
signed_within w b half below = go (nat_lt b (2 ^ (w - 1))) refl
  where
    go : (t : Bool) → nat_lt b (2 ^ (w - 1)) ≡ t → IsFrom (neg_ℤ (pos (2 ^ (w - 1)))) (2 ^ (w - 1)) (if t then pos b else pos b -ℤ pos (2 ^ w))
    go true is = let small : b < 2 ^ (w - 1) = grind (arith, nat_tests) in (omega (arith, ints), omega (arith, ints, small))
    go false is = let great : 2 ^ (w - 1) ≤ b = grind (arith, nat_tests) in (omega (arith, ints, great, half), omega (arith, ints, below, half))

reduced_within : (k : Kind) (n : ℤ) → IsNumber k (reduced k n)
reduced_within kind.Int n = signed_within 32 (residue n (2 ^ 32)) (omega arith) (residue_below n (2 ^ 32) (omega arith))
reduced_within kind.Unsigned n = let below = residue_below n (2 ^ 32) (omega arith) in (omega (arith, ints), omega (arith, ints, below))
reduced_within kind.Long n = signed_within 64 (residue n (2 ^ 64)) (omega arith) (residue_below n (2 ^ 64) (omega arith))
reduced_within kind.UnsignedLong n = let below = residue_below n (2 ^ 64) (omega arith) in (omega (arith, ints), omega (arith, ints, below))

value_within : (v : Value) → IsValue v → IsNumber (kind_of v) (number_of v)
value_within v h = subst (IsNumber (kind_of v)) (is_same (reduced (kind_of v) (number_of v)) (number_of v) h) (reduced_within (kind_of v) (number_of v))
  where
    is_same : (a b : ℤ) → int_eq a b ≡ true → a ≡ b
    is_same a b e = grind arith

-- the value of a kind with a number of it
value_of_number : (k : Kind) (n : ℤ) → IsNumber k n → IsValue (in_kind k n)
value_of_number k n h = subst (λ z. IsValue (in_kind k z)) (back k n h) (value_in k n).1

-- ---- operators

value_exact : (k : Kind) (n : ℤ) → GivesValue (exact_in k n)
value_exact kind.Int n =
    gives_one (fits 32 n) (Ok (in_kind kind.Int n)) (Err Overflow) (λ e. ap (λ z. int_eq z n) (fits_back 32 (omega arith) n e) ∙ same_number n) (λ e. tt)
value_exact kind.Unsigned n = (value_in kind.Unsigned n).1
value_exact kind.Long n =
    gives_one (fits 64 n) (Ok (in_kind kind.Long n)) (Err Overflow) (λ e. ap (λ z. int_eq z n) (fits_back 64 (omega arith) n e) ∙ same_number n) (λ e. tt)
value_exact kind.UnsignedLong n = (value_in kind.UnsignedLong n).1

value_truth : (b : Bool) → IsValue (truth b)
value_truth true = refl
value_truth false = refl

value_quotient : (k : Kind) (a b : ℤ) → GivesValue (quotient k a b)
value_quotient k a b = gives_one (int_eq b (pos 0)) (Err DivZero) (exact_in k (int_div a b)) (λ e. tt) (λ e. value_exact k (int_div a b))

-- ---- remainders

abbrev number_in : Answer → ℤ
number_in (Ok v) = number_of v
number_in (Err why) = pos 0

if_fits : (t : Bool) (n : ℤ) (v q : Value) → number_of v ≡ n → (if t then Ok v else Err Overflow) ≡ Ok q → number_of q ≡ n
if_fits true n v q is h = ap number_in (sym h) ∙ is
if_fits false n v q is h = absurd cc

exact_number : (k : Kind) (n : ℤ) (q : Value) → (is_signed k ≡ false → IsNumber k n) → exact_in k n ≡ Ok q → number_of q ≡ n
exact_number kind.Int n q within h = if_fits (fits 32 n) n (in_kind kind.Int n) q refl h
exact_number kind.Unsigned n q within h = ap number_in (sym h) ∙ natural_back (2 ^ 32) n (within refl)
exact_number kind.Long n q within h = if_fits (fits 64 n) n (in_kind kind.Long n) q refl h
exact_number kind.UnsignedLong n q within h = ap number_in (sym h) ∙ natural_back (2 ^ 64) n (within refl)

natural_quotient : (a b : ℤ) (m : ℕ) → IsFrom (pos 0) m a → pos 0 ≤ℤ b → IsFrom (pos 0) m (int_div a b)
natural_quotient (pos a) (pos b) m p q = (omega (arith, ints), omega (arith, ints, p.1, div-le_self a b))
natural_quotient (pos a) (negsuc b) m p q = absurd (omega (arith, ints, q))
natural_quotient (negsuc a) b m p q = absurd (omega (arith, ints, p.0))

unsigned_quotient : (k : Kind) (a b : ℤ) → IsNumber k a → IsNumber k b → is_signed k ≡ false → IsNumber k (int_div a b)
unsigned_quotient kind.Int a b p q s = absurd cc
unsigned_quotient kind.Unsigned a b p q s = natural_quotient a b (2 ^ 32) p q.0
unsigned_quotient kind.Long a b p q s = absurd cc
unsigned_quotient kind.UnsignedLong a b p q s = natural_quotient a b (2 ^ 64) p q.0

quotient_number : (k : Kind) (a b : ℤ) (q : Value) → IsNumber k a → IsNumber k b → quotient k a b ≡ Ok q → number_of q ≡ int_div a b
quotient_number k a b q in_a in_b h = go (int_eq b (pos 0)) h
  where
    go : (t : Bool) → (if t then Err DivZero else exact_in k (int_div a b)) ≡ Ok q → number_of q ≡ int_div a b
    go true e = absurd cc
    go false e = exact_number k (int_div a b) q (unsigned_quotient k a b in_a in_b) e

-- a rest is between 0 and the number that is divided
rest_between : (low : ℤ) (m : ℕ) (a b : ℤ) → low ≤ℤ pos 0 → 0 < m → IsFrom low m a → IsFrom low m (int_rem a b)
rest_between low m (pos a) (pos b) negative some h = (omega (arith, ints, negative), omega (arith, ints, h.1, mod-le a b))
rest_between low m (pos a) (negsuc b) negative some h = (omega (arith, ints, negative), omega (arith, ints, h.1, mod-le a (suc b)))
rest_between low m (negsuc a) (pos b) negative some h = (omega (arith, ints, h.0, mod-le (suc a) b), omega (arith, ints, some))
rest_between low m (negsuc a) (negsuc b) negative some h = (omega (arith, ints, h.0, mod-le (suc a) (suc b)), omega (arith, ints, some))

rest_within : (k : Kind) (a b : ℤ) → IsNumber k a → IsNumber k (int_rem a b)
rest_within kind.Int a b h = rest_between (neg_ℤ (pos (2 ^ 31))) (2 ^ 31) a b (omega (arith, ints)) (omega arith) h
rest_within kind.Unsigned a b h = rest_between (pos 0) (2 ^ 32) a b (omega (arith, ints)) (omega arith) h
rest_within kind.Long a b h = rest_between (neg_ℤ (pos (2 ^ 63))) (2 ^ 63) a b (omega (arith, ints)) (omega arith) h
rest_within kind.UnsignedLong a b h = rest_between (pos 0) (2 ^ 64) a b (omega (arith, ints)) (omega arith) h

value_remainder : (k : Kind) (a b : ℤ) → IsNumber k a → IsNumber k b → GivesValue (remainder k a b)
value_remainder k a b in_a in_b = go (quotient k a b) refl
  where
    go : (q : Answer) → quotient k a b ≡ q → GivesValue (and_then q (λ v. Ok (in_kind k (a -ℤ number_of v *ℤ b))))
    go (Ok v) is =
        let number : number_of v ≡ int_div a b = quotient_number k a b v in_a in_b is in
        let rest : a -ℤ int_div a b *ℤ b ≡ int_rem a b = omega (arith, ints, quot-rem a b) in
        subst (λ n. IsValue (in_kind k n)) (sym (ap (λ n. a -ℤ n *ℤ b) number ∙ rest)) (value_of_number k (int_rem a b) (rest_within k a b in_a))
    go (Err why) is = tt

-- ---- shifts

value_left : (k : Kind) (t : Bool) (a : ℤ) (n : ℕ) → GivesValue (left_by t k a n)
value_left k true a n = gives_one (int_lt a (pos 0)) (Err BadShift) _ (λ e. tt) (λ e. value_exact k _)
value_left k false a n = tt

shifted_between : (low : ℤ) (m : ℕ) (a : ℤ) (n : ℕ) → low ≤ℤ pos 0 → 0 < m → IsFrom low m a → IsFrom low m (int_shr a n)
shifted_between low m (pos a) n negative some h = (omega (arith, ints, negative), omega (arith, ints, h.1, div-le_self a (2 ^ n)))
shifted_between low m (negsuc a) n negative some h = (omega (arith, ints, h.0, div-le_self a (2 ^ n)), omega (arith, ints, some))

shifted_within : (k : Kind) (a : ℤ) (n : ℕ) → IsNumber k a → IsNumber k (int_shr a n)
shifted_within kind.Int a n h = shifted_between (neg_ℤ (pos (2 ^ 31))) (2 ^ 31) a n (omega (arith, ints)) (omega arith) h
shifted_within kind.Unsigned a n h = shifted_between (pos 0) (2 ^ 32) a n (omega (arith, ints)) (omega arith) h
shifted_within kind.Long a n h = shifted_between (neg_ℤ (pos (2 ^ 63))) (2 ^ 63) a n (omega (arith, ints)) (omega arith) h
shifted_within kind.UnsignedLong a n h = shifted_between (pos 0) (2 ^ 64) a n (omega (arith, ints)) (omega arith) h

value_right : (k : Kind) (t : Bool) (a : ℤ) (n : ℕ) → IsNumber k a → GivesValue (right_by t k a n)
value_right k true a n h = value_of_number k (int_shr a n) (shifted_within k a n h)
value_right k false a n h = tt

-- ---- the laws

pub value_binary : (op : Binary) (x y : Value) → IsValue x → IsValue y → GivesValue (binary_of op x y)
value_binary Mul x y p q = value_exact (joint (kind_of x) (kind_of y)) _
value_binary Div x y p q = let k = joint (kind_of x) (kind_of y) in value_quotient k (reduced k (number_of x)) (reduced k (number_of y))
value_binary Rem x y p q =
    let k = joint (kind_of x) (kind_of y) in
    value_remainder k (reduced k (number_of x)) (reduced k (number_of y)) (reduced_within k (number_of x)) (reduced_within k (number_of y))
value_binary Add x y p q = value_exact (joint (kind_of x) (kind_of y)) _
value_binary Sub x y p q = value_exact (joint (kind_of x) (kind_of y)) _
value_binary Shl x y p q = value_left (kind_of x) (is_count (bits_of (kind_of x)) (number_of y)) (number_of x) (unsigned_abs (number_of y))
value_binary Shr x y p q = value_right (kind_of x) (is_count (bits_of (kind_of x)) (number_of y)) (number_of x) (unsigned_abs (number_of y)) (value_within x p)
value_binary Lt x y p q =
    let k = joint (kind_of x) (kind_of y) in
    let a = reduced k (number_of x) in
    let b = reduced k (number_of y) in
    value_truth (int_lt a b)
value_binary Le x y p q =
    let k = joint (kind_of x) (kind_of y) in
    let a = reduced k (number_of x) in
    let b = reduced k (number_of y) in
    value_truth (int_le a b)
value_binary Gt x y p q =
    let k = joint (kind_of x) (kind_of y) in
    let a = reduced k (number_of x) in
    let b = reduced k (number_of y) in
    value_truth (int_lt b a)
value_binary Ge x y p q =
    let k = joint (kind_of x) (kind_of y) in
    let a = reduced k (number_of x) in
    let b = reduced k (number_of y) in
    value_truth (int_le b a)
value_binary Eq x y p q =
    let k = joint (kind_of x) (kind_of y) in
    let a = reduced k (number_of x) in
    let b = reduced k (number_of y) in
    value_truth (int_eq a b)
value_binary Ne x y p q =
    let k = joint (kind_of x) (kind_of y) in
    let a = reduced k (number_of x) in
    let b = reduced k (number_of y) in
    value_truth (not (int_eq a b))
value_binary BitAnd x y p q =
    let k = joint (kind_of x) (kind_of y) in
    let a = reduced k (number_of x) in
    let b = reduced k (number_of y) in
    (value_in k (pos (bit_and (bits_in k a) (bits_in k b)))).1
value_binary BitXor x y p q =
    let k = joint (kind_of x) (kind_of y) in
    let a = reduced k (number_of x) in
    let b = reduced k (number_of y) in
    (value_in k (pos (bit_xor (bits_in k a) (bits_in k b)))).1
value_binary BitOr x y p q =
    let k = joint (kind_of x) (kind_of y) in
    let a = reduced k (number_of x) in
    let b = reduced k (number_of y) in
    (value_in k (pos (bit_or (bits_in k a) (bits_in k b)))).1

pub value_unary : (op : Unary) (x : Value) → IsValue x → GivesValue (unary_of op x)
value_unary Neg x p = value_exact (kind_of x) _
value_unary Not x p = (value_in (kind_of x) (pos (2 ^ bits_of (kind_of x) - 1 - bits_in (kind_of x) (number_of x)))).1
value_unary LogNot x p = value_truth (not (is_true x))
