-- What is read of a word is the value that is written so.
use Rattle.std.proofs.Common.{◌≡◌, ◌∙◌, ap, sym, subst, refl, ℕ, zero, suc, ◌+◌, ◌-◌, ◌<◌, ◌≤◌, ◌^◌, Bool, true, false, ◌&&◌, ◌||◌, not, if◌then◌else◌, List, [], ◌∷◌, length, decimal, ℤ, pos, negsuc, ◌-ℤ◌, Option, Some, None, IfSome, ◌⊎◌, inl, inr, arith}
use Rattle.std.specs.Prelude.{option_map, nat_lt, ◌==◌, ◌%◌}
use Rattle.std.specs.List.{list_all}
use Rattle.std.specs.Char.{digit_value}
use Rattle.std.specs.Fmt.{signed_decimal}
use Rattle.std.specs.Ordering.{int_eq}
use Rattle.std.specs.Str.Parse.{AllDigits, digits_value}
use Rattle.std.proofs.lemmas.Str.Parse.{IsNumeralModel, numerals_by_value, tells_digits}
use Rattle.std.proofs.Math.Nat.{mod-eq_of_lt}
use Rattle.std.proofs.lemmas.Bool.Decides.{nat_tests}
use Rattle.std.proofs.lemmas.Int.{ints}
use Rattle.std.proofs.lemmas.Fmt.{digits_decimal, decimal_nonempty}
use Rattle.species_decimal.specs.Number.{number_of as written_as}
use Rattle.species_decimal.specs.Words.{is_solid}
use Rattle.species_decimal.proofs.NumberLaws.{number_written, number_read}
use Rattle.species_ast.specs.declared.tree.Kind.{Kind}
use Rattle.species_ast.specs.declared.tree.Kind.TheVariants as kind
use Rattle.species_ast.specs.declared.tree.Value.{Value}
use Rattle.species_ast.specs.declared.tree.Value.TheVariants.{Int, Unsigned, Long, UnsignedLong}
use Rattle.species_ast.specs.Operators.{kind_of, number_of, in_kind, residue, signed_from, reduced, is_number_of, IsValue}
use Rattle.species_runs.specs.Values.{IsOf}
use Rattle.species_runs.proofs.ValueLaws.{value_in, residue_below}
use Rattle.species_data.specs.Lines.{is_gap, is_in_line}
use Rattle.species_data.specs.Elements.{value_text, below_zero, signed_of, element_of}

-- ---- the numbers of a kind

-- n lies from -most - 1 to most
abbrev pub IsBelow : ℕ → ℤ → Type 0
IsBelow most (pos n) = n ≤ most
IsBelow most (negsuc n) = n ≤ most

-- the same, where n is not below 0
abbrev pub IsWhole : ℕ → ℤ → Type 0
IsWhole most (pos n) = n ≤ most
IsWhole most (negsuc n) = ⊥

abbrev pub IsNumber : Kind → ℤ → Type 0
IsNumber kind.Int n = IsBelow 2147483647 n
IsNumber kind.Unsigned n = IsWhole 4294967295 n
IsNumber kind.Long n = IsBelow 9223372036854775807 n
IsNumber kind.UnsignedLong n = IsWhole 18446744073709551615 n

signed_back : (w half : ℕ) → half ≡ 2 ^ (w - 1) → half + half ≡ 2 ^ w → (n : ℤ) → IsBelow (half - 1) n → 0 < half → signed_from w (residue n (2 ^ w)) ≡ n
signed_back w half is twice (pos a) h some =
    let small : a < 2 ^ (w - 1) = omega (arith, h, is) in
    let same : a % 2 ^ w ≡ a = mod-eq_of_lt (omega (arith, h, twice)) in
    let low : nat_lt a (2 ^ (w - 1)) ≡ true = grind (arith, nat_tests) in
    ap (signed_from w) same ∙ ap (λ t. if t then pos a else pos a -ℤ pos (2 ^ w)) low
signed_back w half is twice (negsuc a) h some =
    let same : a % 2 ^ w ≡ a = mod-eq_of_lt (omega (arith, h, twice)) in
    let bits : 2 ^ w - 1 - a % 2 ^ w ≡ 2 ^ w - 1 - a = ap (λ r. 2 ^ w - 1 - r) same in
    let great : 2 ^ (w - 1) ≤ 2 ^ w - 1 - a = omega (arith, h, is, twice) in
    let past : nat_lt (2 ^ w - 1 - a) (2 ^ (w - 1)) ≡ false = grind (arith, nat_tests) in
    let less : a < 2 ^ w = omega (arith, h, twice) in
    let last : pos (2 ^ w - 1 - a) -ℤ pos (2 ^ w) ≡ negsuc a = omega (arith, ints, less) in
    ap (signed_from w) bits ∙ ap (λ t. if t then pos (2 ^ w - 1 - a) else pos (2 ^ w - 1 - a) -ℤ pos (2 ^ w)) past ∙ last

whole_back : (m most : ℕ) → suc most ≡ m → (n : ℤ) → IsWhole most n → pos (residue n m) ≡ n
whole_back m most is (pos a) h = ap pos (mod-eq_of_lt (omega (arith, h, is)))
whole_back m most is (negsuc a) h = absurd h

back : (k : Kind) (n : ℤ) → IsNumber k n → reduced k n ≡ n
back kind.Int n h = signed_back 32 2147483648 refl refl n h (omega arith)
back kind.Unsigned n h = whole_back (2 ^ 32) 4294967295 refl n h
back kind.Long n h = signed_back 64 9223372036854775808 refl refl n h (omega arith)
back kind.UnsignedLong n h = whole_back (2 ^ 64) 18446744073709551615 refl n h

signed_within : (w half b : ℕ) → half ≡ 2 ^ (w - 1) → half + half ≡ 2 ^ w → b < 2 ^ w → IsBelow (half - 1) (signed_from w b)
signed_within w half b is twice below = go (nat_lt b (2 ^ (w - 1))) refl
  where
    from_bits : (z : ℤ) → z ≡ pos b -ℤ pos (2 ^ w) → 2 ^ (w - 1) ≤ b → IsBelow (half - 1) z
    from_bits (pos n) e great = absurd (omega (arith, ints, e, below))
    from_bits (negsuc n) e great = omega (arith, ints, e, great, is, twice)

    go : (t : Bool) → nat_lt b (2 ^ (w - 1)) ≡ t → IsBelow (half - 1) (if t then pos b else pos b -ℤ pos (2 ^ w))
    go true low = let small : b < 2 ^ (w - 1) = grind (arith, nat_tests) in omega (arith, small, is)
    go false high = let great : 2 ^ (w - 1) ≤ b = grind (arith, nat_tests) in from_bits (pos b -ℤ pos (2 ^ w)) refl great

reduced_within : (k : Kind) (n : ℤ) → IsNumber k (reduced k n)
reduced_within kind.Int n = signed_within 32 2147483648 (residue n (2 ^ 32)) refl refl (residue_below n (2 ^ 32) (omega arith))
reduced_within kind.Unsigned n = let below = residue_below n (2 ^ 32) (omega arith) in omega (arith, below)
reduced_within kind.Long n = signed_within 64 9223372036854775808 (residue n (2 ^ 64)) refl refl (residue_below n (2 ^ 64) (omega arith))
reduced_within kind.UnsignedLong n = let below = residue_below n (2 ^ 64) (omega arith) in omega (arith, below)

number_within : (k : Kind) (n : ℤ) → is_number_of k n ≡ true → IsNumber k n
number_within k n is = subst (IsNumber k) (same (reduced k n) n is) (reduced_within k n)
  where
    same : (a b : ℤ) → int_eq a b ≡ true → a ≡ b
    same a b e = grind arith

value_of : (k : Kind) (n : ℤ) → IsNumber k n → IsOf k (in_kind k n)
value_of k n h = subst (λ z. IsOf k (in_kind k z)) (back k n h) (value_in k n)

-- ---- the bytes of a number

own : IsNumeralModel (AllDigits 10) (digits_value 10)
own = numerals_by_value _ tells_digits

-- a digit is no byte that is none
no_digit : (b c : ℕ) → digit_value b < 10 → 10 ≤ digit_value c → (b == c) ≡ false
no_digit b c digit none = go (b == c) refl
  where
    go : (t : Bool) → (b == c) ≡ t → t ≡ false
    go false e = refl
    go true e =
        let same : b ≡ c = grind (arith, nat_tests) in
        absurd (omega (arith, subst (λ x. digit_value x < 10) same digit, none))

digits_all : (q : ℕ → Bool) → ((b : ℕ) → digit_value b < 10 → q b ≡ true) → (ds : List ℕ) → AllDigits 10 ds → list_all q ds ≡ true
digits_all q each [] all = refl
digits_all q each (d ∷ ds) all = ap (λ t. t && list_all q ds) (each d all.0) ∙ digits_all q each ds all.1

-- the bytes of a number are digits, and a `-` may stand first
number_all : (q : ℕ → Bool) → ((b : ℕ) → digit_value b < 10 → q b ≡ true) → q 45 ≡ true → (n : ℤ) → IsBelow 18446744073709551614 n ⊎ IsWhole 18446744073709551615 n
    → list_all q (signed_decimal n) ≡ true
number_all q each minus (pos n) fits = digits_all q each (decimal n) (digits_decimal own n (small fits))
  where
    small : (n ≤ 18446744073709551614) ⊎ (n ≤ 18446744073709551615) → n < 2 ^ 64
    small (inl h) = omega (arith, h)
    small (inr h) = omega (arith, h)
number_all q each minus (negsuc n) (inl h) =
    ap (λ t. t && list_all q (decimal (suc n))) minus ∙ digits_all q each (decimal (suc n)) (digits_decimal own (suc n) (omega (arith, h)))
number_all q each minus (negsuc n) (inr h) = absurd h

fits_any : (k : Kind) (n : ℤ) → IsNumber k n → IsBelow 18446744073709551614 n ⊎ IsWhole 18446744073709551615 n
fits_any kind.Int (pos n) h = inl (omega (arith, h))
fits_any kind.Int (negsuc n) h = inl (omega (arith, h))
fits_any kind.Unsigned (pos n) h = inl (omega (arith, h))
fits_any kind.Unsigned (negsuc n) h = absurd h
fits_any kind.Long (pos n) h = inl (omega (arith, h))
fits_any kind.Long (negsuc n) h = inl (omega (arith, h))
fits_any kind.UnsignedLong n h = inr h

pub value_all : (q : ℕ → Bool) → ((b : ℕ) → digit_value b < 10 → q b ≡ true) → q 45 ≡ true → (v : Value) → IsValue v
    → list_all q (value_text v) ≡ true
value_all q each minus v is = number_all q each minus (number_of v) (fits_any (kind_of v) (number_of v) (number_within (kind_of v) (number_of v) is))

pub value_solid : (v : Value) → IsValue v → list_all (is_solid is_gap) (value_text v) ≡ true
value_solid v is = value_all (is_solid is_gap) each refl v is
  where
    each : (b : ℕ) → digit_value b < 10 → is_solid is_gap b ≡ true
    each b digit =
        ap (λ t. not (t || b == 9 || b == 13)) (no_digit b 32 digit (omega arith))
        ∙ ap (λ t. not (t || b == 13)) (no_digit b 9 digit (omega arith))
        ∙ ap (λ t. not t) (no_digit b 13 digit (omega arith))

pub value_in_line : (v : Value) → IsValue v → list_all is_in_line (value_text v) ≡ true
value_in_line v is = value_all is_in_line (λ b digit. ap not (no_digit b 10 digit (omega arith))) refl v is

some_text : (n : ℤ) → IsBelow 18446744073709551614 n ⊎ IsWhole 18446744073709551615 n → 0 < length (signed_decimal n)
some_text (pos n) (inl h) = decimal_nonempty n (omega (arith, h))
some_text (pos n) (inr h) = decimal_nonempty n (omega (arith, h))
some_text (negsuc n) h = omega arith

pub value_some : (v : Value) → IsValue v → 0 < length (value_text v)
value_some v is = some_text (number_of v) (fits_any (kind_of v) (number_of v) (number_within (kind_of v) (number_of v) is))

-- ---- a number with a sign

signed_written : (most : ℕ) (n : ℤ) → most < 2 ^ 63 → IsBelow most n → signed_of most (signed_decimal n) ≡ Some n
signed_written most (negsuc n) small h = ap below_zero (number_written (most + 1) (suc n) (omega (arith, h)) (omega arith))
signed_written most (pos n) small h = go (decimal n) refl
  where
    fits : n < 2 ^ 64
    fits = omega (arith, small, h)

    go : (w : List ℕ) → decimal n ≡ w → signed_of most w ≡ Some (pos n)
    go [] e = let some : 0 < length {A = ℕ} [] = subst (λ (w : List ℕ). 0 < length w) e (decimal_nonempty n fits) in absurd (omega (arith, some))
    go (b ∷ digits) e =
        let all : AllDigits 10 (b ∷ digits) = subst (AllDigits 10) e (digits_decimal own n fits) in
        ap (λ t. if t then below_zero (written_as (most + 1) digits) else option_map pos (written_as most (b ∷ digits))) (no_digit b 45 all.0 (omega arith))
        ∙ ap (λ w. option_map pos (written_as most w)) (sym e)
        ∙ ap (option_map pos) (number_written most n h (omega arith))

signed_read : (most : ℕ) (word : List ℕ) (n : ℤ) → signed_of most word ≡ Some n → (word ≡ signed_decimal n) × IsBelow most n
signed_read most [] n is = absurd (cc)
signed_read most (b ∷ digits) n is = go (b == 45) refl is
  where
    below : (o : Option ℕ) → written_as (most + 1) digits ≡ o → b ≡ 45 → below_zero o ≡ Some n → ((b ∷ digits) ≡ signed_decimal n) × IsBelow most n
    below None e minus f = absurd (cc)
    below (Some zero) e minus f = absurd (cc)
    below (Some (suc m)) e minus f =
        let number : negsuc m ≡ n = cc in
        let read = number_read (most + 1) digits (suc m) e in
        subst (λ z. ((b ∷ digits) ≡ signed_decimal z) × IsBelow most z) number
        (ap (λ x. x ∷ digits) minus ∙ ap (λ ds. 45 ∷ ds) read.0, omega (arith, read.1))

    whole : (o : Option ℕ) → written_as most (b ∷ digits) ≡ o → option_map pos o ≡ Some n → ((b ∷ digits) ≡ signed_decimal n) × IsBelow most n
    whole None e f = absurd (cc)
    whole (Some m) e f =
        let number : pos m ≡ n = cc in
        subst (λ z. ((b ∷ digits) ≡ signed_decimal z) × IsBelow most z) number (number_read most (b ∷ digits) m e)

    go : (t : Bool) → (b == 45) ≡ t → (if t then below_zero (written_as (most + 1) digits) else option_map pos (written_as most (b ∷ digits))) ≡ Some n
        → ((b ∷ digits) ≡ signed_decimal n) × IsBelow most n
    go true e f = let minus : b ≡ 45 = grind (arith, nat_tests) in below (written_as (most + 1) digits) refl minus f
    go false e f = whole (written_as most (b ∷ digits)) refl f

-- ---- elements

own_written : (v : Value) → IsValue v → element_of (kind_of v) (value_text v) ≡ Some v
own_written (Int n) is = ap (option_map (in_kind kind.Int)) (signed_written 2147483647 n (omega arith) (number_within kind.Int n is))
own_written (Unsigned n) is =
    ap (λ o. option_map (in_kind kind.Unsigned) (option_map pos o)) (number_written 4294967295 n (number_within kind.Unsigned (pos n) is) (omega arith))
own_written (Long n) is = ap (option_map (in_kind kind.Long)) (signed_written 9223372036854775807 n (omega arith) (number_within kind.Long n is))
own_written (UnsignedLong n) is =
    ap (λ o. option_map (in_kind kind.UnsignedLong) (option_map pos o)) (number_written 18446744073709551615 n (number_within kind.UnsignedLong (pos n) is) (omega arith))

-- a value of the kind is read from what it is written as
pub element_written : (k : Kind) (v : Value) → IsOf k v → element_of k (value_text v) ≡ Some v
element_written k v is = subst (λ j. element_of j (value_text v) ≡ Some v) is.0 (own_written v is.1)

-- a word that is read as a value is what the value is written as
pub element_read : (k : Kind) (word : List ℕ) (v : Value) → element_of k word ≡ Some v → IsOf k v × (word ≡ value_text v)
element_read k word v is = by_kind k is
  where
    signed : (j : Kind) (most : ℕ) (o : Option ℤ) → ((n : ℤ) → IsBelow most n → IsNumber j n) → ((n : ℤ) → signed_decimal n ≡ value_text (in_kind j n))
        → signed_of most word ≡ o → option_map (in_kind j) o ≡ Some v → IsOf j v × (word ≡ value_text v)
    signed j most None number text e f = absurd (cc)
    signed j most (Some n) number text e f =
        let same : in_kind j n ≡ v = cc in
        let read = signed_read most word n e in
        subst (λ x. IsOf j x × (word ≡ value_text x)) same (value_of j n (number n read.1), read.0 ∙ text n)

    whole : (j : Kind) (most : ℕ) (o : Option ℕ) → ((n : ℕ) → n ≤ most → IsNumber j (pos n)) → ((n : ℕ) → decimal n ≡ value_text (in_kind j (pos n)))
        → written_as most word ≡ o → option_map (in_kind j) (option_map pos o) ≡ Some v → IsOf j v × (word ≡ value_text v)
    whole j most None number text e f = absurd (cc)
    whole j most (Some n) number text e f =
        let same : in_kind j (pos n) ≡ v = cc in
        let read = number_read most word n e in
        subst (λ x. IsOf j x × (word ≡ value_text x)) same (value_of j (pos n) (number n read.1), read.0 ∙ text n)

    by_kind : (j : Kind) → element_of j word ≡ Some v → IsOf j v × (word ≡ value_text v)
    by_kind kind.Int f = signed kind.Int 2147483647 (signed_of 2147483647 word) (λ n h. h) (λ n. refl) refl f
    by_kind kind.Unsigned f = whole kind.Unsigned 4294967295 (written_as 4294967295 word) (λ n h. h) (λ n. refl) refl f
    by_kind kind.Long f = signed kind.Long 9223372036854775807 (signed_of 9223372036854775807 word) (λ n h. h) (λ n. refl) refl f
    by_kind kind.UnsignedLong f = whole kind.UnsignedLong 18446744073709551615 (written_as 18446744073709551615 word) (λ n h. h) (λ n. refl) refl f

-- the same of what code answers
pub written : (k : Kind) (word : List ℕ) (o : Option Value) → o ≡ element_of k word → IfSome o (λ v. IsOf k v × (word ≡ value_text v))
written k word None is = tt
written k word (Some v) is = element_read k word v (sym is)

pub read : (k : Kind) (word : List ℕ) (o : Option Value) → o ≡ element_of k word → (v : Value) → IsOf k v → word ≡ value_text v → o ≡ Some v
read k word o is v of_k text = is ∙ ap (element_of k) text ∙ element_written k v of_k
