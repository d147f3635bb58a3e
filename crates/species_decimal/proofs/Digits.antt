-- Lemmas on decimal digits.
use Rattle.std.proofs.Common.{◌≡◌, ◌∙◌, ap, sym, subst, refl, ℕ, zero, suc, ◌+◌, ◌*◌, ◌<◌, ◌≤◌, ◌^◌, List, length, take, get_or, decimal, Option, Some, None, IfSome, ◌∷◌, [], arith}
use Rattle.std.specs.Char.{digit_value}
use Rattle.std.specs.Option.{SomeIff}
use Rattle.std.specs.Str.Parse.{AllDigits, digits_value}
use Rattle.std.proofs.lemmas.Fmt.{decimal-digits_value, digits_value-decimal, digits_decimal, decimal_nonempty, first_decimal, decimal_digit}
use Rattle.std.proofs.lemmas.Int.Digits.{digits_value_more}
use Rattle.std.proofs.lemmas.Str.Parse.{IsNumeralModel, numerals_by_value, tells_digits, digits_value-take-le}

pub own : IsNumeralModel (AllDigits 10) (digits_value 10)
own = numerals_by_value _ tells_digits

all_at : (i : ℕ) (ds : List ℕ) → AllDigits 10 ds → i < length ds → digit_value (get_or ds i 0) < 10
all_at i [] all lt = absurd (omega arith)
all_at zero (d ∷ ds) all lt = all.0
all_at (suc i) (d ∷ ds) all lt = all_at i ds all.1 (omega arith)

pub too_large : (i n most : ℕ) (ds : List ℕ) → i < length ds → n ≡ digits_value 10 (take i ds)
    → most < n * 10 + digit_value (get_or ds i 0) → digits_value 10 ds ≤ most → ⊥
too_large i n most ds lt is large within =
    omega (arith, digits_value_more 10 ds i lt, digits_value-take-le 10 ds (i + 1) (omega arith))

-- there is a byte, and a 0 at the front is the only byte
abbrev pub BeginsWell : List ℕ → Type 0
BeginsWell ds = (0 < length ds) × (get_or ds 0 0 ≡ 48 → length ds ≡ 1)

begins_well : (n : ℕ) → n < 2 ^ 64 → BeginsWell (decimal n)
begins_well zero small = rw (decimal_digit 0 (omega arith)) (omega arith, λ _. refl)
begins_well (suc n) small =
    (decimal_nonempty (suc n) small, λ zero_first. absurd (omega (arith, first_decimal (suc n) (omega arith) small)))

-- the number that the digits write is written by them, and by no others
pub written : (o : Option ℕ) (ds : List ℕ) (most : ℕ) → most < 2 ^ 64 → BeginsWell ds
    → SomeIff o (AllDigits 10 ds × (digits_value 10 ds ≤ most)) (digits_value 10 ds)
    → IfSome o (λ n. (ds ≡ decimal n) × (n ≤ most))
written None ds most small well is = tt
written (Some n) ds most small well ((all, within), value) =
    (sym (decimal-digits_value own ds all well.0 well.1 (omega arith)) ∙ ap decimal (sym value), omega arith)

pub read : (o : Option ℕ) (ds : List ℕ) (most : ℕ) → most < 2 ^ 64
    → SomeIff o (AllDigits 10 ds × (digits_value 10 ds ≤ most)) (digits_value 10 ds)
    → (n : ℕ) → n ≤ most → ds ≡ decimal n → o ≡ Some n
read None ds most small is n within text =
    let fits : n < 2 ^ 64 = omega arith in
    absurd (is (subst (AllDigits 10) (sym text) (digits_decimal own n fits), rw text (omega (arith, digits_value-decimal own n fits))))
read (Some m) ds most small is n within text =
    ap Some (is.1 ∙ ap (digits_value 10) text ∙ digits_value-decimal own n (omega arith))

pub not_read : (ds : List ℕ) (n : ℕ) → n < 2 ^ 64 → (BeginsWell ds → ⊥) → ds ≡ decimal n → ⊥
not_read ds n small ill text = ill (subst BeginsWell (sym text) (begins_well n small))

pub not_digits : (i : ℕ) (ds : List ℕ) → i < length ds → (digit_value (get_or ds i 0) < 10 → ⊥) → AllDigits 10 ds → ⊥
not_digits i ds lt other all = other (all_at i ds all lt)
