-- The laws of the number that a word writes.
use Rattle.std.proofs.Common.{◌≡◌, ◌∙◌, ap, sym, refl, ℕ, ◌<◌, ◌≤◌, ◌^◌, Bool, true, false, ◌&&◌, List, decimal, bytes_eq, nat_le, if◌then◌else◌, Option, Some, None, IfSome, arith}
use Rattle.std.proofs.lemmas.Bool.{leb-true}
use Rattle.std.proofs.lemmas.Bool.Decides.{nat_tests}
use Rattle.std.proofs.lemmas.Fmt.{digits_value-decimal}
use Rattle.std.proofs.lemmas.Slice.Eq.{bytes_eq-Decides}
use Rattle.std.specs.Str.Parse.{digits_value}
use Rattle.species_decimal.specs.Number.{number_of}
use Rattle.species_decimal.proofs.Digits.{own}

abbrev chosen : ℕ → ℕ → List ℕ → Option ℕ
chosen most n word = if nat_le n most && bytes_eq (decimal n) word then Some n else None

chosen_is : (most n : ℕ) → n ≤ most → chosen most n (decimal n) ≡ Some n
chosen_is most n within =
    let same : bytes_eq (decimal n) (decimal n) ≡ true = (bytes_eq-Decides (decimal n) (decimal n)).1 refl in
    let low : nat_le n most ≡ true = grind (arith, nat_tests) in
    ap (λ b. if b && bytes_eq (decimal n) (decimal n) then Some n else None) low ∙ ap (λ b. if b then Some n else None) same

-- a number is read from what it is written as
pub number_written : (most n : ℕ) → n ≤ most → most < 2 ^ 64 → number_of most (decimal n) ≡ Some n
number_written most n within small =
    ap (λ m. chosen most m (decimal n)) (digits_value-decimal own n (omega arith)) ∙ chosen_is most n within

-- a word that is read as a number is what the number is written as
pub number_read : (most : ℕ) (word : List ℕ) (n : ℕ) → number_of most word ≡ Some n → (word ≡ decimal n) × (n ≤ most)
number_read most word n read = go (nat_le m most) (bytes_eq (decimal m) word) refl refl read
  where
    m : ℕ
    m = digits_value 10 word

    go : (a b : Bool) → nat_le m most ≡ a → bytes_eq (decimal m) word ≡ b → (if a && b then Some m else None) ≡ Some n
        → (word ≡ decimal n) × (n ≤ most)
    go true true low same is =
        let e : m ≡ n = cc in
        (sym ((bytes_eq-Decides (decimal m) word).0 same) ∙ ap decimal e, omega (arith, leb-true _ _ low, e))
    go true false low same is = absurd (cc)
    go false b low same is = absurd (cc)

pub value_of : (o : Option ℕ) (word : List ℕ) (most : ℕ) → most < 2 ^ 64
    → IfSome o (λ n. (word ≡ decimal n) × (n ≤ most)) → ((n : ℕ) → n ≤ most → word ≡ decimal n → o ≡ Some n)
    → o ≡ number_of most word
value_of (Some n) word most small is every =
    sym (ap (number_of most) is.0 ∙ number_written most n is.1 small)
value_of None word most small is every = go (number_of most word) refl
  where
    go : (o : Option ℕ) → number_of most word ≡ o → None ≡ o
    go None e = refl
    go (Some n) e = let r = number_read most word n e in every n r.1 r.0
