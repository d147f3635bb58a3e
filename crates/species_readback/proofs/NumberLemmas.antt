-- The text of a literal is cut as one token, and has its value: four kinds, each with its suffix.
use Rattle.std.proofs.Common.{◌≡◌, ◌∙◌, ap, sym, refl, subst, ℕ, ◌+◌, ◌*◌, ◌-◌, ◌<◌, ◌≤◌, ◌^◌, Bool, true, false, List, [], ◌∷◌, ◌++◌, length, take, drop, get_or, Some, None, arith, rules, append-nil, nat_eq, ◌⊎◌, inl, inr, pos}
use Rattle.std.proofs.lemmas.Bool.{ltb-true, lt-ltb, ne_eqb, eqb-true, and_parts, and_from, and_right, or_cases, cases_eq}
use Rattle.std.proofs.Math.Seq.{drop-append_seam, take-append_seam}
use Rattle.std.proofs.lemmas.Fmt.{digits_decimal, decimal_nonempty, first_decimal, decimal_digit, decimal_is_IsNumeral}
use Rattle.std.proofs.lemmas.Str.Parse.{IsNumeralModel, numerals_by_fold}
use Rattle.std.specs.Prelude.{◌||◌, ◌&&◌, nat_lt, if◌then◌else◌, codes, decimal, option_and_then}
use Rattle.std.specs.List.{list_all}
use Rattle.std.specs.Cmp.Lexicographic.{pointwise}
use Rattle.std.specs.Str.Parse.{digits_value}
use Rattle.species_ast.specs.Operators.{in_kind}
use Rattle.species_ast.specs.declared.tree.Kind.{Kind}
use Rattle.species_ast.specs.declared.tree.Kind.TheVariants as of_kind
use Rattle.species_ast.specs.declared.tree.Value.{Value}
use Rattle.species_ast.specs.declared.tree.Value.TheVariants as value
use Rattle.species_ast.specs.declared.token.TokenKind.TheVariants as kind
use Rattle.species_ast.specs.Text.Characters.{is_digit, is_hex_digit, is_word, begins, run_of}
use Rattle.species_ast.specs.Text.Numbers.{literal_of, literal_in, is_hex, is_decimal, decimal_value, hex_value, with_digits, asked_kind, numbers_from_0}
use Rattle.species_readback.specs.Spelt.{is_int_number}
use Rattle.species_readback.proofs.TokenLemmas.{Stands}
use Rattle.species_readback.proofs.WordLemmas.{Ends, continues, digit_within, run_word, stands_number}
use Rattle.species_readback.proofs.ListLemmas.{or_true_right, all_append}

-- ---- decimal numbers

abbrev value_on : ℕ → List ℕ → ℕ
value_on n [] = n
value_on n (c ∷ cs) = value_on (10 * n + (c - 48)) cs

own : IsNumeralModel (λ ds. list_all is_digit ds ≡ true) (value_on 0)
own = numerals_by_fold _ (search rules) value_on (search rules)

-- digits with no zero in front
abbrev pub Plain : List ℕ → Type 0
Plain ds = (list_all is_digit ds ≡ true) × (0 < length ds) × ((get_or ds 0 0 ≡ 48 → ⊥) ⊎ (length ds ≡ 1))

pub decimal_plain : (n : ℕ) → n < 2 ^ 64 → Plain (decimal n)
decimal_plain n lt = (digits_decimal own n lt, decimal_nonempty n lt, go (cases_eq n 0))
  where
    go : (n ≡ 0) ⊎ (n ≡ 0 → ⊥) → (get_or (decimal n) 0 0 ≡ 48 → ⊥) ⊎ (length (decimal n) ≡ 1)
    go (inl z) = inr (ap (λ k. length (decimal k)) z ∙ ap length (decimal_digit 0 (omega arith)))
    go (inr s) = inl (λ e. let some : 0 < n = omega (arith, s) in let f = first_decimal n some lt in omega (arith, f, e))

plain_decimal : (ds : List ℕ) → Plain ds → is_decimal ds ≡ true
plain_decimal [] p = let x : ⊥ = omega (arith, p.1) in absurd x
plain_decimal (d ∷ ds) (a, s, inl f) = rw (lt-ltb 0 (length (d ∷ ds)) s, ne_eqb 48 d (λ e. f (sym e))) refl
plain_decimal (d ∷ ds) (a, s, inr f) = rw (lt-ltb 0 (length (d ∷ ds)) s, f) (or_true_right _)

pub value_is : (n : ℕ) → n < 2 ^ 64 → digits_value 10 (decimal n) ≡ n
value_is n lt = (decimal_is_IsNumeral n lt).1

-- ---- digits and a suffix are no hexadecimal number

-- a digit, or a letter of a suffix
abbrev pub is_run : ℕ → Bool
is_run b = is_digit b || (nat_eq b 117 || nat_eq b 108)

run_not : (x k : ℕ) → is_run x ≡ true → 57 < k → (k ≡ 117 → ⊥) → (k ≡ 108 → ⊥) → nat_eq k x ≡ false
run_not x k h lt u l = go (or_cases (is_digit x) (nat_eq x 117 || nat_eq x 108) h)
  where
    suffix : (nat_eq x 117 ≡ true) ⊎ (nat_eq x 108 ≡ true) → nat_eq k x ≡ false
    suffix (inl a) = ne_eqb k x (λ e. u (e ∙ eqb-true x 117 a))
    suffix (inr a) = ne_eqb k x (λ e. l (e ∙ eqb-true x 108 a))

    go : (is_digit x ≡ true) ⊎ ((nat_eq x 117 || nat_eq x 108) ≡ true) → nat_eq k x ≡ false
    go (inl a) = ne_eqb k x (λ e. omega (arith, e, lt, (digit_within x a).1))
    go (inr a) = suffix (or_cases (nat_eq x 117) (nat_eq x 108) a)

no_x : (k : ℕ) (run : List ℕ) → list_all is_run run ≡ true → 57 < k → (k ≡ 117 → ⊥) → (k ≡ 108 → ⊥) → begins (48 ∷ k ∷ []) run ≡ false
no_x k [] h lt u l = refl
no_x k (a ∷ []) h lt u l = and_right (nat_eq 48 a) false refl
no_x k (a ∷ b ∷ bs) h lt u l =
    let c = and_parts (is_run b) (list_all is_run bs) (and_parts (is_run a) (is_run b && list_all is_run bs) h).1 in
    ap (λ t. nat_eq 48 a && (t && pointwise nat_eq [] (take 0 bs))) (run_not b k c.0 lt u l) ∙ and_right (nat_eq 48 a) false refl

not_hex : (run : List ℕ) → list_all is_run run ≡ true → is_hex run ≡ false
not_hex run h =
    rw (no_x 120 run h (omega arith) (λ e. omega (arith, e)) (λ e. omega (arith, e)), no_x 88 run h (omega arith) (λ e. omega (arith, e)) (λ e. omega (arith, e))) refl

pub digits_run : (ds : List ℕ) → list_all is_digit ds ≡ true → list_all is_run ds ≡ true
digits_run [] h = refl
digits_run (a ∷ ds) h =
    let k = and_parts (is_digit a) (list_all is_digit ds) h in
    and_from (is_run a) (list_all is_run ds) (ap (λ c. c || (nat_eq a 117 || nat_eq a 108)) k.0) (digits_run ds k.1)

pub run_words : (ds : List ℕ) → list_all is_run ds ≡ true → list_all is_word ds ≡ true
run_words [] h = refl
run_words (a ∷ ds) h =
    let k = and_parts (is_run a) (list_all is_run ds) h in
    and_from (is_word a) (list_all is_word ds) (go (or_cases (is_digit a) (nat_eq a 117 || nat_eq a 108) k.0)) (run_words ds k.1)
  where
    suffix : (nat_eq a 117 ≡ true) ⊎ (nat_eq a 108 ≡ true) → is_word a ≡ true
    suffix (inl e) = ap is_word (eqb-true a 117 e)
    suffix (inr e) = ap is_word (eqb-true a 108 e)

    go : (is_digit a ≡ true) ⊎ ((nat_eq a 117 || nat_eq a 108) ≡ true) → is_word a ≡ true
    go (inl d) = rw d (or_true_right _)
    go (inr e) = suffix (or_cases (nat_eq a 117) (nat_eq a 108) e)

-- ---- the value

-- A suffix that asks for a kind, and that no digit begins.
pub record IsSuffix (suffix : List ℕ) (k : Kind) : Type 0 where
  pub runs : list_all is_run suffix ≡ true
  pub ends : Ends is_digit suffix
  pub asks : asked_kind suffix ≡ Some k

pub literal_is : (ds suffix : List ℕ) (k : Kind) (n : ℕ) → Plain ds → IsSuffix suffix k → digits_value 10 ds ≡ n → nat_lt n (numbers_from_0 k) ≡ true
    → literal_of (ds ++ suffix) ≡ Some (in_kind k (pos n))
unfolding literal_of
literal_is ds suffix k n p s v lt =
    let run = ds ++ suffix in
    let len : run_of is_digit run ≡ length ds = run_word is_digit ds suffix p.0 s.ends in
    ap (λ c. if c then with_digits is_hex_digit hex_value (drop 2 run) else with_digits is_digit decimal_value run) (not_hex run (all_append is_run ds suffix (digits_run ds p.0) s.runs))
    ∙ ap (λ m. decimal_value (take m run) (drop m run)) len
    ∙ ap (λ t. decimal_value t (drop (length ds) run)) (take-append_seam ds suffix)
    ∙ ap (decimal_value ds) (drop-append_seam ds suffix)
    ∙ ap (λ c. if c then option_and_then (λ k. literal_in k (digits_value 10 ds)) (asked_kind suffix) else None) (plain_decimal ds p)
    ∙ ap (option_and_then (λ k. literal_in k (digits_value 10 ds))) s.asks
    ∙ ap (literal_in k) v
    ∙ ap (λ c. if c then Some (in_kind k (pos n)) else None) lt

-- ---- number tokens

number_stands : (h : Bool) (ds suffix rest : List ℕ) (v : Value) → Plain ds → list_all is_run suffix ≡ true → literal_of (ds ++ suffix) ≡ Some v → Ends continues rest
    → Stands h (ds ++ suffix) (kind.Number v) rest
number_stands h [] suffix rest v p m l e = let x : ⊥ = omega (arith, p.1) in absurd x
number_stands h (d ∷ ds) suffix rest v p m l e =
    let k = and_parts (is_digit d) (list_all is_digit ds) p.0 in
    stands_number h d (ds ++ suffix) rest v k.0 (run_words (ds ++ suffix) (all_append is_run ds suffix (digits_run ds k.1) m)) l e

-- a number of a kind has fewer than 65 bits
pub small_number : (k : Kind) (n : ℕ) → nat_lt n (numbers_from_0 k) ≡ true → n < 2 ^ 64
small_number of_kind.Int n h = omega (arith, ltb-true n (2 ^ 31) h)
small_number of_kind.Unsigned n h = omega (arith, ltb-true n (2 ^ 32) h)
small_number of_kind.Long n h = omega (arith, ltb-true n (2 ^ 63) h)
small_number of_kind.UnsignedLong n h = omega (arith, ltb-true n (2 ^ 64) h)

pub stands_literal : (h : Bool) (suffix : List ℕ) (k : Kind) (n : ℕ) (rest : List ℕ) → IsSuffix suffix k → nat_lt n (numbers_from_0 k) ≡ true → Ends continues rest
    → Stands h (decimal n ++ suffix) (kind.Number (in_kind k (pos n))) rest
stands_literal h suffix k n rest s lt e =
    let small = small_number k n lt in
    let p = decimal_plain n small in
    number_stands h (decimal n) suffix rest _ p s.runs (literal_is (decimal n) suffix k n p s (value_is n small) lt) e

pub no_suffix : IsSuffix [] of_kind.Int
no_suffix = record { runs = refl; ends = tt; asks = refl }

pub unsigned_suffix : IsSuffix (codes "u") of_kind.Unsigned
unsigned_suffix = record { runs = refl; ends = refl; asks = refl }

pub long_suffix : IsSuffix (codes "ll") of_kind.Long
long_suffix = record { runs = refl; ends = refl; asks = refl }

pub unsigned_long_suffix : IsSuffix (codes "ull") of_kind.UnsignedLong
unsigned_long_suffix = record { runs = refl; ends = refl; asks = refl }

pub within_int : (n : ℕ) → is_int_number n ≡ true → n ≤ 2147483647
within_int n h = omega (arith, ltb-true n 2147483648 h)

pub int_within : (n : ℕ) → n ≤ 2147483647 → is_int_number n ≡ true
int_within n le = lt-ltb n 2147483648 (omega (arith, le))

pub stands_int : (h : Bool) (n : ℕ) (rest : List ℕ) → is_int_number n ≡ true → Ends continues rest → Stands h (decimal n) (kind.Number (value.Int (pos n))) rest
stands_int h n rest lt e =
    subst (λ t. Stands h t (kind.Number (value.Int (pos n))) rest) (append-nil (decimal n)) (stands_literal h [] of_kind.Int n rest no_suffix lt e)

-- the first byte of a number
pub decimal_first : (n : ℕ) → n < 2 ^ 64 → (b : ℕ) × (bs : List ℕ) × (decimal n ≡ b ∷ bs) × (is_digit b ≡ true)
decimal_first n lt = go (decimal n) (decimal_plain n lt)
  where
    go : (ds : List ℕ) → Plain ds → (b : ℕ) × (bs : List ℕ) × (ds ≡ b ∷ bs) × (is_digit b ≡ true)
    go [] p = let x : ⊥ = omega (arith, p.1) in absurd x
    go (d ∷ ds) p = (d, ds, refl, (and_parts (is_digit d) (list_all is_digit ds) p.0).0)
