-- The text of pieces is cut into their parts.
use Rattle.std.proofs.Common.{◌≡◌, ◌∙◌, ap, sym, refl, subst, ℕ, zero, suc, ◌+◌, ◌<◌, ◌≤◌, List, [], ◌∷◌, ◌++◌, length, take, drop, Option, Some, None, Bool, true, false, arith, length-append}
use Rattle.std.specs.Prelude.{if◌then◌else◌, nat_eq, nat_le, nat_lt, ◌&&◌, ◌^◌, ◌/◌, ◌%◌, not, option_and_then, option_map, codes, decimal, take_while, bytes_eq}
use Rattle.std.specs.List.{list_all}
use Rattle.std.specs.Cmp.Lexicographic.{pointwise}
use Rattle.std.specs.Str.Parse.{digits_value}
use Rattle.std.proofs.lemmas.Bool.{le-leb}
use Rattle.std.proofs.lemmas.Fmt.{decimal_by_steps_wide, decimal_is_IsNumeral_wide}
use Rattle.std.proofs.lemmas.List.Sums.{take_while-cons}
use Rattle.species_ast.specs.Names.{is_letter, is_digit, is_word, is_name, is_keyword}
use Rattle.species_ast.specs.Text.Characters.{is_blank, begins, line_len}
use Rattle.species_ast.specs.Text.Comments.{closed_len}
use Rattle.species_notation.specs.declared.parts.Part.{Part}
use Rattle.species_notation.specs.declared.parts.Part.TheVariants as part
use Rattle.species_notation.specs.Parts.{most, gap_front, is_sign, Start, start_of, word_of_run, number_of_run, run_front, taken_in, taken_at, with_part, and_parts, parts_at, parts_of, Piece, Solid, Space, text_of, solids}
use Rattle.species_notation.proofs.Combining.{same_bytes}
use Rattle.species_notation.proofs.FormSums.{and_both}

-- ---- runs of bytes

abbrev pub Stops : (ℕ → Bool) → List ℕ → Type 0
Stops p [] = Unit {0}
Stops p (b ∷ rest) = p b ≡ false

run_full : (p : ℕ → Bool) (w rest : List ℕ) → list_all p w ≡ true → Stops p rest → take_while p (w ++ rest) ≡ w
run_full p [] [] h s = refl
run_full p [] (b ∷ rest) h s = take_while-cons p b rest ∙ ap (λ t. if t then b ∷ take_while p rest else []) s
run_full p (b ∷ w) rest h s =
    let a = and_both (p b) (list_all p w) h in
    take_while-cons p b (w ++ rest) ∙ ap (λ t. if t then b ∷ take_while p (w ++ rest) else []) a.0 ∙ ap (λ l. b ∷ l) (run_full p w rest a.1 s)

take_front : (w rest : List ℕ) → take (length w) (w ++ rest) ≡ w
take_front [] rest = refl
take_front (b ∷ w) rest = ap (λ l. b ∷ l) (take_front w rest)

drop_front : (w rest : List ℕ) → drop (length w) (w ++ rest) ≡ rest
drop_front [] rest = refl
drop_front (b ∷ w) rest = drop_front w rest

run_front_is : (b : ℕ) (v rest : List ℕ) → list_all is_word v ≡ true → Stops is_word rest → run_front b (v ++ rest) ≡ b ∷ v
run_front_is b v rest h s = ap (λ l. b ∷ take (length l) (v ++ rest)) (run_full is_word v rest h s) ∙ ap (λ l. b ∷ l) (take_front v rest)

-- ---- what begins with a letter or a digit is no gap

high_no_blank : (b : ℕ) → 48 ≤ b → is_blank b ≡ false
high_no_blank b h = grind (arith, h)

high_no_slash : (b : ℕ) → 48 ≤ b → nat_eq 47 b ≡ false
high_no_slash b h = grind (arith, h)

gap_zero : (b : ℕ) (bytes : List ℕ) → 48 ≤ b → gap_front b bytes ≡ 0
gap_zero b bytes h =
    ap (λ t. if t then 1 else if begins (codes "//") (b ∷ bytes) then suc (line_len bytes) else closed_len (b ∷ bytes)) (high_no_blank b h)
    ∙ ap (λ t. if t && pointwise nat_eq (47 ∷ []) (take 1 bytes) then suc (line_len bytes) else closed_len (b ∷ bytes)) (high_no_slash b h)
    ∙ closed_zero b bytes h
  where
    closed_zero : (b : ℕ) (bytes : List ℕ) → 48 ≤ b → closed_len (b ∷ bytes) ≡ 0
    closed_zero b bytes h = rw (high_no_slash b h) refl

letter_high : (b : ℕ) → is_letter b ≡ true → 48 ≤ b
letter_high b h = grind (arith, h)

digit_high : (b : ℕ) → is_digit b ≡ true → 48 ≤ b
digit_high b h = grind (arith, h)

digit_no_letter : (b : ℕ) → is_digit b ≡ true → is_letter b ≡ false
digit_no_letter b h = grind (arith, h)

digit_word : (b : ℕ) → is_digit b ≡ true → is_word b ≡ true
digit_word b h = grind (arith, h)

abbrev other_start : ℕ → List ℕ → Start
other_start b bytes = if begins (codes "->") (b ∷ bytes) then Start.Arrow else if is_sign b then Start.Sign else Start.Wrong

starts_letter : (b : ℕ) (bytes : List ℕ) → is_letter b ≡ true → start_of b bytes ≡ Start.Letter
starts_letter b bytes h =
    ap (λ n. if nat_lt 0 n then Start.Gap else if is_letter b then Start.Letter else if is_digit b then Start.Digit else other_start b bytes) (gap_zero b bytes (letter_high b h))
    ∙ ap (λ t. if t then Start.Letter else if is_digit b then Start.Digit else other_start b bytes) h

starts_digit : (b : ℕ) (bytes : List ℕ) → is_digit b ≡ true → start_of b bytes ≡ Start.Digit
starts_digit b bytes h =
    ap (λ n. if nat_lt 0 n then Start.Gap else if is_letter b then Start.Letter else if is_digit b then Start.Digit else other_start b bytes) (gap_zero b bytes (digit_high b h))
    ∙ ap (λ t. if t then Start.Letter else if is_digit b then Start.Digit else other_start b bytes) (digit_no_letter b h)
    ∙ ap (λ t. if t then Start.Digit else other_start b bytes) h

-- ---- one part at the front

not_true : (b : Bool) → not b ≡ true → b ≡ false
not_true true h = cc
not_true false h = refl

taken_word : (b : ℕ) (v rest : List ℕ) → is_name (b ∷ v) ≡ true → Stops is_word rest → taken_at b (v ++ rest) ≡ Some (suc (length v), Some (part.Name (b ∷ v)))
unfolding taken_at
taken_word b v rest h s =
    let first = and_both (is_letter b) (list_all is_word v && not (is_keyword (b ∷ v))) h in
    let second = and_both (list_all is_word v) (not (is_keyword (b ∷ v))) first.1 in
    ap (λ z. taken_in z b (v ++ rest)) (starts_letter b (v ++ rest) first.0)
    ∙ ap word_of_run (run_front_is b v rest second.0 s)
    ∙ ap (λ t. if t then None else Some (suc (length v), Some (part.Name (b ∷ v)))) (not_true (is_keyword (b ∷ v)) second.1)

-- what `decimal` writes
record Written (n : ℕ) (ds : List ℕ) : Type 0 where
  front : ℕ
  tail : List ℕ
  is : ds ≡ front ∷ tail
  digits : list_all is_digit ds ≡ true

small_digit : (n : ℕ) → n < 10 → is_digit (48 + n) ≡ true
small_digit n h = grind (arith, h)

all_append : (p : ℕ → Bool) (xs : List ℕ) (d : ℕ) → list_all p xs ≡ true → p d ≡ true → list_all p (xs ++ d ∷ []) ≡ true
all_append p [] d h k = ap (λ b. b && true) k
all_append p (x ∷ xs) d h k =
    let a = and_both (p x) (list_all p xs) h in
    ap (λ b. b && list_all p (xs ++ d ∷ [])) a.0 ∙ all_append p xs d a.1 k

written_one : (n : ℕ) → n < 10 → Written n ((48 + n) ∷ [])
written_one n lt = record {
  front = 48 + n;
  tail = [];
  is = refl;
  digits = ap (λ b. b && true) (small_digit n lt);
}

written_more : (n : ℕ) (ds : List ℕ) → 10 ≤ n → Written (n / 10) ds → Written n (ds ++ ((48 + n % 10) ∷ []))
written_more n ds le w =
    let last : n % 10 < 10 = omega arith in
    record {
      front = w.front;
      tail = w.tail ++ ((48 + n % 10) ∷ []);
      is = ap (λ l. l ++ ((48 + n % 10) ∷ [])) w.is;
      digits = all_append is_digit ds (48 + n % 10) w.digits (small_digit (n % 10) last);
    }

small_enough : (n : ℕ) → n ≤ most → n < 10 ^ 64
small_enough n h = omega (arith, h)

written_decimal : (n : ℕ) → n ≤ most → Written n (decimal n)
written_decimal n h = decimal_by_steps_wide Written written_one written_more n (small_enough n h)

digits_words : (ds : List ℕ) → list_all is_digit ds ≡ true → list_all is_word ds ≡ true
digits_words [] h = refl
digits_words (d ∷ ds) h =
    let a = and_both (is_digit d) (list_all is_digit ds) h in
    ap (λ b. b && list_all is_word ds) (digit_word d a.0) ∙ digits_words ds a.1

taken_digits : (n b : ℕ) (v rest : List ℕ) → n ≤ most → list_all is_digit (b ∷ v) ≡ true → decimal n ≡ b ∷ v → digits_value 10 (b ∷ v) ≡ n → Stops is_word rest
    → taken_at b (v ++ rest) ≡ Some (suc (length v), Some (part.Number n))
unfolding taken_at
taken_digits n b v rest h ds written value s =
    let a = and_both (is_digit b) (list_all is_digit v) ds in
    ap (λ z. taken_in z b (v ++ rest)) (starts_digit b (v ++ rest) a.0)
    ∙ ap number_of_run (run_front_is b v rest (digits_words v a.1) s)
    ∙ ap (λ k. if nat_le k most && bytes_eq (decimal k) (b ∷ v) then Some (suc (length v), Some (part.Number k)) else None) value
    ∙ ap (λ t. if t && bytes_eq (decimal n) (b ∷ v) then Some (suc (length v), Some (part.Number n)) else None) (le-leb n most h)
    ∙ ap (λ t. if t then Some (suc (length v), Some (part.Number n)) else None) (ap (λ l. bytes_eq l (b ∷ v)) written ∙ same_bytes (b ∷ v))

pub data IsSign : ℕ → Type 0 where
  paren : IsSign 40
  close : IsSign 41
  star : IsSign 42
  plus : IsSign 43
  comma : IsSign 44
  minus : IsSign 45
  colon : IsSign 58
  bracket : IsSign 91
  shut : IsSign 93
  caret : IsSign 94
  bar : IsSign 124

-- the first byte is not the `>` of an arrow
abbrev pub NoTip : List ℕ → Type 0
NoTip bytes = Stops (λ b. nat_eq 62 b) bytes

taken_minus : (rest : List ℕ) → NoTip rest → taken_at 45 rest ≡ Some (1, Some (part.Sign 45))
unfolding taken_at
taken_minus [] s = refl
taken_minus (b ∷ rest) s = ap (λ t. taken_in (if t && pointwise nat_eq [] (take 0 rest) then Start.Arrow else Start.Sign) 45 (b ∷ rest)) s

-- ---- one step

step : (m b : ℕ) (v rest : List ℕ) (o : Option Part) → taken_at b (v ++ rest) ≡ Some (suc (length v), o) → parts_at (suc m) (b ∷ (v ++ rest)) ≡ option_map (with_part o) (parts_at m rest)
step m b v rest o h = ap (option_and_then (and_parts (parts_at m) (b ∷ (v ++ rest)))) h ∙ ap (λ l. option_map (with_part o) (parts_at m l)) (drop_front v rest)

sign_step : (m n : ℕ) (rest : List ℕ) → IsSign n → NoTip rest → parts_at (suc m) ((n ∷ []) ++ rest) ≡ option_map (with_part (Some (part.Sign n))) (parts_at m rest)
unfolding taken_at
sign_step m n rest IsSign.paren s = refl
sign_step m n rest IsSign.close s = refl
sign_step m n rest IsSign.star s = refl
sign_step m n rest IsSign.plus s = refl
sign_step m n rest IsSign.comma s = refl
sign_step m n rest IsSign.minus s = step m 45 [] rest (Some (part.Sign 45)) (taken_minus rest s)
sign_step m n rest IsSign.colon s = refl
sign_step m n rest IsSign.bracket s = refl
sign_step m n rest IsSign.shut s = refl
sign_step m n rest IsSign.caret s = refl
sign_step m n rest IsSign.bar s = refl

arrow_step : (m : ℕ) (rest : List ℕ) → parts_at (suc m) (codes "->" ++ rest) ≡ option_map (with_part (Some part.Arrow)) (parts_at m rest)
unfolding taken_at
arrow_step m rest = refl

-- ---- pieces

abbrev pub PartFine : Part → Type 0
PartFine (part.Name w) = is_name w ≡ true
PartFine (part.Number n) = n ≤ most
PartFine (part.Sign n) = IsSign n
PartFine part.Arrow = Unit {0}

-- nothing goes on with a name or a number
abbrev pub begins_apart : List Piece → Bool
begins_apart [] = true
begins_apart (Space ∷ ps) = true
begins_apart (Solid (part.Sign n) ∷ ps) = true
begins_apart (Solid part.Arrow ∷ ps) = true
begins_apart (Solid (part.Name w) ∷ ps) = false
begins_apart (Solid (part.Number n) ∷ ps) = false

abbrev pub ends_open : Part → Bool
ends_open (part.Name w) = true
ends_open (part.Number n) = true
ends_open (part.Sign n) = false
ends_open part.Arrow = false

abbrev pub PieceFine : Piece → List Piece → Type 0
PieceFine Space ps = Unit {0}
PieceFine (Solid p) ps = PartFine p × (ends_open p ≡ true → begins_apart ps ≡ true)

abbrev pub PiecesFine : List Piece → Type 0
PiecesFine [] = Unit {0}
PiecesFine (p ∷ ps) = PieceFine p ps × PiecesFine ps

sign_apart : (n : ℕ) (rest : List ℕ) → IsSign n → Stops is_word (n ∷ rest) × NoTip (n ∷ rest)
sign_apart n rest IsSign.paren = (refl, refl)
sign_apart n rest IsSign.close = (refl, refl)
sign_apart n rest IsSign.star = (refl, refl)
sign_apart n rest IsSign.plus = (refl, refl)
sign_apart n rest IsSign.comma = (refl, refl)
sign_apart n rest IsSign.minus = (refl, refl)
sign_apart n rest IsSign.colon = (refl, refl)
sign_apart n rest IsSign.bracket = (refl, refl)
sign_apart n rest IsSign.shut = (refl, refl)
sign_apart n rest IsSign.caret = (refl, refl)
sign_apart n rest IsSign.bar = (refl, refl)

stops_word : (ps : List Piece) → PiecesFine ps → begins_apart ps ≡ true → Stops is_word (text_of ps)
stops_word [] f e = tt
stops_word (Space ∷ ps) f e = refl
stops_word (Solid (part.Sign n) ∷ ps) f e = (sign_apart n (text_of ps) f.0.0).0
stops_word (Solid part.Arrow ∷ ps) f e = refl
stops_word (Solid (part.Name w) ∷ ps) f e = cc
stops_word (Solid (part.Number n) ∷ ps) f e = cc

letter_no_tip : (b : ℕ) → is_letter b ≡ true → nat_eq 62 b ≡ false
letter_no_tip b h = grind (arith, h)

digit_no_tip : (b : ℕ) → is_digit b ≡ true → nat_eq 62 b ≡ false
digit_no_tip b h = grind (arith, h)

name_no_tip : (w rest : List ℕ) → is_name w ≡ true → NoTip (w ++ rest)
name_no_tip [] rest h = cc
name_no_tip (b ∷ w) rest h = letter_no_tip b (and_both (is_letter b) (list_all is_word w && not (is_keyword (b ∷ w))) h).0

number_no_tip : (n : ℕ) (rest : List ℕ) → n ≤ most → NoTip (decimal n ++ rest)
number_no_tip n rest h =
    let w = written_decimal n h in
    subst (λ l. NoTip (l ++ rest)) (sym w.is) (digit_no_tip w.front (and_both (is_digit w.front) (list_all is_digit w.tail) (ap (list_all is_digit) (sym w.is) ∙ w.digits)).0)

no_tip : (ps : List Piece) → PiecesFine ps → NoTip (text_of ps)
no_tip [] f = tt
no_tip (Space ∷ ps) f = refl
no_tip (Solid (part.Sign n) ∷ ps) f = (sign_apart n (text_of ps) f.0.0).1
no_tip (Solid part.Arrow ∷ ps) f = refl
no_tip (Solid (part.Name w) ∷ ps) f = name_no_tip w (text_of ps) f.0.0
no_tip (Solid (part.Number n) ∷ ps) f = number_no_tip n (text_of ps) f.0.0

-- ---- all pieces

word_step : (m : ℕ) (w rest : List ℕ) → is_name w ≡ true → Stops is_word rest → parts_at (suc m) (w ++ rest) ≡ option_map (with_part (Some (part.Name w))) (parts_at m rest)
word_step m [] rest h s = cc
word_step m (b ∷ v) rest h s = step m b v rest (Some (part.Name (b ∷ v))) (taken_word b v rest h s)

name_long : (w : List ℕ) → is_name w ≡ true → 1 ≤ length w
name_long [] h = cc
name_long (b ∷ v) h = omega arith

number_step : (m n : ℕ) (rest : List ℕ) → n ≤ most → Stops is_word rest → parts_at (suc m) (decimal n ++ rest) ≡ option_map (with_part (Some (part.Number n))) (parts_at m rest)
number_step m n rest h s =
    let w = written_decimal n h in
    let value : digits_value 10 (w.front ∷ w.tail) ≡ n = ap (digits_value 10) (sym w.is) ∙ (decimal_is_IsNumeral_wide n (small_enough n h)).1 in
    let digits : list_all is_digit (w.front ∷ w.tail) ≡ true = ap (list_all is_digit) (sym w.is) ∙ w.digits in
    ap (λ l. parts_at (suc m) (l ++ rest)) w.is
    ∙ step m w.front w.tail rest (Some (part.Number n)) (taken_digits n w.front w.tail rest h digits w.is value s)

number_long : (n : ℕ) → n ≤ most → 1 ≤ length (decimal n)
number_long n h = let w = written_decimal n h in omega (arith, ap length w.is)

space_step : (m : ℕ) (rest : List ℕ) → parts_at (suc m) (32 ∷ rest) ≡ option_map (with_part None) (parts_at m rest)
unfolding taken_at
space_step m rest = refl

pub cut_pieces : (ps : List Piece) → PiecesFine ps → (m : ℕ) → length (text_of ps) ≤ m → parts_at m (text_of ps) ≡ Some (solids ps)
cut_pieces [] f zero le = refl
cut_pieces [] f (suc m) le = refl
cut_pieces (Space ∷ ps) f zero le = let x : ⊥ = omega (arith, le) in absurd x
cut_pieces (Space ∷ ps) f (suc m) le = space_step m (text_of ps) ∙ ap (option_map (with_part None)) (cut_pieces ps f.1 m (omega (arith, le)))
cut_pieces (Solid (part.Sign n) ∷ ps) f zero le = let x : ⊥ = omega (arith, le) in absurd x
cut_pieces (Solid (part.Sign n) ∷ ps) f (suc m) le =
    sign_step m n (text_of ps) f.0.0 (no_tip ps f.1) ∙ ap (option_map (with_part (Some (part.Sign n)))) (cut_pieces ps f.1 m (omega (arith, le)))
cut_pieces (Solid part.Arrow ∷ ps) f zero le = let x : ⊥ = omega (arith, le) in absurd x
cut_pieces (Solid part.Arrow ∷ ps) f (suc m) le =
    arrow_step m (text_of ps) ∙ ap (option_map (with_part (Some part.Arrow))) (cut_pieces ps f.1 m (omega (arith, le)))
cut_pieces (Solid (part.Name w) ∷ ps) f zero le = let x : ⊥ = omega (arith, le, name_long w f.0.0, length-append w (text_of ps)) in absurd x
cut_pieces (Solid (part.Name w) ∷ ps) f (suc m) le =
    let less : length (text_of ps) ≤ m = omega (arith, le, name_long w f.0.0, length-append w (text_of ps)) in
    word_step m w (text_of ps) f.0.0 (stops_word ps f.1 (f.0.1 refl)) ∙ ap (option_map (with_part (Some (part.Name w)))) (cut_pieces ps f.1 m less)
cut_pieces (Solid (part.Number n) ∷ ps) f zero le = let x : ⊥ = omega (arith, le, number_long n f.0.0, length-append (decimal n) (text_of ps)) in absurd x
cut_pieces (Solid (part.Number n) ∷ ps) f (suc m) le =
    let less : length (text_of ps) ≤ m = omega (arith, le, number_long n f.0.0, length-append (decimal n) (text_of ps)) in
    number_step m n (text_of ps) f.0.0 (stops_word ps f.1 (f.0.1 refl)) ∙ ap (option_map (with_part (Some (part.Number n)))) (cut_pieces ps f.1 m less)

-- the text of pieces has their parts
pub parts_back : (ps : List Piece) → PiecesFine ps → parts_of (text_of ps) ≡ Some (solids ps)
unfolding parts_of
parts_back ps f = cut_pieces ps f (length (text_of ps)) (omega arith)
