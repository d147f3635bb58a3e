-- Words, numbers and punctuators are cut where no byte behind them makes them longer.
use Rattle.std.proofs.Common.{◌≡◌, ◌∙◌, ap, refl, ℕ, suc, ◌+◌, ◌<◌, ◌≤◌, Bool, true, false, List, [], ◌∷◌, ◌++◌, length, take, Some, arith, nat_eq, ◌⊎◌, inl, inr}
use Rattle.std.proofs.lemmas.Bool.{leb-true, lt-leb, ne_eqb, eqb-true, and_parts, and_right, or_cases, cases_Bool, not-true}
use Rattle.std.proofs.Math.Seq.{take-append_seam}
use Rattle.std.specs.Prelude.{◌||◌, ◌&&◌, not, nat_le, if◌then◌else◌, codes}
use Rattle.std.specs.List.{list_all, prefix_len}
use Rattle.std.specs.Cmp.Lexicographic.{pointwise}
use Rattle.species_ast.specs.Names.{is_name, is_keyword}
use Rattle.species_ast.specs.declared.tree.Value.{Value}
use Rattle.species_ast.specs.declared.token.TokenKind.TheVariants as kind
use Rattle.species_ast.specs.Text.Characters.{is_blank, is_letter, is_digit, is_word, begins, run_of}
use Rattle.species_ast.specs.Text.Numbers.{run_more, goes_on, is_exponent, is_sign, literal_of}
use Rattle.species_ast.specs.Text.Pieces as byte
use Rattle.species_ast.specs.Text.Stream.{in_scope}
use Rattle.species_readback.proofs.TokenLemmas.{front_piece, Stands}
use Rattle.species_readback.proofs.ListLemmas.{or_false}

-- ---- what may stand behind

-- no byte of this class comes first
abbrev pub Ends : (ℕ → Bool) → List ℕ → Type 0
Ends p [] = Unit {0}
Ends p (b ∷ bs) = p b ≡ false

-- a byte that would make a word or a number longer
abbrev pub continues : ℕ → Bool
continues b = is_word b || (nat_eq b 46 || is_sign b)

or_true : (a b : Bool) → b ≡ true → a || b ≡ true
or_true true b h = refl
or_true false b h = h

ends_word : (rest : List ℕ) → Ends continues rest → Ends is_word rest
ends_word [] e = tt
ends_word (b ∷ bs) e = (or_false (is_word b) (nat_eq b 46 || is_sign b) e).0

-- ---- classes of bytes

pub letter_above : (x : ℕ) → is_letter x ≡ true → 64 < x
letter_above x h = go (or_cases (nat_le 65 x && nat_le x 90) ((nat_le 97 x && nat_le x 122) || nat_eq x 95) h)
  where
    low : (a : ℕ) → (nat_le a x && nat_le x 122) ≡ true → a ≤ x
    low a k = leb-true a x (and_parts (nat_le a x) (nat_le x 122) k).0

    go3 : ((nat_le 97 x && nat_le x 122) ≡ true) ⊎ (nat_eq x 95 ≡ true) → 64 < x
    go3 (inl k) = omega (arith, low 97 k)
    go3 (inr k) = omega (arith, eqb-true x 95 k)

    go : ((nat_le 65 x && nat_le x 90) ≡ true) ⊎ (((nat_le 97 x && nat_le x 122) || nat_eq x 95) ≡ true) → 64 < x
    go (inl k) = omega (arith, leb-true 65 x (and_parts (nat_le 65 x) (nat_le x 90) k).0)
    go (inr k) = go3 (or_cases (nat_le 97 x && nat_le x 122) (nat_eq x 95) k)

pub digit_within : (x : ℕ) → is_digit x ≡ true → (48 ≤ x) × (x ≤ 57)
digit_within x h = let k = and_parts (nat_le 48 x) (nat_le x 57) h in (leb-true 48 x k.0, leb-true x 57 k.1)

pub digit_no_letter : (x : ℕ) → is_digit x ≡ true → is_letter x ≡ false
digit_no_letter x h = go (cases_Bool (is_letter x))
  where
    go : (is_letter x ≡ true) ⊎ (is_letter x ≡ false) → is_letter x ≡ false
    go (inl k) = let z : ⊥ = omega (arith, letter_above x k, (digit_within x h).1) in absurd z
    go (inr k) = k

pub no_blank : (x : ℕ) → 47 < x → is_blank x ≡ false
no_blank x lt = rw (ne_eqb x 32 (λ e. omega (arith, lt, e)), lt-leb x 13 (omega (arith, lt))) (and_right (nat_le 9 x) false refl)

-- no comment begins with the byte
no_slash : (x : ℕ) (c : ℕ) (bs : List ℕ) → 47 < x → begins (47 ∷ c ∷ []) (x ∷ bs) ≡ false
no_slash x c bs lt = ap (λ t. t && pointwise nat_eq (c ∷ []) (take 1 bs)) (ne_eqb 47 x (λ e. omega (arith, lt, e)))

-- ---- words

pub run_word : (p : ℕ → Bool) (w rest : List ℕ) → list_all p w ≡ true → Ends p rest → run_of p (w ++ rest) ≡ length w
run_word p [] [] h e = refl
run_word p [] (b ∷ bs) h e = ap (λ c. length (take (if c then 1 + prefix_len p bs else 0) (b ∷ bs))) e
run_word p (x ∷ w) rest h e =
    let k = and_parts (p x) (list_all p w) h in
    let one : 1 + prefix_len p (w ++ rest) ≡ suc (prefix_len p (w ++ rest)) = omega arith in
    ap (λ c. length (take (if c then 1 + prefix_len p (w ++ rest) else 0) (x ∷ (w ++ rest)))) k.0
    ∙ ap (λ n. length (take n (x ∷ (w ++ rest)))) one
    ∙ ap suc (run_word p w rest k.1 e)

-- with what bytes above `/` begin
abbrev starts_from : Bool → Bool → ℕ → byte.Start
starts_from letter digit b = if letter then byte.Letter else (if digit then byte.Digit else (if nat_eq b 35 then byte.Hash else byte.Other))

starts_above : (b : ℕ) (bs : List ℕ) → 47 < b → byte.start_of b bs ≡ starts_from (is_letter b) (is_digit b) b
starts_above b bs lt =
    let more = starts_from (is_letter b) (is_digit b) b in
    ap (λ x. if x then byte.Blank else (if begins (codes "//") (b ∷ bs) then byte.LineComment else (if begins (codes "/*") (b ∷ bs) then byte.BlockComment else more))) (no_blank b lt)
    ∙ ap (λ x. if x then byte.LineComment else (if begins (codes "/*") (b ∷ bs) then byte.BlockComment else more)) (no_slash b 47 bs lt)
    ∙ ap (λ x. if x then byte.BlockComment else more) (no_slash b 42 bs lt)

word_piece : (h : Bool) (b : ℕ) (w rest : List ℕ) → is_letter b ≡ true → list_all is_word w ≡ true → Ends is_word rest
    → front_piece h ((b ∷ w) ++ rest) ≡ in_scope [] (byte.Lexeme (suc (length w)) (b ∷ w) (if is_keyword (b ∷ w) then kind.Keyword else kind.Name))
unfolding byte.piece_of
word_piece h b w rest letter words e =
    let above : 47 < b = omega (arith, letter_above b letter) in
    ap (λ st. in_scope [] (byte.piece_in st h b (w ++ rest))) (starts_above b (w ++ rest) above ∙ ap (λ c. starts_from c (is_digit b) b) letter)
    ∙ ap (λ n. in_scope [] (byte.word (suc n) (b ∷ (w ++ rest)))) (run_word is_word w rest words e)
    ∙ ap (λ t. in_scope [] (byte.Lexeme (suc (length w)) (b ∷ t) (if is_keyword (b ∷ t) then kind.Keyword else kind.Name))) (take-append_seam w rest)

-- a name ends where no letter or digit follows
pub stands_word : (h : Bool) (w rest : List ℕ) → is_name w ≡ true → Ends is_word rest → Stands h w kind.Name rest
stands_word h [] rest n e = cc
stands_word h (b ∷ w) rest n e =
    let k = and_parts (is_letter b) (list_all is_word w && not (is_keyword (b ∷ w))) n in
    let l = and_parts (list_all is_word w) (not (is_keyword (b ∷ w))) k.1 in
    word_piece h b w rest k.0 l.0 e
    ∙ ap (λ c. in_scope [] (byte.Lexeme (suc (length w)) (b ∷ w) (if c then kind.Keyword else kind.Name))) (not-true (is_keyword (b ∷ w)) l.1)

-- a word of the language that is no name
abbrev pub is_keyword_word : List ℕ → Bool
is_keyword_word [] = false
is_keyword_word (b ∷ w) = is_letter b && (list_all is_word w && is_keyword (b ∷ w))

pub stands_keyword : (h : Bool) (w rest : List ℕ) → is_keyword_word w ≡ true → Ends is_word rest → Stands h w kind.Keyword rest
stands_keyword h [] rest n e = cc
stands_keyword h (b ∷ w) rest n e =
    let k = and_parts (is_letter b) (list_all is_word w && is_keyword (b ∷ w)) n in
    let l = and_parts (list_all is_word w) (is_keyword (b ∷ w)) k.1 in
    word_piece h b w rest k.0 l.0 e
    ∙ ap (λ c. in_scope [] (byte.Lexeme (suc (length w)) (b ∷ w) (if c then kind.Keyword else kind.Name))) l.1

pub stands_name : (h : Bool) (w rest : List ℕ) → is_name w ≡ true → Ends continues rest → Stands h w kind.Name rest
stands_name h w rest n e = stands_word h w rest n (ends_word rest e)

-- ---- numbers

letter_word : (b : ℕ) → is_letter b ≡ true → is_word b ≡ true
letter_word b h = ap (λ c. c || is_digit b) h

goes_on_word : (last b : ℕ) → is_word b ≡ true → goes_on last b ≡ true
goes_on_word last b h = ap (λ c. c || nat_eq b 46 || (is_sign b && is_exponent last)) h

pub stops_number : (last b : ℕ) → continues b ≡ false → goes_on last b ≡ false
stops_number last b h =
    let k = or_false (is_word b) (nat_eq b 46 || is_sign b) h in
    let l = or_false (nat_eq b 46) (is_sign b) k.1 in
    rw (k.0, l.0, l.1) refl

pub run_number : (last : ℕ) (w rest : List ℕ) → list_all is_word w ≡ true → Ends continues rest → run_more last (w ++ rest) ≡ length w
run_number last [] [] h e = refl
run_number last [] (b ∷ bs) h e = ap (λ c. if c then suc (run_more b bs) else 0) (stops_number last b e)
run_number last (x ∷ w) rest h e =
    let k = and_parts (is_word x) (list_all is_word w) h in
    ap (λ c. if c then suc (run_more x (w ++ rest)) else 0) (goes_on_word last x k.0) ∙ ap suc (run_number x w rest k.1 e)

pub stands_number : (h : Bool) (b : ℕ) (w rest : List ℕ) (v : Value) → is_digit b ≡ true → list_all is_word w ≡ true → literal_of (b ∷ w) ≡ Some v → Ends continues rest
    → Stands h (b ∷ w) (kind.Number v) rest
unfolding byte.piece_of
stands_number h b w rest v digit words lit e =
    let in_digits = digit_within b digit in
    let above : 47 < b = omega (arith, in_digits.0) in
    ap (λ st. in_scope [] (byte.piece_in st h b (w ++ rest))) (starts_above b (w ++ rest) above ∙ ap (λ c. starts_from c (is_digit b) b) (digit_no_letter b digit) ∙ ap (λ c. starts_from false c b) digit)
    ∙ ap (λ n. in_scope [] (byte.number (suc n) (b ∷ (w ++ rest)) (literal_of (take (suc n) (b ∷ (w ++ rest)))))) (run_number b w rest words e)
    ∙ ap (λ t. in_scope [] (byte.number (suc (length w)) (b ∷ (w ++ rest)) (literal_of (b ∷ t)))) (take-append_seam w rest)
    ∙ ap (λ o. in_scope [] (byte.number (suc (length w)) (b ∷ (w ++ rest)) o)) lit
    ∙ ap (λ t. byte.Lexeme (suc (length w)) (b ∷ t) (kind.Number v)) (take-append_seam w rest)
