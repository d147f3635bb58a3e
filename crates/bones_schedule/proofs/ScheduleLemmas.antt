-- Lemmas on the numbers of a schedule.
use Rattle.std.proofs.Common.{◌≡◌, ◌≢◌, ◌∙◌, ap, sym, refl, ℕ, zero, suc, ◌+◌, ◌-◌, ◌<◌, List, [], ◌∷◌, ◌++◌, length, take, drop, take_all, append_assoc, Option, Some, None, Result, Ok, Err, arith}
use Rattle.std.proofs.lemmas.List.{drop-drop, length-drop}
use Rattle.std.specs.List.{prefix_len}
use Rattle.species_ast.specs.Text.Characters.{is_blank}
use Rattle.species_decimal.specs.Number.{number_of}
use Rattle.species_decimal.specs.Words.{is_solid, words_at}
use Rattle.species_decimal.proofs.WordLaws.{blank_bytes, word_bytes}
use Rattle.bones_schedule.specs.Schedule.{then_numbers, numbers_of}

-- ---- numbers

-- what was read so far, before what the words behind it say
abbrev pub before : List ℕ → Result (List ℕ) ℕ → Result (List ℕ) ℕ
before numbers (Ok more) = Ok (numbers ++ more)
before numbers (Err place) = Err place

pub before_none : (r : Result (List ℕ) ℕ) → r ≡ before [] r
before_none (Ok more) = refl
before_none (Err place) = refl

pushed : (numbers : List ℕ) (n place : ℕ) (r : Result (List ℕ) ℕ)
    → before numbers (then_numbers (Some n) place r) ≡ before (numbers ++ n ∷ []) r
pushed numbers n place (Ok more) = ap Ok (sym (append_assoc numbers (n ∷ []) more))
pushed numbers n place (Err other) = refl

-- ---- a turn of the loop at this place of the text

abbrev pub left : ℕ → ℕ → List ℕ → Result (List ℕ) ℕ
left base at text = numbers_of (words_at is_blank (base + at) (drop at text))

moved : (base at n : ℕ) (text : List ℕ) → words_at is_blank (base + at + n) (drop n (drop at text)) ≡ words_at is_blank (base + (at + n)) (drop (at + n) text)
moved base at n text =
    let place : base + at + n ≡ base + (at + n) = omega arith in
    ap (words_at is_blank (base + at + n)) (drop-drop n at text) ∙ ap (λ q. words_at is_blank q (drop (at + n) text)) place

-- how the code writes what is left of the text, and a word of it
seen : (at : ℕ) (text : List ℕ) → take (length text - at) (drop at text) ≡ drop at text
seen at text = take_all (length text - at) (drop at text) (omega (arith, length-drop at text))

abbrev pub word_here : ℕ → ℕ → List ℕ → List ℕ
word_here at n text = take (at + n - at) (drop at text)

-- the length of the word at the front
abbrev pub len_here : ℕ → List ℕ → ℕ
len_here at text = prefix_len (is_solid is_blank) (take (length text - at) (drop at text))

pub blank_turn : (base at : ℕ) (text : List ℕ) → at < length text → len_here at text ≡ 0
    → left base at text ≡ left base (at + 1) text
blank_turn base at text lt none =
    let some : 0 < length (drop at text) = omega (arith, length-drop at text) in
    let none_left : prefix_len (is_solid is_blank) (drop at text) ≡ 0 = ap (prefix_len (is_solid is_blank)) (sym (seen at text)) ∙ none in
    ap numbers_of (blank_bytes is_blank (base + at) (drop at text) some none_left ∙ moved base at 1 text)

-- the word of this length at the front, with what is behind it
abbrev behind_word : ℕ → ℕ → ℕ → List ℕ → Option ℕ → Result (List ℕ) ℕ
behind_word base at n text number = then_numbers number (base + at) (left base (at + n) text)

word_turn : (base at n : ℕ) (text : List ℕ) → prefix_len (is_solid is_blank) (drop at text) ≡ n → n ≢ 0
    → left base at text ≡ behind_word base at n text (number_of 4294967295 (take n (drop at text)))
word_turn base at zero text long some = absurd (some refl)
word_turn base at (suc n) text long some =
    let number = number_of 4294967295 (take (suc n) (drop at text)) in
    ap numbers_of (word_bytes is_blank (base + at) n (drop at text) long)
    ∙ ap (λ ws. then_numbers number (base + at) (numbers_of ws)) (moved base at (suc n) text)

number_here : (at n : ℕ) (text : List ℕ) (o : Option ℕ) → number_of 4294967295 (word_here at n text) ≡ o
    → number_of 4294967295 (take n (drop at text)) ≡ o
number_here at n text o is =
    let same : n ≡ at + n - at = omega arith in
    ap (λ m. number_of 4294967295 (take m (drop at text))) same ∙ is

pub number_turn : (base at n number : ℕ) (text numbers : List ℕ) → n ≡ len_here at text → n ≢ 0
    → number_of 4294967295 (word_here at n text) ≡ Some number
    → before numbers (left base at text) ≡ before (numbers ++ number ∷ []) (left base (at + n) text)
number_turn base at n number text numbers long some is =
    let len = ap (prefix_len (is_solid is_blank)) (sym (seen at text)) ∙ sym long in
    ap (before numbers) (word_turn base at n text len some ∙ ap (behind_word base at n text) (number_here at n text (Some number) is))
    ∙ pushed numbers number (base + at) (left base (at + n) text)

pub other_turn : (base at n : ℕ) (text numbers : List ℕ) → n ≡ len_here at text → n ≢ 0
    → number_of 4294967295 (word_here at n text) ≡ None
    → before numbers (left base at text) ≡ Err (base + at)
other_turn base at n text numbers long some is =
    let len = ap (prefix_len (is_solid is_blank)) (sym (seen at text)) ∙ sym long in
    ap (before numbers) (word_turn base at n text len some ∙ ap (behind_word base at n text) (number_here at n text None is))
