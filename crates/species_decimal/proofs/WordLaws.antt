-- The laws of the words of a text.
use Rattle.std.proofs.Common.{◌≡◌, ◌∙◌, ap, sym, refl, ℕ, zero, suc, ◌+◌, ◌<◌, Bool, true, false, not, ◌&&◌, if◌then◌else◌, List, [], ◌∷◌, ◌++◌, length, take, drop, arith}
use Rattle.std.specs.List.{prefix_len, list_all}
use Rattle.species_decimal.specs.Words.{Word, is_solid, begins_solid, led_by, words_at}

-- ---- words from the front

pub blank_first : (is_blank : ℕ → Bool) (p b : ℕ) (bytes : List ℕ) → is_solid is_blank b ≡ false
    → words_at is_blank p (b ∷ bytes) ≡ words_at is_blank (p + 1) bytes
blank_first is_blank p b bytes blank = go (is_blank b) blank
  where
    go : (t : Bool) → not t ≡ false
        → (if t then words_at is_blank (p + 1) bytes else led_by p b (begins_solid is_blank bytes) (words_at is_blank (p + 1) bytes))
        ≡ words_at is_blank (p + 1) bytes
    go true e = refl
    go false e = absurd (cc)

led : (is_blank : ℕ → Bool) (p b : ℕ) (bytes : List ℕ) → is_solid is_blank b ≡ true
    → words_at is_blank p (b ∷ bytes) ≡ led_by p b (begins_solid is_blank bytes) (words_at is_blank (p + 1) bytes)
led is_blank p b bytes h = go (is_blank b) h
  where
    go : (t : Bool) → not t ≡ true
        → (if t then words_at is_blank (p + 1) bytes else led_by p b (begins_solid is_blank bytes) (words_at is_blank (p + 1) bytes))
        ≡ led_by p b (begins_solid is_blank bytes) (words_at is_blank (p + 1) bytes)
    go true e = absurd (cc)
    go false e = refl

-- the word at the front, `n` bytes long behind its first
abbrev word_first : (ℕ → Bool) → ℕ → ℕ → ℕ → List ℕ → List Word
word_first is_blank p b n bytes = record { place = p; text = b ∷ take n bytes } ∷ words_at is_blank (p + 1 + n) (drop n bytes)

alone : (p b : ℕ) (ws : List Word) → led_by p b false ws ≡ record { place = p; text = b ∷ [] } ∷ ws
alone p b [] = refl
alone p b (w ∷ ws) = refl

longer : (is_blank : ℕ → Bool) (p b c m : ℕ) (cs : List ℕ)
    → (record { place = p; text = b ∷ c ∷ take m cs } ∷ words_at is_blank (p + 1 + 1 + m) (drop m cs)) ≡ word_first is_blank p b (1 + m) (c ∷ cs)
longer is_blank p b c m cs =
    let place : p + 1 + 1 + m ≡ p + 1 + suc m = omega arith in
    let more : suc m ≡ 1 + m = omega arith in
    ap (λ q. record { place = p; text = b ∷ c ∷ take m cs } ∷ words_at is_blank q (drop m cs)) place
    ∙ ap (λ k. word_first is_blank p b k (c ∷ cs)) more

solid_first : (is_blank : ℕ → Bool) (p b : ℕ) (bytes : List ℕ) → is_solid is_blank b ≡ true
    → words_at is_blank p (b ∷ bytes) ≡ word_first is_blank p b (prefix_len (is_solid is_blank) bytes) bytes
solid_first is_blank p b [] h = led is_blank p b [] h
solid_first is_blank p b (c ∷ cs) h =
    led is_blank p b (c ∷ cs) h ∙ go (is_solid is_blank c) refl (solid_first is_blank (p + 1) c cs)
  where
    go : (t : Bool) → is_solid is_blank c ≡ t
        → (is_solid is_blank c ≡ true → words_at is_blank (p + 1) (c ∷ cs) ≡ word_first is_blank (p + 1) c (prefix_len (is_solid is_blank) cs) cs)
        → led_by p b t (words_at is_blank (p + 1) (c ∷ cs)) ≡ word_first is_blank p b (if t then 1 + prefix_len (is_solid is_blank) cs else 0) (c ∷ cs)
    go false e later =
        let place : p + 1 ≡ p + 1 + 0 = omega arith in
        alone p b (words_at is_blank (p + 1) (c ∷ cs)) ∙ ap (λ q. record { place = p; text = b ∷ [] } ∷ words_at is_blank q (c ∷ cs)) place
    go true e later = ap (led_by p b true) (later e) ∙ longer is_blank p b c (prefix_len (is_solid is_blank) cs) cs

-- where no byte of a word stands at the front, the first byte is a blank
pub blank_bytes : (is_blank : ℕ → Bool) (p : ℕ) (bytes : List ℕ) → 0 < length bytes → prefix_len (is_solid is_blank) bytes ≡ 0
    → words_at is_blank p bytes ≡ words_at is_blank (p + 1) (drop 1 bytes)
blank_bytes is_blank p [] some none = absurd (omega arith)
blank_bytes is_blank p (b ∷ bytes) some none = blank_first is_blank p b bytes (go (is_solid is_blank b) none)
  where
    go : (t : Bool) → (if t then 1 + prefix_len (is_solid is_blank) bytes else 0) ≡ 0 → t ≡ false
    go true e = absurd (omega (arith, e))
    go false e = refl

-- where bytes of a word stand at the front, these are the first word
pub word_bytes : (is_blank : ℕ → Bool) (p n : ℕ) (bytes : List ℕ) → prefix_len (is_solid is_blank) bytes ≡ suc n
    → words_at is_blank p bytes ≡ record { place = p; text = take (suc n) bytes } ∷ words_at is_blank (p + suc n) (drop (suc n) bytes)
word_bytes is_blank p n [] long = absurd (omega (arith, long))
word_bytes is_blank p n (b ∷ bytes) long = go (is_solid is_blank b) refl long
  where
    go : (t : Bool) → is_solid is_blank b ≡ t → (if t then 1 + prefix_len (is_solid is_blank) bytes else 0) ≡ suc n
        → words_at is_blank p (b ∷ bytes) ≡ record { place = p; text = b ∷ take n bytes } ∷ words_at is_blank (p + suc n) (drop n bytes)
    go true h e =
        let same : prefix_len (is_solid is_blank) bytes ≡ n = omega (arith, e) in
        let place : p + 1 + n ≡ p + suc n = omega arith in
        solid_first is_blank p b bytes h ∙ ap (λ m. word_first is_blank p b m bytes) same
        ∙ ap (λ q. record { place = p; text = b ∷ take n bytes } ∷ words_at is_blank q (drop n bytes)) place
    go false h e = absurd (omega (arith, e))

-- blanks at the front say nothing
pub blanks_first : (is_blank : ℕ → Bool) (p : ℕ) (bytes : List ℕ)
    → words_at is_blank p bytes ≡ words_at is_blank (p + prefix_len is_blank bytes) (drop (prefix_len is_blank bytes) bytes)
blanks_first is_blank p [] = refl
blanks_first is_blank p (b ∷ bytes) = go (is_blank b) refl (blanks_first is_blank (p + 1) bytes)
  where
    n : ℕ
    n = prefix_len is_blank bytes

    go : (t : Bool) → is_blank b ≡ t → words_at is_blank (p + 1) bytes ≡ words_at is_blank (p + 1 + prefix_len is_blank bytes) (drop (prefix_len is_blank bytes) bytes)
        → (if t then words_at is_blank (p + 1) bytes else led_by p b (begins_solid is_blank bytes) (words_at is_blank (p + 1) bytes))
        ≡ words_at is_blank (p + (if t then 1 + prefix_len is_blank bytes else 0)) (drop (if t then 1 + prefix_len is_blank bytes else 0) (b ∷ bytes))
    go true e later =
        let place : p + 1 + prefix_len is_blank bytes ≡ p + (1 + prefix_len is_blank bytes) = omega arith in
        let more : suc (prefix_len is_blank bytes) ≡ 1 + prefix_len is_blank bytes = omega arith in
        later ∙ ap (λ q. words_at is_blank q (drop (prefix_len is_blank bytes) bytes)) place
        ∙ ap (λ k. words_at is_blank (p + (1 + prefix_len is_blank bytes)) (drop k (b ∷ bytes))) more
    go false e later =
        let place : p ≡ p + 0 = omega arith in
        sym (led is_blank p b bytes (ap not e)) ∙ ap (λ q. words_at is_blank q (b ∷ bytes)) place

-- ---- words that are put together

pub both_first : (s t : Bool) → (s && t) ≡ true → s ≡ true
both_first true t e = refl
both_first false t e = e

pub both_second : (s t : Bool) → (s && t) ≡ true → t ≡ true
both_second true t e = e
both_second false t e = absurd (cc)

-- a word in front of bytes that do not go on with it
pub word_then : (is_blank : ℕ → Bool) (p : ℕ) (word rest : List ℕ) → 0 < length word → list_all (is_solid is_blank) word ≡ true
    → begins_solid is_blank rest ≡ false
    → words_at is_blank p (word ++ rest) ≡ record { place = p; text = word } ∷ words_at is_blank (p + length word) rest
word_then is_blank p [] rest some all ends = absurd (omega arith)
word_then is_blank p (b ∷ []) rest some all ends =
    led is_blank p b rest (both_first (is_solid is_blank b) true all)
    ∙ ap (λ t. led_by p b t (words_at is_blank (p + 1) rest)) ends
    ∙ alone p b (words_at is_blank (p + 1) rest)
word_then is_blank p (b ∷ c ∷ word) rest some all ends =
    let later = both_second (is_solid is_blank b) (list_all (is_solid is_blank) (c ∷ word)) all in
    let place : p + 1 + length (c ∷ word) ≡ p + length (b ∷ c ∷ word) = omega arith in
    led is_blank p b (c ∷ (word ++ rest)) (both_first (is_solid is_blank b) (list_all (is_solid is_blank) (c ∷ word)) all)
    ∙ ap (λ t. led_by p b t (words_at is_blank (p + 1) (c ∷ (word ++ rest)))) (both_first (is_solid is_blank c) (list_all (is_solid is_blank) word) later)
    ∙ ap (led_by p b true) (word_then is_blank (p + 1) (c ∷ word) rest (omega arith) later ends)
    ∙ ap (λ q. record { place = p; text = b ∷ c ∷ word } ∷ words_at is_blank q rest) place
