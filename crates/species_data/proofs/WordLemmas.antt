-- The words of a line, one after another.
use Rattle.std.proofs.Common.{◌≡◌, ◌∙◌, ap, sym, refl, ℕ, suc, ◌+◌, ◌-◌, ◌<◌, Bool, true, false, not, cond, List, [], ◌∷◌, length, take, drop, take_all, arith}
use Rattle.std.specs.List.{prefix_len}
use Rattle.std.proofs.lemmas.List.{length-drop}
use Rattle.species_decimal.specs.Words.{is_solid, words_at}
use Rattle.species_decimal.proofs.WordLaws.{blanks_first, word_bytes}
use Rattle.species_data.specs.Lines.{is_gap}

-- how the code writes what is left of a line
abbrev pub rest_of : ℕ → List ℕ → List ℕ
rest_of gap line = take (length line - gap) (drop gap line)

seen : (gap : ℕ) (line : List ℕ) → rest_of gap line ≡ drop gap line
seen gap line = take_all (length line - gap) (drop gap line) (omega (arith, length-drop gap line))

-- behind the blanks a word stands, or nothing
nothing_behind : (line : List ℕ) → prefix_len (is_solid is_gap) (drop (prefix_len is_gap line) line) ≡ 0 → drop (prefix_len is_gap line) line ≡ []
nothing_behind [] none = refl
nothing_behind (b ∷ line) none = go (is_gap b) refl none (nothing_behind line)
  where
    go : (t : Bool) → is_gap b ≡ t → prefix_len (is_solid is_gap) (drop (cond t (1 + prefix_len is_gap line) 0) (b ∷ line)) ≡ 0
        → (prefix_len (is_solid is_gap) (drop (prefix_len is_gap line) line) ≡ 0 → drop (prefix_len is_gap line) line ≡ [])
        → drop (cond t (1 + prefix_len is_gap line) 0) (b ∷ line) ≡ []
    go true e h later =
        let more : suc (prefix_len is_gap line) ≡ 1 + prefix_len is_gap line = omega arith in
        let same : drop (prefix_len is_gap line) line ≡ drop (1 + prefix_len is_gap line) (b ∷ line) = ap (λ k. drop k (b ∷ line)) more in
        sym same ∙ later (ap (prefix_len (is_solid is_gap)) same ∙ h)
    go false e h later =
        let some : 1 + prefix_len (is_solid is_gap) line ≡ 0 = ap (λ t. cond (not t) (1 + prefix_len (is_solid is_gap) line) 0) (sym e) ∙ h in
        absurd (omega (arith, some))

-- no word is left
pub no_word : (p gap len : ℕ) (line : List ℕ) → gap ≡ prefix_len is_gap line → len ≡ prefix_len (is_solid is_gap) (rest_of gap line) → len ≡ 0
    → words_at is_gap p line ≡ []
no_word p gap len line gap_is len_is none =
    let at_gap : drop gap line ≡ drop (prefix_len is_gap line) line = ap (λ g. drop g line) gap_is in
    let solid_none : prefix_len (is_solid is_gap) (drop (prefix_len is_gap line) line) ≡ 0 =
    ap (prefix_len (is_solid is_gap)) (sym at_gap ∙ sym (seen gap line)) ∙ sym len_is ∙ none in
    blanks_first is_gap p line ∙ ap (words_at is_gap (p + prefix_len is_gap line)) (nothing_behind line solid_none)

-- a word is left
pub one_word : (p gap len : ℕ) (line : List ℕ) → gap ≡ prefix_len is_gap line → len ≡ prefix_len (is_solid is_gap) (rest_of gap line) → 0 < len
    → words_at is_gap p line
    ≡ record { place = p + gap; text = take len (rest_of gap line) } ∷ words_at is_gap (p + gap + len) (drop len (rest_of gap line))
one_word p gap len line gap_is len_is some =
    let more : len ≡ suc (len - 1) = omega (arith, some) in
    blanks_first is_gap p line ∙ ap (λ g. words_at is_gap (p + g) (drop g line)) (sym gap_is)
    ∙ ap (words_at is_gap (p + gap)) (sym (seen gap line))
    ∙ word_bytes is_gap (p + gap) (len - 1) (rest_of gap line) (sym len_is ∙ more)
    ∙ ap (λ n. record { place = p + gap; text = take n (rest_of gap line) } ∷ words_at is_gap (p + gap + n) (drop n (rest_of gap line))) (sym more)

-- how the code writes the bytes behind the word
pub behind : (len : ℕ) (rest : List ℕ) → take (length rest - len) (drop len rest) ≡ drop len rest
behind len rest = take_all (length rest - len) (drop len rest) (omega (arith, length-drop len rest))
