-- With what a piece begins.
use Rattle.std.proofs.Common.{◌≡◌, ◌∙◌, ap, sym, refl, ℕ, suc, ◌+◌, ◌<◌, Bool, true, false, List, [], ◌∷◌, length, drop, take, get_or, Some, arith, nat_eq}
use Rattle.std.specs.Prelude.{if◌then◌else◌, codes}
use Rattle.species_ast.specs.Text.Characters.{is_blank, is_letter, is_digit, is_word, run_of, begins, line_len}
use Rattle.species_ast.specs.Text.Comments.{splice_at}
use Rattle.species_ast.specs.Text.Numbers.{run_more, literal_of}
use Rattle.species_ast.specs.Text.Directives.{form_of}
use Rattle.species_ast.specs.Text.Pieces.{Piece, Blank, LineComment, BlockComment, Letter, Digit, Hash, Other, start_of, piece_in, piece_of, word, number, directive, Refused}
use Rattle.species_ast.specs.declared.token.LexRefusal.TheVariants.{BadByte}
use Rattle.species_lexer.specs.Pieces.{piece_at}

starts_digit : (b : ℕ) (bytes : List ℕ) → is_blank b ≡ false → begins (codes "//") (b ∷ bytes) ≡ false → begins (codes "/*") (b ∷ bytes) ≡ false
    → is_letter b ≡ false → is_digit b ≡ true → start_of b bytes ≡ Digit
starts_digit b bytes blank line block letter digit =
    ap (λ x. if x then Blank else (if begins (codes "//") (b ∷ bytes) then LineComment else (if begins (codes "/*") (b ∷ bytes) then BlockComment else (if is_letter b then Letter else (if is_digit b then Digit else (if nat_eq b 35 then Hash else Other)))))) blank
    ∙ ap (λ x. if x then LineComment else (if begins (codes "/*") (b ∷ bytes) then BlockComment else (if is_letter b then Letter else (if is_digit b then Digit else (if nat_eq b 35 then Hash else Other))))) line
    ∙ ap (λ x. if x then BlockComment else (if is_letter b then Letter else (if is_digit b then Digit else (if nat_eq b 35 then Hash else Other)))) block
    ∙ ap (λ x. if x then Letter else (if is_digit b then Digit else (if nat_eq b 35 then Hash else Other))) letter
    ∙ ap (λ x. if x then Digit else (if nat_eq b 35 then Hash else Other)) digit

-- a number
pub at_digit : (is_head : Bool) (bytes more : List ℕ) (n : ℕ) (p : Piece) → 0 < length bytes → more ≡ drop 1 bytes
    → is_blank (get_or bytes 0 0) ≡ false → begins (codes "//") bytes ≡ false → begins (codes "/*") bytes ≡ false → is_letter (get_or bytes 0 0) ≡ false → is_digit (get_or bytes 0 0) ≡ true
    → n ≡ run_more (get_or bytes 0 0) more → p ≡ number (1 + n) bytes (literal_of (take (1 + n) bytes)) → Some p ≡ piece_at is_head bytes
unfolding piece_of
at_digit is_head [] more n p some me blank line block letter digit ne pe = let x : ⊥ = omega (arith, some) in absurd x
at_digit is_head (b ∷ bytes) more n p some me blank line block letter digit ne pe =
    let k : 1 + n ≡ suc (run_more b bytes) = omega (arith, ne ∙ ap (run_more b) me) in
    ap Some (pe ∙ ap (λ i. number i (b ∷ bytes) (literal_of (take i (b ∷ bytes)))) k
    ∙ sym (ap (λ s. piece_in s is_head b bytes) (starts_digit b bytes blank line block letter digit)))

starts_hash : (b : ℕ) (bytes : List ℕ) → 35 ≡ b → start_of b bytes ≡ Hash
starts_hash b bytes is = sym (ap (λ x. start_of x bytes) is)

-- a `#`
pub at_hash : (is_head : Bool) (bytes more : List ℕ) (n : ℕ) (p : Piece) → 0 < length bytes → more ≡ drop 1 bytes → 35 ≡ get_or bytes 0 0
    → n ≡ line_len more → p ≡ (if is_head then directive (1 + n) (splice_at bytes) (form_of (take (1 + n) bytes)) else Refused (BadByte 0)) → Some p ≡ piece_at is_head bytes
unfolding piece_of
at_hash is_head [] more n p some me is ne pe = let x : ⊥ = omega (arith, some) in absurd x
at_hash is_head (b ∷ bytes) more n p some me is ne pe =
    let k : 1 + n ≡ suc (line_len bytes) = omega (arith, ne ∙ ap line_len me) in
    ap Some (pe ∙ ap (λ i. if is_head then directive i (splice_at (b ∷ bytes)) (form_of (take i (b ∷ bytes))) else Refused (BadByte 0)) k
    ∙ go is_head
    ∙ sym (ap (λ s. piece_in s is_head b bytes) (starts_hash b bytes is)))
  where
    go : (h : Bool) → (if h then directive (suc (line_len bytes)) (splice_at (b ∷ bytes)) (form_of (take (suc (line_len bytes)) (b ∷ bytes))) else Refused (BadByte 0)) ≡ piece_in Hash h b bytes
    go true = refl
    go false = refl

starts_letter : (b : ℕ) (bytes : List ℕ) → is_blank b ≡ false → begins (codes "//") (b ∷ bytes) ≡ false → begins (codes "/*") (b ∷ bytes) ≡ false
    → is_letter b ≡ true → start_of b bytes ≡ Letter
starts_letter b bytes blank line block letter =
    ap (λ x. if x then Blank else (if begins (codes "//") (b ∷ bytes) then LineComment else (if begins (codes "/*") (b ∷ bytes) then BlockComment else (if is_letter b then Letter else (if is_digit b then Digit else (if nat_eq b 35 then Hash else Other)))))) blank
    ∙ ap (λ x. if x then LineComment else (if begins (codes "/*") (b ∷ bytes) then BlockComment else (if is_letter b then Letter else (if is_digit b then Digit else (if nat_eq b 35 then Hash else Other))))) line
    ∙ ap (λ x. if x then BlockComment else (if is_letter b then Letter else (if is_digit b then Digit else (if nat_eq b 35 then Hash else Other)))) block
    ∙ ap (λ x. if x then Letter else (if is_digit b then Digit else (if nat_eq b 35 then Hash else Other))) letter

-- a word
pub at_letter : (is_head : Bool) (bytes more : List ℕ) (n : ℕ) (p : Piece) → 0 < length bytes → more ≡ drop 1 bytes
    → is_blank (get_or bytes 0 0) ≡ false → begins (codes "//") bytes ≡ false → begins (codes "/*") bytes ≡ false → is_letter (get_or bytes 0 0) ≡ true
    → n ≡ run_of is_word more → p ≡ word (1 + n) bytes → Some p ≡ piece_at is_head bytes
unfolding piece_of
at_letter is_head [] more n p some me blank line block letter ne pe = let x : ⊥ = omega (arith, some) in absurd x
at_letter is_head (b ∷ bytes) more n p some me blank line block letter ne pe =
    let k : 1 + n ≡ suc (run_of is_word bytes) = omega (arith, ne ∙ ap (run_of is_word) me) in
    ap Some (pe ∙ ap (λ i. word i (b ∷ bytes)) k ∙ sym (ap (λ s. piece_in s is_head b bytes) (starts_letter b bytes blank line block letter)))
