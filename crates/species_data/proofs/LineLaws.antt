-- The lines of a text.
use Rattle.std.proofs.Common.{◌≡◌, ◌∙◌, ap, refl, ℕ, suc, ◌+◌, ◌<◌, Bool, true, false, not, if◌then◌else◌, List, [], ◌∷◌, ◌++◌, length, take, drop, arith}
use Rattle.std.specs.List.{prefix_len, list_all}
use Rattle.species_decimal.proofs.WordLaws.{both_first, both_second}
use Rattle.species_ast.specs.Text.Characters.{is_line_feed}
use Rattle.species_data.specs.Lines.{is_in_line, Line, begun_by, lines_at}

goes_on : (p b : ℕ) (bytes : List ℕ) → is_in_line b ≡ true → lines_at p (b ∷ bytes) ≡ begun_by p b (lines_at (p + 1) bytes)
goes_on p b bytes inside = go (is_line_feed b) inside
  where
    go : (t : Bool) → not t ≡ true
        → (if t then record { place = p; text = [] } ∷ lines_at (p + 1) bytes else begun_by p b (lines_at (p + 1) bytes)) ≡ begun_by p b (lines_at (p + 1) bytes)
    go true e = absurd (cc)
    go false e = refl

ends : (p b : ℕ) (bytes : List ℕ) → is_in_line b ≡ false → lines_at p (b ∷ bytes) ≡ record { place = p; text = [] } ∷ lines_at (p + 1) bytes
ends p b bytes feed = go (is_line_feed b) feed
  where
    go : (t : Bool) → not t ≡ false
        → (if t then record { place = p; text = [] } ∷ lines_at (p + 1) bytes else begun_by p b (lines_at (p + 1) bytes)) ≡ record { place = p; text = [] } ∷ lines_at (p + 1) bytes
    go true e = refl
    go false e = absurd (cc)

-- a line of so many bytes, and those behind its line feed
abbrev first_line : ℕ → ℕ → List ℕ → List Line
first_line p n bytes = record { place = p; text = take n bytes } ∷ lines_at (p + (n + 1)) (drop (n + 1) bytes)

longer : (p b n : ℕ) (bytes : List ℕ) → begun_by p b (first_line (p + 1) n bytes) ≡ first_line p (1 + n) (b ∷ bytes)
longer p b n bytes =
    let place : p + 1 + (n + 1) ≡ p + (suc n + 1) = omega arith in
    let more : suc (n + 1) ≡ suc n + 1 = omega arith in
    let one : suc n ≡ 1 + n = omega arith in
    ap (λ q. record { place = p; text = b ∷ take n bytes } ∷ lines_at q (drop (n + 1) bytes)) place
    ∙ ap (λ k. record { place = p; text = b ∷ take n bytes } ∷ lines_at (p + (suc n + 1)) (drop k (b ∷ bytes))) more
    ∙ ap (λ k. first_line p k (b ∷ bytes)) one

-- the first line goes up to the first line feed
pub line_bytes : (p : ℕ) (bytes : List ℕ) → 0 < length bytes → lines_at p bytes ≡ first_line p (prefix_len is_in_line bytes) bytes
line_bytes p [] some = absurd (omega arith)
line_bytes p (b ∷ []) some = go (is_in_line b) refl
  where
    go : (t : Bool) → is_in_line b ≡ t → lines_at p (b ∷ []) ≡ first_line p (if t then 1 + 0 else 0) (b ∷ [])
    go true e = goes_on p b [] e
    go false e = ends p b [] e
line_bytes p (b ∷ c ∷ cs) some = go (is_in_line b) refl (line_bytes (p + 1) (c ∷ cs) (omega arith))
  where
    go : (t : Bool) → is_in_line b ≡ t → lines_at (p + 1) (c ∷ cs) ≡ first_line (p + 1) (prefix_len is_in_line (c ∷ cs)) (c ∷ cs)
        → lines_at p (b ∷ c ∷ cs) ≡ first_line p (if t then 1 + prefix_len is_in_line (c ∷ cs) else 0) (b ∷ c ∷ cs)
    go true e later = goes_on p b (c ∷ cs) e ∙ ap (begun_by p b) later ∙ longer p b (prefix_len is_in_line (c ∷ cs)) (c ∷ cs)
    go false e later = ends p b (c ∷ cs) e

-- a line that is put together
pub line_then : (p : ℕ) (line rest : List ℕ) → list_all is_in_line line ≡ true
    → lines_at p (line ++ 10 ∷ rest) ≡ record { place = p; text = line } ∷ lines_at (p + (length line + 1)) rest
line_then p [] rest all = refl
line_then p (b ∷ line) rest all =
    let place : p + 1 + (length line + 1) ≡ p + (length (b ∷ line) + 1) = omega arith in
    goes_on p b (line ++ 10 ∷ rest) (both_first (is_in_line b) (list_all is_in_line line) all)
    ∙ ap (begun_by p b) (line_then (p + 1) line rest (both_second (is_in_line b) (list_all is_in_line line) all))
    ∙ ap (λ q. record { place = p; text = b ∷ line } ∷ lines_at q rest) place
