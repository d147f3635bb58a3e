-- Lemmas on the parts of a directive.
use Rattle.std.proofs.Common.{◌≡◌, ◌∙◌, ap, sym, refl, ℕ, zero, suc, ◌+◌, ◌<◌, ◌≤◌, Bool, true, false, List, [], ◌∷◌, length, drop, take, get_or, arith, length-drop}
use Rattle.std.specs.Prelude.{if◌then◌else◌}
use Rattle.species_ast.specs.Text.Characters.{is_letter, is_digit, is_word, run_of}
use Rattle.species_ast.specs.Text.Numbers.{run_more}
use Rattle.species_ast.specs.Text.Comments.{gap_len}
use Rattle.species_ast.specs.Text.Parts.{part_len, and_parts, parts_at, parts_of}

part_some : (b : ℕ) (bytes : List ℕ) → 0 < part_len b bytes
part_some b bytes = go (is_letter b) (is_digit b)
  where
    go : (x y : Bool) → 0 < (if x then suc (run_of is_word bytes) else (if y then suc (run_more b bytes) else 1))
    go true y = omega arith
    go false true = omega arith
    go false false = omega arith

-- the parts behind a gap
and_any : (m k at : ℕ) (bytes : List ℕ)
    → ((b : ℕ) (more : List ℕ) → length (b ∷ more) ≤ length bytes → (i : ℕ) → parts_at m i (drop (part_len b more) (b ∷ more)) ≡ parts_at k i (drop (part_len b more) (b ∷ more)))
    → and_parts at bytes (parts_at m) ≡ and_parts at bytes (parts_at k)
and_any m k at [] next = refl
and_any m k at (x ∷ bytes) next = ap (λ r. record { at = at; text = take (part_len x bytes) (x ∷ bytes) } ∷ r) (next x bytes (omega arith) (at + part_len x bytes))

shorter : (n m g b : ℕ) (more bytes : List ℕ) → 0 < n → length (b ∷ more) ≤ length (drop g bytes) → length bytes ≤ suc m → length (drop n (b ∷ more)) ≤ m
shorter n m g b more bytes some within fits = omega (arith, some, within, fits, length-drop n (b ∷ more), length-drop g bytes)

-- the bound does not matter where it is large enough
parts_any : (m k at : ℕ) (bytes : List ℕ) → length bytes ≤ m → length bytes ≤ k → parts_at m at bytes ≡ parts_at k at bytes
parts_any zero zero at bytes a b = refl
parts_any zero (suc k) at [] a b = refl
parts_any zero (suc k) at (x ∷ bytes) a b = let y : ⊥ = omega (arith, a) in absurd y
parts_any (suc m) zero at [] a b = refl
parts_any (suc m) zero at (x ∷ bytes) a b = let y : ⊥ = omega (arith, b) in absurd y
parts_any (suc m) (suc k) at bytes a b =
    and_any m k (at + gap_len bytes) (drop (gap_len bytes) bytes)
    (λ x more within i. parts_any m k i (drop (part_len x more) (x ∷ more))
    (shorter (part_len x more) m (gap_len bytes) x more bytes (part_some x more) within a)
    (shorter (part_len x more) k (gap_len bytes) x more bytes (part_some x more) within b))

-- the parts of some bytes: what stands behind the gap, and the parts of what follows it
pub parts_none : (at : ℕ) (bytes : List ℕ) → drop (gap_len bytes) bytes ≡ [] → parts_of at bytes ≡ []
parts_none at [] is = refl
parts_none at (x ∷ bytes) is = ap (λ r. and_parts (at + gap_len (x ∷ bytes)) r (parts_at (length bytes))) is

pub parts_some : (at b : ℕ) (more bytes : List ℕ) → drop (gap_len bytes) bytes ≡ b ∷ more
    → parts_of at bytes ≡ record { at = at + gap_len bytes; text = take (part_len b more) (b ∷ more) } ∷ parts_of (at + gap_len bytes + part_len b more) (drop (part_len b more) (b ∷ more))
parts_some at b more [] is = let e : b ∷ more ≡ [] = sym is in cc
parts_some at b more (x ∷ bytes) is =
    ap (λ r. and_parts (at + gap_len (x ∷ bytes)) r (parts_at (length bytes))) is
    ∙ ap (λ r. record { at = at + gap_len (x ∷ bytes); text = take (part_len b more) (b ∷ more) } ∷ r)
    (parts_any (length bytes) (length (drop (part_len b more) (b ∷ more))) (at + gap_len (x ∷ bytes) + part_len b more) (drop (part_len b more) (b ∷ more))
    (shorter (part_len b more) (length bytes) (gap_len (x ∷ bytes)) b more (x ∷ bytes) (part_some b more) (omega (arith, ap length is)) (omega arith))
    (omega arith))

-- the same, as `split_first` has it
pub parts_next : (at g n : ℕ) (bytes rest more text others : List ℕ) → g ≡ gap_len bytes → rest ≡ drop g bytes → 0 < length rest → more ≡ drop 1 rest
    → n ≡ part_len (get_or rest 0 0) more → text ≡ take n rest → others ≡ drop n rest
    → parts_of at bytes ≡ record { at = at + g; text = text } ∷ parts_of (at + g + n) others
parts_next at g n bytes [] more text others ge re some me ne te oe = let x : ⊥ = omega (arith, some) in absurd x
parts_next at g n bytes (b ∷ rest) more text others ge re some me ne te oe =
    let k : n ≡ part_len b rest = ne ∙ ap (part_len b) me in
    parts_some at b rest bytes (sym (re ∙ ap (λ i. drop i bytes) ge))
    ∙ ap (λ i. record { at = at + i; text = take (part_len b rest) (b ∷ rest) } ∷ parts_of (at + i + part_len b rest) (drop (part_len b rest) (b ∷ rest))) (sym ge)
    ∙ ap (λ i. record { at = at + g; text = take i (b ∷ rest) } ∷ parts_of (at + g + i) (drop i (b ∷ rest))) (sym k)
    ∙ ap (λ z. record { at = at + g; text = z } ∷ parts_of (at + g + n) (drop n (b ∷ rest))) (sym te)
    ∙ ap (λ z. record { at = at + g; text = text } ∷ parts_of (at + g + n) z) (sym oe)
