-- Lemmas on the functions that count bytes from the front.
use Rattle.std.proofs.Common.{◌≡◌, ◌∙◌, ap, sym, refl, subst, take, ℕ, zero, suc, ◌+◌, ◌-◌, ◌<◌, ◌≤◌, Bool, false, List, [], ◌∷◌, length, drop, get_or, Option, Some, None, arith, length-drop, drop-cons}
use Rattle.std.proofs.lemmas.List.{drop-drop, take_all}
use Rattle.std.specs.Prelude.{option_map, if◌then◌else◌, codes}
use Rattle.species_ast.specs.Text.Characters.{begins}
use Rattle.species_ast.specs.Text.Comments.{closing_len, many, and_more, blank_len, plain_len, gap_len, content_len}

-- a slice from a place on
pub tail_is : (xs : List ℕ) (n : ℕ) → take (length xs - n) (drop n xs) ≡ drop n xs
tail_is xs n = take_all (length xs - n) (drop n xs) (omega (arith, length-drop n xs))

-- ---- the end of a comment

closing_at : (b : ℕ) (bytes : List ℕ) (found : Bool) → begins (codes "*/") (b ∷ bytes) ≡ found
    → closing_len (b ∷ bytes) ≡ (if found then Some 2 else option_map suc (closing_len bytes))
closing_at b bytes found e = ap (λ c. if c then Some 2 else option_map suc (closing_len bytes)) e

map_map : (o : Option ℕ) (at : ℕ) → option_map (λ n. n + at) (option_map suc o) ≡ option_map (λ n. n + (at + 1)) o
map_map None at = refl
map_map (Some n) at = ap Some (omega arith)

pub closing_later : (bytes : List ℕ) (at : ℕ) → at < length bytes → begins (codes "*/") (take (length bytes - at) (drop at bytes)) ≡ false
    → option_map (λ n. n + at) (closing_len (drop at bytes)) ≡ option_map (λ n. n + (at + 1)) (closing_len (drop (at + 1) bytes))
closing_later bytes at lt e =
    let is = drop-cons bytes at 0 lt in
    let next : suc at ≡ at + 1 = omega arith in
    ap (option_map (λ n. n + at)) (ap closing_len is ∙ closing_at (get_or bytes at 0) (drop (suc at) bytes) false (sym (ap (begins (codes "*/")) (tail_is bytes at ∙ is)) ∙ e))
    ∙ map_map (closing_len (drop (suc at) bytes)) at
    ∙ ap (λ i. option_map (λ n. n + (at + 1)) (closing_len (drop i bytes))) next

-- ---- as many items as stand one after the other

-- the bound does not matter where it is large enough
many_any : (item : List ℕ → ℕ) → item [] ≡ 0 → (m k : ℕ) (bytes : List ℕ) → length bytes ≤ m → length bytes ≤ k → many item m bytes ≡ many item k bytes
many_any item none zero zero bytes a b = refl
many_any item none zero (suc k) [] a b = sym (ap (λ n. and_more n (many item k) []) none)
many_any item none zero (suc k) (x ∷ bytes) a b = let y : ⊥ = omega (arith, a) in absurd y
many_any item none (suc m) zero [] a b = ap (λ n. and_more n (many item m) []) none
many_any item none (suc m) zero (x ∷ bytes) a b = let y : ⊥ = omega (arith, b) in absurd y
many_any item none (suc m) (suc k) [] a b = ap (λ n. and_more n (many item m) []) none ∙ sym (ap (λ n. and_more n (many item k) []) none)
many_any item none (suc m) (suc k) (x ∷ bytes) a b =
    go (item (x ∷ bytes)) (λ n. many_any item none m k (drop (suc n) (x ∷ bytes)) (omega (arith, a, length-drop (suc n) (x ∷ bytes))) (omega (arith, b, length-drop (suc n) (x ∷ bytes))))
  where
    go : (n : ℕ) → ((i : ℕ) → many item m (drop (suc i) (x ∷ bytes)) ≡ many item k (drop (suc i) (x ∷ bytes))) → and_more n (many item m) (x ∷ bytes) ≡ and_more n (many item k) (x ∷ bytes)
    go zero next = refl
    go (suc n) next = ap (λ r. suc n + r) (next n)

abbrev all_of : (List ℕ → ℕ) → List ℕ → ℕ
all_of item bytes = many item (length bytes) bytes

-- an item, and what follows it
many_more : (item : List ℕ → ℕ) → item [] ≡ 0 → (n : ℕ) (bytes : List ℕ) → item bytes ≡ n → 0 < n → n ≤ length bytes → all_of item bytes ≡ n + all_of item (drop n bytes)
many_more item none zero bytes is some fits = let y : ⊥ = omega (arith, some) in absurd y
many_more item none (suc n) [] is some fits = let y : ⊥ = omega (arith, fits) in absurd y
many_more item none (suc n) (x ∷ bytes) is some fits =
    ap (λ k. and_more k (many item (length bytes)) (x ∷ bytes)) is
    ∙ ap (λ r. suc n + r) (many_any item none (length bytes) (length (drop (suc n) (x ∷ bytes))) (drop (suc n) (x ∷ bytes)) (omega (arith, length-drop (suc n) (x ∷ bytes))) (omega arith))

-- the same at a place, as a loop has it
more_at : (item : List ℕ → ℕ) → item [] ≡ 0 → (line : List ℕ) (at n : ℕ) → item (drop at line) ≡ n → 0 < n → n ≤ length (drop at line)
    → at + all_of item (drop at line) ≡ (at + n) + all_of item (drop (at + n) line)
more_at item none line at n is some fits =
    ap (λ r. at + r) (many_more item none n (drop at line) is some fits ∙ ap (λ r. n + all_of item r) (drop-drop n at line))
    ∙ (omega arith)

pub gap_more : (line : List ℕ) (at n : ℕ) → blank_len (take (length line - at) (drop at line)) ≡ n → 0 < n → n ≤ length (take (length line - at) (drop at line)) → at + gap_len (drop at line) ≡ (at + n) + gap_len (drop (at + n) line)
gap_more line at n is some fits = more_at blank_len refl line at n (sym (ap blank_len (tail_is line at)) ∙ is) some (subst (λ z. n ≤ length z) (tail_is line at) fits)

pub content_more : (line : List ℕ) (at n : ℕ) → plain_len (take (length line - at) (drop at line)) ≡ n → 0 < n → n ≤ length (take (length line - at) (drop at line)) → at + content_len (drop at line) ≡ (at + n) + content_len (drop (at + n) line)
content_more line at n is some fits = more_at plain_len refl line at n (sym (ap plain_len (tail_is line at)) ∙ is) some (subst (λ z. n ≤ length z) (tail_is line at) fits)
