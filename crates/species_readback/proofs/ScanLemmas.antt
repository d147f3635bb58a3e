-- The content of a directive, read part by part: blanks, closed comments, and parts.
use Rattle.std.proofs.Common.{◌≡◌, ◌⊎◌, inl, inr, ◌∙◌, ap, sym, refl, subst, ℕ, zero, suc, ◌+◌, ◌≤◌, Bool, true, false, List, [], ◌∷◌, length, take, drop, Option, Some, None, arith, length-drop}
use Rattle.std.specs.Prelude.{option_map, unwrap_or, codes, nat_eq, cond, ◌&&◌, if◌then◌else◌}
use Rattle.std.specs.List.{prefix_len}
use Rattle.std.proofs.lemmas.Bool.{eqb-true}
use Rattle.std.proofs.lemmas.List.Folds.{length-prefix_len}
use Rattle.std.proofs.lemmas.List.{drop-drop}
use Rattle.species_ast.specs.Text.Characters.{is_blank, is_letter, is_digit, is_word, begins, run_of}
use Rattle.species_ast.specs.Text.Comments.{closing_len, comment_len, and_more, many, closed_len, blank_len, gap_len, plain_len}
use Rattle.species_ast.specs.Text.Numbers.{goes_on, run_more}
use Rattle.species_ast.specs.Text.Parts.{Part, part_len, and_parts, parts_at, parts_of}

-- ---- bytes that are no `/`

abbrev pub IsNoSlash : ℕ → Type 0
IsNoSlash b = nat_eq 47 b ≡ false

not_slash : (p : ℕ → Bool) → p 47 ≡ false → (b : ℕ) → p b ≡ true → IsNoSlash b
not_slash p never b is = go (nat_eq 47 b) refl
  where
    go : (c : Bool) → nat_eq 47 b ≡ c → c ≡ false
    go false e = refl
    go true e =
        let same : p 47 ≡ p b = ap p (eqb-true 47 b e) in
        let x : true ≡ false = sym is ∙ (sym same ∙ never) in absurd cc

plain_turn : (c x y : Bool) (n : ℕ) → c ≡ false → (if c && x then 0 else (if c && y then n else 1)) ≡ 1
plain_turn false x y n h = refl
plain_turn true x y n h = cc

pub plain_byte : (b : ℕ) (bytes : List ℕ) → IsNoSlash b → plain_len (b ∷ bytes) ≡ 1
plain_byte b [] h = plain_turn (nat_eq 47 b) false false (closed_len (b ∷ [])) h
plain_byte b (a ∷ bytes) h = plain_turn (nat_eq 47 b) _ _ (closed_len (b ∷ a ∷ bytes)) h

-- ---- items one after the other

-- the bound does not matter where it is large enough
pub many_any : (item : List ℕ → ℕ) → item [] ≡ 0 → (m k : ℕ) (bytes : List ℕ) → length bytes ≤ m → length bytes ≤ k → many item m bytes ≡ many item k bytes
many_any item none zero zero bytes a b = refl
many_any item none zero (suc k) [] a b = sym (ap (λ n. and_more n (many item k) []) none)
many_any item none zero (suc k) (x ∷ bytes) a b = let y : ⊥ = omega (arith, a) in absurd y
many_any item none (suc m) zero [] a b = ap (λ n. and_more n (many item m) []) none
many_any item none (suc m) zero (x ∷ bytes) a b = let y : ⊥ = omega (arith, b) in absurd y
many_any item none (suc m) (suc k) [] a b = ap (λ n. and_more n (many item m) []) none ∙ sym (ap (λ n. and_more n (many item k) []) none)
many_any item none (suc m) (suc k) (x ∷ bytes) a b =
    go (item (x ∷ bytes)) (λ n. many_any item none m k (drop (suc n) (x ∷ bytes)) (omega (arith, a, length-drop (suc n) (x ∷ bytes))) (omega (arith, b, length-drop (suc n) (x ∷ bytes))))
  where
    go : (n : ℕ) → ((i : ℕ) → many item m (drop (suc i) (x ∷ bytes)) ≡ many item k (drop (suc i) (x ∷ bytes))) → and_more n (many item m) (x ∷ bytes) ≡ and_more n (many item k) (x ∷ bytes)
    go zero next = refl
    go (suc n) next = ap (λ r. suc n + r) (next n)

abbrev pub all_of : (List ℕ → ℕ) → List ℕ → ℕ
all_of item bytes = many item (length bytes) bytes

-- an item, and what follows it
pub many_more : (item : List ℕ → ℕ) → item [] ≡ 0 → (n b : ℕ) (bytes : List ℕ) → item (b ∷ bytes) ≡ suc n → all_of item (b ∷ bytes) ≡ suc n + all_of item (drop n bytes)
many_more item none n b bytes is =
    ap (λ k. and_more k (many item (length bytes)) (b ∷ bytes)) is
    ∙ ap (λ r. suc n + r) (many_any item none (length bytes) (length (drop n bytes)) (drop n bytes) (omega (arith, length-drop n bytes)) (omega arith))

-- no item
pub many_none : (item : List ℕ → ℕ) (b : ℕ) (bytes : List ℕ) → item (b ∷ bytes) ≡ 0 → all_of item (b ∷ bytes) ≡ 0
many_none item b bytes is = ap (λ k. and_more k (many item (length bytes)) (b ∷ bytes)) is

-- ---- runs of bytes that are no `/` are plain

number_turn : (c : Bool) (b : ℕ) (bytes : List ℕ) (n : ℕ) → (c ≡ true → IsNoSlash b)
    → all_of plain_len bytes ≡ n + all_of plain_len (drop n bytes)
    → all_of plain_len (b ∷ bytes) ≡ (if c then suc n else 0) + all_of plain_len (drop (if c then suc n else 0) (b ∷ bytes))
number_turn true b bytes n apart next =
    many_more plain_len refl 0 b bytes (plain_byte b bytes (apart refl)) ∙ (omega (arith, next))
number_turn false b bytes n apart next = omega arith

word_turn : (c : Bool) (b : ℕ) (bytes : List ℕ) (n : ℕ) → (c ≡ true → IsNoSlash b)
    → all_of plain_len bytes ≡ n + all_of plain_len (drop n bytes)
    → all_of plain_len (b ∷ bytes) ≡ cond c (1 + n) 0 + all_of plain_len (drop (cond c (1 + n) 0) (b ∷ bytes))
word_turn true b bytes n apart next =
    let e : suc n ≡ 1 + n = omega arith in
    subst (λ m. all_of plain_len (b ∷ bytes) ≡ m + all_of plain_len (drop m (b ∷ bytes))) e (number_turn true b bytes n apart next)
word_turn false b bytes n apart next = omega arith

run_plain : (p : ℕ → Bool) → p 47 ≡ false → (bytes : List ℕ) → all_of plain_len bytes ≡ prefix_len p bytes + all_of plain_len (drop (prefix_len p bytes) bytes)
run_plain p never [] = refl
run_plain p never (b ∷ bytes) = word_turn (p b) b bytes (prefix_len p bytes) (not_slash p never b) (run_plain p never bytes)

number_plain : (last : ℕ) (bytes : List ℕ) → all_of plain_len bytes ≡ run_more last bytes + all_of plain_len (drop (run_more last bytes) bytes)
number_plain last [] = refl
number_plain last (b ∷ bytes) = number_turn (goes_on last b) b bytes (run_more b bytes) (not_slash (goes_on last) refl b) (number_plain b bytes)

-- ---- runs cut behind their end

cut_turn : (c : Bool) (n m k : ℕ) → (n ≤ k → m ≡ n) → cond c (1 + n) 0 ≤ suc k → cond c (1 + m) 0 ≡ cond c (1 + n) 0
cut_turn true n m k same h = ap (λ i. 1 + i) (same (omega (arith, h)))
cut_turn false n m k same h = refl

pub prefix_cut : (p : ℕ → Bool) (bytes : List ℕ) (k : ℕ) → prefix_len p bytes ≤ k → prefix_len p (take k bytes) ≡ prefix_len p bytes
prefix_cut p [] zero h = refl
prefix_cut p [] (suc k) h = refl
prefix_cut p (b ∷ bytes) zero h = omega (arith, h)
prefix_cut p (b ∷ bytes) (suc k) h = cut_turn (p b) (prefix_len p bytes) (prefix_len p (take k bytes)) k (prefix_cut p bytes k) h

pub run_cut : (p : ℕ → Bool) (bytes : List ℕ) (k : ℕ) → run_of p bytes ≤ k → run_of p (take k bytes) ≡ run_of p bytes
run_cut p bytes k h =
    length-prefix_len p (take k bytes)
    ∙ prefix_cut p bytes k (subst (λ n. n ≤ k) (length-prefix_len p bytes) h)
    ∙ sym (length-prefix_len p bytes)

more_turn : (c : Bool) (n m k : ℕ) → (n ≤ k → m ≡ n) → (if c then suc n else 0) ≤ suc k → (if c then suc m else 0) ≡ (if c then suc n else 0)
more_turn true n m k same h = ap suc (same (omega (arith, h)))
more_turn false n m k same h = refl

pub more_cut : (last : ℕ) (bytes : List ℕ) (k : ℕ) → run_more last bytes ≤ k → run_more last (take k bytes) ≡ run_more last bytes
more_cut last [] zero h = refl
more_cut last [] (suc k) h = refl
more_cut last (b ∷ bytes) zero h = omega (arith, h)
more_cut last (b ∷ bytes) (suc k) h = more_turn (goes_on last b) (run_more b bytes) (run_more b (take k bytes)) k (more_cut b bytes k) h

-- ---- comments cut behind their end

unclosed : (c : Bool) (n : ℕ) → (if c && false then Some 2 else None) ≡ Some n → ⊥
unclosed true n h = cc
unclosed false n h = cc

least_turn : (c : Bool) (o : Option ℕ) (n : ℕ) → ((m : ℕ) → o ≡ Some m → 2 ≤ m) → (if c then Some 2 else option_map suc o) ≡ Some n → 2 ≤ n
least_turn true o n least h = let i : 2 ≡ n = ap (λ o. unwrap_or o 0) h in omega (arith, i)
least_turn false None n least h = cc
least_turn false (Some m) n least h = let i : suc m ≡ n = ap (λ o. unwrap_or o 0) h in omega (arith, i, least m refl)

closing_least : (bytes : List ℕ) (n : ℕ) → closing_len bytes ≡ Some n → 2 ≤ n
closing_least [] n h = cc
closing_least (b ∷ []) n h = absurd (unclosed (nat_eq 42 b) n h)
closing_least (b ∷ a ∷ bytes) n h = least_turn (begins (codes "*/") (b ∷ a ∷ bytes)) (closing_len (a ∷ bytes)) n (closing_least (a ∷ bytes)) h

closing_turn : (c : Bool) (o all : Option ℕ) (n k : ℕ) → ((m : ℕ) → o ≡ Some m → m ≤ k → all ≡ Some m)
    → (if c then Some 2 else option_map suc o) ≡ Some n → n ≤ suc k → (if c then Some 2 else option_map suc all) ≡ Some n
closing_turn true o all n k same h within = h
closing_turn false None all n k same h within = cc
closing_turn false (Some m) all n k same h within =
    let i : suc m ≡ n = ap (λ o. unwrap_or o 0) h in
    ap (option_map suc) (same m refl (omega (arith, i, within))) ∙ h

closing_cut : (bytes : List ℕ) (n k : ℕ) → closing_len bytes ≡ Some n → n ≤ k → closing_len (take k bytes) ≡ Some n
closing_cut [] n k h within = cc
closing_cut (b ∷ []) n k h within = absurd (unclosed (nat_eq 42 b) n h)
closing_cut (b ∷ a ∷ bytes) n zero h within = let x : ⊥ = omega (arith, within, closing_least (b ∷ a ∷ bytes) n h) in absurd x
closing_cut (b ∷ a ∷ bytes) n (suc zero) h within = let x : ⊥ = omega (arith, within, closing_least (b ∷ a ∷ bytes) n h) in absurd x
closing_cut (b ∷ a ∷ bytes) n (suc (suc k)) h within =
    closing_turn (begins (codes "*/") (b ∷ a ∷ bytes)) (closing_len (a ∷ bytes)) (closing_len (a ∷ take k bytes)) n (suc k)
    (λ m o small. closing_cut (a ∷ bytes) m (suc k) o small) h within

two_more : (o all : Option ℕ) (n k : ℕ) → ((m : ℕ) → o ≡ Some m → m ≤ k → all ≡ Some m)
    → option_map (λ i. i + 2) o ≡ Some n → n ≤ suc (suc k) → option_map (λ i. i + 2) all ≡ Some n
two_more None all n k same h within = cc
two_more (Some m) all n k same h within =
    let i : m + 2 ≡ n = ap (λ o. unwrap_or o 0) h in
    ap (option_map (λ i. i + 2)) (same m refl (omega (arith, i, within))) ∙ h

pub two_least : (o : Option ℕ) (n : ℕ) → option_map (λ i. i + 2) o ≡ Some n → 2 ≤ n
two_least None n h = cc
two_least (Some m) n h = let i : m + 2 ≡ n = ap (λ o. unwrap_or o 0) h in omega (arith, i)

pub comment_cut : (b a : ℕ) (bytes : List ℕ) (n k : ℕ) → comment_len (b ∷ a ∷ bytes) ≡ Some n → n ≤ suc (suc k) → comment_len (b ∷ a ∷ take k bytes) ≡ Some n
comment_cut b a bytes n k h within = two_more (closing_len bytes) (closing_len (take k bytes)) n k (λ m o small. closing_cut bytes m k o small) h within

-- ---- the content, read part by part

-- a part that begins with `b` at this offset
abbrev pub part_at : ℕ → ℕ → List ℕ → Part
part_at at b bytes = record { at = at; text = take (part_len b bytes) (b ∷ bytes) }

-- Bytes in which no comment stays open and none begins with `//`, by their blanks, their closed comments and their parts.
pub data Scan : ℕ → List ℕ → List Part → Type 0 where
  ends : (at : ℕ) → Scan at [] []
  blank : (at b : ℕ) (bytes : List ℕ) (ps : List Part) → is_blank b ≡ true → Scan (at + 1) bytes ps → Scan at (b ∷ bytes) ps
  comment : (at b a : ℕ) (bytes : List ℕ) (n : ℕ) (ps : List Part) → is_blank b ≡ false → begins (codes "/*") (b ∷ a ∷ bytes) ≡ true
      → comment_len (b ∷ a ∷ bytes) ≡ Some (suc (suc n)) → Scan (at + suc (suc n)) (drop n bytes) ps → Scan at (b ∷ a ∷ bytes) ps
  part : (at b : ℕ) (bytes : List ℕ) (n : ℕ) (ps : List Part) → is_blank b ≡ false → begins (codes "//") (b ∷ bytes) ≡ false
      → begins (codes "/*") (b ∷ bytes) ≡ false → part_len b bytes ≡ suc n → Scan (at + suc n) (drop n bytes) ps
      → Scan at (b ∷ bytes) (part_at at b bytes ∷ ps)

abbrev Σ-suc : ℕ → Type 0
Σ-suc x = (n : ℕ) × (x ≡ suc n)

-- a part has a byte at least
positive : (c d : Bool) (n m : ℕ) → Σ-suc (if c then suc n else (if d then suc m else 1))
positive true d n m = (n, refl)
positive false true n m = (m, refl)
positive false false n m = (0, refl)

len_positive : (b : ℕ) (bytes : List ℕ) → Σ-suc (part_len b bytes)
len_positive b bytes = positive (is_letter b) (is_digit b) (run_of is_word bytes) (run_more b bytes)

-- ---- from what is plain to its parts

blank_slash : (b : ℕ) → is_blank b ≡ true → IsNoSlash b
blank_slash = not_slash is_blank refl

plain_blank : (b : ℕ) (bytes : List ℕ) → is_blank b ≡ true → all_of plain_len (b ∷ bytes) ≡ 1 + all_of plain_len bytes
plain_blank b bytes h = many_more plain_len refl 0 b bytes (plain_byte b bytes (blank_slash b h))

-- the second byte of a comment is no `/`
star_slash : (c d : Bool) (a : ℕ) → (nat_eq 42 a ≡ d) → (c && (d && true)) ≡ true → (c && (nat_eq 47 a && true)) ≡ false
star_slash true true a e h =
    let same : 42 ≡ a = eqb-true 42 a e in
    subst (λ x. (true && (nat_eq 47 x && true)) ≡ false) same refl
star_slash true false a e h = cc
star_slash false d a e h = cc

pub opens_plain : (b a : ℕ) (bytes : List ℕ) → begins (codes "/*") (b ∷ a ∷ bytes) ≡ true → plain_len (b ∷ a ∷ bytes) ≡ unwrap_or (comment_len (b ∷ a ∷ bytes)) 0
opens_plain b a bytes h =
    let apart : begins (codes "//") (b ∷ a ∷ bytes) ≡ false = star_slash (nat_eq 47 b) (nat_eq 42 a) a refl h in
    ap (λ c. if c then 0 else (if begins (codes "/*") (b ∷ a ∷ bytes) then closed_len (b ∷ a ∷ bytes) else 1)) apart
    ∙ ap (λ c. if c then closed_len (b ∷ a ∷ bytes) else 1) h
    ∙ ap (λ c. if c then unwrap_or (comment_len (b ∷ a ∷ bytes)) 0 else 0) h

pub other_plain : (b : ℕ) (bytes : List ℕ) → begins (codes "//") (b ∷ bytes) ≡ false → begins (codes "/*") (b ∷ bytes) ≡ false → plain_len (b ∷ bytes) ≡ 1
other_plain b bytes h g =
    ap (λ c. if c then 0 else (if begins (codes "/*") (b ∷ bytes) then closed_len (b ∷ bytes) else 1)) h
    ∙ ap (λ c. if c then closed_len (b ∷ bytes) else 1) g

abbrev PlainUpTo : ℕ → List ℕ → ℕ → Type 0
PlainUpTo b bytes n = all_of plain_len (b ∷ bytes) ≡ n + all_of plain_len (drop n (b ∷ bytes))

part_turn : (c d : Bool) (b : ℕ) (bytes : List ℕ) (i j : ℕ) → all_of plain_len (b ∷ bytes) ≡ 1 + all_of plain_len bytes
    → all_of plain_len bytes ≡ i + all_of plain_len (drop i bytes) → all_of plain_len bytes ≡ j + all_of plain_len (drop j bytes)
    → PlainUpTo b bytes (if c then suc i else (if d then suc j else 1))
part_turn true d b bytes i j first w n = omega (arith, first, w)
part_turn false true b bytes i j first w n = omega (arith, first, n)
part_turn false false b bytes i j first w n = first

-- the bytes of a part are plain
part_plain : (b : ℕ) (bytes : List ℕ) → begins (codes "//") (b ∷ bytes) ≡ false → begins (codes "/*") (b ∷ bytes) ≡ false
    → PlainUpTo b bytes (part_len b bytes)
part_plain b bytes h g =
    let e : prefix_len is_word bytes ≡ run_of is_word bytes = sym (length-prefix_len is_word bytes) in
    part_turn (is_letter b) (is_digit b) b bytes (run_of is_word bytes) (run_more b bytes)
    (many_more plain_len refl 0 b bytes (other_plain b bytes h g))
    (subst (λ n. all_of plain_len bytes ≡ n + all_of plain_len (drop n bytes)) e (run_plain is_word refl bytes))
    (number_plain b bytes)

-- what follows plain bytes in plain bytes is plain
rest_plain : (n b : ℕ) (bytes : List ℕ) → all_of plain_len (b ∷ bytes) ≡ suc (length bytes)
    → all_of plain_len (b ∷ bytes) ≡ suc n + all_of plain_len (drop n bytes) → n ≤ length bytes → all_of plain_len (drop n bytes) ≡ length (drop n bytes)
rest_plain n b bytes whole split fits = omega (arith, whole, split, fits, length-drop n bytes)

-- ---- parts are no longer than the bytes

run_within : (p : ℕ → Bool) (bytes : List ℕ) → prefix_len p bytes ≤ length bytes
run_within p [] = omega arith
run_within p (b ∷ bytes) = go (p b) (prefix_len p bytes) (length bytes) (run_within p bytes)
  where
    go : (c : Bool) (n k : ℕ) → n ≤ k → cond c (1 + n) 0 ≤ suc k
    go true n k h = omega (arith, h)
    go false n k h = omega arith

more_within : (last : ℕ) (bytes : List ℕ) → run_more last bytes ≤ length bytes
more_within last [] = omega arith
more_within last (b ∷ bytes) = go (goes_on last b) (run_more b bytes) (length bytes) (more_within b bytes)
  where
    go : (c : Bool) (n k : ℕ) → n ≤ k → (if c then suc n else 0) ≤ suc k
    go true n k h = omega (arith, h)
    go false n k h = omega arith

pub part_within : (b : ℕ) (bytes : List ℕ) → part_len b bytes ≤ suc (length bytes)
part_within b bytes =
    go (is_letter b) (is_digit b) (run_of is_word bytes) (run_more b bytes)
    (subst (λ n. n ≤ length bytes) (sym (length-prefix_len is_word bytes)) (run_within is_word bytes)) (more_within b bytes)
  where
    go : (c d : Bool) (i j : ℕ) → i ≤ length bytes → j ≤ length bytes → (if c then suc i else (if d then suc j else 1)) ≤ suc (length bytes)
    go true d i j w n = omega (arith, w)
    go false true i j w n = omega (arith, n)
    go false false i j w n = omega arith

closing_within : (bytes : List ℕ) (n : ℕ) → closing_len bytes ≡ Some n → n ≤ length bytes
closing_within [] n h = cc
closing_within (b ∷ []) n h = absurd (unclosed (nat_eq 42 b) n h)
closing_within (b ∷ a ∷ bytes) n h = go (begins (codes "*/") (b ∷ a ∷ bytes)) (closing_len (a ∷ bytes)) (closing_within (a ∷ bytes)) h
  where
    go : (c : Bool) (o : Option ℕ) → ((m : ℕ) → o ≡ Some m → m ≤ suc (length bytes)) → (if c then Some 2 else option_map suc o) ≡ Some n → n ≤ suc (suc (length bytes))
    go true o within h = let i : 2 ≡ n = ap (λ o. unwrap_or o 0) h in omega (arith, i)
    go false None within h = cc
    go false (Some m) within h = let i : suc m ≡ n = ap (λ o. unwrap_or o 0) h in omega (arith, i, within m refl)

pub comment_within : (b a : ℕ) (bytes : List ℕ) (n : ℕ) → comment_len (b ∷ a ∷ bytes) ≡ Some (suc (suc n)) → n ≤ length bytes
comment_within b a bytes n h = go (closing_len bytes) (closing_within bytes) h
  where
    go : (o : Option ℕ) → ((m : ℕ) → o ≡ Some m → m ≤ length bytes) → option_map (λ i. i + 2) o ≡ Some (suc (suc n)) → n ≤ length bytes
    go None within h = cc
    go (Some m) within h = let i : m + 2 ≡ suc (suc n) = ap (λ o. unwrap_or o 0) h in omega (arith, i, within m refl)

-- ---- the parts of bytes behind a gap

at_zero : (at : ℕ) → at + 0 ≡ at
at_zero at = omega arith

gap_blank : (b : ℕ) (bytes : List ℕ) → is_blank b ≡ true → gap_len (b ∷ bytes) ≡ suc (gap_len bytes)
gap_blank b bytes h =
    many_more blank_len refl 0 b bytes (ap (λ c. if c then 1 else closed_len (b ∷ bytes)) h) ∙ (omega arith)

parts_blank : (m at b : ℕ) (bytes : List ℕ) → is_blank b ≡ true → parts_at (suc m) at (b ∷ bytes) ≡ parts_at (suc m) (at + 1) bytes
parts_blank m at b bytes h =
    let e : at + suc (gap_len bytes) ≡ (at + 1) + gap_len bytes = omega arith in
    ap (λ g. and_parts (at + g) (drop g (b ∷ bytes)) (parts_at m)) (gap_blank b bytes h)
    ∙ ap (λ p. and_parts p (drop (gap_len bytes) bytes) (parts_at m)) e

closed_is : (b a : ℕ) (bytes : List ℕ) (n : ℕ) → begins (codes "/*") (b ∷ a ∷ bytes) ≡ true → comment_len (b ∷ a ∷ bytes) ≡ Some n → closed_len (b ∷ a ∷ bytes) ≡ n
closed_is b a bytes n h o =
    ap (λ c. if c then unwrap_or (comment_len (b ∷ a ∷ bytes)) 0 else 0) h ∙ ap (λ o. unwrap_or o 0) o

gap_comment : (b a : ℕ) (bytes : List ℕ) (n : ℕ) → is_blank b ≡ false → begins (codes "/*") (b ∷ a ∷ bytes) ≡ true
    → comment_len (b ∷ a ∷ bytes) ≡ Some (suc (suc n)) → gap_len (b ∷ a ∷ bytes) ≡ suc (suc n) + gap_len (drop n bytes)
gap_comment b a bytes n k h o =
    many_more blank_len refl (suc n) b (a ∷ bytes)
    (ap (λ c. if c then 1 else closed_len (b ∷ a ∷ bytes)) k ∙ closed_is b a bytes (suc (suc n)) h o)

drop_more : (n g : ℕ) (bytes : List ℕ) → drop (n + g) bytes ≡ drop g (drop n bytes)
drop_more n g bytes = sym (drop-drop g n bytes)

parts_comment : (m at b a : ℕ) (bytes : List ℕ) (n : ℕ) → is_blank b ≡ false → begins (codes "/*") (b ∷ a ∷ bytes) ≡ true
    → comment_len (b ∷ a ∷ bytes) ≡ Some (suc (suc n)) → parts_at (suc m) at (b ∷ a ∷ bytes) ≡ parts_at (suc m) (at + suc (suc n)) (drop n bytes)
parts_comment m at b a bytes n k h o =
    let g = gap_len (drop n bytes) in
    let e : at + (suc (suc n) + g) ≡ (at + suc (suc n)) + g = omega arith in
    ap (λ g. and_parts (at + g) (drop g (b ∷ a ∷ bytes)) (parts_at m)) (gap_comment b a bytes n k h o)
    ∙ ap (λ p. and_parts p (drop (suc (suc n) + g) (b ∷ a ∷ bytes)) (parts_at m)) e
    ∙ ap (λ z. and_parts ((at + suc (suc n)) + g) z (parts_at m)) (drop_more (suc (suc n)) g (b ∷ a ∷ bytes))

gap_none : (b : ℕ) (bytes : List ℕ) → is_blank b ≡ false → begins (codes "/*") (b ∷ bytes) ≡ false → gap_len (b ∷ bytes) ≡ 0
gap_none b bytes k h =
    many_none blank_len b bytes
    (ap (λ c. if c then 1 else closed_len (b ∷ bytes)) k ∙ ap (λ c. if c then unwrap_or (comment_len (b ∷ bytes)) 0 else 0) h)

parts_part : (m at b : ℕ) (bytes : List ℕ) (n : ℕ) → is_blank b ≡ false → begins (codes "/*") (b ∷ bytes) ≡ false → part_len b bytes ≡ suc n
    → parts_at (suc m) at (b ∷ bytes) ≡ part_at at b bytes ∷ parts_at m (at + suc n) (drop n bytes)
parts_part m at b bytes n k h len =
    ap (λ g. and_parts (at + g) (drop g (b ∷ bytes)) (parts_at m)) (gap_none b bytes k h)
    ∙ ap (λ p. and_parts p (b ∷ bytes) (parts_at m)) (at_zero at)
    ∙ ap (λ l. part_at at b bytes ∷ parts_at m (at + l) (drop l (b ∷ bytes))) len

-- ---- the parts of plain bytes

pub decide : (c : Bool) → (c ≡ true) ⊎ (c ≡ false)
decide true = inl refl
decide false = inr refl

pub some_or_none : (o : Option ℕ) → ((n : ℕ) × (o ≡ Some n)) ⊎ (o ≡ None)
some_or_none None = inr refl
some_or_none (Some n) = inl (n, refl)

pub none_plain : (b a : ℕ) (bytes : List ℕ) → begins (codes "/*") (b ∷ a ∷ bytes) ≡ true → comment_len (b ∷ a ∷ bytes) ≡ None → plain_len (b ∷ a ∷ bytes) ≡ 0
none_plain b a bytes h o = opens_plain b a bytes h ∙ ap (λ o. unwrap_or o 0) o

pub slash_plain : (b : ℕ) (bytes : List ℕ) → begins (codes "//") (b ∷ bytes) ≡ true → plain_len (b ∷ bytes) ≡ 0
slash_plain b bytes h = ap (λ c. if c then 0 else (if begins (codes "/*") (b ∷ bytes) then closed_len (b ∷ bytes) else 1)) h

abbrev pub IsWhole : List ℕ → Type 0
IsWhole bytes = all_of plain_len bytes ≡ length bytes

no_item : {X : Type 0} (b : ℕ) (bytes : List ℕ) → IsWhole (b ∷ bytes) → plain_len (b ∷ bytes) ≡ 0 → X
no_item b bytes whole none = let x : ⊥ = omega (arith, whole, many_none plain_len b bytes none) in absurd x

abbrev Scans : ℕ → Type 0
Scans k = (at m : ℕ) (bytes : List ℕ) → length bytes ≤ k → length bytes ≤ m → IsWhole bytes → Scan at bytes (parts_at m at bytes)

scan_blank : (k at m b : ℕ) (bytes : List ℕ) → Scans k → length bytes ≤ k → length bytes ≤ m → IsWhole (b ∷ bytes) → is_blank b ≡ true
    → Scan at (b ∷ bytes) (parts_at (suc m) at (b ∷ bytes))
scan_blank k at m b bytes more small short whole h =
    subst (Scan at (b ∷ bytes)) (sym (parts_blank m at b bytes h))
    (Scan.blank at b bytes (parts_at (suc m) (at + 1) bytes) h
    (more (at + 1) (suc m) bytes small (omega (arith, short)) (omega (arith, whole, plain_blank b bytes h))))

scan_comment : (k at m b a : ℕ) (bytes : List ℕ) (n : ℕ) → Scans k → suc (length bytes) ≤ k → suc (length bytes) ≤ m → IsWhole (b ∷ a ∷ bytes) → is_blank b ≡ false
    → begins (codes "/*") (b ∷ a ∷ bytes) ≡ true → comment_len (b ∷ a ∷ bytes) ≡ Some (suc (suc n)) → Scan at (b ∷ a ∷ bytes) (parts_at (suc m) at (b ∷ a ∷ bytes))
scan_comment k at m b a bytes n more small short whole g h o =
    let split = many_more plain_len refl (suc n) b (a ∷ bytes) (opens_plain b a bytes h ∙ ap (λ o. unwrap_or o 0) o) in
    let rest : IsWhole (drop n bytes) = omega (arith, whole, split, comment_within b a bytes n o, length-drop n bytes) in
    subst (Scan at (b ∷ a ∷ bytes)) (sym (parts_comment m at b a bytes n g h o))
    (Scan.comment at b a bytes n (parts_at (suc m) (at + suc (suc n)) (drop n bytes)) g h o
    (more (at + suc (suc n)) (suc m) (drop n bytes) (omega (arith, small, length-drop n bytes)) (omega (arith, short, length-drop n bytes)) rest))

scan_part : (k at m b : ℕ) (bytes : List ℕ) → Scans k → length bytes ≤ k → length bytes ≤ m → IsWhole (b ∷ bytes) → is_blank b ≡ false
    → begins (codes "//") (b ∷ bytes) ≡ false → begins (codes "/*") (b ∷ bytes) ≡ false → Scan at (b ∷ bytes) (parts_at (suc m) at (b ∷ bytes))
scan_part k at m b bytes more small short whole g s h = go (len_positive b bytes)
  where
    go : Σ-suc (part_len b bytes) → Scan at (b ∷ bytes) (parts_at (suc m) at (b ∷ bytes))
    go (n, len) =
        let split : all_of plain_len (b ∷ bytes) ≡ suc n + all_of plain_len (drop n bytes) = subst (PlainUpTo b bytes) len (part_plain b bytes s h) in
        let fits : suc n ≤ suc (length bytes) = subst (λ l. l ≤ suc (length bytes)) len (part_within b bytes) in
        subst (Scan at (b ∷ bytes)) (sym (parts_part m at b bytes n g h len))
        (Scan.part at b bytes n (parts_at m (at + suc n) (drop n bytes)) g s h len
        (more (at + suc n) m (drop n bytes) (omega (arith, small, length-drop n bytes)) (omega (arith, short, length-drop n bytes))
        (rest_plain n b bytes whole split (omega (arith, fits)))))

scan_two : (k at m b a : ℕ) (bytes : List ℕ) → Scans k → suc (length bytes) ≤ k → suc (length bytes) ≤ m → IsWhole (b ∷ a ∷ bytes) → is_blank b ≡ false
    → Scan at (b ∷ a ∷ bytes) (parts_at (suc m) at (b ∷ a ∷ bytes))
scan_two k at m b a bytes more small short whole g = go (decide (begins (codes "/*") (b ∷ a ∷ bytes))) (decide (begins (codes "//") (b ∷ a ∷ bytes)))
  where
    closed : begins (codes "/*") (b ∷ a ∷ bytes) ≡ true → ((n : ℕ) × (comment_len (b ∷ a ∷ bytes) ≡ Some n)) ⊎ (comment_len (b ∷ a ∷ bytes) ≡ None)
        → Scan at (b ∷ a ∷ bytes) (parts_at (suc m) at (b ∷ a ∷ bytes))
    closed h (inr none) = no_item b (a ∷ bytes) whole (none_plain b a bytes h none)
    closed h (inl (zero, o)) = let x : ⊥ = omega (arith, two_least (closing_len bytes) 0 o) in absurd x
    closed h (inl (suc zero, o)) = let x : ⊥ = omega (arith, two_least (closing_len bytes) 1 o) in absurd x
    closed h (inl (suc (suc n), o)) = scan_comment k at m b a bytes n more small short whole g h o

    go : (begins (codes "/*") (b ∷ a ∷ bytes) ≡ true) ⊎ (begins (codes "/*") (b ∷ a ∷ bytes) ≡ false)
        → (begins (codes "//") (b ∷ a ∷ bytes) ≡ true) ⊎ (begins (codes "//") (b ∷ a ∷ bytes) ≡ false)
        → Scan at (b ∷ a ∷ bytes) (parts_at (suc m) at (b ∷ a ∷ bytes))
    go (inl h) s = closed h (some_or_none (comment_len (b ∷ a ∷ bytes)))
    go (inr h) (inl s) = no_item b (a ∷ bytes) whole (slash_plain b (a ∷ bytes) s)
    go (inr h) (inr s) = scan_part k at m b (a ∷ bytes) more small short whole g s h

pub and_false : (c : Bool) → (c && false) ≡ false
and_false true = refl
and_false false = refl

scan_one : (k at m b : ℕ) → Scans k → IsWhole (b ∷ []) → (is_blank b ≡ true) ⊎ (is_blank b ≡ false) → Scan at (b ∷ []) (parts_at (suc m) at (b ∷ []))
scan_one k at m b more whole (inl h) = scan_blank k at m b [] more (omega arith) (omega arith) whole h
scan_one k at m b more whole (inr h) = scan_part k at m b [] more (omega arith) (omega arith) whole h (and_false (nat_eq 47 b)) (and_false (nat_eq 47 b))

scan_more : (k at m b a : ℕ) (bytes : List ℕ) → Scans k → suc (length bytes) ≤ k → suc (length bytes) ≤ m → IsWhole (b ∷ a ∷ bytes)
    → (is_blank b ≡ true) ⊎ (is_blank b ≡ false) → Scan at (b ∷ a ∷ bytes) (parts_at (suc m) at (b ∷ a ∷ bytes))
scan_more k at m b a bytes more small short whole (inl h) = scan_blank k at m b (a ∷ bytes) more small short whole h
scan_more k at m b a bytes more small short whole (inr h) = scan_two k at m b a bytes more small short whole h

scans : (k : ℕ) → Scans k
scans k at zero [] small short whole = Scan.ends at
scans k at (suc m) [] small short whole = Scan.ends at
scans zero at m (b ∷ bytes) small short whole = let x : ⊥ = omega (arith, small) in absurd x
scans (suc k) at zero (b ∷ bytes) small short whole = let x : ⊥ = omega (arith, short) in absurd x
scans (suc k) at (suc m) (b ∷ []) small short whole = scan_one k at m b (scans k) whole (decide (is_blank b))
scans (suc k) at (suc m) (b ∷ a ∷ bytes) small short whole =
    scan_more k at m b a bytes (scans k) (omega (arith, small)) (omega (arith, short)) whole (decide (is_blank b))

-- plain bytes have the parts that are read of them
pub scan_whole : (at : ℕ) (bytes : List ℕ) → IsWhole bytes → Scan at bytes (parts_of at bytes)
scan_whole at bytes whole = scans (length bytes) at (length bytes) bytes (omega arith) (omega arith) whole

-- ---- from parts to what is plain, and to what is read

pub parts_are : (at : ℕ) (bytes : List ℕ) (ps : List Part) → Scan at bytes ps → (m : ℕ) → length bytes ≤ m → parts_at m at bytes ≡ ps
parts_are at bytes ps (Scan.ends _) zero short = refl
parts_are at bytes ps (Scan.ends _) (suc m) short = refl
parts_are at t v (Scan.blank _ b bytes ps h s) zero short = let x : ⊥ = omega (arith, short) in absurd x
parts_are at t v (Scan.blank _ b bytes ps h s) (suc m) short = parts_blank m at b bytes h ∙ parts_are (at + 1) bytes ps s (suc m) (omega (arith, short))
parts_are at t v (Scan.comment _ b a bytes n ps g h o s) zero short = let x : ⊥ = omega (arith, short) in absurd x
parts_are at t v (Scan.comment _ b a bytes n ps g h o s) (suc m) short =
    parts_comment m at b a bytes n g h o ∙ parts_are (at + suc (suc n)) (drop n bytes) ps s (suc m) (omega (arith, short, length-drop n bytes))
parts_are at t v (Scan.part _ b bytes n ps g f h len s) zero short = let x : ⊥ = omega (arith, short) in absurd x
parts_are at t v (Scan.part _ b bytes n ps g f h len s) (suc m) short =
    parts_part m at b bytes n g h len ∙ ap (λ ps. part_at at b bytes ∷ ps) (parts_are (at + suc n) (drop n bytes) ps s m (omega (arith, short, length-drop n bytes)))

pub is_whole : (at : ℕ) (bytes : List ℕ) (ps : List Part) → Scan at bytes ps → IsWhole bytes
is_whole at t v (Scan.ends _) = refl
is_whole at t v (Scan.blank _ b bytes ps h s) = omega (arith, plain_blank b bytes h, is_whole (at + 1) bytes ps s)
is_whole at t v (Scan.comment _ b a bytes n ps g h o s) =
    let split = many_more plain_len refl (suc n) b (a ∷ bytes) (opens_plain b a bytes h ∙ ap (λ o. unwrap_or o 0) o) in
    omega (arith, split, is_whole (at + suc (suc n)) (drop n bytes) ps s, comment_within b a bytes n o, length-drop n bytes)
is_whole at t v (Scan.part _ b bytes n ps g f h len s) =
    let split : all_of plain_len (b ∷ bytes) ≡ suc n + all_of plain_len (drop n bytes) = subst (PlainUpTo b bytes) len (part_plain b bytes f h) in
    let fits : suc n ≤ suc (length bytes) = subst (λ l. l ≤ suc (length bytes)) len (part_within b bytes) in
    omega (arith, split, fits, is_whole (at + suc n) (drop n bytes) ps s, length-drop n bytes)

pub plain_within : (b : ℕ) (bytes : List ℕ) (x : ℕ) → plain_len (b ∷ bytes) ≡ suc x → x ≤ length bytes
plain_within b [] x e = omega (arith, e, other_plain b [] (and_false (nat_eq 47 b)) (and_false (nat_eq 47 b)))
plain_within b (a ∷ bytes) x e = go (decide (begins (codes "/*") (b ∷ a ∷ bytes))) (decide (begins (codes "//") (b ∷ a ∷ bytes)))
  where
    closed : begins (codes "/*") (b ∷ a ∷ bytes) ≡ true → ((n : ℕ) × (comment_len (b ∷ a ∷ bytes) ≡ Some n)) ⊎ (comment_len (b ∷ a ∷ bytes) ≡ None) → x ≤ suc (length bytes)
    closed h (inr none) = let y : ⊥ = omega (arith, e, none_plain b a bytes h none) in absurd y
    closed h (inl (zero, o)) = let y : ⊥ = omega (arith, two_least (closing_len bytes) 0 o) in absurd y
    closed h (inl (suc zero, o)) = let y : ⊥ = omega (arith, two_least (closing_len bytes) 1 o) in absurd y
    closed h (inl (suc (suc n), o)) =
        let size : plain_len (b ∷ a ∷ bytes) ≡ suc (suc n) = opens_plain b a bytes h ∙ ap (λ o. unwrap_or o 0) o in
        omega (arith, e, size, comment_within b a bytes n o)

    go : (begins (codes "/*") (b ∷ a ∷ bytes) ≡ true) ⊎ (begins (codes "/*") (b ∷ a ∷ bytes) ≡ false)
        → (begins (codes "//") (b ∷ a ∷ bytes) ≡ true) ⊎ (begins (codes "//") (b ∷ a ∷ bytes) ≡ false) → x ≤ suc (length bytes)
    go (inl h) s = closed h (some_or_none (comment_len (b ∷ a ∷ bytes)))
    go (inr h) (inl s) = let y : ⊥ = omega (arith, e, slash_plain b (a ∷ bytes) s) in absurd y
    go (inr h) (inr s) = omega (arith, e, other_plain b (a ∷ bytes) s h)
