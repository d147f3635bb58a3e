-- What a piece is, is known when one byte more than it has is at hand; and the punctuator that is taken is the longest.
use Rattle.std.proofs.Common.{◌≡◌, ◌∙◌, ap, sym, refl, subst, ℕ, zero, suc, ◌+◌, ◌-◌, ◌<◌, ◌≤◌, Bool, true, false, List, [], ◌∷◌, ◌++◌, length, take, drop, Option, Some, None, Result, Ok, Err, arith, length-drop}
use Rattle.std.specs.Prelude.{option_map, unwrap_or, codes, nat_eq, nat_lt, nat_le, not, cond, ◌&&◌, IsTrue, if◌then◌else◌}
use Rattle.std.specs.List.{prefix_len, starts_with, list_all, Contains, slice_index_or}
use Rattle.std.specs.Cmp.Lexicographic.{pointwise, as_long}
use Rattle.std.proofs.lemmas.Bool.{lt-ltb, leb-true, eqb-true}
use Rattle.std.proofs.lemmas.List.{take-append-le, length-append, length-take}
use Rattle.std.proofs.lemmas.List.Sums.{prefix_len-le-length}
use Rattle.std.proofs.lemmas.List.Folds.{length-prefix_len}
use Rattle.species_ast.specs.declared.tree.Value.{Value}
use Rattle.species_ast.specs.declared.token.TokenKind.TheVariants as kind
use Rattle.species_ast.specs.Text.Characters.{is_line_feed, is_word, begins, run_of, line_len}
use Rattle.species_ast.specs.Text.Comments.{closing_len, comment_len, last_backslash, splice_at}
use Rattle.species_ast.specs.Text.Numbers.{goes_on, run_more, literal_of}
use Rattle.species_ast.specs.Text.Words.{is_keyword, punctuators, first_len, punctuator_len}
use Rattle.species_ast.specs.Text.Directives.{Form, Skipped, Read, Macro, Wrong, form_of}
use Rattle.species_ast.specs.Text.Pieces.{Piece, Space, Lexeme, Define, Refused, line_comment, block_comment, number, word, punctuator, unless_spliced, directive, Start, Blank, LineComment, BlockComment, Letter, Digit, Hash, Other, start_of, piece_in, piece_of, at_least_one, extent_in, extent_of, HasLength}
use Rattle.species_ast.specs.Text.Law.{IsDecided, ReadsAhead, TakesTheLongest}

-- ---- runs of a class

-- a run is no longer than the bytes
run_within : (is_in : ℕ → Bool) (bytes : List ℕ) → run_of is_in bytes ≤ length bytes
run_within is_in bytes = subst (λ n. n ≤ length bytes) (sym (length-prefix_len is_in bytes)) (prefix_len-le-length is_in bytes)

prefix_turn : (c : Bool) (n m k : ℕ) → (n < k → m ≡ n) → cond c (1 + n) 0 < suc k → cond c (1 + m) 0 ≡ cond c (1 + n) 0
prefix_turn true n m k same h = ap (λ i. 1 + i) (same (omega (arith, h)))
prefix_turn false n m k same h = refl

prefix_stays : (is_in : ℕ → Bool) (bytes more : List ℕ) → prefix_len is_in bytes < length bytes → prefix_len is_in (bytes ++ more) ≡ prefix_len is_in bytes
prefix_stays is_in [] more h = let x : ⊥ = omega (arith, h) in absurd x
prefix_stays is_in (b ∷ bytes) more h =
    prefix_turn (is_in b) (prefix_len is_in bytes) (prefix_len is_in (bytes ++ more)) (length bytes) (prefix_stays is_in bytes more) h

-- a run that ends before the bytes do is the same with more behind
run_stays : (is_in : ℕ → Bool) (bytes more : List ℕ) → run_of is_in bytes < length bytes → run_of is_in (bytes ++ more) ≡ run_of is_in bytes
run_stays is_in bytes more h =
    length-prefix_len is_in (bytes ++ more)
    ∙ prefix_stays is_in bytes more (subst (λ n. n < length bytes) (length-prefix_len is_in bytes) h)
    ∙ sym (length-prefix_len is_in bytes)

more_turn : (c : Bool) (n k : ℕ) → n ≤ k → (if c then suc n else 0) ≤ suc k
more_turn true n k h = omega (arith, h)
more_turn false n k h = omega arith

more_within : (last : ℕ) (bytes : List ℕ) → run_more last bytes ≤ length bytes
more_within last [] = omega arith
more_within last (b ∷ bytes) = more_turn (goes_on last b) (run_more b bytes) (length bytes) (more_within b bytes)

more_same : (c : Bool) (n m k : ℕ) → (n < k → m ≡ n) → (if c then suc n else 0) < suc k → (if c then suc m else 0) ≡ (if c then suc n else 0)
more_same true n m k same h = ap suc (same (omega (arith, h)))
more_same false n m k same h = refl

more_stays : (last : ℕ) (bytes more : List ℕ) → run_more last bytes < length bytes → run_more last (bytes ++ more) ≡ run_more last bytes
more_stays last [] more h = let x : ⊥ = omega (arith, h) in absurd x
more_stays last (b ∷ bytes) more h =
    more_same (goes_on last b) (run_more b bytes) (run_more b (bytes ++ more)) (length bytes) (more_stays b bytes more) h

-- ---- comments

unclosed : (c : Bool) (n : ℕ) → (if c && false then Some 2 else None) ≡ Some n → ⊥
unclosed true n h = cc
unclosed false n h = cc

closing_turn : (c : Bool) (o all : Option ℕ) (n : ℕ) → ((m : ℕ) → o ≡ Some m → all ≡ Some m)
    → (if c then Some 2 else option_map suc o) ≡ Some n → (if c then Some 2 else option_map suc all) ≡ Some n
closing_turn true o all n same h = h
closing_turn false None all n same h = cc
closing_turn false (Some m) all n same h = ap (option_map suc) (same m refl) ∙ h

closing_stays : (bytes more : List ℕ) (n : ℕ) → closing_len bytes ≡ Some n → closing_len (bytes ++ more) ≡ Some n
closing_stays [] more n h = cc
closing_stays (b ∷ []) more n h = absurd (unclosed (nat_eq 42 b) n h)
closing_stays (b ∷ a ∷ bytes) more n h =
    closing_turn (begins (codes "*/") (b ∷ a ∷ bytes)) (closing_len (a ∷ bytes)) (closing_len (a ∷ (bytes ++ more))) n (closing_stays (a ∷ bytes) more) h

closed_turn : (c : Bool) (o : Option ℕ) (n k : ℕ) → ((m : ℕ) → o ≡ Some m → m ≤ suc k) → (if c then Some 2 else option_map suc o) ≡ Some n → n ≤ suc (suc k)
closed_turn true o n k within h = let i : 2 ≡ n = ap (λ o. unwrap_or o 0) h in omega (arith, i)
closed_turn false None n k within h = cc
closed_turn false (Some m) n k within h = let i : suc m ≡ n = ap (λ o. unwrap_or o 0) h in omega (arith, i, within m refl)

closing_within : (bytes : List ℕ) (n : ℕ) → closing_len bytes ≡ Some n → n ≤ length bytes
closing_within [] n h = cc
closing_within (b ∷ []) n h = absurd (unclosed (nat_eq 42 b) n h)
closing_within (b ∷ a ∷ bytes) n h =
    closed_turn (begins (codes "*/") (b ∷ a ∷ bytes)) (closing_len (a ∷ bytes)) n (length bytes) (closing_within (a ∷ bytes)) h

two_more : (o all : Option ℕ) (n : ℕ) → ((m : ℕ) → o ≡ Some m → all ≡ Some m) → option_map (λ i. i + 2) o ≡ Some n → option_map (λ i. i + 2) all ≡ Some n
two_more None all n same h = cc
two_more (Some m) all n same h = ap (option_map (λ i. i + 2)) (same m refl) ∙ h

comment_stays : (bytes more : List ℕ) (n : ℕ) → comment_len bytes ≡ Some n → comment_len (bytes ++ more) ≡ Some n
comment_stays [] more n h = cc
comment_stays (b ∷ []) more n h = cc
comment_stays (b ∷ a ∷ bytes) more n h = two_more (closing_len bytes) (closing_len (bytes ++ more)) n (closing_stays bytes more) h

two_within : (o : Option ℕ) (n k : ℕ) → ((m : ℕ) → o ≡ Some m → m ≤ k) → option_map (λ i. i + 2) o ≡ Some n → n ≤ suc (suc k)
two_within None n k within h = cc
two_within (Some m) n k within h = let i : m + 2 ≡ n = ap (λ o. unwrap_or o 0) h in omega (arith, i, within m refl)

comment_within : (bytes : List ℕ) (n : ℕ) → comment_len bytes ≡ Some n → n ≤ length bytes
comment_within [] n h = cc
comment_within (b ∷ []) n h = cc
comment_within (b ∷ a ∷ bytes) n h = two_within (closing_len bytes) n (length bytes) (closing_within bytes) h

-- ---- lines

line_after : (b : ℕ) (bytes : List ℕ) → line_len (b ∷ bytes) ≤ suc (line_len bytes)
line_after b bytes =
    let p : ℕ → Bool = λ a. not (is_line_feed a) in
    let long : line_len (b ∷ bytes) ≡ cond (p b) (1 + prefix_len p bytes) 0 = length-prefix_len p (b ∷ bytes) in
    let short : line_len bytes ≡ prefix_len p bytes = length-prefix_len p bytes in
    go (p b) (line_len (b ∷ bytes)) (prefix_len p bytes) (line_len bytes) long short
  where
    go : (c : Bool) (n m k : ℕ) → n ≡ cond c (1 + m) 0 → k ≡ m → n ≤ suc k
    go true n m k e i = omega (arith, e, i)
    go false n m k e i = omega (arith, e)

splice_of : Bool → List ℕ → Option ℕ
splice_of c line = if c then last_backslash line else None

splice_stays : (bytes more : List ℕ) → line_len bytes < length bytes → splice_at (bytes ++ more) ≡ splice_at bytes
unfolding splice_of
splice_stays bytes more h =
    let p : ℕ → Bool = λ a. not (is_line_feed a) in
    let n : ℕ = line_len bytes in
    let e : line_len (bytes ++ more) ≡ n = run_stays p bytes more h in
    let long : length (bytes ++ more) ≡ length bytes + length more = length-append bytes more in
    let less : nat_lt n (length (bytes ++ more)) ≡ true = lt-ltb n (length (bytes ++ more)) (omega (arith, h, long)) in
    let whole : splice_at (bytes ++ more) ≡ splice_of (nat_lt n (length (bytes ++ more))) (take n (bytes ++ more)) =
    ap (λ i. splice_of (nat_lt i (length (bytes ++ more))) (take i (bytes ++ more))) e in
    whole
    ∙ ap (λ c. splice_of c (take n (bytes ++ more))) less
    ∙ ap (splice_of true) (take-append-le n bytes more (omega (arith, h)))
    ∙ sym (ap (λ c. splice_of c (take n bytes)) (lt-ltb n (length bytes) h))

-- ---- punctuators

spelled_within : (spelling bytes : List ℕ) → begins spelling bytes ≡ true → length spelling ≤ length bytes
spelled_within spelling bytes h =
    omega (arith, as_long nat_eq spelling (take (length spelling) bytes) h, length-take (length spelling) bytes)

first_within : (spellings : List (List ℕ)) (bytes : List ℕ) → first_len spellings bytes ≤ length bytes
first_within [] bytes = omega arith
first_within (spelling ∷ others) bytes = go (begins spelling bytes) refl (first_within others bytes)
  where
    go : (c : Bool) → begins spelling bytes ≡ c → first_len others bytes ≤ length bytes → (if c then length spelling else first_len others bytes) ≤ length bytes
    go true e h = spelled_within spelling bytes e
    go false e h = h

-- two bytes that are the beginning of a longer punctuator are one
either : (p q r s t : Bool) (n : ℕ) → (p ≡ true → q ≡ true → ⊥) → (s ≡ true → t ≡ true → ⊥)
    → (if p && (q && (r && true)) then 3 else (if s && (t && (r && true)) then 3 else n)) ≡ (if p && (q && false) then 3 else (if s && (t && false) then 3 else n))
either true true r s t n h k = absurd (h refl refl)
either true false r true true n h k = absurd (k refl refl)
either true false r true false n h k = refl
either true false r false t n h k = refl
either false q r true true n h k = absurd (k refl refl)
either false q r true false n h k = refl
either false q r false t n h k = refl

shift_by : (z b a : ℕ) → punctuator_len (z ∷ z ∷ []) ≡ 2 → punctuator_len (b ∷ a ∷ []) < 2 → nat_eq z b ≡ true → nat_eq z a ≡ true → ⊥
shift_by z b a two h p q =
    let i : punctuator_len (z ∷ z ∷ []) ≡ punctuator_len (b ∷ a ∷ []) = ap (λ x. punctuator_len (x ∷ z ∷ [])) (eqb-true z b p) ∙ ap (λ x. punctuator_len (b ∷ x ∷ [])) (eqb-true z a q) in
    omega (arith, h, two, i)

two_bytes : (b a c : ℕ) (bytes : List ℕ) → punctuator_len (b ∷ a ∷ []) < 2 → punctuator_len (b ∷ a ∷ c ∷ bytes) ≡ punctuator_len (b ∷ a ∷ [])
unfolding punctuators
two_bytes b a c bytes h =
    either (nat_eq 60 b) (nat_eq 60 a) (nat_eq 61 c) (nat_eq 62 b) (nat_eq 62 a) (first_len (drop 2 punctuators) (b ∷ a ∷ []))
    (shift_by 60 b a refl h)
    (shift_by 62 b a refl h)

three_bytes : (b a c : ℕ) (bytes more : List ℕ) → punctuator_len (b ∷ a ∷ c ∷ (bytes ++ more)) ≡ punctuator_len (b ∷ a ∷ c ∷ bytes)
unfolding punctuators
three_bytes b a c bytes more = refl

sign_stays : (b a : ℕ) (bytes more : List ℕ) → punctuator_len (b ∷ a ∷ bytes) < length (b ∷ a ∷ bytes) → punctuator_len (b ∷ a ∷ (bytes ++ more)) ≡ punctuator_len (b ∷ a ∷ bytes)
sign_stays b a [] [] h = refl
sign_stays b a [] (c ∷ more) h = two_bytes b a c more h
sign_stays b a (c ∷ bytes) more h = three_bytes b a c bytes more

-- ---- pieces of the same bytes

same_word : (n : ℕ) (xs ys : List ℕ) → take n xs ≡ take n ys → word n xs ≡ word n ys
same_word n xs ys h = ap (λ text. Lexeme n text (if is_keyword text then kind.Keyword else kind.Name)) h

same_number : (n : ℕ) (xs ys : List ℕ) (value : Option Value) → take n xs ≡ take n ys → number n xs value ≡ number n ys value
same_number n xs ys None h = refl
same_number n xs ys (Some v) h = ap (λ text. Lexeme n text (kind.Number v)) h

same_sign : (n : ℕ) (xs ys : List ℕ) → take n xs ≡ take n ys → punctuator n xs ≡ punctuator n ys
same_sign zero xs ys h = refl
same_sign (suc n) xs ys h = ap (λ text. Lexeme (suc n) text kind.Punct) h

-- ---- all of them

Stays : Start → Bool → ℕ → List ℕ → List ℕ → Type 0
Stays s is_head b bytes more =
    (piece_in s is_head b (bytes ++ more) ≡ piece_in s is_head b bytes) × (extent_in s is_head b (bytes ++ more) ≡ extent_in s is_head b bytes)

line_comment_stays : (is_head : Bool) (b : ℕ) (bytes more : List ℕ) → suc (line_len bytes) < length (b ∷ bytes) → Stays LineComment is_head b bytes more
unfolding Stays
line_comment_stays is_head b bytes more h =
    let e : line_len (bytes ++ more) ≡ line_len bytes = run_stays (λ a. not (is_line_feed a)) bytes more (omega (arith, h)) in
    let i = splice_stays (b ∷ bytes) more (omega (arith, h, line_after b bytes)) in
    (ap (λ n. line_comment (suc n) (splice_at (b ∷ (bytes ++ more)))) e ∙ ap (line_comment (suc (line_len bytes))) i, ap suc e)

directive_stays : (b : ℕ) (bytes more : List ℕ) → suc (line_len bytes) < length (b ∷ bytes) → Stays Hash true b bytes more
unfolding Stays
directive_stays b bytes more h =
    let n : ℕ = suc (line_len bytes) in
    let e : line_len (bytes ++ more) ≡ line_len bytes = run_stays (λ a. not (is_line_feed a)) bytes more (omega (arith, h)) in
    let i = splice_stays (b ∷ bytes) more (omega (arith, h, line_after b bytes)) in
    let t = take-append-le n (b ∷ bytes) more (omega (arith, h)) in (
      ap (λ m. directive (suc m) (splice_at (b ∷ (bytes ++ more))) (form_of (take (suc m) (b ∷ (bytes ++ more))))) e
          ∙ ap (λ s. directive n s (form_of (take n (b ∷ (bytes ++ more))))) i
          ∙ ap (λ text. directive n (splice_at (b ∷ bytes)) (form_of text)) t,
      ap suc e,
    )

block_stays : (is_head : Bool) (b : ℕ) (bytes more : List ℕ) → unwrap_or (comment_len (b ∷ bytes)) (length (b ∷ bytes)) < length (b ∷ bytes) → Stays BlockComment is_head b bytes more
unfolding Stays
block_stays is_head b bytes more h = go (comment_len (b ∷ bytes)) refl h
  where
    go : (o : Option ℕ) → comment_len (b ∷ bytes) ≡ o → unwrap_or o (length (b ∷ bytes)) < length (b ∷ bytes) → Stays BlockComment is_head b bytes more
    go None e k = let x : ⊥ = omega (arith, k) in absurd x
    go (Some n) e k =
        let same : comment_len (b ∷ (bytes ++ more)) ≡ comment_len (b ∷ bytes) = comment_stays (b ∷ bytes) more n e ∙ sym e in
        (ap block_comment same, ap (λ o. unwrap_or o (length (b ∷ (bytes ++ more)))) (comment_stays (b ∷ bytes) more n e) ∙ sym (ap (λ o. unwrap_or o (length (b ∷ bytes))) e))

word_stays : (is_head : Bool) (b : ℕ) (bytes more : List ℕ) → suc (run_of is_word bytes) < length (b ∷ bytes) → Stays Letter is_head b bytes more
unfolding Stays
word_stays is_head b bytes more h =
    let n : ℕ = suc (run_of is_word bytes) in
    let e = run_stays is_word bytes more (omega (arith, h)) in
    (ap (λ m. word (suc m) (b ∷ (bytes ++ more))) e ∙ same_word n (b ∷ (bytes ++ more)) (b ∷ bytes) (take-append-le n (b ∷ bytes) more (omega (arith, h))), ap suc e)

number_stays : (is_head : Bool) (b : ℕ) (bytes more : List ℕ) → suc (run_more b bytes) < length (b ∷ bytes) → Stays Digit is_head b bytes more
unfolding Stays
number_stays is_head b bytes more h =
    let n : ℕ = suc (run_more b bytes) in
    let e = more_stays b bytes more (omega (arith, h)) in
    let t = take-append-le n (b ∷ bytes) more (omega (arith, h)) in (
      ap (λ m. number (suc m) (b ∷ (bytes ++ more)) (literal_of (take (suc m) (b ∷ (bytes ++ more))))) e
          ∙ ap (λ text. number n (b ∷ (bytes ++ more)) (literal_of text)) t
          ∙ same_number n (b ∷ (bytes ++ more)) (b ∷ bytes) (literal_of (take n (b ∷ bytes))) t,
      ap suc e,
    )

one_and_more : (n : ℕ) → 1 ≤ at_least_one n
one_and_more zero = omega arith
one_and_more (suc n) = omega arith

not_above : (n k : ℕ) → at_least_one n < k → n < k
not_above zero k h = omega (arith, h)
not_above (suc n) k h = h

sign_piece_stays : (is_head : Bool) (b a : ℕ) (bytes more : List ℕ) → at_least_one (punctuator_len (b ∷ a ∷ bytes)) < length (b ∷ a ∷ bytes) → Stays Other is_head b (a ∷ bytes) more
unfolding Stays
sign_piece_stays is_head b a bytes more h =
    let n : ℕ = punctuator_len (b ∷ a ∷ bytes) in
    let less = not_above n (length (b ∷ a ∷ bytes)) h in
    let e : punctuator_len (b ∷ a ∷ (bytes ++ more)) ≡ n = sign_stays b a bytes more less in
    (ap (λ m. punctuator m (b ∷ a ∷ (bytes ++ more))) e ∙ same_sign n (b ∷ a ∷ (bytes ++ more)) (b ∷ a ∷ bytes) (take-append-le n (b ∷ a ∷ bytes) more (omega (arith, less))), ap at_least_one e)

stays : (s : Start) (is_head : Bool) (b a : ℕ) (bytes more : List ℕ) → extent_in s is_head b (a ∷ bytes) < length (b ∷ a ∷ bytes) → Stays s is_head b (a ∷ bytes) more
unfolding Stays
stays Blank is_head b a bytes more h = (refl, refl)
stays LineComment is_head b a bytes more h = line_comment_stays is_head b (a ∷ bytes) more h
stays BlockComment is_head b a bytes more h = block_stays is_head b (a ∷ bytes) more h
stays Letter is_head b a bytes more h = word_stays is_head b (a ∷ bytes) more h
stays Digit is_head b a bytes more h = number_stays is_head b (a ∷ bytes) more h
stays Hash true b a bytes more h = directive_stays b (a ∷ bytes) more h
stays Hash false b a bytes more h = (refl, refl)
stays Other is_head b a bytes more h = sign_piece_stays is_head b a bytes more h

some_comment : (b : ℕ) (bytes : List ℕ) (o : Option ℕ) → comment_len (b ∷ bytes) ≡ o → 1 ≤ unwrap_or o (length (b ∷ bytes))
some_comment b bytes None e = omega arith
some_comment b bytes (Some n) e = go (closing_len (drop 2 (b ∷ bytes))) e
  where
    go : (o : Option ℕ) → option_map (λ i. i + 2) o ≡ Some n → 1 ≤ n
    go None k = cc
    go (Some m) k = let i : m + 2 ≡ n = ap (λ o. unwrap_or o 0) k in omega (arith, i)

-- something is looked at
some : (s : Start) (is_head : Bool) (b : ℕ) (bytes : List ℕ) → 1 ≤ extent_in s is_head b bytes
some Blank is_head b bytes = omega arith
some LineComment is_head b bytes = omega arith
some BlockComment is_head b bytes = some_comment b bytes (comment_len (b ∷ bytes)) refl
some Letter is_head b bytes = omega arith
some Digit is_head b bytes = omega arith
some Hash true b bytes = omega arith
some Hash false b bytes = omega arith
some Other is_head b bytes = one_and_more (punctuator_len (b ∷ bytes))

decided : (is_head : Bool) (b : ℕ) (bytes more : List ℕ) → extent_of is_head b bytes < length (b ∷ bytes) → IsDecided is_head b bytes more
unfolding piece_of extent_of Stays
decided is_head b [] more h = let x : ⊥ = omega (arith, h, some (start_of b []) is_head b []) in absurd x
decided is_head b (a ∷ bytes) more h =
    let both = stays (start_of b (a ∷ bytes)) is_head b a bytes more h in
    record { piece = both.0; extent = both.1 }

-- ---- lengths

spliced_length : (n : ℕ) (splice : Option ℕ) (p : Piece) → HasLength p n → HasLength (unless_spliced splice p) n
spliced_length n None p h = h
spliced_length n (Some at) p h = tt

directive_length : (n : ℕ) (splice : Option ℕ) (form : Form) → HasLength (directive n splice form) n
directive_length n splice Skipped = spliced_length n splice (Space n) refl
directive_length n splice (Read text k) = spliced_length n splice (Lexeme n text k) refl
directive_length n splice (Macro name run) = refl
directive_length n splice (Wrong r) = tt

line_comment_length : (n : ℕ) (splice : Option ℕ) → HasLength (line_comment n splice) n
line_comment_length n None = refl
line_comment_length n (Some at) = tt

block_length : (o : Option ℕ) (n : ℕ) → HasLength (block_comment o) (unwrap_or o n)
block_length None n = tt
block_length (Some m) n = refl

number_length : (n : ℕ) (bytes : List ℕ) (value : Option Value) → HasLength (number n bytes value) n
number_length n bytes None = tt
number_length n bytes (Some v) = refl

sign_length : (n : ℕ) (bytes : List ℕ) → HasLength (punctuator n bytes) (at_least_one n)
sign_length zero bytes = tt
sign_length (suc n) bytes = refl

length_in : (s : Start) (is_head : Bool) (b : ℕ) (bytes : List ℕ) → HasLength (piece_in s is_head b bytes) (extent_in s is_head b bytes)
length_in Blank is_head b bytes = refl
length_in LineComment is_head b bytes = line_comment_length (suc (line_len bytes)) (splice_at (b ∷ bytes))
length_in BlockComment is_head b bytes = block_length (comment_len (b ∷ bytes)) (length (b ∷ bytes))
length_in Letter is_head b bytes = refl
length_in Digit is_head b bytes = number_length (suc (run_more b bytes)) (b ∷ bytes) (literal_of (take (suc (run_more b bytes)) (b ∷ bytes)))
length_in Hash true b bytes = directive_length (suc (line_len bytes)) (splice_at (b ∷ bytes)) (form_of (take (suc (line_len bytes)) (b ∷ bytes)))
length_in Hash false b bytes = tt
length_in Other is_head b bytes = sign_length (punctuator_len (b ∷ bytes)) (b ∷ bytes)

comment_extent : (b : ℕ) (bytes : List ℕ) (o : Option ℕ) → comment_len (b ∷ bytes) ≡ o → unwrap_or o (length (b ∷ bytes)) ≤ length (b ∷ bytes)
comment_extent b bytes None e = omega arith
comment_extent b bytes (Some n) e = comment_within (b ∷ bytes) n e

sign_within : (n k : ℕ) → n ≤ suc k → at_least_one n ≤ suc k
sign_within zero k h = omega arith
sign_within (suc n) k h = h

within_in : (s : Start) (is_head : Bool) (b : ℕ) (bytes : List ℕ) → extent_in s is_head b bytes ≤ length (b ∷ bytes)
within_in Blank is_head b bytes = omega arith
within_in LineComment is_head b bytes = omega (arith, run_within (λ a. not (is_line_feed a)) bytes)
within_in BlockComment is_head b bytes = comment_extent b bytes (comment_len (b ∷ bytes)) refl
within_in Letter is_head b bytes = omega (arith, run_within is_word bytes)
within_in Digit is_head b bytes = omega (arith, more_within b bytes)
within_in Hash true b bytes = omega (arith, run_within (λ a. not (is_line_feed a)) bytes)
within_in Hash false b bytes = omega arith
within_in Other is_head b bytes = sign_within (punctuator_len (b ∷ bytes)) (length bytes) (first_within punctuators (b ∷ bytes))

sized : (is_head : Bool) (b : ℕ) (bytes : List ℕ) → HasLength (piece_of is_head b bytes) (extent_of is_head b bytes)
unfolding piece_of extent_of
sized is_head b bytes = length_in (start_of b bytes) is_head b bytes

within : (is_head : Bool) (b : ℕ) (bytes : List ℕ) → extent_of is_head b bytes ≤ length (b ∷ bytes)
unfolding extent_of
within is_head b bytes = within_in (start_of b bytes) is_head b bytes

pub reads_ahead : ReadsAhead
reads_ahead = record { sized = sized; within = within; decided = decided }

-- ---- the longest punctuator

-- each is as long as those behind it, or longer
falls : List (List ℕ) → Bool
falls [] = true
falls (s ∷ others) = list_all (λ o. nat_le (length o) (length s)) others && falls others

all_left : (c d : Bool) → (c && d) ≡ true → c ≡ true
all_left true d h = refl
all_left false d h = h

all_right : (c d : Bool) → (c && d) ≡ true → d ≡ true
all_right true d h = h
all_right false d h = cc

shorter : (n : ℕ) (others : List (List ℕ)) (k : ℕ) (d : List ℕ) → list_all (λ o. nat_le (length o) n) others ≡ true → k < length others → length (slice_index_or others k d) ≤ n
shorter n [] k d h lt = let x : ⊥ = omega (arith, lt) in absurd x
shorter n (o ∷ others) zero d h lt = leb-true (length o) n (all_left (nat_le (length o) n) (list_all (λ o. nat_le (length o) n) others) h)
shorter n (o ∷ others) (suc k) d h lt = shorter n others k d (all_right (nat_le (length o) n) (list_all (λ o. nat_le (length o) n) others) h) (omega (arith, lt))

longest_at : (spellings : List (List ℕ)) (k : ℕ) (d bytes : List ℕ) → falls spellings ≡ true → k < length spellings
    → begins (slice_index_or spellings k d) bytes ≡ true → length (slice_index_or spellings k d) ≤ first_len spellings bytes
unfolding falls
longest_at [] k d bytes f lt h = let x : ⊥ = omega (arith, lt) in absurd x
longest_at (s ∷ others) zero d bytes f lt h = ap_le (begins s bytes) h
  where
    ap_le : (c : Bool) → c ≡ true → length s ≤ (if c then length s else first_len others bytes)
    ap_le true e = omega arith
    ap_le false e = cc
longest_at (s ∷ others) (suc k) d bytes f lt h =
    go (begins s bytes)
    (shorter (length s) others k d (all_left (list_all (λ o. nat_le (length o) (length s)) others) (falls others) f) (omega (arith, lt)))
    (longest_at others k d bytes (all_right (list_all (λ o. nat_le (length o) (length s)) others) (falls others) f) (omega (arith, lt)) h)
  where
    go : (c : Bool) → length (slice_index_or others k d) ≤ length s → length (slice_index_or others k d) ≤ first_len others bytes
        → length (slice_index_or others k d) ≤ (if c then length s else first_len others bytes)
    go true a b = a
    go false a b = b

punctuators_fall : falls punctuators ≡ true
unfolding punctuators falls
punctuators_fall = refl

longest : (spelling bytes : List ℕ) → Contains punctuators spelling → IsTrue (begins spelling bytes) → length spelling ≤ punctuator_len bytes
longest spelling bytes at h =
    subst (λ s. length s ≤ punctuator_len bytes) at.2
    (longest_at punctuators at.0 spelling bytes punctuators_fall at.1 (subst (λ s. begins s bytes ≡ true) (sym at.2) h))

pub takes_the_longest : TakesTheLongest
takes_the_longest = record { longest = longest }
