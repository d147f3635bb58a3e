-- A text is cut part by part.
use Rattle.std.proofs.Common.{◌≡◌, ◌∙◌, ap, sym, subst, refl, ℕ, zero, suc, ◌+◌, ◌-◌, ◌*◌, ◌<◌, ◌≤◌, List, [], ◌∷◌, ◌++◌, length, take, drop, get_or, Option, Some, None, Bool, true, false, arith, length-drop, drop-cons, drop-drop, append_assoc, append-nil, take_all}
use Rattle.std.proofs.lemmas.Bool.{leb-true}
use Rattle.std.proofs.lemmas.Bool.Decides.{nat_tests}
use Rattle.std.specs.Prelude.{if◌then◌else◌, nat_le, nat_lt, option_map, option_and_then, unwrap_or, codes, ◌&&◌, bytes_eq, decimal}
use Rattle.std.specs.Char.{digit_value}
use Rattle.std.specs.Str.Parse.{digits_value, digits_value_after}
use Rattle.species_ast.specs.Names.{is_letter, is_digit, is_word, is_keyword}
use Rattle.species_ast.specs.Text.Characters.{begins, run_of}
use Rattle.species_ast.specs.Text.Comments.{closing_len}
use Rattle.species_notation.specs.declared.parts.Part.{Part}
use Rattle.species_notation.specs.declared.parts.Part.TheVariants as part
use Rattle.species_notation.specs.Parts.{most, gap_front, gap_at, is_sign, Start, start_of, word_of_run, number_of_run, run_front, Taken, taken_in, taken_at, taken_from, with_part, and_parts, parts_at, parts_of}

-- a slice from a place on
pub tail_is : (xs : List ℕ) (n : ℕ) → take (length xs - n) (drop n xs) ≡ drop n xs
tail_is xs n = take_all (length xs - n) (drop n xs) (omega (arith, length-drop n xs))

-- ---- the end of a comment

closing_at : (b : ℕ) (bytes : List ℕ) (found : Bool) → begins (codes "*/") (b ∷ bytes) ≡ found
    → closing_len (b ∷ bytes) ≡ (if found then Some 2 else option_map suc (closing_len bytes))
closing_at b bytes found e = ap (λ c. if c then Some 2 else option_map suc (closing_len bytes)) e

map_map : (o : Option ℕ) (at : ℕ) → option_map (λ n. n + at) (option_map suc o) ≡ option_map (λ n. n + (at + 1)) o
map_map None at = refl
map_map (Some n) at = ap Some (omega arith)

pub closing_later : (bytes : List ℕ) (at : ℕ) → at < length bytes → begins (codes "*/") (take (length bytes - at) (drop at bytes)) ≡ false
    → option_map (λ n. n + at) (closing_len (drop at bytes)) ≡ option_map (λ n. n + (at + 1)) (closing_len (drop (at + 1) bytes))
closing_later bytes at lt e =
    let is = drop-cons bytes at 0 lt in
    let next : suc at ≡ at + 1 = omega arith in
    ap (option_map (λ n. n + at)) (ap closing_len is ∙ closing_at (get_or bytes at 0) (drop (suc at) bytes) false (sym (ap (begins (codes "*/")) (tail_is bytes at ∙ is)) ∙ e))
    ∙ map_map (closing_len (drop (suc at) bytes)) at
    ∙ ap (λ i. option_map (λ n. n + (at + 1)) (closing_len (drop i bytes))) next

-- ---- numbers

-- more digits make a number no smaller
value_grows : (n : ℕ) (digits : List ℕ) → n ≤ digits_value_after 10 n digits
value_grows n [] = omega arith
value_grows n (d ∷ digits) =
    let more = value_grows (n * 10 + digit_value d) digits in
    grind (arith, more)

pub too_large : (n : ℕ) (digits all : List ℕ) → digits_value 10 all ≡ digits_value_after 10 n digits → most < n
    → (if nat_le (digits_value 10 all) most then Some (digits_value 10 all) else None) ≡ None
too_large n digits all e large = go (nat_le (digits_value 10 all) most) refl
  where
    go : (b : Bool) → nat_le (digits_value 10 all) most ≡ b → (if b then Some (digits_value 10 all) else None) ≡ None
    go false is = refl
    go true is = let x : ⊥ = omega (arith, large, e, value_grows n digits, leb-true _ _ is) in absurd x

pub next_digit : (n i v : ℕ) (all : List ℕ) → i < length all → v ≡ digit_value (get_or all i 0)
    → digits_value_after 10 n (drop i all) ≡ digits_value_after 10 (n * 10 + v) (drop (suc i) all)
next_digit n i v all lt is =
    ap (digits_value_after 10 n) (drop-cons all i 0 lt) ∙ ap (λ d. digits_value_after 10 (n * 10 + d) (drop (suc i) all)) (sym is)

-- ---- what stands at the front has a byte at least

none_some : {A : Type 0} (x : A) → None ≡ Some x → ⊥
none_some x h = cc

some_same : {A : Type 0} (x y : A) → Some x ≡ Some y → x ≡ y
some_same x y h = ap (λ o. unwrap_or o x) h

longer : (n : ℕ) (o : Option Part) (t : Taken) → 0 < n → Some (n, o) ≡ Some t → 0 < t.0
longer n o t lt h = subst (λ k. 0 < k) (ap (λ p. p.0) (some_same (n, o) t h)) lt

never_gap : (l d a s : Bool) → (if l then Start.Letter else if d then Start.Digit else if a then Start.Arrow else if s then Start.Sign else Start.Wrong) ≡ Start.Gap → ⊥
never_gap true d a s h = cc
never_gap false true a s h = cc
never_gap false false true s h = cc
never_gap false false false true h = cc
never_gap false false false false h = cc

gap_starts : (g l d a s : Bool) → (if g then Start.Gap else if l then Start.Letter else if d then Start.Digit else if a then Start.Arrow else if s then Start.Sign else Start.Wrong) ≡ Start.Gap → g ≡ true
gap_starts true l d a s h = refl
gap_starts false l d a s h = absurd (never_gap l d a s h)

above_zero : (n : ℕ) → nat_lt 0 n ≡ true → 0 < n
above_zero n h = grind (arith, nat_tests)

word_long : (run : List ℕ) (t : Taken) → 0 < length run → word_of_run run ≡ Some t → 0 < t.0
word_long run t lt h = go (is_keyword run) h
  where
    go : (b : Bool) → (if b then None else Some (length run, Some (part.Name run))) ≡ Some t → 0 < t.0
    go true e = absurd (none_some t e)
    go false e = longer (length run) (Some (part.Name run)) t lt e

number_long : (run : List ℕ) (t : Taken) → 0 < length run → number_of_run run ≡ Some t → 0 < t.0
number_long run t lt h = go (nat_le (digits_value 10 run) most && bytes_eq (decimal (digits_value 10 run)) run) h
  where
    go : (b : Bool) → (if b then Some (length run, Some (part.Number (digits_value 10 run))) else None) ≡ Some t → 0 < t.0
    go true e = longer (length run) (Some (part.Number (digits_value 10 run))) t lt e
    go false e = absurd (none_some t e)

run_long : (b : ℕ) (bytes : List ℕ) → 0 < length (run_front b bytes)
run_long b bytes = let some : 0 < suc (length (take (run_of is_word bytes) bytes)) = omega arith in some

takes_some : (b : ℕ) (bytes : List ℕ) (t : Taken) → taken_at b bytes ≡ Some t → 0 < t.0
unfolding taken_at
takes_some b bytes t h = go (start_of b bytes) refl h
  where
    go : (s : Start) → start_of b bytes ≡ s → taken_in s b bytes ≡ Some t → 0 < t.0
    go Start.Gap e k =
        let some = above_zero (gap_front b bytes) (gap_starts (nat_lt 0 (gap_front b bytes)) (is_letter b) (is_digit b) (begins (codes "->") (b ∷ bytes)) (is_sign b) e) in
        longer (gap_front b bytes) None t some k
    go Start.Letter e k = word_long (run_front b bytes) t (run_long b bytes) k
    go Start.Digit e k = number_long (run_front b bytes) t (run_long b bytes) k
    go Start.Arrow e k = longer 2 (Some part.Arrow) t (omega arith) k
    go Start.Sign e k = longer 1 (Some (part.Sign b)) t (omega arith) k
    go Start.Wrong e k = absurd (none_some t k)

-- ---- words and numbers at the front

no_gap : (n : ℕ) → n ≤ 0 → nat_lt 0 n ≡ false
no_gap n le = grind (arith, nat_tests)

abbrev start_with : Bool → Bool → ℕ → List ℕ → Start
start_with g l b bytes =
    if g then Start.Gap
    else if l then Start.Letter
    else if is_digit b then Start.Digit
    else if begins (codes "->") (b ∷ bytes) then Start.Arrow
    else if is_sign b then Start.Sign
    else Start.Wrong

word_front : (b : ℕ) (bytes : List ℕ) → nat_lt 0 (gap_front b bytes) ≡ false → is_letter b ≡ true → taken_at b bytes ≡ word_of_run (run_front b bytes)
unfolding taken_at
word_front b bytes gap letter =
    ap (λ g. taken_in (start_with g (is_letter b) b bytes) b bytes) gap
    ∙ ap (λ l. taken_in (start_with false l b bytes) b bytes) letter

number_front : (b : ℕ) (bytes : List ℕ) → nat_lt 0 (gap_front b bytes) ≡ false → is_letter b ≡ false → is_digit b ≡ true → taken_at b bytes ≡ number_of_run (run_front b bytes)
unfolding taken_at
number_front b bytes gap letter digit =
    ap (λ g. taken_in (start_with g (is_letter b) b bytes) b bytes) gap
    ∙ ap (λ l. taken_in (start_with false l b bytes) b bytes) letter
    ∙ ap (λ d. taken_in (if d then Start.Digit else if begins (codes "->") (b ∷ bytes) then Start.Arrow else if is_sign b then Start.Sign else Start.Wrong) b bytes) digit

-- the same of a whole text, by the length of its first word
pub word_taken : (text : List ℕ) (k : ℕ) (o : Option Taken) → 0 < length text → k ≡ run_of is_word (take (length text - 1) (drop 1 text)) → gap_at text ≤ 0 → is_letter (get_or text 0 0) ≡ true
    → o ≡ word_of_run (take (1 + k) text) → o ≡ taken_from text
word_taken [] k o lt e gap letter h = let x : ⊥ = omega (arith, lt) in absurd x
word_taken (b ∷ bytes) k o lt e gap letter h =
    let same : k ≡ run_of is_word bytes = e ∙ ap (run_of is_word) (tail_is (b ∷ bytes) 1) in
    let len : 1 + k ≡ suc (run_of is_word bytes) = omega (arith, same) in
    h ∙ ap (λ n. word_of_run (take n (b ∷ bytes))) len ∙ sym (word_front b bytes (no_gap (gap_front b bytes) gap) letter)

pub number_taken : (text : List ℕ) (k : ℕ) (o : Option Taken) → 0 < length text → k ≡ run_of is_word (take (length text - 1) (drop 1 text)) → gap_at text ≤ 0 → is_letter (get_or text 0 0) ≡ false
    → is_digit (get_or text 0 0) ≡ true → o ≡ number_of_run (take (1 + k) text) → o ≡ taken_from text
number_taken [] k o lt e gap letter digit h = let x : ⊥ = omega (arith, lt) in absurd x
number_taken (b ∷ bytes) k o lt e gap letter digit h =
    let same : k ≡ run_of is_word bytes = e ∙ ap (run_of is_word) (tail_is (b ∷ bytes) 1) in
    let len : 1 + k ≡ suc (run_of is_word bytes) = omega (arith, same) in
    h ∙ ap (λ n. number_of_run (take n (b ∷ bytes))) len ∙ sym (number_front b bytes (no_gap (gap_front b bytes) gap) letter digit)

-- ---- the bound on the number of parts does not matter where it is large enough

abbrev step_of : ℕ → List ℕ → Option Taken → Option (List Part)
step_of m text o = option_and_then (and_parts (parts_at m) text) o

same_step : (m k : ℕ) (b : ℕ) (bytes : List ℕ) → ((j : ℕ) → 0 < j → parts_at m (drop j (b ∷ bytes)) ≡ parts_at k (drop j (b ∷ bytes)))
    → (o : Option Taken) → taken_at b bytes ≡ o → step_of m (b ∷ bytes) o ≡ step_of k (b ∷ bytes) o
same_step m k b bytes next None e = refl
same_step m k b bytes next (Some t) e = ap (option_map (with_part t.1)) (next t.0 (takes_some b bytes t e))

any_bound : (m k : ℕ) (bytes : List ℕ) → length bytes ≤ m → length bytes ≤ k → parts_at m bytes ≡ parts_at k bytes
any_bound zero zero [] a c = refl
any_bound zero (suc k) [] a c = refl
any_bound (suc m) zero [] a c = refl
any_bound (suc m) (suc k) [] a c = refl
any_bound zero zero (b ∷ bytes) a c = refl
any_bound zero (suc k) (b ∷ bytes) a c = let x : ⊥ = omega (arith, a) in absurd x
any_bound (suc m) zero (b ∷ bytes) a c = let x : ⊥ = omega (arith, c) in absurd x
any_bound (suc m) (suc k) (b ∷ bytes) a c =
    same_step m k b bytes (λ j lt. any_bound m k (drop j (b ∷ bytes)) (omega (arith, a, lt, length-drop j (b ∷ bytes))) (omega (arith, c, lt, length-drop j (b ∷ bytes)))) (taken_at b bytes) refl

-- ---- a part at the front, and the parts behind it

cut_turn : (bytes : List ℕ) (t : Taken) → taken_from bytes ≡ Some t → parts_of bytes ≡ option_map (with_part t.1) (parts_of (drop t.0 bytes))
unfolding parts_of
cut_turn [] t h = absurd (none_some t h)
cut_turn (b ∷ bytes) t h =
    let some = takes_some b bytes t h in
    let short : length (drop t.0 (b ∷ bytes)) ≤ length bytes = omega (arith, some, length-drop t.0 (b ∷ bytes)) in
    ap (step_of (length bytes) (b ∷ bytes)) h
    ∙ ap (option_map (with_part t.1)) (any_bound (length bytes) (length (drop t.0 (b ∷ bytes))) (drop t.0 (b ∷ bytes)) short (omega arith))

cut_stuck : (bytes : List ℕ) → 0 < length bytes → taken_from bytes ≡ None → parts_of bytes ≡ None
unfolding parts_of
cut_stuck [] lt h = let x : ⊥ = omega (arith, lt) in absurd x
cut_stuck (b ∷ bytes) lt h = ap (step_of (length bytes) (b ∷ bytes)) h

-- ---- the loop that cuts

-- the parts that were found and those of what is left
abbrev pub behind_parts : List Part → Option (List Part) → Option (List Part)
behind_parts found o = option_map (λ ps. found ++ ps) o

regroup : (found : List Part) (o : Option Part) (r : Option (List Part)) → behind_parts found (option_map (with_part o) r) ≡ behind_parts (found ++ with_part o []) r
regroup found o None = refl
regroup found None (Some ps) = ap (λ l. Some (l ++ ps)) (sym (append-nil found))
regroup found (Some p) (Some ps) = ap Some (sym (append_assoc found (p ∷ []) ps))

nothing_before : (o : Option (List Part)) → o ≡ behind_parts [] o
nothing_before None = refl
nothing_before (Some ps) = refl

pub cut_begins : (text : List ℕ) → parts_of text ≡ behind_parts [] (parts_of (drop 0 text))
cut_begins text = nothing_before (parts_of text)

-- the slice from a place on has this at its front
front_of : (text : List ℕ) (at : ℕ) (o : Option Taken) → o ≡ taken_from (take (length text - at) (drop at text)) → taken_from (drop at text) ≡ o
front_of text at o h = sym (h ∙ ap taken_from (tail_is text at))

pub cut_next : (text : List ℕ) (at n : ℕ) (o : Option Part) (found new : List Part) → parts_of text ≡ behind_parts found (parts_of (drop at text))
    → Some (n, o) ≡ taken_from (take (length text - at) (drop at text)) → new ≡ found ++ with_part o []
    → parts_of text ≡ behind_parts new (parts_of (drop (at + n) text))
cut_next text at n o found new e h is =
    e ∙ ap (behind_parts found) (cut_turn (drop at text) (n, o) (front_of text at (Some (n, o)) h))
    ∙ regroup found o (parts_of (drop n (drop at text)))
    ∙ ap (λ l. behind_parts l (parts_of (drop n (drop at text)))) (sym is)
    ∙ ap (λ l. behind_parts new (parts_of l)) (drop-drop n at text)

pub cut_fails : (text : List ℕ) (at : ℕ) (found : List Part) → parts_of text ≡ behind_parts found (parts_of (drop at text)) → at < length text
    → None ≡ taken_from (take (length text - at) (drop at text)) → parts_of text ≡ None
cut_fails text at found e lt h =
    e ∙ ap (behind_parts found) (cut_stuck (drop at text) (omega (arith, lt, length-drop at text)) (front_of text at None h))

nothing_left : (found : List Part) (l : List ℕ) → length l ≡ 0 → behind_parts found (parts_of l) ≡ Some found
unfolding parts_of
nothing_left found [] h = ap Some (append-nil found)
nothing_left found (b ∷ l) h = let x : ⊥ = omega (arith, h) in absurd x

pub cut_ends : (text : List ℕ) (at : ℕ) (found : List Part) → parts_of text ≡ behind_parts found (parts_of (drop at text)) → length text ≤ at
    → parts_of text ≡ Some found
cut_ends text at found e le = e ∙ nothing_left found (drop at text) (omega (arith, le, length-drop at text))
