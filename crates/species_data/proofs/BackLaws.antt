-- What is written is read back.
use Rattle.std.proofs.Common.{◌≡◌, ◌∙◌, ap, sym, subst, refl, ℕ, suc, ◌+◌, ◌<◌, Bool, true, false, ◌&&◌, ◌||◌, not, cond, if◌then◌else◌, List, [], ◌∷◌, ◌++◌, map, length, replicate, set, get_or, append_assoc, length-append, pos, Some, Ok, Err, arith}
use Rattle.std.specs.Prelude.{All, slice_get, flat_map, bytes_eq, ◌==◌}
use Rattle.std.specs.List.{list_all, position_from, Contains}
use Rattle.std.proofs.lemmas.Bool.Decides.{nat_tests}
use Rattle.std.proofs.lemmas.Slice.Eq.{bytes_eq-Decides}
use Rattle.species_decimal.specs.Words.{Word, is_solid, begins_solid, words_at}
use Rattle.species_decimal.proofs.WordLaws.{both_first, both_second, blank_first, word_then}
use Rattle.species_ast.specs.declared.tree.Array.{Array}
use Rattle.species_ast.specs.declared.tree.Kind.{Kind}
use Rattle.species_ast.specs.declared.tree.Value.{Value}
use Rattle.species_ast.specs.Accesses.{Cells}
use Rattle.species_ast.specs.Evaluation.{product}
use Rattle.species_ast.specs.Operators.{in_kind}
use Rattle.species_ast.specs.Names.{is_letter, is_digit, is_word, is_name, is_keyword}
use Rattle.species_ast.specs.Run.{AreArraysOf, zeros_of}
use Rattle.species_runs.specs.Distinct.{Distinct}
use Rattle.species_runs.specs.Values.{IsOf}
use Rattle.species_data.specs.Elements.{value_text}
use Rattle.species_data.specs.Lines.{is_gap, is_in_line, lines_at}
use Rattle.species_data.specs.Data.{then_values, values_of, given_row, Reading, has_stood, after_row, row_of, row_at, number_named, words_read, line_read, then_lines, lines_read, arrays_of, data_at}
use Rattle.species_data.specs.Text.{spaced, data_text, HaveNames}
use Rattle.species_data.proofs.ElementLaws.{element_written, value_solid, value_in_line, value_some}
use Rattle.species_data.proofs.ArrayLaws.{all_rest}
use Rattle.species_data.proofs.LineLaws.{line_then}

-- ---- the bytes of a name

all_as : (p q : ℕ → Bool) → ((b : ℕ) → p b ≡ true → q b ≡ true) → (bytes : List ℕ) → list_all p bytes ≡ true → list_all q bytes ≡ true
all_as p q each [] all = refl
all_as p q each (b ∷ bytes) all =
    ap (λ t. t && list_all q bytes) (each b (both_first (p b) (list_all p bytes) all))
    ∙ all_as p q each bytes (both_second (p b) (list_all p bytes) all)

all_both : (q : ℕ → Bool) (xs ys : List ℕ) → list_all q xs ≡ true → list_all q ys ≡ true → list_all q (xs ++ ys) ≡ true
all_both q [] ys h k = k
all_both q (x ∷ xs) ys h k = ap (λ t. t && list_all q (xs ++ ys)) (both_first (q x) (list_all q xs) h) ∙ all_both q xs ys (both_second (q x) (list_all q xs) h) k

-- a byte of a name is no other byte
no_word : (b c : ℕ) → is_word b ≡ true → is_word c ≡ false → (b == c) ≡ false
no_word b c word other = go (b == c) refl
  where
    go : (t : Bool) → (b == c) ≡ t → t ≡ false
    go false e = refl
    go true e =
        let same : b ≡ c = grind (arith, nat_tests) in
        let wrong : true ≡ false = sym (subst (λ x. is_word x ≡ true) same word) ∙ other in
        absurd (cc)

word_solid : (b : ℕ) → is_word b ≡ true → is_solid is_gap b ≡ true
word_solid b word =
    ap (λ t. not (t || b == 9 || b == 13)) (no_word b 32 word refl)
    ∙ ap (λ t. not (t || b == 13)) (no_word b 9 word refl)
    ∙ ap (λ t. not t) (no_word b 13 word refl)

word_in_line : (b : ℕ) → is_word b ≡ true → is_in_line b ≡ true
word_in_line b word = ap not (no_word b 10 word refl)

name_words : (name : List ℕ) → is_name name ≡ true → list_all is_word name ≡ true
name_words [] is = absurd (cc)
name_words (b ∷ bytes) is =
    let rest = both_second (is_letter b) (list_all is_word bytes && not (is_keyword (b ∷ bytes))) is in
    ap (λ t. (t || is_digit b) && list_all is_word bytes) (both_first (is_letter b) (list_all is_word bytes && not (is_keyword (b ∷ bytes))) is)
    ∙ both_first (list_all is_word bytes) (not (is_keyword (b ∷ bytes))) rest

name_some : (name : List ℕ) → is_name name ≡ true → 0 < length name
name_some [] is = absurd (cc)
name_some (b ∷ bytes) is = omega arith

-- ---- the words of a line

no_word_goes_on : (row : List Value) → begins_solid is_gap (flat_map spaced row) ≡ false
no_word_goes_on [] = refl
no_word_goes_on (v ∷ row) = refl

-- the elements are read from the words that they are written as
elements_back : (k : Kind) (end p : ℕ) (row : List Value) → All (IsOf k) row → values_of k end (length row) (words_at is_gap p (flat_map spaced row)) ≡ Ok row
elements_back k end p [] all = refl
elements_back k end p (v ∷ row) all =
    let of_k : IsOf k v = all 0 v (omega arith) in
    let rest = flat_map spaced row in
    let words : words_at is_gap p (flat_map spaced (v ∷ row)) ≡ record { place = p + 1; text = value_text v } ∷ words_at is_gap (p + 1 + length (value_text v)) rest =
    blank_first is_gap p 32 (value_text v ++ rest) refl
    ∙ word_then is_gap (p + 1) (value_text v) rest (value_some v of_k.1) (value_solid v of_k.1) (no_word_goes_on row) in
    ap (values_of k end (suc (length row))) words
    ∙ ap (λ o. then_values o (p + 1) (values_of k end (length row) (words_at is_gap (p + 1 + length (value_text v)) rest))) (element_written k v of_k)
    ∙ ap (then_values (Some v) (p + 1)) (elements_back k end (p + 1 + length (value_text v)) row (all_rest (IsOf k) v row all))

row_in_line : (k : Kind) (row : List Value) → All (IsOf k) row → list_all is_in_line (flat_map spaced row) ≡ true
row_in_line k [] all = refl
row_in_line k (v ∷ row) all =
    let of_k : IsOf k v = all 0 v (omega arith) in
    all_both is_in_line (value_text v) (flat_map spaced row) (value_in_line v of_k.1) (row_in_line k row (all_rest (IsOf k) v row all))

line_words : (p : ℕ) (name : List ℕ) (row : List Value) → is_name name ≡ true
    → words_at is_gap p (name ++ flat_map spaced row) ≡ record { place = p; text = name } ∷ words_at is_gap (p + length name) (flat_map spaced row)
line_words p name row is =
    word_then is_gap p name (flat_map spaced row) (name_some name is) (all_as is_word (is_solid is_gap) word_solid name (name_words name is)) (no_word_goes_on row)

-- ---- a list at the end of its first part

set_middle : {A : Type 0} (xs ys : List A) (y z : A) → set (xs ++ y ∷ ys) (length xs) z ≡ (xs ++ z ∷ []) ++ ys
set_middle [] ys y z = refl
set_middle (x ∷ xs) ys y z = ap (λ l. x ∷ l) (set_middle xs ys y z)

get_middle : {A : Type 0} (xs ys : List A) (y d : A) → get_or (xs ++ y ∷ ys) (length xs) d ≡ y
get_middle [] ys y d = refl
get_middle (x ∷ xs) ys y d = get_middle xs ys y d

slice_middle : {A : Type 0} (xs ys : List A) (y : A) → slice_get (xs ++ y ∷ ys) (length xs) ≡ Some y
slice_middle [] ys y = refl
slice_middle (x ∷ xs) ys y = slice_middle xs ys y

-- ---- the array of a name

contains_middle : (before after : List Array) (a : Array) → Contains (map (λ x. x.name) (before ++ a ∷ after)) a.name
contains_middle [] after a = (0, omega arith, refl)
contains_middle (x ∷ before) after a = let c = contains_middle before after a in (suc c.0, omega (arith, c.1), c.2)

found : (k : ℕ) (before after : List Array) (a : Array) → Distinct (map (λ x. x.name) (before ++ a ∷ after))
    → position_from (λ x. bytes_eq x.name a.name) k (before ++ a ∷ after) ≡ Some (k + length before)
found k [] after a distinct =
    let here : bytes_eq a.name a.name ≡ true = (bytes_eq-Decides a.name a.name).1 refl in
    let same : k ≡ k + 0 = omega arith in
    ap (λ t. cond t (Some k) (position_from (λ x. bytes_eq x.name a.name) (k + 1) after)) here ∙ ap Some same
found k (x ∷ before) after a distinct = go (bytes_eq x.name a.name) refl (found (k + 1) before after a distinct.1)
  where
    go : (t : Bool) → bytes_eq x.name a.name ≡ t → position_from (λ y. bytes_eq y.name a.name) (k + 1) (before ++ a ∷ after) ≡ Some (k + 1 + length before)
        → cond t (Some k) (position_from (λ y. bytes_eq y.name a.name) (k + 1) (before ++ a ∷ after)) ≡ Some (k + suc (length before))
    go true e later =
        let same : a.name ≡ x.name = sym ((bytes_eq-Decides x.name a.name).0 e) in
        absurd (distinct.0 (subst (Contains (map (λ y. y.name) (before ++ a ∷ after))) same (contains_middle before after a)))
    go false e later = let place : k + 1 + length before ≡ k + suc (length before) = omega arith in later ∙ ap Some place

-- ---- a line

abbrev reading : Cells → List Bool → Reading
reading m flags = record { arrays = m; stood = flags }

abbrev so_far : Cells → List Array → List Bool → Reading
so_far done rest flags = reading (done ++ zeros_of rest) (flags ++ replicate (length rest) false)

abbrev zero_row : Array → List Value
zero_row a = replicate (product a.dims) (in_kind a.kind (pos 0))

line_back : (before rest : List Array) (a : Array) (done : Cells) (row : List Value) (flags : List Bool) (p : ℕ)
    → length done ≡ length before → length flags ≡ length before → Distinct (map (λ x. x.name) (before ++ a ∷ rest)) → is_name a.name ≡ true
    → length row ≡ product a.dims → All (IsOf a.kind) row
    → line_read (before ++ a ∷ rest) (so_far done (a ∷ rest) flags) (record { place = p; text = a.name ++ flat_map spaced row })
    ≡ Ok (so_far (done ++ row ∷ []) rest (flags ++ true ∷ []))
line_back before rest a done row flags p many_done many_flags distinct is_a_name long all =
    let arrays = before ++ a ∷ rest in
    let r = so_far done (a ∷ rest) flags in
    let n = length before in
    let end = p + length (a.name ++ flat_map spaced row) in
    let name : Word = record { place = p; text = a.name } in
    let ws = words_at is_gap (p + length a.name) (flat_map spaced row) in
    let number : number_named arrays a.name ≡ Some n = found 0 before rest a distinct ∙ ap Some (let same : 0 + n ≡ n = omega arith in same) in
    let new : has_stood r n ≡ false = ap (λ k. get_or (flags ++ false ∷ replicate (length rest) false) k true) (sym many_flags) ∙ get_middle flags (replicate (length rest) false) false true in
    let said : values_of a.kind end (product a.dims) ws ≡ Ok row = ap (λ k. values_of a.kind end k ws) (sym long) ∙ elements_back a.kind end (p + length a.name) row all in
    let cells : set r.arrays n row ≡ (done ++ row ∷ []) ++ zeros_of rest = ap (λ k. set r.arrays k row) (sym many_done) ∙ set_middle done (zeros_of rest) (zero_row a) row in
    let stood : set r.stood n true ≡ (flags ++ true ∷ []) ++ replicate (length rest) false = ap (λ k. set r.stood k true) (sym many_flags) ∙ set_middle flags (replicate (length rest) false) false true in
    ap (λ words. words_read arrays r words end) (line_words p a.name row is_a_name)
    ∙ ap (row_at arrays r name ws end) number
    ∙ ap (row_of r name ws end n) (slice_middle before rest a)
    ∙ ap (λ t. if t then Err p else after_row r n (given_row r.arrays n (values_of a.kind end (product a.dims) ws))) new
    ∙ ap (λ o. after_row r n (given_row r.arrays n o)) said
    ∙ ap (λ m. Ok (reading m (set r.stood n true))) cells
    ∙ ap (λ fs. Ok (reading ((done ++ row ∷ []) ++ zeros_of rest) fs)) stood

-- ---- all lines

regroup : (name values rest : List ℕ) → (name ++ (values ++ 10 ∷ [])) ++ rest ≡ (name ++ values) ++ 10 ∷ rest
regroup name values rest =
    append_assoc name (values ++ 10 ∷ []) rest ∙ ap (λ t. name ++ t) (append_assoc values (10 ∷ []) rest) ∙ sym (append_assoc name values (10 ∷ rest))

rows_back : (before rest : List Array) (done rows : Cells) (flags : List Bool) (p : ℕ)
    → length done ≡ length before → length flags ≡ length before → Distinct (map (λ x. x.name) (before ++ rest)) → list_all (λ x. is_name x.name) rest ≡ true
    → AreArraysOf rest rows
    → arrays_of (lines_read (before ++ rest) (so_far done rest flags) (lines_at p (data_text rest rows))) ≡ Ok (done ++ rows)
rows_back before [] done [] flags p many_done many_flags distinct named h = refl
rows_back before [] done (row ∷ rows) flags p many_done many_flags distinct named h = absurd h
rows_back before (a ∷ rest) done [] flags p many_done many_flags distinct named h = absurd h
rows_back before (a ∷ rest) done (row ∷ rows) flags p many_done many_flags distinct named h =
    let is_a_name = both_first (is_name a.name) (list_all (λ x. is_name x.name) rest) named in
    let line = a.name ++ flat_map spaced row in
    let arrays = before ++ a ∷ rest in
    let r = so_far done (a ∷ rest) flags in
    let s = so_far (done ++ row ∷ []) rest (flags ++ true ∷ []) in
    let place = p + (length line + 1) in
    let one_line : list_all is_in_line line ≡ true =
    all_both is_in_line a.name (flat_map spaced row) (all_as is_word is_in_line word_in_line a.name (name_words a.name is_a_name)) (row_in_line a.kind row h.1) in
    let more_done : length (done ++ row ∷ []) ≡ length (before ++ a ∷ []) = simp length-append (ap (λ n. n + 1) many_done) in
    let more_flags : length (flags ++ true ∷ []) ≡ length (before ++ a ∷ []) = simp length-append (ap (λ n. n + 1) many_flags) in
    let moved : (before ++ a ∷ []) ++ rest ≡ arrays = append_assoc before (a ∷ []) rest in
    let later =
    rows_back (before ++ a ∷ []) rest (done ++ row ∷ []) rows (flags ++ true ∷ []) place more_done more_flags
    (subst (λ l. Distinct (map (λ x. x.name) l)) (sym moved) distinct) (both_second (is_name a.name) (list_all (λ x. is_name x.name) rest) named) h.2 in
    ap (λ t. arrays_of (lines_read arrays r (lines_at p t))) (regroup a.name (flat_map spaced row) (data_text rest rows))
    ∙ ap (λ ls. arrays_of (lines_read arrays r ls)) (line_then p line (data_text rest rows) one_line)
    ∙ ap (λ o. arrays_of (then_lines o (λ t. lines_read arrays t (lines_at place (data_text rest rows))))) (line_back before rest a done row flags p many_done many_flags distinct is_a_name h.0 h.1)
    ∙ ap (λ l. arrays_of (lines_read l s (lines_at place (data_text rest rows)))) (sym moved)
    ∙ later
    ∙ ap Ok (append_assoc done (row ∷ []) rows)

-- the law
pub written_back : (arrays : List Array) (m : Cells) (text : List ℕ) → AreArraysOf arrays m → HaveNames arrays → text ≡ data_text arrays m
    → data_at arrays 0 text ≡ Ok m
written_back arrays m text h names is = ap (data_at arrays 0) is ∙ rows_back [] arrays [] m [] 0 refl refl names.distinct names.names h
