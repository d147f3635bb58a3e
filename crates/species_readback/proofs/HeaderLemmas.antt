-- A header or a species text that is taken from a line can be written.
use Rattle.std.proofs.Common.{◌≡◌, ◌∙◌, ap, sym, refl, subst, ℕ, suc, ◌+◌, ◌-◌, ◌<◌, Bool, true, false, List, [], ◌∷◌, ◌++◌, length, take, drop, Option, Some, None, arith, length-take, nat_eq}
use Rattle.std.proofs.lemmas.Bool.{and_parts, and_from, eqb-true, lt-ltb, ltb-true}
use Rattle.std.proofs.lemmas.Slice.Eq.{bytes_eq-Decides}
use Rattle.std.proofs.Math.Seq.{take-length, drop-length}
use Rattle.std.specs.Prelude.{◌&&◌, not, nat_lt, if◌then◌else◌, cond, codes, is_none, option_map, option_and_then, unwrap_or}
use Rattle.std.specs.List.{list_all, prefix_len}
use Rattle.species_ast.specs.declared.tree.Schedule.{Schedule}
use Rattle.species_ast.specs.declared.token.TokenKind.{TokenKind}
use Rattle.species_ast.specs.declared.token.TokenKind.TheVariants as kind
use Rattle.species_ast.specs.declared.token.LexRefusal.TheVariants as refusal
use Rattle.species_ast.specs.Text.Characters.{is_digit, begins}
use Rattle.species_ast.specs.Text.Comments.{gap_len, content_len, last_backslash}
use Rattle.species_ast.specs.Text.Numbers.{or_else}
use Rattle.species_ast.specs.Text.Parts.{Part, is, is_nothing, parts_of, parts_end, offset_of, after_words}
use Rattle.species_ast.specs.Text.Pragmas.{schedule_of, depth_of, parallel_with, parallel_of, atomic_of, openmp_of}
use Rattle.species_ast.specs.Text.Directives.{Form, Skipped, Read, Macro, Wrong, formless, closed_by, header_len, is_gap, include_with, include_of, is_first_in, is_macro_name, define_as, define_of, is_end_of_kernel, species_of, openmp_form, pragma_with, unless_backslash, pragma_of, parts_form, content_form, first_word, is_include, form_of}
use Rattle.species_readback.specs.Law.{species_line}
use Rattle.species_readback.specs.Spelt.{is_no_line_feed, include_line, is_include_form, is_header, is_species_form, is_species_text}
use Rattle.species_readback.proofs.ScanLemmas.{prefix_cut}
use Rattle.species_readback.proofs.EndLemmas.{EndsWell, ends_more, ends_behind, not_spliced, scan_some, scan_ends}
use Rattle.species_readback.proofs.SpeciesLemmas.{given_text, takes_species_back}
use Rattle.species_readback.proofs.ListLemmas.{all_take, all_drop}

-- ---- bytes of a line

-- ---- lines that are no `#include`

abbrev NoInclude : Form → Type 0
NoInclude (Read t kind.Include) = ⊥
NoInclude f = Unit {0}

no_include : (f : Form) (t : List ℕ) → NoInclude f → f ≡ Read t kind.Include → ⊥
no_include f t h e = subst NoInclude e h

abbrev NoIncludeKind : Option TokenKind → Type 0
NoIncludeKind (Some kind.Include) = ⊥
NoIncludeKind o = Unit {0}

kind_or : (a b : Option TokenKind) → NoIncludeKind a → NoIncludeKind b → NoIncludeKind (or_else a b)
kind_or None b x y = y
kind_or (Some k) b x y = x

kind_then : (f : List Part → Option TokenKind) (o : Option (List Part)) → ((ps : List Part) → NoIncludeKind (f ps)) → NoIncludeKind (option_and_then f o)
kind_then f None h = tt
kind_then f (Some ps) h = h ps

no_parallel : (ps : List Part) → NoIncludeKind (parallel_of ps)
no_parallel ps = go (depth_of ps)
  where
    scheduled : (depth : ℕ) (o : Option Schedule) → NoIncludeKind (option_map (kind.Parallel depth) o)
    scheduled depth None = tt
    scheduled depth (Some s) = tt

    go : (o : Option (ℕ × List Part)) → NoIncludeKind (option_and_then parallel_with o)
    go None = tt
    go (Some p) = scheduled p.0 (schedule_of p.1)

no_atomic : (ps : List Part) → NoIncludeKind (atomic_of ps)
no_atomic [] = tt
no_atomic (p ∷ ps) = tt

no_openmp : (ps : List Part) → NoIncludeKind (openmp_of ps)
unfolding openmp_of
no_openmp ps =
    kind_or (option_and_then parallel_of (after_words (codes "omp" ∷ codes "parallel" ∷ codes "for" ∷ []) ps))
    (option_and_then atomic_of (after_words (codes "omp" ∷ codes "atomic" ∷ codes "update" ∷ []) ps))
    (kind_then parallel_of (after_words (codes "omp" ∷ codes "parallel" ∷ codes "for" ∷ []) ps) no_parallel)
    (kind_then atomic_of (after_words (codes "omp" ∷ codes "atomic" ∷ codes "update" ∷ []) ps) no_atomic)

either : (c : Bool) (a b : Form) → NoInclude a → NoInclude b → NoInclude (if c then a else b)
either true a b x y = x
either false a b x y = y

of_define : (name : Part) (ps : List Part) → NoInclude (define_as name ps)
of_define name [] = tt
of_define name (run ∷ ps) = either (is_macro_name name && is_first_in is_digit run.text && is_nothing ps) (Macro name.text run) formless tt tt

of_defines : (ps : List Part) → NoInclude (define_of ps)
of_defines [] = tt
of_defines (p ∷ ps) = of_define p ps

of_kind : (line : List ℕ) (o : Option TokenKind) → NoIncludeKind o → NoInclude (openmp_form line o)
of_kind line None h = tt
of_kind line (Some kind.Include) h = h
of_kind line (Some k) h = tt

of_species : (line : List ℕ) (ps : List Part) → NoInclude (species_of line ps)
of_species line [] = tt
of_species line (p ∷ ps) = either (is_end_of_kernel p ps) Skipped _ tt tt

of_pragma : (line : List ℕ) (ps : List Part) → NoInclude (pragma_with line ps)
of_pragma line [] = tt
of_pragma line (p ∷ ps) =
    either (is p (codes "species")) (species_of line ps) (openmp_form line (openmp_of (p ∷ ps))) (of_species line ps) (of_kind line (openmp_of (p ∷ ps)) (no_openmp (p ∷ ps)))

of_backslash : (o : Option ℕ) (f : Form) → NoInclude f → NoInclude (unless_backslash o f)
of_backslash None f h = h
of_backslash (Some k) f h = tt

of_parts : (line : List ℕ) (ps : List Part) → NoInclude (parts_form line ps)
of_parts line [] = tt
of_parts line (p ∷ ps) =
    either (is p (codes "define")) (define_of ps) (if is p (codes "pragma") then pragma_of line ps else formless) (of_defines ps)
    (either (is p (codes "pragma")) (pragma_of line ps) formless (of_backslash (offset_of (codes "\\") ps) (pragma_with line ps) (of_pragma line ps)) tt)

of_content : (line : List ℕ) (n : ℕ) → NoInclude (content_form line n)
of_content line n =
    either (begins (codes "/*") (drop n (drop 1 line))) (Wrong (refusal.OpenComment (n + 1))) (parts_form line (parts_of 1 (take n (drop 1 line)))) tt
    (of_parts line (parts_of 1 (take n (drop 1 line))))

-- ---- a header, up to its quote

abbrev other_than : ℕ → ℕ → Bool
other_than quote x = not (nat_eq quote x)

quote_ends : (quote : ℕ) (bytes : List ℕ) → EndsWell (quote ∷ []) → prefix_len (other_than quote) bytes < length bytes → EndsWell (take (suc (prefix_len (other_than quote) bytes)) bytes)
quote_ends quote [] h some = let x : ⊥ = omega (arith, some) in absurd x
quote_ends quote (b ∷ bytes) h some = go (nat_eq quote b) refl some (λ less. quote_ends quote bytes h less)
  where
    n : ℕ
    n = prefix_len (other_than quote) bytes

    go : (c : Bool) → nat_eq quote b ≡ c → cond (not c) (1 + n) 0 < length (b ∷ bytes) → (n < length bytes → EndsWell (take (suc n) bytes))
        → EndsWell (take (suc (cond (not c) (1 + n) 0)) (b ∷ bytes))
    go true e lt more = subst (λ x. EndsWell (x ∷ [])) (eqb-true quote b e) h
    go false e lt more =
        let less : n < length bytes = omega (arith, lt) in
        let one : suc n ≡ 1 + n = omega arith in
        let long : 0 < length (take (suc n) bytes) = omega (arith, less, length-take (suc n) bytes) in
        subst (λ k. EndsWell (b ∷ take k bytes)) one (ends_more b (take (suc n) bytes) long (more less))

-- what is printed with a header that is closed by its last byte gives the header
given : (t : List ℕ) → form_of (include_line t) ≡ include_with t (header_len t) → header_len t ≡ Some (length t) → form_of (include_line t) ≡ Read t kind.Include
given t e h =
    e ∙ ap (include_with t) h
    ∙ ap (λ z. if is_gap z then Read (take (length t) t) kind.Include else formless) (drop-length t)
    ∙ ap (λ z. Read z kind.Include) (take-length t)

angle_form : (bytes : List ℕ) → form_of (include_line (60 ∷ bytes)) ≡ include_with (60 ∷ bytes) (header_len (60 ∷ bytes))
unfolding form_of
angle_form bytes = refl

quote_form : (bytes : List ℕ) → form_of (include_line (34 ∷ bytes)) ≡ include_with (34 ∷ bytes) (header_len (34 ∷ bytes))
unfolding form_of
quote_form bytes = refl

include_is : (t : List ℕ) → form_of (include_line t) ≡ Read t kind.Include → is_include_form t (form_of (include_line t)) ≡ true
include_is t e = ap (is_include_form t) e ∙ (bytes_eq-Decides t t).1 refl

-- the header `b ∷ bytes`, of which the first quote behind `b` is at n
closed_header : (b quote n : ℕ) (bytes : List ℕ) → n ≡ prefix_len (other_than quote) bytes → n < length bytes → EndsWell (quote ∷ []) → is_no_line_feed b ≡ true → list_all is_no_line_feed bytes ≡ true
    → ((inner : List ℕ) → header_len (b ∷ inner) ≡ closed_by quote inner) → ((inner : List ℕ) → form_of (include_line (b ∷ inner)) ≡ include_with (b ∷ inner) (header_len (b ∷ inner)))
    → is_header (take (n + 2) (b ∷ bytes)) ≡ true
closed_header b quote n bytes is lt fine first feeds closes form =
    subst (λ z. is_header z ≡ true) (ap (λ k. take k (b ∷ bytes)) two) whole
  where
    two : suc (suc n) ≡ n + 2
    two = omega arith

    inner : List ℕ
    inner = take (suc n) bytes

    long : length inner ≡ suc n
    long = omega (arith, lt, length-take (suc n) bytes)

    same : prefix_len (other_than quote) inner ≡ n
    same = prefix_cut (other_than quote) bytes (suc n) (omega (arith, is)) ∙ sym is

    ends : EndsWell inner
    ends = subst (λ k. EndsWell (take (suc k) bytes)) (sym is) (quote_ends quote bytes fine (subst (λ k. k < length bytes) is lt))

    len : header_len (b ∷ inner) ≡ Some (length (b ∷ inner))
    len =
        let lies : nat_lt (prefix_len (other_than quote) inner) (length inner) ≡ true = lt-ltb (prefix_len (other_than quote) inner) (length inner) (omega (arith, same, long)) in
        let size : prefix_len (other_than quote) inner + 2 ≡ length (b ∷ inner) = omega (arith, same, long) in
        closes inner
        ∙ ap (λ c. option_map (λ k. k + 2) (cond c (Some (prefix_len (other_than quote) inner)) None)) lies
        ∙ ap Some size

    whole : is_header (b ∷ inner) ≡ true
    whole =
        let line = include_line (b ∷ inner) in
        let some : 0 < length inner = omega (arith, long) in
        let well = ends_behind (codes "#include ") (b ∷ inner) (omega arith) (ends_more b inner some ends) in
        and_from _ _
        (and_from (list_all is_no_line_feed line) (is_none (last_backslash line)) (and_from _ _ first (all_take is_no_line_feed (suc n) bytes feeds))
        (ap is_none (not_spliced 35 (codes "include " ++ (b ∷ inner)) (omega arith) well)))
        (include_is (b ∷ inner) (given (b ∷ inner) (form inner) len))

-- a quote that is found
closed_is : (b quote n : ℕ) (bytes : List ℕ) → closed_by quote bytes ≡ Some n → EndsWell (quote ∷ []) → is_no_line_feed b ≡ true → list_all is_no_line_feed bytes ≡ true
    → ((inner : List ℕ) → header_len (b ∷ inner) ≡ closed_by quote inner) → ((inner : List ℕ) → form_of (include_line (b ∷ inner)) ≡ include_with (b ∷ inner) (header_len (b ∷ inner)))
    → is_header (take n (b ∷ bytes)) ≡ true
closed_is b quote n bytes e fine first feeds closes form = go (nat_lt k (length bytes)) refl e
  where
    k : ℕ
    k = prefix_len (other_than quote) bytes

    some_is : (x y : ℕ) → Some x ≡ Some y → x ≡ y
    some_is x y h = ap (λ o. unwrap_or o 0) h

    go : (c : Bool) → nat_lt k (length bytes) ≡ c → option_map (λ i. i + 2) (cond c (Some k) None) ≡ Some n → is_header (take n (b ∷ bytes)) ≡ true
    go false i h = cc
    go true i h =
        subst (λ z. is_header (take z (b ∷ bytes)) ≡ true) (some_is (k + 2) n h)
        (closed_header b quote k bytes refl (ltb-true k (length bytes) i) fine first feeds closes form)

header_again : (header : List ℕ) (n : ℕ) → header_len header ≡ Some n → list_all is_no_line_feed header ≡ true → is_header (take n header) ≡ true
header_again [] n e h = cc
header_again (b ∷ bytes) n e h = go (nat_eq b 60) (nat_eq b 34) refl refl e
  where
    feeds : list_all is_no_line_feed bytes ≡ true
    feeds = (and_parts (is_no_line_feed b) (list_all is_no_line_feed bytes) h).1

    go : (c d : Bool) → nat_eq b 60 ≡ c → nat_eq b 34 ≡ d → (if c then closed_by 62 bytes else (if d then closed_by 34 bytes else None)) ≡ Some n → is_header (take n (b ∷ bytes)) ≡ true
    go true d i j k = subst (λ x. is_header (take n (x ∷ bytes)) ≡ true) (sym (eqb-true b 60 i)) (closed_is 60 62 n bytes k (refl, refl) refl feeds (λ inner. refl) angle_form)
    go false true i j k = subst (λ x. is_header (take n (x ∷ bytes)) ≡ true) (sym (eqb-true b 34 j)) (closed_is 34 34 n bytes k (refl, refl) refl feeds (λ inner. refl) quote_form)
    go false false i j k = cc

-- ---- the law of headers

abbrev form_text : Form → List ℕ
form_text (Read t k) = t
form_text f = []

with_header : (header t : List ℕ) (o : Option ℕ) → list_all is_no_line_feed header ≡ true → header_len header ≡ o → include_with header o ≡ Read t kind.Include → is_header t ≡ true
with_header header t None feeds e h = cc
with_header header t (Some n) feeds e h = go (is_gap (drop n header)) h
  where
    go : (c : Bool) → (if c then Read (take n header) kind.Include else formless) ≡ Read t kind.Include → is_header t ≡ true
    go true h = subst (λ z. is_header z ≡ true) (ap form_text h) (header_again header n e feeds)
    go false h = cc

-- a header that is taken from a line can be written
pub header_given : (more t : List ℕ) → list_all is_no_line_feed more ≡ true → form_of (35 ∷ more) ≡ Read t kind.Include → is_header t ≡ true
unfolding form_of
header_given more t feeds h = go (is_include line) h
  where
    line : List ℕ
    line = 35 ∷ more

    bytes : List ℕ
    bytes = drop 7 (first_word line)

    header : List ℕ
    header = drop (gap_len bytes) bytes

    go : (c : Bool) → (if c then include_of bytes else content_form line (content_len more)) ≡ Read t kind.Include → is_header t ≡ true
    go true h =
        with_header header t (header_len header) (all_drop is_no_line_feed (gap_len bytes) bytes (all_drop is_no_line_feed 7 (first_word line) (all_drop is_no_line_feed (gap_len more) more feeds))) refl h
    go false h = absurd (no_include (content_form line (content_len more)) t (of_content line (content_len more)) h)

-- ---- the law of species texts

-- a species text that is taken from a line can be written
pub species_given : (more t : List ℕ) → list_all is_no_line_feed more ≡ true → form_of (35 ∷ more) ≡ Read t kind.Species → is_species_text t ≡ true
species_given more t feeds h =
    let line = 35 ∷ more in
    let g = given_text 35 more t h in
    let last = parts_end g.at (g.first ∷ g.rest) in
    let own : list_all is_no_line_feed t ≡ true =
    subst (λ z. list_all is_no_line_feed z ≡ true) g.text (all_take is_no_line_feed (last - g.at) (drop g.at line) (all_drop is_no_line_feed g.at line feeds)) in
    let well = ends_behind (codes "#pragma species ") t (scan_some g.at t g.first g.rest g.scan) (scan_ends g.at t (g.first ∷ g.rest) g.scan g.ends g.plain) in
    and_from _ _
    (and_from (list_all is_no_line_feed (species_line t)) (is_none (last_backslash (species_line t))) own
    (ap is_none (not_spliced 35 (codes "pragma species " ++ t) (omega arith) well)))
    (ap (is_species_form t) (takes_species_back.taken line t h) ∙ (bytes_eq-Decides t t).1 refl)
