-- The tokens that a text is cut into can be written again: names are names, numbers are those of literals, headers and pragmas are those of lines.
use Rattle.std.proofs.Common.{◌≡◌, ◌∙◌, ap, sym, refl, subst, ℕ, zero, suc, ◌+◌, Bool, true, false, List, [], ◌∷◌, length, take, drop, Option, Some, None, Result, Ok, Err, arith, nat_eq, pos, negsuc}
use Rattle.std.proofs.lemmas.Bool.{and_parts, and_from, le-leb, leb-true, eqb-true}
use Rattle.std.specs.Prelude.{◌&&◌, not, nat_le, if◌then◌else◌, codes, option_and_then, option_map, filter}
use Rattle.std.specs.List.{list_all}
use Rattle.std.specs.Str.Parse.{digits_value}
use Rattle.species_ast.specs.Token.{Token}
use Rattle.species_ast.specs.Names.{is_letter, is_digit, is_word, is_keyword}
use Rattle.species_ast.specs.declared.tree.Value.{Value}
use Rattle.species_ast.specs.declared.tree.Value.TheVariants as value
use Rattle.species_ast.specs.declared.tree.Schedule.{Schedule}
use Rattle.species_ast.specs.declared.tree.Schedule.TheVariants as schedule
use Rattle.species_ast.specs.declared.token.TokenKind.{TokenKind}
use Rattle.species_ast.specs.declared.token.TokenKind.TheVariants as kind
use Rattle.species_ast.specs.declared.token.LexRefusal.{LexRefusal}
use Rattle.species_ast.specs.Text.Numbers.{literal_of, or_else, hex_literal, decimal_value, hex_value, is_decimal, is_hex}
use Rattle.species_ast.specs.Text.Parts.{Part, is, is_nothing, after_words}
use Rattle.species_ast.specs.Text.Pragmas.{int_of, plain_schedule, schedule_by, is_closed, chunk_of, in_brackets, schedule_of, deep, depth_in, depth_of, parallel_of, atomic_of, openmp_of}
use Rattle.species_ast.specs.Text.Directives.{Form, Skipped, Read, Macro, Wrong, form_of, formless, include_with, include_of, is_gap, header_len, define_as, define_of, is_first_in, species_of, openmp_form, pragma_with, unless_backslash, pragma_of, parts_form, content_form, first_word, is_include}
use Rattle.species_ast.specs.declared.token.LexRefusal.TheVariants as refusal
use Rattle.species_ast.specs.Text.Parts.{parts_of, parts_end, offset_of}
use Rattle.std.specs.Prelude.{slice_range}
use Rattle.species_ast.specs.Text.Comments.{splice_at, comment_len, gap_len, content_len}
use Rattle.species_ast.specs.Text.Characters.{is_blank, begins, run_of, line_len}
use Rattle.species_ast.specs.Text.Pieces as byte
use Rattle.std.specs.Prelude.{bytes_eq}
use Rattle.species_ast.specs.Text.Numbers.{run_more}
use Rattle.species_ast.specs.Text.Words.{punctuator_len}
use Rattle.species_ast.specs.Text.Stream.{TokenStream, Definition, look_up, named, define_once, in_scope, defined_by, Cut, is_definition}
use Rattle.species_ast.specs.Reading.{HasTokens}
use Rattle.species_readback.proofs.LawfulLemmas.{is_good}
use Rattle.species_readback.specs.Spelt.{is_int_number, is_no_line_feed, is_literal, schedule_spelt}
use Rattle.std.specs.Prelude.{nat_lt}
use Rattle.species_ast.specs.declared.tree.Kind.{Kind}
use Rattle.species_ast.specs.declared.tree.Kind.TheVariants as of_kind
use Rattle.species_ast.specs.Text.Characters.{is_hex_digit}
use Rattle.species_ast.specs.Text.Numbers.{literal_in, numbers_from_0, asked_kind, unsigned_of, with_digits}
use Rattle.species_ast.specs.Text.Pragmas.{depth_behind, parallel_with}
use Rattle.species_ast.specs.Text.Directives.{is_macro_name, is_end_of_kernel}
use Rattle.species_readback.proofs.EndLemmas.{run_taken}
use Rattle.species_readback.proofs.HeaderLemmas.{header_given, species_given}
use Rattle.species_readback.proofs.ListLemmas.{all_append}

-- ---- literals

abbrev pub GoodValue : Option Value → Type 0
GoodValue None = Unit {0}
GoodValue (Some v) = is_literal v ≡ true

value_if : (c : Bool) (v : Value) → (c ≡ true → is_literal v ≡ true) → GoodValue (if c then Some v else None)
value_if true v h = h refl
value_if false v h = tt

value_either : (c : Bool) (a b : Option Value) → GoodValue a → GoodValue b → GoodValue (if c then a else b)
value_either true a b x y = x
value_either false a b x y = y

value_or : (a b : Option Value) → GoodValue a → GoodValue b → GoodValue (or_else a b)
value_or None b x y = y
value_or (Some v) b x y = x

good_in : (k : Kind) (n : ℕ) → GoodValue (literal_in k n)
good_in of_kind.Int n = value_if (nat_lt n (numbers_from_0 of_kind.Int)) (value.Int (pos n)) (λ e. e)
good_in of_kind.Unsigned n = value_if (nat_lt n (numbers_from_0 of_kind.Unsigned)) (value.Unsigned n) (λ e. e)
good_in of_kind.Long n = value_if (nat_lt n (numbers_from_0 of_kind.Long)) (value.Long (pos n)) (λ e. e)
good_in of_kind.UnsignedLong n = value_if (nat_lt n (numbers_from_0 of_kind.UnsignedLong)) (value.UnsignedLong n) (λ e. e)

good_asked : (f : Kind → Option Value) (o : Option Kind) → ((k : Kind) → GoodValue (f k)) → GoodValue (option_and_then f o)
good_asked f None h = tt
good_asked f (Some k) h = h k

good_decimal : (ds suffix : List ℕ) → GoodValue (decimal_value ds suffix)
good_decimal ds suffix =
    value_either (is_decimal ds) (option_and_then (λ k. literal_in k (digits_value 10 ds)) (asked_kind suffix)) None
    (good_asked (λ k. literal_in k (digits_value 10 ds)) (asked_kind suffix) (λ k. good_in k (digits_value 10 ds))) tt

good_hex : (ds suffix : List ℕ) → GoodValue (hex_value ds suffix)
good_hex ds suffix =
    value_either (nat_lt 0 (length ds)) (option_and_then (λ k. hex_literal k (digits_value 16 ds)) (asked_kind suffix)) None
    (good_asked (λ k. hex_literal k (digits_value 16 ds)) (asked_kind suffix)
    (λ k. value_or (literal_in k (digits_value 16 ds)) (literal_in (unsigned_of k) (digits_value 16 ds)) (good_in k (digits_value 16 ds)) (good_in (unsigned_of k) (digits_value 16 ds)))) tt

pub good_literal : (run : List ℕ) → GoodValue (literal_of run)
unfolding literal_of
good_literal run =
    let hex = drop 2 run in
    value_either (is_hex run) (with_digits is_hex_digit hex_value hex) (with_digits is_digit decimal_value run)
    (good_hex (take (run_of is_hex_digit hex) hex) (drop (run_of is_hex_digit hex) hex))
    (good_decimal (take (run_of is_digit run) run) (drop (run_of is_digit run) run))

-- ---- parallel lines

abbrev GoodSchedule : Option Schedule → Type 0
GoodSchedule None = Unit {0}
GoodSchedule (Some s) = schedule_spelt s ≡ true

schedule_either : (c : Bool) (a b : Option Schedule) → GoodSchedule a → GoodSchedule b → GoodSchedule (if c then a else b)
schedule_either true a b x y = x
schedule_either false a b x y = y

good_plain : (w : Part) → GoodSchedule (plain_schedule w)
good_plain w = schedule_either (is w (codes "static")) (Some schedule.Static) (if is w (codes "guided") then Some schedule.Guided else None) refl (schedule_either (is w (codes "guided")) (Some schedule.Guided) None refl tt)

int_of_good : (o : Option Value) → GoodValue o → is_int_number (int_of o) ≡ true
int_of_good None h = refl
int_of_good (Some (value.Int (pos n))) h = h
int_of_good (Some (value.Int (negsuc n))) h = refl
int_of_good (Some (value.Unsigned n)) h = refl
int_of_good (Some (value.Long z)) h = refl
int_of_good (Some (value.UnsignedLong n)) h = refl

good_by : (w : Part) (n : ℕ) → is_int_number n ≡ true → GoodSchedule (schedule_by w n)
good_by w n h = go (nat_le 1 n) refl
  where
    go : (c : Bool) → nat_le 1 n ≡ c → GoodSchedule (if not c then None else (if is w (codes "static") then Some (schedule.StaticBy n) else (if is w (codes "dynamic") then Some (schedule.DynamicBy n) else None)))
    go false e = tt
    go true e = schedule_either (is w (codes "static")) (Some (schedule.StaticBy n)) (if is w (codes "dynamic") then Some (schedule.DynamicBy n) else None) (and_from _ _ e h)
        (schedule_either (is w (codes "dynamic")) (Some (schedule.DynamicBy n)) None (and_from _ _ e h) tt)

good_chunk : (w : Part) (ps : List Part) → GoodSchedule (chunk_of w ps)
good_chunk w [] = tt
good_chunk w (n ∷ ps) = schedule_either (is_closed ps) (schedule_by w (int_of (literal_of n.text))) None (good_by w (int_of (literal_of n.text)) (int_of_good (literal_of n.text) (good_literal n.text))) tt

schedule_then : (f : List Part → Option Schedule) (o : Option (List Part)) → ((ps : List Part) → GoodSchedule (f ps)) → GoodSchedule (option_and_then f o)
schedule_then f None h = tt
schedule_then f (Some ps) h = h ps

good_brackets : (ps : List Part) → GoodSchedule (in_brackets ps)
good_brackets [] = tt
good_brackets (w ∷ ps) = schedule_either (is_closed ps) (plain_schedule w) (option_and_then (chunk_of w) (after_words (codes "," ∷ []) ps)) (good_plain w) (schedule_then (chunk_of w) (after_words (codes "," ∷ []) ps) (good_chunk w))

good_schedule : (ps : List Part) → GoodSchedule (schedule_of ps)
good_schedule [] = refl
good_schedule (p ∷ ps) = schedule_then in_brackets (after_words (codes "schedule" ∷ codes "(" ∷ []) (p ∷ ps)) good_brackets

abbrev GoodDepth : ℕ → Type 0
GoodDepth n = (nat_le 1 n ≡ true) × (nat_le n 8 ≡ true)

abbrev GoodDepthOf : Option (ℕ × List Part) → Type 0
GoodDepthOf None = Unit {0}
GoodDepthOf (Some x) = GoodDepth x.0

good_deep : (n : ℕ) (ps : List Part) → GoodDepthOf (deep n ps)
good_deep n ps = go (nat_le 2 n && nat_le n 8) refl
  where
    one : (n : ℕ) → nat_le 2 n ≡ true → nat_le 1 n ≡ true
    one n e = le-leb 1 n (omega (arith, leb-true 2 n e))

    go : (c : Bool) → (nat_le 2 n && nat_le n 8) ≡ c → GoodDepthOf (if c then Some (n, ps) else None)
    go false e = tt
    go true e = let k = and_parts (nat_le 2 n) (nat_le n 8) e in (one n k.0, k.1)

depth_then : (f : List Part → Option (ℕ × List Part)) (o : Option (List Part)) → ((ps : List Part) → GoodDepthOf (f ps)) → GoodDepthOf (option_and_then f o)
depth_then f None h = tt
depth_then f (Some ps) h = h ps

good_depth_in : (ps : List Part) → GoodDepthOf (depth_in ps)
good_depth_in [] = tt
good_depth_in (n ∷ ps) = depth_then (deep (int_of (literal_of n.text))) (after_words (codes ")" ∷ []) ps) (good_deep (int_of (literal_of n.text)))

good_behind_words : (ps : List Part) (o : Option (List Part)) → GoodDepthOf (depth_behind ps o)
good_behind_words ps None = (refl, refl)
good_behind_words ps (Some others) = good_depth_in others

good_depth : (ps : List Part) → GoodDepthOf (depth_of ps)
good_depth ps = good_behind_words ps (after_words (codes "collapse" ∷ codes "(" ∷ []) ps)

-- what a token of this text and kind is
abbrev pub GoodAs : List ℕ → TokenKind → Type 0
GoodAs t k = is_good (record { place = 0; text = t; kind = k }) ≡ true

abbrev GoodKind : Option TokenKind → Type 0
GoodKind None = Unit {0}
GoodKind (Some k) = (t : List ℕ) → GoodAs t k

good_parallel : (ps : List Part) → GoodKind (parallel_of ps)
good_parallel ps = go (depth_of ps) (good_depth ps)
  where
    with_schedule : (depth : ℕ) (o : Option Schedule) → GoodDepth depth → GoodSchedule o → GoodKind (option_map (kind.Parallel depth) o)
    with_schedule depth None d h = tt
    with_schedule depth (Some s) d h = λ t. and_from _ _ d.0 (and_from _ _ d.1 h)

    go : (o : Option (ℕ × List Part)) → GoodDepthOf o → GoodKind (option_and_then parallel_with o)
    go None h = tt
    go (Some p) h = with_schedule p.0 (schedule_of p.1) h (good_schedule p.1)

good_atomic : (ps : List Part) → GoodKind (atomic_of ps)
good_atomic [] = λ t. refl
good_atomic (p ∷ ps) = tt

kind_then : (f : List Part → Option TokenKind) (o : Option (List Part)) → ((ps : List Part) → GoodKind (f ps)) → GoodKind (option_and_then f o)
kind_then f None h = tt
kind_then f (Some ps) h = h ps

kind_or : (a b : Option TokenKind) → GoodKind a → GoodKind b → GoodKind (or_else a b)
kind_or None b x y = y
kind_or (Some k) b x y = x

pub good_openmp : (ps : List Part) → GoodKind (openmp_of ps)
unfolding openmp_of
good_openmp ps =
    kind_or (option_and_then parallel_of (after_words (codes "omp" ∷ codes "parallel" ∷ codes "for" ∷ []) ps)) (option_and_then atomic_of (after_words (codes "omp" ∷ codes "atomic" ∷ codes "update" ∷ []) ps))
    (kind_then parallel_of (after_words (codes "omp" ∷ codes "parallel" ∷ codes "for" ∷ []) ps) good_parallel)
    (kind_then atomic_of (after_words (codes "omp" ∷ codes "atomic" ∷ codes "update" ∷ []) ps) good_atomic)

-- ---- what stands at the front of some bytes

-- a token that a directive is, which is no `#include` and no species line
abbrev OtherForm : Form → Type 0
OtherForm (Read t kind.Include) = Unit {0}
OtherForm (Read t kind.Species) = Unit {0}
OtherForm (Read t k) = GoodAs t k
OtherForm _ = Unit {0}

form_either : (c : Bool) (a b : Form) → OtherForm a → OtherForm b → OtherForm (if c then a else b)
form_either true a b x y = x
form_either false a b x y = y

other_include : (bytes : List ℕ) (o : Option ℕ) → OtherForm (include_with bytes o)
other_include bytes None = tt
other_include bytes (Some n) = form_either (is_gap (drop n bytes)) (Read (take n bytes) kind.Include) formless tt tt

other_define : (name : Part) (ps : List Part) → OtherForm (define_as name ps)
other_define name [] = tt
other_define name (run ∷ ps) = form_either (is_macro_name name && is_first_in is_digit run.text && is_nothing ps) (Macro name.text run) formless tt tt

other_defines : (ps : List Part) → OtherForm (define_of ps)
other_defines [] = tt
other_defines (p ∷ ps) = other_define p ps

other_kind : (line : List ℕ) (o : Option TokenKind) → GoodKind o → OtherForm (openmp_form line o)
other_kind line None h = tt
other_kind line (Some kind.Include) h = tt
other_kind line (Some kind.Species) h = tt
other_kind line (Some k) h = h line

other_species : (line : List ℕ) (ps : List Part) → OtherForm (species_of line ps)
other_species line [] = tt
other_species line (p ∷ ps) = form_either (is_end_of_kernel p ps) Skipped (Read (slice_range line p.at (parts_end p.at (p ∷ ps))) kind.Species) tt tt

other_pragma : (line : List ℕ) (ps : List Part) → OtherForm (pragma_with line ps)
other_pragma line [] = tt
other_pragma line (p ∷ ps) = form_either (is p (codes "species")) (species_of line ps) (openmp_form line (openmp_of (p ∷ ps))) (other_species line ps) (other_kind line (openmp_of (p ∷ ps)) (good_openmp (p ∷ ps)))

other_backslash : (o : Option ℕ) (f : Form) → OtherForm f → OtherForm (unless_backslash o f)
other_backslash None f h = h
other_backslash (Some k) f h = tt

other_parts : (line : List ℕ) (ps : List Part) → OtherForm (parts_form line ps)
other_parts line [] = tt
other_parts line (p ∷ ps) =
    form_either (is p (codes "define")) (define_of ps) (if is p (codes "pragma") then pragma_of line ps else formless) (other_defines ps)
    (form_either (is p (codes "pragma")) (pragma_of line ps) formless (other_backslash (offset_of (codes "\\") ps) (pragma_with line ps) (other_pragma line ps)) tt)

other_form : (line : List ℕ) → OtherForm (form_of line)
unfolding form_of
other_form line =
    form_either (is_include line) (include_of (drop 7 (first_word line))) (content_form line (content_len (drop 1 line)))
    (other_include (drop (gap_len (drop 7 (first_word line))) (drop 7 (first_word line))) (header_len (drop (gap_len (drop 7 (first_word line))) (drop 7 (first_word line)))))
    (form_either (begins (codes "/*") (drop (content_len (drop 1 line)) (drop 1 line))) (Wrong (refusal.OpenComment (content_len (drop 1 line) + 1))) (parts_form line (parts_of 1 (take (content_len (drop 1 line)) (drop 1 line)))) tt
    (other_parts line (parts_of 1 (take (content_len (drop 1 line)) (drop 1 line)))))

good_read : (more t : List ℕ) (k : TokenKind) → list_all is_no_line_feed more ≡ true → form_of (35 ∷ more) ≡ Read t k → OtherForm (Read t k) → GoodAs t k
good_read more t kind.Include h e o = header_given more t h e
good_read more t kind.Species h e o = species_given more t h e
good_read more t _ h e o = o

abbrev GoodPiece : byte.Piece → Type 0
GoodPiece (byte.Lexeme n t k) = GoodAs t k
GoodPiece (byte.Define n name (Ok v)) = is_literal v ≡ true
GoodPiece _ = Unit {0}

good_word : (b : ℕ) (bs : List ℕ) → is_letter b ≡ true → GoodPiece (byte.word (suc (run_of is_word bs)) (b ∷ bs))
good_word b bs h = go (is_keyword (b ∷ take (run_of is_word bs) bs)) refl
  where
    go : (c : Bool) → is_keyword (b ∷ take (run_of is_word bs) bs) ≡ c → GoodAs (b ∷ take (run_of is_word bs) bs) (if c then kind.Keyword else kind.Name)
    go true e = refl
    go false e = and_from _ _ h (and_from _ _ (run_taken is_word bs) (ap not e))

good_number : (n : ℕ) (bs : List ℕ) (o : Option Value) → GoodValue o → GoodPiece (byte.number n bs o)
good_number n bs None h = tt
good_number n bs (Some v) h = h

good_line : (n : ℕ) (o : Option ℕ) → GoodPiece (byte.line_comment n o)
good_line n None = tt
good_line n (Some k) = tt

good_block : (o : Option ℕ) → GoodPiece (byte.block_comment o)
good_block None = tt
good_block (Some k) = tt

good_punct : (n : ℕ) (bs : List ℕ) → GoodPiece (byte.punctuator n bs)
good_punct zero bs = tt
good_punct (suc n) bs = refl

good_unless : (o : Option ℕ) (p : byte.Piece) → GoodPiece p → GoodPiece (byte.unless_spliced o p)
good_unless None p h = h
good_unless (Some k) p h = tt

good_defined : (run : Part) (o : Option ℕ) (v : Option Value) (n : ℕ) (name : List ℕ) → GoodValue v → GoodPiece (byte.Define n name (byte.defined_as run o v))
good_defined run o None n name h = tt
good_defined run None (Some v) n name h = h
good_defined run (Some k) (Some v) n name h = tt

good_directive : (n : ℕ) (o : Option ℕ) (more : List ℕ) (f : Form) → list_all is_no_line_feed more ≡ true → form_of (35 ∷ more) ≡ f → OtherForm f → GoodPiece (byte.directive n o f)
good_directive n o more Skipped h e k = good_unless o (byte.Space n) tt
good_directive n o more (Read t i) h e k = good_unless o (byte.Lexeme n t i) (good_read more t i h e k)
good_directive n o more (Macro name run) h e k = good_defined run o (literal_of run.text) n name (good_literal run.text)
good_directive n o more (Wrong r) h e k = tt

pub good_piece : (h : Bool) (b : ℕ) (bs : List ℕ) → GoodPiece (byte.piece_of h b bs)
unfolding byte.piece_of
good_piece h b bs = go (is_blank b) (begins (codes "//") (b ∷ bs)) (begins (codes "/*") (b ∷ bs)) (is_letter b) (is_digit b) (nat_eq b 35) h refl refl
  where
    go : (c d e f g i : Bool) (k : Bool) → is_letter b ≡ f → nat_eq b 35 ≡ i → GoodPiece (byte.piece_in (if c then byte.Blank else (if d then byte.LineComment else (if e then byte.BlockComment else (if f then byte.Letter else (if g then byte.Digit else (if i then byte.Hash else byte.Other)))))) k b bs)
    go true d e f g i k l z = tt
    go false true e f g i k l z = good_line (suc (line_len bs)) (splice_at (b ∷ bs))
    go false false true f g i k l z = good_block (comment_len (b ∷ bs))
    go false false false true g i k l z = good_word b bs l
    go false false false false true i k l z = good_number (suc (run_more b bs)) (b ∷ bs) (literal_of (take (suc (run_more b bs)) (b ∷ bs))) (good_literal (take (suc (run_more b bs)) (b ∷ bs)))
    go false false false false false true true l z =
        let line = take (line_len bs) bs in
        subst (λ x. GoodPiece (byte.directive (suc (line_len bs)) (splice_at (b ∷ bs)) (form_of (x ∷ line)))) (sym (eqb-true b 35 z))
        (good_directive (suc (line_len bs)) (splice_at (b ∷ bs)) line (form_of (35 ∷ line)) (run_taken is_no_line_feed bs) refl (other_form (35 ∷ line)))
    go false false false false false true false l z = tt
    go false false false false false false k l z = good_punct (punctuator_len (b ∷ bs)) (b ∷ bs)

-- ---- definitions, and whole texts

abbrev GoodDefinitions : List Definition → Type 0
GoodDefinitions ds = list_all (λ d. is_literal d.literal) ds ≡ true

good_found : (ds : List Definition) (name : List ℕ) → GoodDefinitions ds → GoodValue (look_up ds name)
good_found [] name h = tt
good_found (d ∷ ds) name h = let k = and_parts (is_literal d.literal) (list_all (λ d. is_literal d.literal) ds) h in go (bytes_eq d.name name) k.0 (good_found ds name k.1)
  where
    go : (c : Bool) → is_literal d.literal ≡ true → GoodValue (look_up ds name) → GoodValue (if c then Some d.literal else look_up ds name)
    go true x y = x
    go false x y = y

good_named : (t : List ℕ) (o : Option Value) → GoodValue o → GoodAs t kind.Name → GoodAs t (named o)
good_named t None h k = k
good_named t (Some v) h k = h

-- the same, where its names are looked up
good_once : (o : Option Value) (n : ℕ) (name : List ℕ) (v : Result Value LexRefusal) → GoodPiece (byte.Define n name v) → GoodPiece (define_once o n name v)
good_once (Some w) n name v h = tt
good_once None n name (Ok v) h = h
good_once None n name (Err r) h = tt

good_scope : (ds : List Definition) (p : byte.Piece) → GoodDefinitions ds → GoodPiece p → GoodPiece (in_scope ds p)
good_scope ds (byte.Space n) g h = h
good_scope ds (byte.Lexeme n t kind.Name) g h = good_named t (look_up ds t) (good_found ds t g) h
good_scope ds (byte.Lexeme n t _) g h = h
good_scope ds (byte.Define n name v) g h = good_once (look_up ds name) n name v h
good_scope ds (byte.Refused r) g h = h

good_behind : (t : List ℕ) (k : TokenKind) (ds : List Definition) → GoodAs t k → GoodDefinitions ds → GoodDefinitions (defined_by t k ds)
good_behind t (kind.Define v) ds h g = all_append (λ d. is_literal d.literal) ds (record { name = t; literal = v } ∷ []) g (and_from _ true h refl)
good_behind t _ ds h g = g

cut_good : (place : ℕ) (h : Bool) (ds : List Definition) (bytes : List ℕ) (s : TokenStream) → Cut place h ds bytes s → GoodDefinitions ds → list_all is_good s.tokens ≡ true
cut_good p i d t v (Cut.ends place h ds) g = refl
cut_good p i d t v (Cut.space place h ds b bytes n s e c) g = cut_good _ _ ds _ s c g
cut_good p i d t v (Cut.token place h ds b bytes n text k s e c) g =
    let good : GoodAs text k = subst GoodPiece e (good_scope ds (byte.piece_of h b bytes) g (good_piece h b bytes)) in
    and_from _ _ good (cut_good _ false (defined_by text k ds) _ s c (good_behind text k ds good g))
cut_good p i d t v (Cut.stops place h ds b bytes r e) g = refl

kept_good : (f : Token → Bool) (ts : List Token) → list_all is_good ts ≡ true → list_all is_good (filter f ts) ≡ true
kept_good f [] h = refl
kept_good f (t ∷ ts) h = let k = and_parts (is_good t) (list_all is_good ts) h in go (f t) k.0 (kept_good f ts k.1)
  where
    go : (c : Bool) → is_good t ≡ true → list_all is_good (filter f ts) ≡ true → list_all is_good (if c then t ∷ filter f ts else filter f ts) ≡ true
    go true x y = and_from _ _ x y
    go false x y = y

-- the tokens of a text are good
pub text_good : (text : List ℕ) (ts : List Token) → HasTokens text ts → list_all is_good ts ≡ true
text_good text ts h = ap (list_all is_good) h.3 ∙ kept_good (λ t. not (is_definition t.kind)) h.0.tokens (cut_good 0 true [] text h.0 h.1 refl)
