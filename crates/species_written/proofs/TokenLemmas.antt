-- The tokens of a text are no more than its bytes, and the parallel pragmas among them have depths.
use Rattle.std.proofs.Common.{◌≡◌, sym, refl, subst, ℕ, zero, suc, ◌+◌, ◌≤◌, Bool, true, false, List, [], ◌∷◌, length, take, drop, Option, Some, None, Result, Ok, Err, arith, length-drop}
use Rattle.std.proofs.lemmas.Bool.{and_parts, and_from}
use Rattle.std.specs.Prelude.{◌&&◌, not, if◌then◌else◌, codes, filter, slice_range}
use Rattle.std.specs.List.{list_all}
use Rattle.species_ast.specs.Token.{Token}
use Rattle.species_ast.specs.declared.tree.Value.{Value}
use Rattle.species_ast.specs.declared.token.TokenKind.{TokenKind}
use Rattle.species_ast.specs.declared.token.TokenKind.TheVariants as kind
use Rattle.species_ast.specs.declared.token.LexRefusal.{LexRefusal}
use Rattle.species_ast.specs.declared.token.LexRefusal.TheVariants as refusal
use Rattle.species_ast.specs.Text.Characters.{is_digit, is_word, begins, run_of, line_len}
use Rattle.species_ast.specs.Text.Comments.{splice_at, comment_len, gap_len, content_len}
use Rattle.species_ast.specs.Text.Numbers.{literal_of, run_more}
use Rattle.species_ast.specs.Text.Words.{is_keyword, punctuator_len}
use Rattle.species_ast.specs.Text.Parts.{Part, is, is_nothing, parts_of, parts_end, offset_of}
use Rattle.species_ast.specs.Text.Pragmas.{openmp_of}
use Rattle.species_ast.specs.Text.Directives.{Form, Skipped, Read, Macro, Wrong, form_of, formless, header_len, is_gap, include_with, include_of, is_first_in, is_macro_name, define_as, define_of, is_end_of_kernel, species_of, openmp_form, pragma_with, unless_backslash, pragma_of, parts_form, content_form, first_word, is_include}
use Rattle.species_ast.specs.Text.Pieces.{Piece, Space, Lexeme, Define, Refused, line_comment, block_comment, word, number, punctuator, unless_spliced, directive, Start, Blank, LineComment, BlockComment, Letter, Digit, Hash, Other, start_of, piece_in, piece_of}
use Rattle.species_ast.specs.Text.Stream.{TokenStream, Definition, look_up, named, define_once, in_scope, defined_by, head_behind, Cut, is_definition}
use Rattle.species_ast.specs.Reading.{HasTokens}
use Rattle.species_written.proofs.DepthLemmas.{is_deep, IsDeep, deep_openmp}

-- ---- what a directive is

abbrev DeepForm : Form → Type 0
DeepForm (Read t k) = is_deep k ≡ true
DeepForm _ = Unit {0}

either_form : (c : Bool) (a b : Form) → DeepForm a → DeepForm b → DeepForm (if c then a else b)
either_form true a b x y = x
either_form false a b x y = y

deep_include : (bytes : List ℕ) (o : Option ℕ) → DeepForm (include_with bytes o)
deep_include bytes None = tt
deep_include bytes (Some n) = either_form (is_gap (drop n bytes)) (Read (take n bytes) kind.Include) formless refl tt

deep_define : (name : Part) (ps : List Part) → DeepForm (define_as name ps)
deep_define name [] = tt
deep_define name (run ∷ ps) = go (is_macro_name name && is_first_in is_digit run.text && is_nothing ps)
  where
    go : (c : Bool) → DeepForm (if c then Macro name.text run else formless)
    go true = tt
    go false = tt

deep_defines : (ps : List Part) → DeepForm (define_of ps)
deep_defines [] = tt
deep_defines (p ∷ ps) = deep_define p ps

deep_kind : (line : List ℕ) (o : Option TokenKind) → IsDeep o → DeepForm (openmp_form line o)
deep_kind line None h = tt
deep_kind line (Some k) h = h

deep_species : (line : List ℕ) (ps : List Part) → DeepForm (species_of line ps)
deep_species line [] = tt
deep_species line (p ∷ ps) = go (is_end_of_kernel p ps)
  where
    go : (c : Bool) → DeepForm (if c then Skipped else Read (slice_range line p.at (parts_end p.at (p ∷ ps))) kind.Species)
    go true = tt
    go false = refl

deep_pragma : (line : List ℕ) (ps : List Part) → DeepForm (pragma_with line ps)
deep_pragma line [] = tt
deep_pragma line (p ∷ ps) =
    either_form (is p (codes "species")) (species_of line ps) (openmp_form line (openmp_of (p ∷ ps)))
    (deep_species line ps) (deep_kind line (openmp_of (p ∷ ps)) (deep_openmp (p ∷ ps)))

deep_unless : (o : Option ℕ) (f : Form) → DeepForm f → DeepForm (unless_backslash o f)
deep_unless None f h = h
deep_unless (Some at) f h = tt

deep_parts : (line : List ℕ) (ps : List Part) → DeepForm (parts_form line ps)
deep_parts line [] = tt
deep_parts line (p ∷ ps) =
    either_form (is p (codes "define")) (define_of ps) (if is p (codes "pragma") then pragma_of line ps else formless) (deep_defines ps)
    (either_form (is p (codes "pragma")) (pragma_of line ps) formless (deep_unless (offset_of (codes "\\") ps) (pragma_with line ps) (deep_pragma line ps)) tt)

deep_content : (line : List ℕ) (n : ℕ) → DeepForm (content_form line n)
deep_content line n =
    either_form (begins (codes "/*") (drop n (drop 1 line))) (Wrong (refusal.OpenComment (n + 1))) (parts_form line (parts_of 1 (take n (drop 1 line)))) tt
    (deep_parts line (parts_of 1 (take n (drop 1 line))))

deep_form : (line : List ℕ) → DeepForm (form_of line)
unfolding form_of
deep_form line =
    let behind = drop 7 (first_word line) in
    let header = drop (gap_len behind) behind in
    either_form (is_include line) (include_of behind) (content_form line (content_len (drop 1 line)))
    (deep_include header (header_len header)) (deep_content line (content_len (drop 1 line)))

-- ---- pieces

-- a token takes a byte at least, and has a depth if it is a parallel pragma
abbrev IsSound : Piece → Type 0
IsSound (Lexeme n text k) = (1 ≤ n) × (is_deep k ≡ true)
IsSound (Define n name value) = 1 ≤ n
IsSound _ = Unit {0}

sound_line : (n : ℕ) (splice : Option ℕ) → IsSound (line_comment n splice)
sound_line n None = tt
sound_line n (Some at) = tt

sound_block : (o : Option ℕ) → IsSound (block_comment o)
sound_block None = tt
sound_block (Some n) = tt

sound_word : (n : ℕ) (bytes : List ℕ) → IsSound (word (suc n) bytes)
sound_word n bytes = go (is_keyword (take (suc n) bytes))
  where
    go : (c : Bool) → (1 ≤ suc n) × (is_deep (if c then kind.Keyword else kind.Name) ≡ true)
    go true = (omega arith, refl)
    go false = (omega arith, refl)

sound_number : (n : ℕ) (bytes : List ℕ) (value : Option Value) → IsSound (number (suc n) bytes value)
sound_number n bytes None = tt
sound_number n bytes (Some v) = (omega arith, refl)

sound_sign : (n : ℕ) (bytes : List ℕ) → IsSound (punctuator n bytes)
sound_sign zero bytes = tt
sound_sign (suc n) bytes = (omega arith, refl)

sound_unless : (splice : Option ℕ) (p : Piece) → IsSound p → IsSound (unless_spliced splice p)
sound_unless None p h = h
sound_unless (Some at) p h = tt

sound_directive : (n : ℕ) (splice : Option ℕ) (f : Form) → DeepForm f → IsSound (directive (suc n) splice f)
sound_directive n splice Skipped h = sound_unless splice (Space (suc n)) tt
sound_directive n splice (Read t k) h = sound_unless splice (Lexeme (suc n) t k) (omega arith, h)
sound_directive n splice (Macro name run) h = omega arith
sound_directive n splice (Wrong r) h = tt

sound_in : (s : Start) (is_head : Bool) (b : ℕ) (bytes : List ℕ) → IsSound (piece_in s is_head b bytes)
sound_in Blank is_head b bytes = tt
sound_in LineComment is_head b bytes = sound_line (suc (line_len bytes)) (splice_at (b ∷ bytes))
sound_in BlockComment is_head b bytes = sound_block (comment_len (b ∷ bytes))
sound_in Letter is_head b bytes = sound_word (run_of is_word bytes) (b ∷ bytes)
sound_in Digit is_head b bytes = sound_number (run_more b bytes) (b ∷ bytes) (literal_of (take (suc (run_more b bytes)) (b ∷ bytes)))
sound_in Hash true b bytes =
    let line = take (suc (line_len bytes)) (b ∷ bytes) in
    sound_directive (line_len bytes) (splice_at (b ∷ bytes)) (form_of line) (deep_form line)
sound_in Hash false b bytes = tt
sound_in Other is_head b bytes = sound_sign (punctuator_len (b ∷ bytes)) (b ∷ bytes)

sound_piece : (is_head : Bool) (b : ℕ) (bytes : List ℕ) → IsSound (piece_of is_head b bytes)
unfolding piece_of
sound_piece is_head b bytes = sound_in (start_of b bytes) is_head b bytes

sound_named : (n : ℕ) (text : List ℕ) (o : Option Value) → 1 ≤ n → IsSound (Lexeme n text (named o))
sound_named n text None h = (h, refl)
sound_named n text (Some v) h = (h, refl)

sound_once : (old : Option Value) (n : ℕ) (name : List ℕ) (value : Result Value LexRefusal) → 1 ≤ n → IsSound (define_once old n name value)
sound_once (Some v) n name value h = tt
sound_once None n name (Ok v) h = (h, refl)
sound_once None n name (Err r) h = tt

sound_scope : (ds : List Definition) (p : Piece) → IsSound p → IsSound (in_scope ds p)
sound_scope ds (Space n) h = h
sound_scope ds (Lexeme n text kind.Name) h = sound_named n text (look_up ds text) h.0
sound_scope ds (Lexeme n text _) h = h
sound_scope ds (Define n name value) h = sound_once (look_up ds name) n name value h
sound_scope ds (Refused r) h = h

-- ---- a whole text

abbrev pub is_deep_token : Token → Bool
is_deep_token t = is_deep t.kind

-- no more tokens than bytes, and each of them deep
abbrev pub Holds : ℕ → List Token → Type 0
Holds size ts = (length ts ≤ size) × (list_all is_deep_token ts ≡ true)

fewer : (n : ℕ) (bytes : List ℕ) (k : ℕ) → k ≤ length (drop n bytes) → k ≤ length bytes
fewer n bytes k h = omega (arith, h, length-drop n bytes)

fewer_by_one : (n b : ℕ) (bytes : List ℕ) (k : ℕ) → 1 ≤ n → k ≤ length (drop n (b ∷ bytes)) → suc k ≤ length (b ∷ bytes)
fewer_by_one n b bytes k some h = omega (arith, some, h, length-drop n (b ∷ bytes))

cut_holds : (place : ℕ) (is_head : Bool) (ds : List Definition) (bytes : List ℕ) (s : TokenStream) → Cut place is_head ds bytes s → Holds (length bytes) s.tokens
cut_holds p i d t v (Cut.ends place is_head ds) = (omega arith, refl)
cut_holds p i d t v (Cut.space place is_head ds b bytes n s e c) =
    let k = cut_holds (place + n) (head_behind is_head (take n (b ∷ bytes))) ds (drop n (b ∷ bytes)) s c in
    (fewer n (b ∷ bytes) (length s.tokens) k.0, k.1)
cut_holds p i d t v (Cut.token place is_head ds b bytes n text k s e c) =
    let sound = subst IsSound e (sound_scope ds (piece_of is_head b bytes) (sound_piece is_head b bytes)) in
    let more = cut_holds (place + n) false (defined_by text k ds) (drop n (b ∷ bytes)) s c in
    (fewer_by_one n b bytes (length s.tokens) sound.0 more.0, and_from (is_deep k) (list_all is_deep_token s.tokens) sound.1 more.1)
cut_holds p i d t v (Cut.stops place is_head ds b bytes r e) = (omega arith, refl)

kept_holds : (f : Token → Bool) (ts : List Token) (size : ℕ) → Holds size ts → Holds size (filter f ts)
kept_holds f [] size h = h
kept_holds f (t ∷ ts) size h =
    let k = and_parts (is_deep_token t) (list_all is_deep_token ts) h.1 in
    let more = kept_holds f ts (length ts) (omega arith, k.1) in
    go (f t) k.0 (omega (arith, h.0, more.0)) more.1
  where
    go : (c : Bool) → is_deep_token t ≡ true → suc (length (filter f ts)) ≤ size → list_all is_deep_token (filter f ts) ≡ true → Holds size (if c then t ∷ filter f ts else filter f ts)
    go true x n y = (n, and_from (is_deep_token t) (list_all is_deep_token (filter f ts)) x y)
    go false x n y = (omega (arith, n), y)

-- so it is with the tokens that the grammar sees
pub text_holds : (text : List ℕ) (ts : List Token) → HasTokens text ts → Holds (length text) ts
text_holds text ts h =
    subst (Holds (length text)) (sym h.3)
    (kept_holds (λ t. not (is_definition t.kind)) h.0.tokens (length text) (cut_holds 0 true [] text h.0 h.1))
