-- A token that is no `#define` has another kind.
use Rattle.std.proofs.Common.{◌≡◌, refl, subst, ℕ, zero, suc, Bool, true, false, List, [], ◌∷◌, drop, take, Option, Some, None, codes}
use Rattle.std.specs.Prelude.{if◌then◌else◌, ◌&&◌, option_map, option_and_then}
use Rattle.species_ast.specs.declared.tree.Value.{Value}
use Rattle.species_ast.specs.declared.tree.Schedule.{Schedule}
use Rattle.species_ast.specs.declared.token.TokenKind.{TokenKind}
use Rattle.species_ast.specs.declared.token.TokenKind.TheVariants as kind
use Rattle.species_ast.specs.Text.Characters.{is_digit, is_word, run_of, line_len, begins}
use Rattle.species_ast.specs.Text.Comments.{gap_len, content_len, comment_len, splice_at}
use Rattle.species_ast.specs.Text.Numbers.{run_more, literal_of, or_else}
use Rattle.species_ast.specs.Text.Words.{is_keyword, punctuator_len}
use Rattle.species_ast.specs.Text.Parts.{Part, is, is_nothing, parts_of, offset_of, after_words}
use Rattle.species_ast.specs.Text.Pragmas.{schedule_of, depth_of, parallel_with, parallel_of, atomic_of, openmp_of}
use Rattle.species_ast.specs.Text.Directives.{Form, Skipped, Read, Macro, Wrong, formless, header_len, is_gap, include_with, include_of, is_first_in, is_macro_name, define_as, define_of, is_end_of_kernel, species_of, openmp_form, pragma_with, unless_backslash, pragma_of, parts_form, first_word, is_include, form_of}
use Rattle.species_ast.specs.Text.Pieces.{Piece, Space, Lexeme, line_comment, block_comment, number, punctuator, unless_spliced, directive, Start, Blank, LineComment, BlockComment, Letter, Digit, Hash, Other, start_of, piece_in, piece_of}
use Rattle.species_ast.specs.Text.Stream.{is_definition}

abbrev IsPlain : TokenKind → Type 0
IsPlain k = is_definition k ≡ false

abbrev PlainOption : Option TokenKind → Type 0
PlainOption None = Unit {0}
PlainOption (Some k) = IsPlain k

plain_else : (a b : Option TokenKind) → PlainOption a → PlainOption b → PlainOption (or_else a b)
plain_else None b x y = y
plain_else (Some k) b x y = x

plain_scheduled : (depth : ℕ) (o : Option Schedule) → PlainOption (option_map (kind.Parallel depth) o)
plain_scheduled depth None = tt
plain_scheduled depth (Some s) = refl

plain_parallel : (ps : List Part) → PlainOption (parallel_of ps)
plain_parallel ps = go (depth_of ps)
  where
    go : (o : Option (ℕ × List Part)) → PlainOption (option_and_then parallel_with o)
    go None = tt
    go (Some p) = plain_scheduled p.0 (schedule_of p.1)

plain_atomic : (ps : List Part) → PlainOption (atomic_of ps)
plain_atomic [] = refl
plain_atomic (p ∷ ps) = tt

plain_then : (f : List Part → Option TokenKind) (o : Option (List Part)) → ((ps : List Part) → PlainOption (f ps)) → PlainOption (option_and_then f o)
plain_then f None h = tt
plain_then f (Some ps) h = h ps

plain_openmp : (ps : List Part) → PlainOption (openmp_of ps)
unfolding openmp_of
plain_openmp ps =
    plain_else _ _ (plain_then parallel_of (after_words (codes "omp" ∷ codes "parallel" ∷ codes "for" ∷ []) ps) plain_parallel)
    (plain_then atomic_of (after_words (codes "omp" ∷ codes "atomic" ∷ codes "update" ∷ []) ps) plain_atomic)

-- ---- directives

abbrev PlainForm : Form → Type 0
PlainForm (Read text k) = IsPlain k
PlainForm _ = Unit {0}

plain_if : (b : Bool) (x y : Form) → PlainForm x → PlainForm y → PlainForm (if b then x else y)
plain_if true x y p q = p
plain_if false x y p q = q

plain_include : (bytes : List ℕ) (n : Option ℕ) → PlainForm (include_with bytes n)
plain_include bytes None = tt
plain_include bytes (Some n) = plain_if (is_gap (drop n bytes)) (Read (take n bytes) kind.Include) formless refl tt

plain_define_as : (name : Part) (ps : List Part) → PlainForm (define_as name ps)
plain_define_as name [] = tt
plain_define_as name (run ∷ ps) = plain_if (is_macro_name name && is_first_in is_digit run.text && is_nothing ps) (Macro name.text run) formless tt tt

plain_define : (ps : List Part) → PlainForm (define_of ps)
plain_define [] = tt
plain_define (name ∷ ps) = plain_define_as name ps

plain_species : (line : List ℕ) (ps : List Part) → PlainForm (species_of line ps)
plain_species line [] = tt
plain_species line (p ∷ ps) = plain_if (is_end_of_kernel p ps) Skipped _ tt refl

plain_openmp_form : (line : List ℕ) (o : Option TokenKind) → PlainOption o → PlainForm (openmp_form line o)
plain_openmp_form line None h = tt
plain_openmp_form line (Some k) h = h

plain_pragma : (line : List ℕ) (ps : List Part) → PlainForm (pragma_with line ps)
plain_pragma line [] = tt
plain_pragma line (p ∷ ps) = plain_if (is p (codes "species")) (species_of line ps) _ (plain_species line ps) (plain_openmp_form line (openmp_of (p ∷ ps)) (plain_openmp (p ∷ ps)))

plain_unless : (o : Option ℕ) (form : Form) → PlainForm form → PlainForm (unless_backslash o form)
plain_unless None form h = h
plain_unless (Some at) form h = tt

plain_parts : (line : List ℕ) (ps : List Part) → PlainForm (parts_form line ps)
plain_parts line [] = tt
plain_parts line (p ∷ ps) =
    plain_if (is p (codes "define")) (define_of ps) _ (plain_define ps)
    (plain_if (is p (codes "pragma")) (pragma_of line ps) formless (plain_unless (offset_of (codes "\\") ps) (pragma_with line ps) (plain_pragma line ps)) tt)

plain_form : (line : List ℕ) → PlainForm (form_of line)
unfolding form_of
plain_form line =
    plain_if (is_include line) (include_of (drop 7 (first_word line))) _ (plain_include (drop (gap_len (drop 7 (first_word line))) (drop 7 (first_word line))) (header_len (drop (gap_len (drop 7 (first_word line))) (drop 7 (first_word line)))))
    (plain_if (begins (codes "/*") (drop (content_len (drop 1 line)) (drop 1 line))) _ (parts_form line (parts_of 1 (take (content_len (drop 1 line)) (drop 1 line)))) tt (plain_parts line (parts_of 1 (take (content_len (drop 1 line)) (drop 1 line)))))

-- ---- pieces

abbrev PlainPiece : Piece → Type 0
PlainPiece (Lexeme n text k) = IsPlain k
PlainPiece _ = Unit {0}

plain_line : (n : ℕ) (o : Option ℕ) → PlainPiece (line_comment n o)
plain_line n None = tt
plain_line n (Some at) = tt

plain_block : (o : Option ℕ) → PlainPiece (block_comment o)
plain_block None = tt
plain_block (Some n) = tt

plain_word : (b : Bool) → IsPlain (if b then kind.Keyword else kind.Name)
plain_word true = refl
plain_word false = refl

plain_number : (n : ℕ) (bytes : List ℕ) (o : Option Value) → PlainPiece (number n bytes o)
plain_number n bytes None = tt
plain_number n bytes (Some v) = refl

plain_punctuator : (n : ℕ) (bytes : List ℕ) → PlainPiece (punctuator n bytes)
plain_punctuator zero bytes = tt
plain_punctuator (suc n) bytes = refl

plain_spliced : (o : Option ℕ) (p : Piece) → PlainPiece p → PlainPiece (unless_spliced o p)
plain_spliced None p h = h
plain_spliced (Some at) p h = tt

plain_directive : (n : ℕ) (o : Option ℕ) (form : Form) → PlainForm form → PlainPiece (directive n o form)
plain_directive n o Skipped h = plain_spliced o (Space n) tt
plain_directive n o (Read text k) h = plain_spliced o (Lexeme n text k) h
plain_directive n o (Macro name run) h = tt
plain_directive n o (Wrong r) h = tt

plain_in : (start : Start) (is_head : Bool) (b : ℕ) (bytes : List ℕ) → PlainPiece (piece_in start is_head b bytes)
plain_in Blank is_head b bytes = tt
plain_in LineComment is_head b bytes = plain_line (suc (line_len bytes)) (splice_at (b ∷ bytes))
plain_in BlockComment is_head b bytes = plain_block (comment_len (b ∷ bytes))
plain_in Letter is_head b bytes = plain_word (is_keyword (take (suc (run_of is_word bytes)) (b ∷ bytes)))
plain_in Digit is_head b bytes = plain_number (suc (run_more b bytes)) (b ∷ bytes) (literal_of (take (suc (run_more b bytes)) (b ∷ bytes)))
plain_in Hash true b bytes = plain_directive (suc (line_len bytes)) (splice_at (b ∷ bytes)) (form_of (take (suc (line_len bytes)) (b ∷ bytes))) (plain_form (take (suc (line_len bytes)) (b ∷ bytes)))
plain_in Hash false b bytes = tt
plain_in Other is_head b bytes = plain_punctuator (punctuator_len (b ∷ bytes)) (b ∷ bytes)

pub plain_piece : (is_head : Bool) (b : ℕ) (bytes : List ℕ) (n : ℕ) (text : List ℕ) (k : TokenKind) → piece_of is_head b bytes ≡ Lexeme n text k → is_definition k ≡ false
unfolding piece_of
plain_piece is_head b bytes n text k e = subst PlainPiece e (plain_in (start_of b bytes) is_head b bytes)
