-- What stands at the front of some bytes: a blank, a comment, a directive, a token, or what is none of these.
use Rattle.std.specs.Prelude.{◌≡◌, ℕ, zero, suc, Bool, true, false, if◌then◌else◌, nat_eq, List, ◌∷◌, length, take, codes, Option, Some, None, unwrap_or, Result, Ok, Err}
use Rattle.species_ast.specs.Text.Characters.{is_blank, is_letter, is_digit, is_word, begins, run_of, line_len}
use Rattle.species_ast.specs.Text.Comments.{comment_len, splice_at}
use Rattle.species_ast.specs.Text.Numbers.{run_more, literal_of}
use Rattle.species_ast.specs.Text.Words.{is_keyword, punctuator_len}
use Rattle.species_ast.specs.Text.Parts.{Part}
use Rattle.species_ast.specs.Text.Directives.{Form, Skipped, Read, Macro, Wrong, form_of}
use Rattle.species_ast.specs.declared.tree.Value.{Value}
use Rattle.species_ast.specs.declared.token.TokenKind.{TokenKind}
use Rattle.species_ast.specs.declared.token.TokenKind.TheVariants as kind
use Rattle.species_ast.specs.declared.token.LexRefusal.{LexRefusal}
use Rattle.species_ast.specs.declared.token.LexRefusal.TheVariants as refusal

-- The first number is how many bytes the piece has. Places in a refusal count from its first byte.
pub data Piece : Type 0 where
  -- a blank, a comment, or a directive that is skipped
  Space : ℕ → Piece
  -- a token, by its text and what it is
  Lexeme : ℕ → List ℕ → TokenKind → Piece
  -- a `#define` that has its form, by its name: the value of the literal, or why the line is refused
  Define : ℕ → List ℕ → Result Value LexRefusal → Piece
  Refused : LexRefusal → Piece

-- ---- comments

-- `//` up to the end of the line, which is not spliced
abbrev pub line_comment : ℕ → Option ℕ → Piece
line_comment n None = Space n
line_comment n (Some at) = Refused (refusal.BadByte at)

-- `/*` up to the first `*/`
abbrev pub block_comment : Option ℕ → Piece
block_comment None = Refused (refusal.OpenComment 0)
block_comment (Some n) = Space n

-- ---- words, numbers and punctuators: the longest at the front

abbrev pub word : ℕ → List ℕ → Piece
word n bytes = Lexeme n (take n bytes) (if is_keyword (take n bytes) then kind.Keyword else kind.Name)

abbrev pub number : ℕ → List ℕ → Option Value → Piece
number n bytes None = Refused (refusal.BadNumber 0)
number n bytes (Some v) = Lexeme n (take n bytes) (kind.Number v)

abbrev pub punctuator : ℕ → List ℕ → Piece
punctuator zero bytes = Refused (refusal.BadByte 0)
punctuator (suc n) bytes = Lexeme (suc n) (take (suc n) bytes) kind.Punct

-- ---- directives

-- the line's form, unless the line is spliced
abbrev pub unless_spliced : Option ℕ → Piece → Piece
unless_spliced None piece = piece
unless_spliced (Some at) piece = Refused (refusal.BadByte at)

abbrev pub defined_as : Part → Option ℕ → Option Value → Result Value LexRefusal
defined_as run splice None = Err (refusal.BadNumber run.at)
defined_as run None (Some v) = Ok v
defined_as run (Some at) (Some v) = Err (refusal.BadByte at)

abbrev pub directive : ℕ → Option ℕ → Form → Piece
directive n splice Skipped = unless_spliced splice (Space n)
directive n splice (Read text k) = unless_spliced splice (Lexeme n text k)
directive n splice (Macro name run) = Define n name (defined_as run splice (literal_of run.text))
directive n splice (Wrong r) = Refused r

-- ---- all of them

-- with what a piece begins
pub data Start : Type 0 where
  Blank LineComment BlockComment Letter Digit Hash Other : Start

abbrev pub start_of : ℕ → List ℕ → Start
start_of b bytes =
    if is_blank b then Blank
    else if begins (codes "//") (b ∷ bytes) then LineComment
    else if begins (codes "/*") (b ∷ bytes) then BlockComment
    else if is_letter b then Letter
    else if is_digit b then Digit
    else if nat_eq b 35 then Hash
    else Other

-- `is_head` says that only blanks and comments stand before the piece on its line: there a `#` begins a directive
abbrev pub piece_in : Start → Bool → ℕ → List ℕ → Piece
piece_in Blank is_head b bytes = Space 1
piece_in LineComment is_head b bytes = line_comment (suc (line_len bytes)) (splice_at (b ∷ bytes))
piece_in BlockComment is_head b bytes = block_comment (comment_len (b ∷ bytes))
piece_in Letter is_head b bytes = word (suc (run_of is_word bytes)) (b ∷ bytes)
piece_in Digit is_head b bytes =
    number (suc (run_more b bytes)) (b ∷ bytes) (literal_of (take (suc (run_more b bytes)) (b ∷ bytes)))
piece_in Hash true b bytes =
    directive (suc (line_len bytes)) (splice_at (b ∷ bytes)) (form_of (take (suc (line_len bytes)) (b ∷ bytes)))
piece_in Hash false b bytes = Refused (refusal.BadByte 0)
piece_in Other is_head b bytes = punctuator (punctuator_len (b ∷ bytes)) (b ∷ bytes)

-- the piece at the front of `b ∷ bytes`
unfoldable pub piece_of : Bool → ℕ → List ℕ → Piece
piece_of is_head b bytes = piece_in (start_of b bytes) is_head b bytes

-- ---- how much of the bytes decides it

abbrev pub at_least_one : ℕ → ℕ
at_least_one zero = 1
at_least_one (suc n) = suc n

-- How many bytes are looked at to tell the piece at the front of `b ∷ bytes`, where one more is at hand: those of the piece, or
-- of what is refused. A comment that is not closed takes all of them.
abbrev pub extent_in : Start → Bool → ℕ → List ℕ → ℕ
extent_in Blank is_head b bytes = 1
extent_in LineComment is_head b bytes = suc (line_len bytes)
extent_in BlockComment is_head b bytes = unwrap_or (comment_len (b ∷ bytes)) (length (b ∷ bytes))
extent_in Letter is_head b bytes = suc (run_of is_word bytes)
extent_in Digit is_head b bytes = suc (run_more b bytes)
extent_in Hash true b bytes = suc (line_len bytes)
extent_in Hash false b bytes = 1
extent_in Other is_head b bytes = at_least_one (punctuator_len (b ∷ bytes))

unfoldable pub extent_of : Bool → ℕ → List ℕ → ℕ
extent_of is_head b bytes = extent_in (start_of b bytes) is_head b bytes

-- a piece has the length n
abbrev pub HasLength : Piece → ℕ → Type 0
HasLength (Space n) m = m ≡ n
HasLength (Lexeme n text k) m = m ≡ n
HasLength (Define n name value) m = m ≡ n
HasLength (Refused r) m = Unit {0}
