-- What stands on a line that begins with `#` (C17 6.10). A `line` is the whole line, with its `#`.
use Rattle.std.specs.Prelude.{ℕ, ◌+◌, Bool, false, not, ◌||◌, ◌&&◌, nat_eq, if◌then◌else◌, List, [], ◌∷◌, length, take, drop, codes, bytes_eq, slice_range, Option, Some, None, position, option_map}
use Rattle.species_ast.specs.Text.Characters.{is_letter, is_digit, is_word, begins, run_of}
use Rattle.species_ast.specs.Text.Comments.{gap_len, content_len}
use Rattle.species_ast.specs.Text.Words.{is_keyword}
use Rattle.species_ast.specs.Text.Parts.{Part, is, is_nothing, parts_of, parts_end, offset_of}
use Rattle.species_ast.specs.Text.Pragmas.{openmp_of}
use Rattle.species_ast.specs.declared.token.TokenKind.{TokenKind}
use Rattle.species_ast.specs.declared.token.TokenKind.TheVariants as kind
use Rattle.species_ast.specs.declared.token.LexRefusal.{LexRefusal}
use Rattle.species_ast.specs.declared.token.LexRefusal.TheVariants as refusal

-- What a directive is. Places in a refusal count from its `#`.
pub data Form : Type 0 where
  -- nothing at all, or a pragma that is not read
  Skipped : Form
  -- a token, by its text and what it is
  Read : List ℕ → TokenKind → Form
  -- `#define` of a name as a number run
  Macro : List ℕ → Part → Form
  Wrong : LexRefusal → Form

-- a directive that has none of the forms
abbrev pub formless : Form
formless = Wrong (refusal.BadByte 0)

-- ---- `#include`

abbrev pub closed_by : ℕ → List ℕ → Option ℕ
closed_by quote bytes = option_map (λ n. n + 2) (position (nat_eq quote) bytes)

-- the length of the header at the front: `<` up to the next `>`, or `"` up to the next `"`
abbrev pub header_len : List ℕ → Option ℕ
header_len [] = None
header_len (b ∷ bytes) =
    if nat_eq b 60 then closed_by 62 bytes
    else if nat_eq b 34 then closed_by 34 bytes
    else None

-- only blanks and comments
abbrev pub is_gap : List ℕ → Bool
is_gap bytes = let rest = drop (gap_len bytes) bytes in nat_eq (length rest) 0 || begins (codes "//") rest

abbrev pub include_with : List ℕ → Option ℕ → Form
include_with bytes None = formless
include_with bytes (Some n) = if is_gap (drop n bytes) then Read (take n bytes) kind.Include else formless

-- what stands behind the word `include`
abbrev pub include_of : List ℕ → Form
include_of bytes =
    let header = drop (gap_len bytes) bytes in
    include_with header (header_len header)

-- ---- `#define` and `#pragma`

-- a part whose first byte is in a class
abbrev pub is_first_in : (ℕ → Bool) → List ℕ → Bool
is_first_in is_in [] = false
is_first_in is_in (b ∷ bytes) = is_in b

-- a name that is no keyword
abbrev pub is_macro_name : Part → Bool
is_macro_name p = is_first_in is_letter p.text && not (is_keyword p.text)

abbrev pub define_as : Part → List Part → Form
define_as name [] = formless
define_as name (run ∷ ps) =
    if is_macro_name name && is_first_in is_digit run.text && is_nothing ps then Macro name.text run else formless

-- what stands behind the word `define`: a name, a number run, and nothing more
abbrev pub define_of : List Part → Form
define_of [] = formless
define_of (name ∷ ps) = define_as name ps

-- the word `endkernel` that no `[` follows
abbrev pub is_end_of_kernel : Part → List Part → Bool
is_end_of_kernel word [] = is word (codes "endkernel")
is_end_of_kernel word (p ∷ ps) = is word (codes "endkernel") && not (is p (codes "["))

-- what stands behind the words `pragma species`: from its first part to its last
abbrev pub species_of : List ℕ → List Part → Form
species_of line [] = Skipped
species_of line (p ∷ ps) =
    if is_end_of_kernel p ps then Skipped
    else Read (slice_range line p.at (parts_end p.at (p ∷ ps))) kind.Species

-- the token's text is the whole line
abbrev pub openmp_form : List ℕ → Option TokenKind → Form
openmp_form line None = Skipped
openmp_form line (Some k) = Read line k

-- a pragma without a backslash
abbrev pub pragma_with : List ℕ → List Part → Form
pragma_with line [] = Skipped
pragma_with line (p ∷ ps) = if is p (codes "species") then species_of line ps else openmp_form line (openmp_of (p ∷ ps))

abbrev pub unless_backslash : Option ℕ → Form → Form
unless_backslash None form = form
unless_backslash (Some at) form = Wrong (refusal.BadByte at)

-- what stands behind the word `pragma`: any parts but a backslash
abbrev pub pragma_of : List ℕ → List Part → Form
pragma_of line ps = unless_backslash (offset_of (codes "\\") ps) (pragma_with line ps)

-- the parts behind the `#`
abbrev pub parts_form : List ℕ → List Part → Form
parts_form line [] = Skipped
parts_form line (p ∷ ps) =
    if is p (codes "define") then define_of ps
    else if is p (codes "pragma") then pragma_of line ps
    else formless

-- ---- a whole line

-- a directive that is no `#include`: its content has no comment that is not closed
abbrev pub content_form : List ℕ → ℕ → Form
content_form line n =
    if begins (codes "/*") (drop n (drop 1 line)) then Wrong (refusal.OpenComment (n + 1))
    else parts_form line (parts_of 1 (take n (drop 1 line)))

-- the bytes behind the blanks and comments that follow the `#`
abbrev pub first_word : List ℕ → List ℕ
first_word line = drop (gap_len (drop 1 line)) (drop 1 line)

-- the first word is `include`
abbrev pub is_include : List ℕ → Bool
is_include line = let word = first_word line in bytes_eq (take (run_of is_word word) word) (codes "include")

unfoldable pub form_of : List ℕ → Form
form_of line =
    if is_include line then include_of (drop 7 (first_word line))
    else content_form line (content_len (drop 1 line))
