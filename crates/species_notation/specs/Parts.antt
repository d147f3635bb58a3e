-- The parts of a species text: names, numbers and signs, with blanks and comments between.
use Rattle.std.specs.Prelude.{ℕ, zero, suc, ◌^◌, Bool, ◌&&◌, nat_le, nat_lt, nat_eq, if◌then◌else◌, List, [], ◌∷◌, length, take, drop, codes, decimal, bytes_eq, Option, Some, None, option_map, option_and_then}
use Rattle.std.specs.List.{flat_map, list_any}
use Rattle.std.specs.Str.Parse.{digits_value}
use Rattle.species_ast.specs.Names.{is_letter, is_digit, is_word, is_keyword}
use Rattle.species_ast.specs.Text.Characters.{is_blank, begins, run_of, line_len}
use Rattle.species_ast.specs.Text.Comments.{closed_len}
use Rattle.species_notation.specs.declared.parts.Part.{Part}
use Rattle.species_notation.specs.declared.parts.Part.TheVariants as part

-- the greatest number, and the greatest size of a sum
abbrev pub most : ℕ
most = 2 ^ 70

-- ---- from bytes to parts

-- the blank or comment at the front, or 0
abbrev pub gap_front : ℕ → List ℕ → ℕ
gap_front b bytes =
    if is_blank b then 1
    else if begins (codes "//") (b ∷ bytes) then suc (line_len bytes)
    else closed_len (b ∷ bytes)

-- `(`, `)`, `*`, `+`, `,`, `-`; `:`; `[`, `]`, `^`; `|`
abbrev pub is_sign : ℕ → Bool
is_sign b = list_any (nat_eq b) (codes "()*+,-:[]^|")

-- what begins with a byte
pub data Start : Type 0 where
  Gap Letter Digit Arrow Sign Wrong : Start

abbrev pub start_of : ℕ → List ℕ → Start
start_of b bytes =
    if nat_lt 0 (gap_front b bytes) then Gap
    else if is_letter b then Letter
    else if is_digit b then Digit
    else if begins (codes "->") (b ∷ bytes) then Arrow
    else if is_sign b then Sign
    else Wrong

-- how many bytes are taken, and the part that they are, if they are one
abbrev pub Taken : Type 0
Taken = ℕ × Option Part

-- a keyword is no name
abbrev pub word_of_run : List ℕ → Option Taken
word_of_run run = if is_keyword run then None else Some (length run, Some (part.Name run))

-- digits, of which the first is 0 only where it stands alone
abbrev pub number_of_run : List ℕ → Option Taken
number_of_run run =
    let n = digits_value 10 run in
    if nat_le n most && bytes_eq (decimal n) run then Some (length run, Some (part.Number n)) else None

-- a byte, and the letters and digits behind it
abbrev pub run_front : ℕ → List ℕ → List ℕ
run_front b bytes = take (suc (run_of is_word bytes)) (b ∷ bytes)

abbrev pub taken_in : Start → ℕ → List ℕ → Option Taken
taken_in Gap b bytes = Some (gap_front b bytes, None)
taken_in Letter b bytes = word_of_run (run_front b bytes)
taken_in Digit b bytes = number_of_run (run_front b bytes)
taken_in Arrow b bytes = Some (2, Some part.Arrow)
taken_in Sign b bytes = Some (1, Some (part.Sign b))
taken_in Wrong b bytes = None

-- what stands at the front of a text
unfoldable pub taken_at : ℕ → List ℕ → Option Taken
taken_at b bytes = taken_in (start_of b bytes) b bytes

-- the same of a whole text
abbrev pub gap_at : List ℕ → ℕ
gap_at [] = 0
gap_at (b ∷ bytes) = gap_front b bytes

abbrev pub taken_from : List ℕ → Option Taken
taken_from [] = None
taken_from (b ∷ bytes) = taken_at b bytes

abbrev pub with_part : Option Part → List Part → List Part
with_part None ps = ps
with_part (Some p) ps = p ∷ ps

abbrev pub and_parts : (List ℕ → Option (List Part)) → List ℕ → Taken → Option (List Part)
and_parts more bytes t = option_map (with_part t.1) (more (drop t.0 bytes))

-- The number bounds how many, and is never too small where it is the length of the bytes.
abbrev pub parts_at : ℕ → List ℕ → Option (List Part)
parts_at m [] = Some []
parts_at zero (b ∷ bytes) = None
parts_at (suc m) (b ∷ bytes) = option_and_then (and_parts (parts_at m) (b ∷ bytes)) (taken_at b bytes)

-- the parts of a text, if it is made of parts, blanks and comments
unfoldable pub parts_of : List ℕ → Option (List Part)
parts_of text = parts_at (length text) text

-- ---- from parts to bytes

abbrev pub part_text : Part → List ℕ
part_text (part.Name w) = w
part_text (part.Number n) = decimal n
part_text (part.Sign b) = b ∷ []
part_text part.Arrow = codes "->"

-- the text of parts with nothing between them
abbrev pub parts_text : List Part → List ℕ
parts_text ps = flat_map part_text ps

-- a part, or one space
pub data Piece : Type 0 where
  Solid : Part → Piece
  Space : Piece

abbrev pub piece_text : Piece → List ℕ
piece_text (Solid p) = part_text p
piece_text Space = codes " "

abbrev pub text_of : List Piece → List ℕ
text_of ps = flat_map piece_text ps

-- the parts among them
abbrev pub solid : Piece → List Part
solid (Solid p) = p ∷ []
solid Space = []

abbrev pub solids : List Piece → List Part
solids ps = flat_map solid ps
