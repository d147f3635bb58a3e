-- What a line says, and the parts that say it.
use Rattle.std.specs.Prelude.{ℕ, zero, suc, Bool, true, false, List, [], ◌∷◌, ◌++◌, codes, Option, Some, None, if◌then◌else◌, nat_eq}
use Rattle.std.specs.List.{flat_map}
use Rattle.species_arcs.specs.declared.shapes.Word.{Word}
use Rattle.species_arcs.specs.declared.shapes.Word.TheVariants as word
use Rattle.species_notation.specs.declared.parts.Part.{Part}
use Rattle.species_notation.specs.declared.parts.Part.TheVariants as part
use Rattle.species_notation.specs.declared.raw.RawForm.{RawForm}
use Rattle.species_notation.specs.declared.raw.Summand.{Summand}
use Rattle.species_notation.specs.declared.raw.RawInt.{RawInt}
use Rattle.species_notation.specs.declared.raw.RawSpan.{RawSpan}
use Rattle.species_notation.specs.declared.raw.RawRange.{RawRange}
use Rattle.species_notation.specs.declared.raw.RawArc.{RawArc}
use Rattle.species_notation.specs.declared.raw.RawLine.{RawLine}
use Rattle.species_notation.specs.declared.raw.RawLine.TheVariants as line

-- `None` is a `-`
abbrev pub RawOffset : Type 0
RawOffset = Option RawSpan

-- ---- lists

-- each behind a sign
abbrev pub behind : {A : Type 0} → ℕ → (A → List Part) → A → List Part
behind b parts x = part.Sign b ∷ parts x

-- the sign before each but the first
abbrev pub separator : ℕ → ℕ → List Part
separator b zero = []
separator b (suc n) = part.Sign b ∷ []

abbrev pub listed_parts : {A : Type 0} → ℕ → (A → List Part) → List A → List Part
listed_parts b parts [] = []
listed_parts b parts (x ∷ xs) = parts x ++ flat_map (behind b parts) xs

-- ---- forms

abbrev pub minus : Bool → List Part
minus true = part.Sign 45 ∷ []
minus false = []

abbrev pub plus_minus : Bool → Part
plus_minus true = part.Sign 45
plus_minus false = part.Sign 43

-- a coefficient 1 is left out
abbrev pub product_parts : ℕ → Option (List ℕ) → List Part
product_parts n None = part.Number n ∷ []
product_parts n (Some w) = if nat_eq n 1 then part.Name w ∷ [] else part.Number n ∷ part.Sign 42 ∷ part.Name w ∷ []

-- the sign before the first summand, and before another
abbrev pub lead_parts : Bool → Bool → List Part
lead_parts true negative = minus negative
lead_parts false negative = plus_minus negative ∷ []

abbrev pub first_parts : Summand → List Part
first_parts s = minus s.negative ++ product_parts s.number s.name

abbrev pub next_parts : Summand → List Part
next_parts s = plus_minus s.negative ∷ product_parts s.number s.name

abbrev pub summand_parts : Bool → Summand → List Part
summand_parts true s = first_parts s
summand_parts false s = next_parts s

abbrev pub summands_parts : List Summand → List Part
summands_parts [] = []
summands_parts (s ∷ ss) = first_parts s ++ flat_map next_parts ss

abbrev pub form_parts : RawForm → List Part
form_parts f = summands_parts (f.first ∷ f.more)

abbrev pub range_parts : RawRange → List Part
range_parts r = form_parts r.low ++ part.Sign 58 ∷ form_parts r.high

-- ---- offsets

abbrev pub int_parts : RawInt → List Part
int_parts i = minus i.negative ++ part.Number i.size ∷ []

abbrev pub stride_parts : Option ℕ → List Part
stride_parts None = []
stride_parts (Some n) = part.Sign 58 ∷ part.Number n ∷ []

abbrev pub offset_parts : RawOffset → List Part
offset_parts None = part.Sign 45 ∷ []
offset_parts (Some s) = int_parts s.low ++ part.Sign 58 ∷ (int_parts s.high ++ stride_parts s.stride)

abbrev pub offsets_parts : Option (List RawOffset) → List Part
offsets_parts None = []
offsets_parts (Some l) = part.Sign 40 ∷ (listed_parts 44 offset_parts l ++ part.Sign 41 ∷ [])

-- ---- arcs and lines

abbrev pub word_text : Word → List ℕ
word_text word.Element = codes "element"
word_text word.Neighbourhood = codes "neighbourhood"
word_text word.Chunk = codes "chunk"
word_text word.Full = codes "full"
word_text word.Shared = codes "shared"

abbrev pub mark_text : Bool → List ℕ
mark_text true = codes "exact"
mark_text false = codes "within"

-- up to the offsets
abbrev pub arc_front : RawArc → List Part
arc_front a =
    part.Name a.name ∷ part.Sign 91 ∷
    (listed_parts 44 range_parts a.ranges ++ part.Sign 93 ∷ part.Sign 124 ∷ part.Name (word_text a.word) ∷ offsets_parts a.offsets)

-- the forms in their brackets
abbrev pub arc_forms : RawArc → List Part
arc_forms a = part.Sign 40 ∷ (listed_parts 44 form_parts a.forms ++ part.Sign 41 ∷ [])

abbrev pub arc_parts : RawArc → List Part
arc_parts a = arc_front a ++ part.Name (codes "at") ∷ (arc_forms a ++ part.Name (mark_text a.exact) ∷ [])

abbrev pub side_parts : List RawArc → List Part
side_parts [] = part.Name (codes "none") ∷ []
side_parts (a ∷ more) = listed_parts 94 arc_parts (a ∷ more)

abbrev pub line_parts : RawLine → List Part
line_parts (line.Carried w m n) =
    part.Name (codes "sequential") ∷ part.Name (codes "carried") ∷ part.Name w ∷ part.Number m ∷ part.Number n ∷ []
line_parts (line.Local w) = part.Name (codes "sequential") ∷ part.Name (codes "local") ∷ part.Name w ∷ []
line_parts (line.Sides l r) = side_parts l ++ part.Arrow ∷ side_parts r
