-- What a line of the table of arcs says.
use Rattle.std.specs.Prelude.{◌≡◌, ◌≢◌, ℕ, ◌≤◌, ◌^◌, Bool, true, false, bytes_eq, if◌then◌else◌, List, codes, map, All, Option, Some, None, option_map, option_and_then}
use Rattle.species_grammar.specs.Reader.{Reader, Word, word, both, mapped, skip, ends}
use Rattle.species_grammar.specs.Whole.{whole}
use Rattle.species_linear.specs.declared.forms.Form.{Form}
use Rattle.species_arcs.specs.declared.places.Dir.{Dir}
use Rattle.species_arcs.specs.declared.places.Dir.TheVariants as dir
use Rattle.species_arcs.specs.declared.places.ArcDim.{ArcDim}
use Rattle.species_arcs.specs.declared.places.Arc.{Arc}
use Rattle.species_arcs.specs.declared.shapes.Word.{Word as ArcWord}
use Rattle.species_notation.specs.declared.parts.Part.{Part}
use Rattle.species_notation.specs.declared.parts.Part.TheVariants as part
use Rattle.species_notation.specs.declared.raw.RawForm.{RawForm}
use Rattle.species_notation.specs.declared.raw.RawRange.{RawRange}
use Rattle.species_notation.specs.declared.raw.RawArc.{RawArc}
use Rattle.species_notation.specs.declared.given.GivenArc.{GivenArc}
use Rattle.species_notation.specs.declared.given.Names.{Names}
use Rattle.species_notation.specs.Parts.{parts_of}
use Rattle.species_notation.specs.Spelled.{RawOffset}
use Rattle.species_notation.specs.Readers.{sign, the_word, name, number, arc_words, marks, listed, offsets, forms, ranges, answered}
use Rattle.species_notation.specs.Meaning.{Sums, sums_of, given_form, is_known, each_some, given_arc}
use Rattle.species_notation.specs.Written.{dir_text, table_line_text}
use Rattle.species_notation.specs.Law.{AreNames, AreDifferent, IsReadableArc, arc_as_given}

-- ---- the parts

abbrev pub dir_in : List ℕ → Option Dir
dir_in w = if bytes_eq w (codes "read") then Some dir.Read else (if bytes_eq w (codes "write") then Some dir.Write else None)

abbrev pub says_dir : Part → Option Dir
says_dir (part.Name w) = dir_in w
says_dir (part.Number n) = None
says_dir (part.Sign b) = None
says_dir part.Arrow = None

abbrev pub dirs : Word Part Dir
dirs = record { says = says_dir; token = λ d. part.Name (dir_text d) }

-- numbers in brackets
unfoldable pub numbers : Reader Part (List ℕ)
numbers = skip (sign 40) (ends (listed 44 (word number)) (sign 41))

-- what stands behind the domain's sizes, as in the arc of a line
abbrev pub ArcTail : Type 0
ArcTail = ArcWord × (Option (List RawOffset) × (List RawForm × Bool))

abbrev pub from_bar : Reader Part ArcTail
from_bar = skip (sign 124) (both (word arc_words) (both offsets (skip (the_word (codes "at")) (both forms (word marks)))))

abbrev pub sized_tail : Reader Part (List ℕ × (List ℕ × ArcTail))
sized_tail = skip (the_word (codes "elements")) (both numbers (skip (the_word (codes "step")) (both numbers from_bar)))

pub record RawTableLine : Type 0 where
  pub number : ℕ
  pub dir : Dir
  pub elements : List ℕ
  pub steps : List ℕ
  pub arc : RawArc

abbrev pub raw_table_of : ℕ × (Dir × (List ℕ × (List RawRange × (List ℕ × (List ℕ × ArcTail))))) → RawTableLine
raw_table_of p = record {
  number = p.0;
  dir = p.1.0;
  elements = p.1.1.1.1.0;
  steps = p.1.1.1.1.1.0;
  arc = record {
    name = p.1.1.0;
    ranges = p.1.1.1.0;
    word = p.1.1.1.1.1.1.0;
    offsets = p.1.1.1.1.1.1.1.0;
    forms = p.1.1.1.1.1.1.1.1.0;
    exact = p.1.1.1.1.1.1.1.1.1;
  };
}

unfoldable pub table_reader : Reader Part RawTableLine
table_reader = mapped raw_table_of (both (word number) (both (word dirs) (both (word name) (both ranges sized_tail))))

-- ---- what they give

pub record TableLine : Type 0 where
  pub number : ℕ
  pub arc : GivenArc
  pub domain : List (Form × Form)
  pub elements : List ℕ
  pub steps : List ℕ

abbrev pub known_form : List (List ℕ) → Sums → Option Form
known_form iters s = if is_known iters s then Some (given_form iters s) else None

-- a form whose names are iterators'
abbrev pub form_said : List (List ℕ) → RawForm → Option Form
form_said iters f = option_and_then (known_form iters) (sums_of f)

-- the least and the greatest index of a dimension
abbrev pub ends_said : List (List ℕ) → RawRange → Option (Form × Form)
ends_said iters r = option_and_then (λ low. option_map (λ high. (low, high)) (form_said iters r.high)) (form_said iters r.low)

-- a write stands where the arcs on the right of a line do
abbrev pub is_right : Dir → Bool
is_right dir.Read = false
is_right dir.Write = true
is_right dir.Add = true

abbrev pub is_dir : Dir → Dir → Bool
is_dir dir.Read dir.Read = true
is_dir dir.Read dir.Write = false
is_dir dir.Read dir.Add = false
is_dir dir.Write dir.Read = false
is_dir dir.Write dir.Write = true
is_dir dir.Write dir.Add = false
is_dir dir.Add dir.Read = false
is_dir dir.Add dir.Write = false
is_dir dir.Add dir.Add = true

abbrev pub table_with : RawTableLine → List (Form × Form) → GivenArc → Option TableLine
table_with l domain a =
    if is_dir l.dir a.dir
    then Some (record { number = l.number; arc = a; domain = domain; elements = l.elements; steps = l.steps })
    else None

abbrev pub given_table : Names → RawTableLine → Option TableLine
given_table names l =
    option_and_then (λ domain. option_and_then (table_with l domain) (given_arc names (is_right l.dir) l.arc))
    (each_some (ends_said names.iters) l.arc.ranges)

abbrev pub raw_table : List Part → Option RawTableLine
raw_table ps = answered (whole table_reader ps)

-- What a text says, if it is that of a line of the table: the number of a reference, its arc, the forms of each
-- dimension's least and greatest index, how many places each has, and how far it moves from one iteration to the next.
unfoldable pub table_line_of : Names → List ℕ → Option TableLine
table_line_of names text = option_and_then (given_table names) (option_and_then raw_table (parts_of text))

-- ---- the text that is written

-- the counts of a dimension can be read
pub record HasReadableSizes (d : ArcDim) : Type 0 where
  pub elements : d.elements ≤ 2 ^ 70
  pub step : d.step ≤ 2 ^ 70

abbrev pub table_line_for : ℕ → Arc → TableLine
table_line_for n a = record {
  number = n;
  arc = arc_as_given a;
  domain = map (λ d. (d.low, d.high)) a.dims;
  elements = map (λ d. d.elements) a.dims;
  steps = map (λ d. d.step) a.dims;
}

-- The line that is written for the reference of a number and its arc says this number, this arc and this domain.
abbrev pub TableReadsBack : Type 0
TableReadsBack = (names : Names) (n : ℕ) (a : Arc) → AreNames names.arrays → AreNames names.iters → AreDifferent names.arrays → AreDifferent names.iters →
    IsReadableArc names a → a.dir ≢ dir.Add → n ≤ 2 ^ 70 → All HasReadableSizes a.dims →
    table_line_of names (table_line_text names n a) ≡ Some (table_line_for n a)
