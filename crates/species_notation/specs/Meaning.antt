-- What a line gives: sums of equal names, offsets, and arrays and iterators by their names.
use Rattle.std.specs.Prelude.{ℕ, suc, ℤ, pos, ◌+ℤ◌, ◌-ℤ◌, neg_ℤ, int_le, ◌%◌, Bool, true, false, not, ◌&&◌, nat_le, nat_eq, if◌then◌else◌, List, [], ◌∷◌, ◌++◌, length, map, filter, position, bytes_eq, Option, Some, None, option_map, option_and_then, unwrap_or, is_some}
use Rattle.std.specs.List.{list_any, list_all}
use Rattle.std.specs.Int.RustNames.{unsigned_abs}
use Rattle.species_linear.specs.declared.forms.Form.{Form}
use Rattle.species_linear.specs.declared.forms.Term.{Term}
use Rattle.species_arcs.specs.declared.places.Dir.{Dir}
use Rattle.species_arcs.specs.declared.places.Dir.TheVariants as dir
use Rattle.species_arcs.specs.declared.spans.Span.{Span}
use Rattle.species_arcs.specs.declared.shapes.Word.{Word}
use Rattle.species_arcs.specs.declared.shapes.Word.TheVariants as word
use Rattle.species_notation.specs.declared.raw.RawForm.{RawForm}
use Rattle.species_notation.specs.declared.raw.Summand.{Summand}
use Rattle.species_notation.specs.declared.raw.RawInt.{RawInt}
use Rattle.species_notation.specs.declared.raw.RawRange.{RawRange}
use Rattle.species_notation.specs.declared.raw.RawArc.{RawArc}
use Rattle.species_notation.specs.declared.raw.RawLine.{RawLine}
use Rattle.species_notation.specs.declared.raw.RawLine.TheVariants as line
use Rattle.species_notation.specs.declared.given.GivenDim.{GivenDim}
use Rattle.species_notation.specs.declared.given.GivenArc.{GivenArc}
use Rattle.species_notation.specs.declared.given.SpeciesLine.{SpeciesLine}
use Rattle.species_notation.specs.declared.given.Names.{Names}
use Rattle.species_notation.specs.Parts.{most, parts_of}
use Rattle.species_notation.specs.Spelled.{RawOffset}
use Rattle.species_notation.specs.Readers.{raw_line}

-- ---- sums

-- the number is at most 2^70 in size
abbrev pub fits : ℤ → Bool
fits z = nat_le (unsigned_abs z) most

abbrev pub signed : Bool → ℕ → ℤ
signed true n = neg_ℤ (pos n)
signed false n = pos n

-- a name and the sum of its coefficients
abbrev pub Entry : Type 0
Entry = List ℕ × ℤ

-- the sum of the plain numbers, and those of the names, each name once
pub record Sums : Type 0 where
  pub constant : ℤ
  pub names : List Entry

-- with c more for the name
abbrev pub raised : List ℕ → ℤ → List Entry → List Entry
raised w c [] = (w, c) ∷ []
raised w c (e ∷ es) = if bytes_eq e.0 w then (e.0, e.1 +ℤ c) ∷ es else e ∷ raised w c es

abbrev pub with_product : ℤ → Option (List ℕ) → Sums → Sums
with_product c None s = record { constant = s.constant +ℤ c; names = s.names }
with_product c (Some w) s = record { constant = s.constant; names = raised w c s.names }

abbrev pub with_summand : Summand → Sums → Sums
with_summand x s = with_product (signed x.negative x.number) x.name s

-- the sums, where each fits
abbrev pub limited : Sums → Option Sums
limited s = if fits s.constant && list_all (λ e. fits e.1) s.names then Some s else None

-- with these from left to right, where each sum on the way fits
abbrev pub add_all : List Summand → Sums → Option Sums
add_all [] s = Some s
add_all (x ∷ xs) s = option_and_then (add_all xs) (limited (with_summand x s))

abbrev pub no_sums : Sums
no_sums = record { constant = pos 0; names = [] }

abbrev pub sums_of : RawForm → Option Sums
sums_of f = add_all (f.first ∷ f.more) no_sums

-- ---- forms of iterators

abbrev pub coefficient_in : List ℕ → List Entry → ℤ
coefficient_in w [] = pos 0
coefficient_in w (e ∷ es) = if bytes_eq e.0 w then e.1 else coefficient_in w es

abbrev pub without : List ℕ → List Entry → List Entry
without w es = filter (λ e. not (bytes_eq e.0 w)) es

abbrev pub put_term : ℕ → ℤ → List Term → List Term
put_term k c ts = if nat_eq (unsigned_abs c) 0 then ts else record { level = k; coefficient = c } ∷ ts

-- of equal names the first is meant
abbrev pub terms_from : ℕ → List (List ℕ) → List Entry → List Term
terms_from k [] es = []
terms_from k (w ∷ ws) es = put_term k (coefficient_in w es) (terms_from (suc k) ws (without w es))

abbrev pub given_form : List (List ℕ) → Sums → Form
given_form iters s = record { constant = s.constant; terms = terms_from 0 iters s.names }

-- each name is an iterator's
abbrev pub is_known : List (List ℕ) → Sums → Bool
is_known iters s = list_all (λ e. list_any (bytes_eq e.0) iters) s.names

-- ---- offsets

abbrev pub number_of : RawInt → ℤ
number_of i = signed i.negative i.size

-- from 1, and it divides the distance
abbrev pub is_stride : ℕ → ℕ → Bool
is_stride t distance = nat_le 1 t && nat_eq (distance % t) 0

-- the first is not past the last
abbrev pub offset_in : ℤ → ℤ → ℕ → Option Span
offset_in a b t =
    if int_le a b && is_stride t (unsigned_abs (b -ℤ a)) then Some (record { low = a; high = b; stride = t }) else None

-- without a stride it is 1
abbrev pub offset_of : RawOffset → Option Span
offset_of None = Some (record { low = pos 0; high = pos 0; stride = 1 })
offset_of (Some s) = offset_in (number_of s.low) (number_of s.high) (unwrap_or s.stride 1)

-- ---- arcs

-- an answer for each of them, or none at all
abbrev pub each_some : {A B : Type 0} → (A → Option B) → List A → Option (List B)
each_some f [] = Some []
each_some f (x ∷ xs) = option_and_then (λ y. option_map (λ ys. y ∷ ys) (each_some f xs)) (f x)

-- the sums of both ends fit
abbrev pub is_range : RawRange → Bool
is_range r = is_some (sums_of r.low) && is_some (sums_of r.high)

-- offsets go with each word but `element`
abbrev pub offsets_of : Word → Option (List RawOffset) → List RawForm → Option (List RawOffset)
offsets_of word.Element None fs = Some (map (λ f. None) fs)
offsets_of word.Element (Some l) fs = None
offsets_of word.Neighbourhood None fs = None
offsets_of word.Neighbourhood (Some l) fs = Some l
offsets_of word.Chunk None fs = None
offsets_of word.Chunk (Some l) fs = Some l
offsets_of word.Full None fs = None
offsets_of word.Full (Some l) fs = Some l
offsets_of word.Shared None fs = None
offsets_of word.Shared (Some l) fs = Some l

abbrev pub dim_of : List (List ℕ) → Sums → Span → GivenDim
dim_of iters s o = record { at = given_form iters s; a = o.low; b = o.high; stride = o.stride }

-- as many forms as offsets
abbrev pub dims_of : List (List ℕ) → List Sums → List Span → Option (List GivenDim)
dims_of iters [] [] = Some []
dims_of iters [] (o ∷ os) = None
dims_of iters (s ∷ ss) [] = None
dims_of iters (s ∷ ss) (o ∷ os) = option_map (λ ds. dim_of iters s o ∷ ds) (dims_of iters ss os)

-- the direction on the left, and on the right (true)
abbrev pub dir_of : Bool → Word → Dir
dir_of false w = dir.Read
dir_of true word.Element = dir.Write
dir_of true word.Neighbourhood = dir.Write
dir_of true word.Chunk = dir.Write
dir_of true word.Full = dir.Write
dir_of true word.Shared = dir.Add

abbrev pub arc_with : Names → Bool → RawArc → List Sums → List GivenDim → GivenArc
arc_with names right a ss dims = record {
  array = position (bytes_eq a.name) names.arrays;
  dir = dir_of right a.word;
  dims = dims;
  exact = a.exact;
  known = list_all (is_known names.iters) ss;
}

-- as many ranges as forms
abbrev pub arc_from : Names → Bool → RawArc → List Sums → List Span → Option GivenArc
arc_from names right a ss os =
    if list_all is_range a.ranges && nat_eq (length a.ranges) (length ss)
    then option_map (arc_with names right a ss) (dims_of names.iters ss os)
    else None

abbrev pub given_arc : Names → Bool → RawArc → Option GivenArc
given_arc names right a =
    option_and_then (λ ss.
    option_and_then (λ os. arc_from names right a ss os)
    (option_and_then (each_some offset_of) (offsets_of a.word a.offsets a.forms)))
    (each_some sums_of a.forms)

-- ---- lines

abbrev pub joined_sides : Option (List GivenArc) → Option (List GivenArc) → Option SpeciesLine
joined_sides None r = None
joined_sides (Some l) None = None
joined_sides (Some l) (Some r) = Some (record { arcs = l ++ r })

abbrev pub given_line : Names → RawLine → Option SpeciesLine
given_line names (line.Carried w m n) = Some (record { arcs = [] })
given_line names (line.Local w) = Some (record { arcs = [] })
given_line names (line.Sides l r) = joined_sides (each_some (given_arc names false) l) (each_some (given_arc names true) r)

-- What a text says, if it is that of a line.
unfoldable pub line_of : Names → List ℕ → Option SpeciesLine
line_of names text = option_and_then (given_line names) (option_and_then raw_line (parts_of text))
