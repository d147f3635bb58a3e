-- What is written for a nest is read as its arcs.
use Rattle.std.specs.Prelude.{◌≡◌, ◌≢◌, ℕ, ◌<◌, ◌≤◌, ◌^◌, ◌-ℤ◌, ◌≤ℤ◌, pos, true, List, [], ◌++◌, map, length, All, Some, None}
use Rattle.std.specs.Int.{◌∣◌}
use Rattle.std.specs.Int.RustNames.{unsigned_abs}
use Rattle.species_ast.specs.Names.{is_name}
use Rattle.species_linear.specs.declared.forms.Form.{Form}
use Rattle.species_linear.specs.Rising.{IsRising}
use Rattle.species_linear.specs.Value.{NamesOnly}
use Rattle.species_arcs.specs.declared.places.ArcDim.{ArcDim}
use Rattle.species_arcs.specs.declared.places.Arc.{Arc}
use Rattle.species_arcs.specs.declared.plans.Nest.{Nest}
use Rattle.species_arcs.specs.declared.plans.Reason.{Reason}
use Rattle.species_arcs.specs.declared.plans.Reason.TheVariants.{Carried, Outer}
use Rattle.species_notation.specs.declared.given.GivenDim.{GivenDim}
use Rattle.species_notation.specs.declared.given.GivenArc.{GivenArc}
use Rattle.species_notation.specs.declared.given.Names.{Names}
use Rattle.species_notation.specs.Meaning.{line_of}
use Rattle.species_notation.specs.Written.{name_at, reads_of, others_of, line_text}

-- ---- names

-- Each is a name of the language.
abbrev pub AreNames : List (List ℕ) → Type 0
AreNames ws = All (λ w. is_name w ≡ true) ws

-- No two of these are equal.
abbrev pub AreDifferent : List (List ℕ) → Type 0
AreDifferent ws = (i j : ℕ) → i < j → j < length ws → name_at ws i ≢ name_at ws j

-- ---- arcs that can be read back

-- The levels rise, are named, and no number is above 2^70 in size.
pub record IsReadable (iters : List (List ℕ)) (f : Form) : Type 0 where
  pub rising : IsRising f.terms
  pub named : NamesOnly f (length iters)
  pub coefficients : All (λ t. unsigned_abs t.coefficient ≤ 2 ^ 70) f.terms
  pub constant : unsigned_abs f.constant ≤ 2 ^ 70

-- The stride divides the way from the first offset to the last. Where there is one place, it is that of `at`.
pub record IsReadableDim (iters : List (List ℕ)) (d : ArcDim) : Type 0 where
  pub at : IsReadable iters d.at
  pub low : IsReadable iters d.low
  pub high : IsReadable iters d.high
  pub ordered : d.a ≤ℤ d.b
  pub a : unsigned_abs d.a ≤ 2 ^ 70
  pub b : unsigned_abs d.b ≤ 2 ^ 70
  pub stride : (0 < d.stride) × (d.stride ≤ 2 ^ 70) × (d.stride ∣ unsigned_abs (d.b -ℤ d.a))
  pub single : d.a ≡ d.b → (d.a ≡ pos 0) × (d.stride ≡ 1)

pub record IsReadableArc (names : Names) (a : Arc) : Type 0 where
  pub array : a.array < length names.arrays
  pub some : 0 < length a.dims
  pub dims : All (IsReadableDim names.iters) a.dims

-- What the reason speaks of has a name of the language.
abbrev pub IsReadableReason : Names → Reason → Type 0
IsReadableReason names (Carried array first second) =
    (is_name (name_at names.arrays array) ≡ true) × (first ≤ 2 ^ 70) × (second ≤ 2 ^ 70)
IsReadableReason names (Outer local) = is_name (name_at names.locals local) ≡ true

-- ---- what is read

abbrev pub dim_as_given : ArcDim → GivenDim
dim_as_given d = record { at = d.at; a = d.a; b = d.b; stride = d.stride }

-- an arc's array, direction, `at`, offsets, strides and mark
abbrev pub arc_as_given : Arc → GivenArc
arc_as_given a = record { array = Some a.array; dir = a.dir; dims = map dim_as_given a.dims; exact = a.exact; known = true }

-- The text of a parallel nest is read as its arcs: the reads before the others, and both in the order that they had. The text
-- of a sequential one is read as no arcs.
pub record ReadsBack : Type 0 where
  pub parallel : (names : Names) (nest : Nest) → AreNames names.arrays → AreNames names.iters → AreDifferent names.arrays → AreDifferent names.iters →
      All (IsReadableArc names) nest.arcs → nest.reason ≡ None →
      line_of names (line_text names nest) ≡ Some (record { arcs = map arc_as_given (reads_of nest.arcs) ++ map arc_as_given (others_of nest.arcs) })
  pub sequential : (names : Names) (nest : Nest) (r : Reason) → nest.reason ≡ Some r → IsReadableReason names r →
      line_of names (line_text names nest) ≡ Some (record { arcs = [] })
