-- Boxes: what the iterators of inner loops add to an index. In a reference the inner loops are those from a level on: all loops
-- around it but those around its nest and those of the nest's band.
use Rattle.std.specs.Prelude.{◌≡◌, ℕ, ◌*◌, ℤ, pos, ◌-ℤ◌, Bool, ◌&&◌, nat_eq, if◌then◌else◌, List, [], ◌∷◌, Option, Some, None, is_some, drop, All}
use Rattle.std.specs.Int.{◌∣◌}
use Rattle.std.specs.Int.RustNames.{unsigned_abs}
use Rattle.std.specs.Ordering.{int_eq}
use Rattle.species_arcs.specs.declared.spans.Span.{Span}
use Rattle.species_ast.specs.Scope.Forms.{Form}
use Rattle.species_ast.specs.Scope.Hulls.{Range, least_of, greatest_of}

-- The constant of a form and its terms of the loops from this level on. The first of these loops has level 0 in it.
abbrev pub inner_part : ℕ → Form → Form
inner_part inner f = record { constant = f.constant; coefficients = drop inner f.coefficients }

-- ---- strides

-- the loop goes from a constant to a constant
abbrev pub has_constant_bounds : Range → Bool
has_constant_bounds r = is_some r.start && r.fixed

-- two values of the iterator are a multiple of this apart
abbrev pub unit_of : Range → ℕ
unit_of r = if has_constant_bounds r then unsigned_abs r.step else 1

-- two products of the coefficient with the iterator are a multiple of this apart; 0 where the iterator has one value
abbrev pub gap_of : ℤ → Range → ℕ
gap_of c r = if int_eq r.low r.high then 0 else unsigned_abs c * unit_of r

-- of each term
abbrev pub gaps_of : List ℤ → List Range → List ℕ
gaps_of [] path = []
gaps_of (c ∷ cs) [] = []
gaps_of (c ∷ cs) (r ∷ path) = gap_of c r ∷ gaps_of cs path

-- g is the greatest common divisor of these: it divides each, and whatever divides each divides g. That of zeros is 0.
abbrev pub IsGcdOf : List ℕ → ℕ → Type 0
IsGcdOf ns g = All (λ n. g ∣ n) ns × ((d : ℕ) → All (λ n. d ∣ n) ns → d ∣ g)

-- The stride of a sum of terms with these gaps: their greatest common divisor, and 1 where all are 0, so that the sum has one
-- value.
abbrev pub IsStrideOf : List ℕ → ℕ → Type 0
IsStrideOf gaps stride = (g : ℕ) × IsGcdOf gaps g × (stride ≡ (if nat_eq g 0 then 1 else g))

-- ---- boxes

-- The box of an affine subscript in loops with these ranges: from the least value of its inner part to the greatest, over all
-- iterators of the inner loops, in steps of its stride.
pub record IsBoxOf (inner : ℕ) (path : List Range) (f : Form) (x : Span) : Type 0 where
  pub low : x.low ≡ least_of (drop inner path) (inner_part inner f)
  pub high : x.high ≡ greatest_of (drop inner path) (inner_part inner f)
  pub stride : IsStrideOf (gaps_of (drop inner f.coefficients) (drop inner path)) x.stride

-- all indices of a dimension of this size
abbrev pub whole : ℕ → Span
whole size = record { low = pos 0; high = pos size -ℤ pos 1; stride = 1 }

-- the box of a subscript, of which the form is given if it is affine, in a dimension of this size
abbrev pub IsBoxIn : ℕ → List Range → ℕ → Option Form → Span → Type 0
IsBoxIn inner path size (Some f) x = IsBoxOf inner path f x
IsBoxIn inner path size None x = x ≡ whole size

-- The boxes of the subscripts of an element, in an array of these sizes. A dimension past the last counts as one of size 0.
abbrev pub AreBoxes : ℕ → List Range → List ℕ → List (Option Form) → List Span → Type 0
AreBoxes inner path sizes [] [] = Unit {0}
AreBoxes inner path sizes [] (x ∷ xs) = ⊥
AreBoxes inner path sizes (o ∷ os) [] = ⊥
AreBoxes inner path [] (o ∷ os) (x ∷ xs) = IsBoxIn inner path 0 o x × AreBoxes inner path [] os xs
AreBoxes inner path (n ∷ sizes) (o ∷ os) (x ∷ xs) = IsBoxIn inner path n o x × AreBoxes inner path sizes os xs
