-- Boxes of points, and the extremes of a form over a box.
use Rattle.std.specs.Prelude.{◌≡◌, ◌≢◌, ℕ, ◌<◌, ◌≤◌, ◌^◌, ℤ, pos, ◌≤ℤ◌, false, None, List, length, slice_index_or, All}
use Rattle.std.specs.Int.RustNames.{unsigned_abs}
use Rattle.species_linear.specs.declared.forms.Form.{Form}
use Rattle.species_linear.specs.declared.loops.LoopRange.{LoopRange}
use Rattle.species_linear.specs.Point.{Point}
use Rattle.species_linear.specs.Value.{form_at}

-- The range that holds 0 alone.
abbrev pub zero_range : LoopRange
zero_range = record { low = pos 0; high = pos 0; step = pos 0; start = None; fixed = false }

-- The range of a level; beyond the path it holds 0 alone.
abbrev pub range_at : List LoopRange → ℕ → LoopRange
range_at path k = slice_index_or path k zero_range

-- The number lies in the range.
abbrev pub IsInRange : LoopRange → ℤ → Type 0
IsInRange r x = (r.low ≤ℤ x) × (x ≤ℤ r.high)

-- The point's value at each level of the path lies in the range of that level.
abbrev pub IsInBox : List LoopRange → Point → Type 0
IsInBox path p = (k : ℕ) → k < length path → IsInRange (range_at path k) (p k)

-- No range is empty.
abbrev pub IsFull : List LoopRange → Type 0
IsFull path = All (λ r. r.low ≤ℤ r.high) path

-- No loop has the step 0.
abbrev pub HasSteps : List LoopRange → Type 0
HasSteps path = All (λ r. r.step ≢ pos 0) path

-- Both ends of the range are at most 2^40 in size.
abbrev pub HasSmallEnds : LoopRange → Type 0
HasSmallEnds r = (unsigned_abs r.low ≤ 2 ^ 40) × (unsigned_abs r.high ≤ 2 ^ 40)

-- The ends of each range are.
abbrev pub HasSmallPath : List LoopRange → Type 0
HasSmallPath path = All HasSmallEnds path

-- Of what P allows, nothing has a smaller value than z, and something has this value.
abbrev pub IsLeastOver : {X : Type 0} → (X → Type 0) → (X → ℤ) → ℤ → Type 0
IsLeastOver {X} P value z = ((x : X) → P x → z ≤ℤ value x) × ((x : X) × P x × (value x ≡ z))

-- Of what P allows, nothing has a greater value than z, and something has this value.
abbrev pub IsGreatestOver : {X : Type 0} → (X → Type 0) → (X → ℤ) → ℤ → Type 0
IsGreatestOver {X} P value z = ((x : X) → P x → value x ≤ℤ z) × ((x : X) × P x × (value x ≡ z))

-- z is the least value of the form over all points of the box.
abbrev pub IsLeast : Form → List LoopRange → ℤ → Type 0
IsLeast f path z = IsLeastOver (IsInBox path) (form_at f) z

-- z is the greatest value of the form over all points of the box.
abbrev pub IsGreatest : Form → List LoopRange → ℤ → Type 0
IsGreatest f path z = IsGreatestOver (IsInBox path) (form_at f) z
