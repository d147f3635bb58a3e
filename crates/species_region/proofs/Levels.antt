-- What the conditions of the tests say of each level, those beyond the path included.
use Rattle.std.proofs.Common.{◌≡◌, ◌≢◌, ℕ, zero, suc, ◌≤◌, ◌<◌, ◌^◌, pos, arith, true, false, List, [], ◌∷◌, length, All, IsSome}
use Rattle.std.specs.Int.RustNames.{unsigned_abs}
use Rattle.species_linear.specs.declared.forms.Form.{Form}
use Rattle.species_linear.specs.declared.loops.LoopRange.{LoopRange}
use Rattle.species_linear.specs.Value.{coefficient_at, NamesOnly, HasSmallForm}
use Rattle.species_linear.specs.Box.{zero_range, range_at, HasSmallEnds}
use Rattle.species_linear.proofs.Coefficients.{coefficient_has}
use Rattle.species_region.specs.Asked.{IsSmallPath}

-- what holds of the range of 0 and of each range of the path holds at each level
pub range_has : (P : LoopRange → Type 0) (path : List LoopRange) (k : ℕ) → P zero_range → All P path → P (range_at path k)
range_has P [] k none each = none
range_has P (r ∷ rs) zero none each = each 0 r (omega arith)
range_has P (r ∷ rs) (suc k) none each = range_has P rs k none (λ i d h. each (suc i) d (omega arith))

not_both : false ≡ true → ⊥
not_both h = cc

-- a loop that is counted does not stand still
pub step_nonzero : (path : List LoopRange) (k : ℕ) → IsSmallPath path → IsSome (range_at path k).start → (range_at path k).step ≢ pos 0
step_nonzero path k small = range_has (λ r. IsSome r.start → r.step ≢ pos 0) path k (λ counted same. not_both counted) (λ i d h counted. small.steps i d h)

pub small_ends : (path : List LoopRange) (k : ℕ) → IsSmallPath path → HasSmallEnds (range_at path k)
small_ends path k small = range_has HasSmallEnds path k (omega arith, omega arith) small.small

pub small_coefficient : (f : Form) (k : ℕ) → HasSmallForm f → unsigned_abs (coefficient_at f.terms k) < 2 ^ 70
small_coefficient f k small = coefficient_has (λ z. unsigned_abs z < 2 ^ 70) f.terms k (omega arith) small.1

-- a form over a short path names no level from 16 on
pub names_16 : (f : Form) (path : List LoopRange) → NamesOnly f (length path) → length path ≤ 16 → NamesOnly f 16
names_16 f path named short i d h = omega (arith, named i d h)
