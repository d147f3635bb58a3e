-- The boxes of references are small enough.
use Rattle.std.proofs.Common.{◌≡◌, refl, arith, ℕ, zero, suc, ◌<◌, List, [], ◌∷◌, length, slice_index_or, All}
use Rattle.species_arcs.specs.declared.spans.Span.{Span}
use Rattle.species_references.specs.declared.nest.Reference.{Reference}
use Rattle.species_merge.proofs.Folding.{Each, all_of, each_of}
use Rattle.species_merge.specs.Classes.{no_box, column}
use Rattle.species_merge.specs.Sizes.{IsSmallBox, HasSmallBoxes}
use Rattle.species_merge.specs.Stretches.{IsSmallWhole}

small_whole : (x : Span) → IsSmallBox x → IsSmallWhole x
small_whole x h = record { low = omega (arith, h.low); high = omega (arith, h.high); stride = h.stride }

box_small : (xs : List Span) (k : ℕ) → Each IsSmallBox xs → IsSmallWhole (slice_index_or xs k no_box)
box_small [] k h = record { low = omega arith; high = omega arith; stride = (omega arith, omega arith) }
box_small (x ∷ xs) zero h = small_whole x h.0
box_small (x ∷ xs) (suc k) h = box_small xs k h.1

column_small : (rs : List Reference) (k : ℕ) → Each HasSmallBoxes rs → Each IsSmallWhole (column rs k)
column_small [] k h = tt
column_small (r ∷ rs) k h = (box_small r.boxes k (each_of IsSmallBox r.boxes h.0), column_small rs k h.1)

pub small_column : (rs : List Reference) (k : ℕ) → All HasSmallBoxes rs → All IsSmallWhole (column rs k)
small_column rs k h = all_of IsSmallWhole (column rs k) (column_small rs k (each_of HasSmallBoxes rs h))

-- within a list the default is not looked at
pub any_default : {X : Type 0} (xs : List X) (i : ℕ) (d e : X) → i < length xs → slice_index_or xs i d ≡ slice_index_or xs i e
any_default [] i d e l = absurd (omega (arith, l))
any_default (x ∷ xs) zero d e l = refl
any_default (x ∷ xs) (suc i) d e l = any_default xs i d e (omega (arith, l))
