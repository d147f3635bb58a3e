-- References that are alike: no test tells them apart.
use Rattle.std.specs.Prelude.{◌≡◌, ℕ, ◌<◌, ◌≤◌, List, slice_index_or}
use Rattle.species_references.specs.declared.nest.Reference.{Reference}

pub record IsAlike (p q : Reference) : Type 0 where
  pub array : p.array ≡ q.array
  pub dir : p.dir ≡ q.dir
  pub subs : p.subs ≡ q.subs
  pub path : p.path ≡ q.path

-- A reference that is alike stands earlier in the list, and its number lies from `least` to that of the one at this place.
-- What is carried with the one is carried with the other, so that the one at this place is no part of a first pair.
pub record HasTwin (refs : List Reference) (at least : ℕ) : Type 0 where
  pub place : ℕ
  pub earlier : place < at
  pub alike : (d : Reference) → IsAlike (slice_index_or refs place d) (slice_index_or refs at d)
  pub above : (d : Reference) → least ≤ (slice_index_or refs place d).number
  pub below : (d : Reference) → (slice_index_or refs place d).number ≤ (slice_index_or refs at d).number
