-- References kept by array.
use Rattle.std.specs.Prelude.{◌≡◌, ℕ, ◌+◌, if◌then◌else◌, nat_eq, List, [], ◌∷◌, All}
use Rattle.std.specs.List.{Any}
use Rattle.species_references.specs.declared.nest.Reference.{Reference}
use Rattle.species_references.specs.declared.groups.ArrayPlaces.{ArrayPlaces}

-- the places of the references to an array in a list of which the first has place n
abbrev pub places_from : ℕ → ℕ → List Reference → List ℕ
places_from n array [] = []
places_from n array (r ∷ rs) = if nat_eq r.array array then n ∷ places_from (n + 1) array rs else places_from (n + 1) array rs

-- The places of the references to an array, counted from 0, in rising order.
abbrev pub places_of : ℕ → List Reference → List ℕ
places_of array rs = places_from 0 array rs

-- the group has the places of all references to its array
abbrev pub IsGroupOf : List Reference → ArrayPlaces → Type 0
IsGroupOf rs g = g.places.items ≡ places_of g.array rs

-- some group has this array
abbrev pub HasGroup : List ArrayPlaces → ℕ → Type 0
HasGroup groups array = Any (λ g. g.array ≡ array) groups

-- Each group is one of references, and the array of each reference has one.
abbrev pub AreGroups : List Reference → List ArrayPlaces → Type 0
AreGroups rs groups = All (IsGroupOf rs) groups × All (λ r. HasGroup groups r.array) rs
