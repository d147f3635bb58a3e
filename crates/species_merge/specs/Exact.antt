-- When the references of a class fill their hulls.
use Rattle.std.specs.Prelude.{◌≡◌, ◌≢◌, ◌⊎◌, ℕ, ◌<◌, Bool, true, false, ◌&&◌, not, nat_eq, nat_le, List, [], ◌∷◌, length, drop, All}
use Rattle.std.specs.List.{list_any, list_all, Any}
use Rattle.species_affine.specs.declared.subscript.Subscript.{Subscript}
use Rattle.species_affine.specs.declared.subscript.Subscript.TheVariants.{Affine, Other}
use Rattle.species_arcs.specs.declared.spans.Span.{Span}
use Rattle.species_linear.specs.declared.forms.Term.{Term}
use Rattle.species_linear.specs.declared.loops.LoopRange.{LoopRange}
use Rattle.species_references.specs.Boxes.{has_constant_bounds}
use Rattle.species_references.specs.Ranges.{range_seen}
use Rattle.species_references.specs.declared.nest.Reference.{Reference}
use Rattle.species_merge.specs.Hulls.{Covers}
use Rattle.species_merge.specs.Classes.{terms_of, terms_from, Class, members, box_at, box_in, column}

-- ---- single references

abbrev pub is_affine : Subscript → Bool
is_affine (Affine f) = true
is_affine Other = false

-- the terms of the iterators of inner loops
abbrev pub inner_terms : ℕ → Subscript → List Term
inner_terms top s = terms_from top (terms_of s)

abbrev pub is_at_level : ℕ → Term → Bool
is_at_level level t = nat_eq t.level level

abbrev pub names_level : List Term → ℕ → Bool
names_level ts level = list_any (is_at_level level) ts

-- no iterator has a term in both
abbrev pub are_apart : List Term → List Term → Bool
are_apart ts us = not (list_any (λ t. names_level us t.level) ts)

abbrev pub are_apart_inside : ℕ → Subscript → Subscript → Bool
are_apart_inside top s q = are_apart (inner_terms top s) (inner_terms top q)

-- no dimension has two inner iterators, and no two dimensions have the same
abbrev pub is_free : ℕ → List Subscript → Bool
is_free top [] = true
is_free top (s ∷ ss) = nat_le (length (inner_terms top s)) 1 && (list_all (are_apart_inside top s) ss && is_free top ss)

abbrev pub is_constant_loop : LoopRange → Bool
is_constant_loop r = has_constant_bounds (range_seen r)

-- In each turn of the inner loops, which have constant bounds, the reference is evaluated at an affine place, and each of its
-- inner iterators moves one index alone.
abbrev pub is_regular : ℕ → Reference → Bool
is_regular top r =
    not r.conditional && (list_all is_affine r.subs && (list_all is_constant_loop (drop top r.path) && is_free top r.subs))

-- ---- classes

-- the boxes of a class agree in each dimension but this one, and there they cover the hull
pub record FillsAlong (c : Class) (hulls : List Span) (k : ℕ) : Type 0 where
  pub within : k < length hulls
  pub others : (j : ℕ) → j < length hulls → j ≢ k → All (λ r. box_in j r ≡ box_in j c.first) (members c)
  pub covered : Covers (column (members c) k) (box_at hulls k)

-- One reference has all the hulls as its boxes, or the boxes differ along one dimension alone and cover the hull there.
abbrev pub Fills : Class → List Span → Type 0
Fills c hulls = Any (λ r. r.boxes ≡ hulls) (members c) ⊎ ((k : ℕ) × FillsAlong c hulls k)

abbrev pub IsExact : ℕ → Class → List Span → Type 0
IsExact top c hulls = All (λ r. is_regular top r ≡ true) (members c) × Fills c hulls
