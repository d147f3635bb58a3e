-- Classes of references: those with equal array, direction and coefficients of the iterators that stand still in an iteration.
use Rattle.std.specs.Prelude.{ℕ, Bool, true, false, ◌&&◌, not, nat_eq, nat_lt, if◌then◌else◌, List, [], ◌∷◌, ◌++◌, filter, map, slice_index_or, pos}
use Rattle.std.specs.List.{list_any}
use Rattle.std.specs.Ordering.{int_eq}
use Rattle.species_affine.specs.declared.subscript.Subscript.{Subscript}
use Rattle.species_affine.specs.declared.subscript.Subscript.TheVariants.{Affine, Other}
use Rattle.species_arcs.specs.declared.places.Dir.{Dir}
use Rattle.species_arcs.specs.declared.places.Dir.TheVariants as dir
use Rattle.species_arcs.specs.declared.spans.Span.{Span}
use Rattle.species_linear.specs.declared.forms.Term.{Term}
use Rattle.species_references.specs.declared.nest.Reference.{Reference}

-- ---- terms by level

-- the terms of a subscript that is affine
abbrev pub terms_of : Subscript → List Term
terms_of (Affine f) = f.terms
terms_of Other = []

-- those of the levels below n
abbrev pub terms_below : ℕ → List Term → List Term
terms_below n ts = filter (λ t. nat_lt t.level n) ts

-- those of the others
abbrev pub terms_from : ℕ → List Term → List Term
terms_from n ts = filter (λ t. not (nat_lt t.level n)) ts

abbrev pub same_terms : List Term → List Term → Bool
same_terms [] [] = true
same_terms [] (u ∷ us) = false
same_terms (t ∷ ts) [] = false
same_terms (t ∷ ts) (u ∷ us) = nat_eq t.level u.level && (int_eq t.coefficient u.coefficient && same_terms ts us)

-- ---- which references are alike

-- The iterators below level `top` are the outer ones: the band's, and those of loops in which the nest stands. The subscripts
-- have equal coefficients of these.
abbrev pub same_front : ℕ → Subscript → Subscript → Bool
same_front top s q = same_terms (terms_below top (terms_of s)) (terms_below top (terms_of q))

-- so have those of each dimension
abbrev pub same_fronts : ℕ → List Subscript → List Subscript → Bool
same_fronts top [] [] = true
same_fronts top [] (q ∷ qs) = false
same_fronts top (s ∷ ss) [] = false
same_fronts top (s ∷ ss) (q ∷ qs) = same_front top s q && same_fronts top ss qs

abbrev pub same_direction : Dir → Dir → Bool
same_direction dir.Read dir.Read = true
same_direction dir.Read dir.Write = false
same_direction dir.Read dir.Add = false
same_direction dir.Write dir.Read = false
same_direction dir.Write dir.Write = true
same_direction dir.Write dir.Add = false
same_direction dir.Add dir.Read = false
same_direction dir.Add dir.Write = false
same_direction dir.Add dir.Add = true

abbrev pub are_alike : ℕ → Reference → Reference → Bool
are_alike top r q = nat_eq r.array q.array && (same_direction r.dir q.dir && same_fronts top r.subs q.subs)

-- ---- classes

-- A class: its first reference, and the others in their order.
pub record Class : Type 0 where
  pub first : Reference
  pub others : List Reference

abbrev pub members : Class → List Reference
members c = c.first ∷ c.others

-- the class of a reference, where these stand behind it
abbrev pub class_of : ℕ → Reference → List Reference → Class
class_of top r behind = record { first = r; others = filter (are_alike top r) behind }

-- the classes of references that stand behind these, without those of which a member stands before
abbrev pub classes_behind : ℕ → List Reference → List Reference → List Class
classes_behind top before [] = []
classes_behind top before (r ∷ rs) =
    if list_any (are_alike top r) before then classes_behind top (before ++ r ∷ []) rs
    else class_of top r rs ∷ classes_behind top (before ++ r ∷ []) rs

-- The classes of references, in the order of their first ones.
abbrev pub classes_of : ℕ → List Reference → List Class
classes_of top rs = classes_behind top [] rs

-- ---- boxes by dimension

-- Of a dimension that has no box. Each reference has a box in each of its dimensions.
abbrev pub no_box : Span
no_box = record { low = pos 0; high = pos 0; stride = 1 }

abbrev pub box_at : List Span → ℕ → Span
box_at xs k = slice_index_or xs k no_box

abbrev pub box_in : ℕ → Reference → Span
box_in k r = box_at r.boxes k

-- the boxes of references in a dimension
abbrev pub column : List Reference → ℕ → List Span
column rs k = map (box_in k) rs
