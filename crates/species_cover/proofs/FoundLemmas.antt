-- The first derived arc that is not covered.
use Rattle.std.proofs.Common.{◌≡◌, ◌∙◌, sym, subst, ℕ, ◌<◌, ◌≤◌, List, length, slice_index_or, All, arith}
use Rattle.std.proofs.lemmas.List.{get_or_default}
use Rattle.species_arcs.specs.declared.places.Arc.{Arc}
use Rattle.species_notation.specs.declared.given.GivenArc.{GivenArc}
use Rattle.species_cover.specs.Cover.{IsCovered, IsFirstUncovered}

pub first_found : (given : List GivenArc) (derived : List Arc) (n : ℕ) (x : Arc) → n < length derived → x ≡ slice_index_or derived n x
    → (IsCovered given x → ⊥) → ((k : ℕ) (d : Arc) → k < n → IsCovered given (slice_index_or derived k d)) → IsFirstUncovered given derived n
first_found given derived n x lt is not before = record {
  within = lt;
  uncovered = λ d h. not (subst (IsCovered given) (sym (is ∙ get_or_default derived n x d lt)) h);
  before = before;
}

pub not_all : (given : List GivenArc) (derived : List Arc) (n : ℕ) (x : Arc) → n < length derived → x ≡ slice_index_or derived n x
    → (IsCovered given x → ⊥) → All (IsCovered given) derived → ⊥
not_all given derived n x lt is not all = not (subst (IsCovered given) (sym is) (all n x lt))

pub all_found : (given : List GivenArc) (derived : List Arc) (n : ℕ) → length derived ≤ n
    → ((k : ℕ) (d : Arc) → k < n → IsCovered given (slice_index_or derived k d)) → All (IsCovered given) derived
all_found given derived n le before i d l = before i d (omega (arith, le, l))
