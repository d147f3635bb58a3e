-- The findings of arrays, array by array or refusal by refusal.
use Rattle.std.proofs.Common.{◌≡◌, ◌∙◌, refl, sym, ap, arith, add-one, ℕ, zero, suc, ◌+◌, ◌<◌, ◌≤◌, List, [], ◌∷◌, ◌++◌, map, drop, length, Option, Bool}
use Rattle.std.specs.Prelude.{not, slice_index_or}
use Rattle.std.specs.List.{flat_map}
use Rattle.species_ast.specs.declared.tree.Array.{Array}
use Rattle.species_ast.specs.Scope.Refusals.{Limit, Refusal, Finding, refused_at}
use Rattle.species_ast.specs.Scope.Limits.{has_too_many_dimensions, has_lawful_sizes}
use Rattle.species_ast.specs.Scope.Programs.{Program, ArraySite}
use Rattle.species_ast.specs.Scope.Conditions.{too_many_elements, refused_arrays}
use Rattle.species_names.specs.Kept.{kept, refused_if}
use Rattle.species_names.proofs.KeptLaws.{kept-append}
use Rattle.species_names.proofs.JoinLaws.{refused_where, apart}
use Rattle.species_limits.specs.Found.{array_found, arrays_found}

-- ---- one after another

pub found_next : (arrays : List Array) (places : List ℕ) (i : ℕ) (a : Array) (p : ℕ) → i < length arrays → i < length places →
    arrays_found (drop i arrays) (drop i places) ≡ array_found (slice_index_or arrays i a) (slice_index_or places i p) ++ arrays_found (drop (suc i) arrays) (drop (suc i) places)
found_next [] places i a p h k = absurd (omega (arith, h))
found_next (x ∷ xs) [] i a p h k = absurd (omega (arith, k))
found_next (x ∷ xs) (q ∷ qs) zero a p h k = refl
found_next (x ∷ xs) (q ∷ qs) (suc i) a p h k = found_next xs qs i a p (omega (arith, h)) (omega (arith, k))

pub no_places : (arrays : List Array) (places : List ℕ) (i : ℕ) → length places ≤ i → arrays_found (drop i arrays) (drop i places) ≡ []
no_places [] [] zero h = refl
no_places [] (q ∷ qs) zero h = refl
no_places (x ∷ xs) [] zero h = refl
no_places (x ∷ xs) (q ∷ qs) zero h = absurd (omega (arith, h))
no_places [] [] (suc i) h = refl
no_places [] (q ∷ qs) (suc i) h = refl
no_places (x ∷ xs) [] (suc i) h = nothing (drop i xs)
  where
    nothing : (xs : List Array) → arrays_found xs [] ≡ []
    nothing [] = refl
    nothing (a ∷ more) = refl
no_places (x ∷ xs) (q ∷ qs) (suc i) h = no_places xs qs i (omega (arith, h))

pub no_arrays : (arrays : List Array) (places : List ℕ) (i : ℕ) → length arrays ≤ i → arrays_found (drop i arrays) places ≡ []
no_arrays [] places zero h = refl
no_arrays (x ∷ xs) places zero h = absurd (omega (arith, h))
no_arrays [] places (suc i) h = refl
no_arrays (x ∷ xs) places (suc i) h = no_arrays xs places i (omega (arith, h))

-- ---- refusal by refusal

site_by_site : (sites : List ArraySite) → arrays_found (map (λ a. a.array) sites) (map (λ a. a.name.place) sites) ≡ flat_map (λ a. array_found a.array a.name.place) sites
site_by_site [] = refl
site_by_site (a ∷ sites) = ap (λ fs. array_found a.array a.name.place ++ fs) (site_by_site sites)

pub arrays_apart : (m : Option Finding) (p : Program) → kept m (arrays_found (map (λ a. a.array) p.arrays) (map (λ a. a.name.place) p.arrays)) ≡ kept m (refused_arrays p)
arrays_apart m p =
    let unlawful : ArraySite → Bool = λ a. not (has_lawful_sizes a.array) in
    let place : ArraySite → ℕ = λ a. a.name.place in
    let at_elements : ArraySite → List Finding = λ a. refused_if (unlawful a) (Refusal.LimitPassed Limit.Elements) (place a) in
    let elements = refused_at (Refusal.LimitPassed Limit.Elements) (too_many_elements p) in
    let last : (o : Option Finding) → kept o (flat_map at_elements p.arrays) ≡ kept o elements =
    λ o. ap (kept o) (refused_where (Refusal.LimitPassed Limit.Elements) unlawful place p.arrays) in
    ap (kept m) (site_by_site p.arrays)
    ∙ apart m (Refusal.LimitPassed Limit.Dims) (λ a. has_too_many_dimensions a.array) place at_elements elements p.arrays last

pub arrays_next : (arrays : List Array) (places : List ℕ) (i : ℕ) (x : Array) (p : ℕ) (old now new : Option Finding) → x ≡ slice_index_or arrays i x → i < length arrays → i < length places →
    kept now (arrays_found (drop i arrays) (drop i places)) ≡ old → new ≡ kept now (array_found x (slice_index_or places i p)) →
    kept new (arrays_found (drop (i + 1) arrays) (drop (i + 1) places)) ≡ old
arrays_next arrays places i x p old now new at h k inv e =
    let rest = arrays_found (drop (suc i) arrays) (drop (suc i) places) in
    ap (λ n. kept new (arrays_found (drop n arrays) (drop n places))) (add-one i)
    ∙ ap (λ m. kept m rest) (e ∙ ap (λ a. kept now (array_found a (slice_index_or places i p))) at)
    ∙ sym (kept-append now (array_found (slice_index_or arrays i x) (slice_index_or places i p)) rest)
    ∙ ap (kept now) (sym (found_next arrays places i x p h k))
    ∙ inv

pub places_done : (arrays : List Array) (places : List ℕ) (i : ℕ) (old now : Option Finding) → length places ≤ i →
    kept now (arrays_found (drop i arrays) (drop i places)) ≡ old → now ≡ old
places_done arrays places i old now h inv = ap (kept now) (sym (no_places arrays places i h)) ∙ inv

pub arrays_done : (arrays : List Array) (places : List ℕ) (i : ℕ) (old now : Option Finding) → length arrays ≤ i →
    kept now (arrays_found (drop i arrays) (drop i places)) ≡ old → now ≡ old
arrays_done arrays places i old now h inv = ap (kept now) (sym (no_arrays arrays (drop i places) i h)) ∙ inv
