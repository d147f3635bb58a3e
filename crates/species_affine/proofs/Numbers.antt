-- Forms of parts keep the limit, coefficient by coefficient.
use Rattle.std.proofs.Common.{◌≡◌, refl, ap, sym, ◌∙◌, arith, ℕ, zero, suc, ◌+◌, ◌<◌, ◌≤◌, ◌^◌, true, List, [], ◌∷◌, ◌++◌, length, take, map, ℤ, pos, ◌+ℤ◌, neg_ℤ, All, FitsSigned, to_z, of_z, max}
use Rattle.std.specs.Prelude.{slice_index_or, replicate}
use Rattle.std.specs.Int.{w64}
use Rattle.std.specs.List.{list_all}
use Rattle.std.proofs.lemmas.List.{take_more, take_all}
use Rattle.std.proofs.lemmas.Int.{ints, to_z-of_z, fits_signed_from_abs}
use Rattle.std.proofs.lemmas.Bool.{and_parts}
use Rattle.species_integers.proofs.Sizes.{abs_neg}
use Rattle.species_ast.specs.Scope.Forms.{is_within, one_at, iterator_form, added_coefficients}
use Rattle.species_affine.specs.Limited.{IsWithin, IsLimited}

-- a number within the limit passes through a word unchanged
pub passed : (n : ℤ) → IsWithin n → to_z w64 (of_z w64 n) ≡ n
passed n small =
    let fits : FitsSigned w64 n = fits_signed_from_abs w64 n (omega (arith, small)) in
    to_z-of_z w64 n fits

pub all_within : (ns : List ℤ) → list_all is_within ns ≡ true → All IsWithin ns
all_within [] h k d below = absurd (omega (arith, below))
all_within (n ∷ ns) h zero d below = let parts = and_parts (is_within n) (list_all is_within ns) h in grind (arith, parts.0)
all_within (n ∷ ns) h (suc k) d below =
    let parts = and_parts (is_within n) (list_all is_within ns) h in all_within ns parts.1 k d (omega (arith, below))

-- ---- the form of an iterator

pub zeros_then_one : (n : ℕ) → replicate n (pos 0) ++ pos 1 ∷ [] ≡ one_at n
zeros_then_one zero = refl
zeros_then_one (suc n) = ap (λ cs. pos 0 ∷ cs) (zeros_then_one n)

one_within : (n : ℕ) → All IsWithin (one_at n)
one_within zero zero d below = omega arith
one_within zero (suc k) d below = absurd (omega (arith, below))
one_within (suc n) zero d below = omega arith
one_within (suc n) (suc k) d below = one_within n k d (omega (arith, below))

one_length : (n : ℕ) → length (one_at n) ≡ n + 1
one_length zero = refl
one_length (suc n) = omega (arith, one_length n)

pub iterator_limited : (n : ℕ) → n < 2 ^ 32 → IsLimited (iterator_form n)
iterator_limited n h = (omega arith, one_within n, omega (arith, one_length n))

-- ---- added coefficients

pub added_length : (cs ds : List ℤ) → length (added_coefficients cs ds) ≡ max (length cs) (length ds)
added_length [] ds = omega arith
added_length (c ∷ cs) [] = omega arith
added_length (c ∷ cs) (d ∷ ds) = omega (arith, added_length cs ds)

pub added_at : (cs ds : List ℤ) (k : ℕ) → slice_index_or (added_coefficients cs ds) k (pos 0) ≡ slice_index_or cs k (pos 0) +ℤ slice_index_or ds k (pos 0)
added_at [] ds k = omega (arith, ints)
added_at (c ∷ cs) [] k = omega (arith, ints)
added_at (c ∷ cs) (d ∷ ds) zero = refl
added_at (c ∷ cs) (d ∷ ds) (suc k) = added_at cs ds k

pub added_next : (cs ds out : List ℤ) (i : ℕ) (x : ℤ) → i < max (length cs) (length ds) → out ≡ take i (added_coefficients cs ds) →
    x ≡ slice_index_or cs i (pos 0) +ℤ slice_index_or ds i (pos 0) → out ++ x ∷ [] ≡ take (i + 1) (added_coefficients cs ds)
added_next cs ds out i x below so next =
    let within : i < length (added_coefficients cs ds) = omega (arith, below, added_length cs ds) in
    rw (so, next, ← added_at cs ds i) (sym (take_more (added_coefficients cs ds) i (pos 0) within))

pub added_done : (cs ds out : List ℤ) (i : ℕ) → max (length cs) (length ds) ≤ i → out ≡ take i (added_coefficients cs ds) → out ≡ added_coefficients cs ds
added_done cs ds out i over so = so ∙ take_all i (added_coefficients cs ds) (omega (arith, over, added_length cs ds))

-- ---- negations

negated_within : (ns : List ℤ) → All IsWithin ns → All IsWithin (map neg_ℤ ns)
negated_within [] h k d below = absurd (omega (arith, below))
negated_within (n ∷ ns) h zero d below = omega (arith, abs_neg n, h 0 n (omega arith))
negated_within (n ∷ ns) h (suc k) d below = negated_within ns (λ j e l. h (suc j) e (omega (arith, l))) k d (omega (arith, below))

negated_length : (ns : List ℤ) → length (map neg_ℤ ns) ≡ length ns
negated_length [] = refl
negated_length (n ∷ ns) = ap suc (negated_length ns)

pub negated_done : (ns out : List ℤ) (i : ℕ) → length ns ≤ i → out ≡ map neg_ℤ (take i ns) → out ≡ map neg_ℤ ns
negated_done ns out i over so = so ∙ ap (λ ms. map neg_ℤ ms) (take_all i ns over)

pub negated_parts : (ns out : List ℤ) → out ≡ map neg_ℤ ns → All IsWithin ns → length ns ≤ 2 ^ 32 → All IsWithin out × (length out ≤ 2 ^ 32)
negated_parts ns out so small short = (rw so (negated_within ns small), omega (arith, ap length so, negated_length ns, short))
