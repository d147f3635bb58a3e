-- Boxes worked out.
use Rattle.std.proofs.Common.{refl, arith, ℕ, zero, suc, true, List, [], ◌∷◌, ℤ, pos, negsuc, Some, None, All}
use Rattle.std.specs.Int.{◌∣◌}
use Rattle.std.proofs.lemmas.Nat.Gcd.{dvd_refl, dvd-zero}
use Rattle.species_arcs.specs.declared.spans.Span.{Span}
use Rattle.species_ast.specs.Scope.Forms.{Form}
use Rattle.species_ast.specs.Scope.Hulls.{Range}
use Rattle.species_references.specs.Boxes.{IsGcdOf, IsBoxOf}

-- from a constant to a constant
abbrev constant_loop : ℤ → ℤ → ℤ → Range
constant_loop low high step = record { low = low; high = high; step = step; start = Some low; fixed = true }

-- from a start that moves to a constant
abbrev moving_loop : ℤ → ℤ → ℤ → Range
moving_loop low high step = record { low = low; high = high; step = step; start = None; fixed = true }

abbrev form : ℤ → List ℤ → Form
form constant coefficients = record { constant = constant; coefficients = coefficients }

abbrev span : ℤ → ℤ → ℕ → Span
span low high stride = record { low = low; high = high; stride = stride }

of_none : IsGcdOf [] 0
of_none = ((λ k d below. absurd (omega (arith, below))), (λ d h. dvd-zero d))

of_one : (g : ℕ) → IsGcdOf (g ∷ []) g
of_one g = (each, (λ d h. h 0 0 (omega arith)))
  where
    each : All (λ n. g ∣ n) (g ∷ [])
    each zero d below = dvd_refl g
    each (suc k) d below = absurd (omega (arith, below))

-- `M[i][j]` in loops i and j of which i is the band: the row is fixed, and j goes through it
matrix_row : IsBoxOf 1 (constant_loop (pos 0) (pos 63) (pos 1) ∷ constant_loop (pos 0) (pos 127) (pos 1) ∷ []) (form (pos 0) (pos 1 ∷ [])) (span (pos 0) (pos 0) 1)
matrix_row = record { low = refl; high = refl; stride = (0, of_none, refl) }

matrix_column : IsBoxOf 1 (constant_loop (pos 0) (pos 63) (pos 1) ∷ constant_loop (pos 0) (pos 127) (pos 1) ∷ []) (form (pos 0) (pos 0 ∷ pos 1 ∷ [])) (span (pos 0) (pos 127) 1)
matrix_column = record { low = refl; high = refl; stride = (1, of_one 1, refl) }

-- `A[i - 1]` in loops t and i, where t is around the nest and i its band
left_neighbour : IsBoxOf 2 (constant_loop (pos 0) (pos 9) (pos 1) ∷ constant_loop (pos 1) (pos 62) (pos 1) ∷ []) (form (negsuc 0) (pos 0 ∷ pos 1 ∷ [])) (span (negsuc 0) (negsuc 0) 1)
left_neighbour = record { low = refl; high = refl; stride = (0, of_none, refl) }

-- `A[j]` where j goes from the iterator of the band up to a constant
triangle : IsBoxOf 1 (constant_loop (pos 0) (pos 63) (pos 1) ∷ moving_loop (pos 0) (pos 63) (pos 1) ∷ []) (form (pos 0) (pos 0 ∷ pos 1 ∷ [])) (span (pos 0) (pos 63) 1)
triangle = record { low = refl; high = refl; stride = (1, of_one 1, refl) }

-- `A[j]` for j = 0, 2, 4 and 6, and `A[5 - 3 * j]` for the same
even : IsBoxOf 1 (constant_loop (pos 0) (pos 63) (pos 1) ∷ constant_loop (pos 0) (pos 6) (pos 2) ∷ []) (form (pos 0) (pos 0 ∷ pos 1 ∷ [])) (span (pos 0) (pos 6) 2)
even = record { low = refl; high = refl; stride = (2, of_one 2, refl) }

falling : IsBoxOf 1 (constant_loop (pos 0) (pos 63) (pos 1) ∷ constant_loop (pos 0) (pos 6) (pos 2) ∷ []) (form (pos 5) (pos 0 ∷ negsuc 2 ∷ [])) (span (negsuc 12) (pos 5) 6)
falling = record { low = refl; high = refl; stride = (6, of_one 6, refl) }

-- an inner loop with one turn gives no stride
one_turn : IsBoxOf 0 (constant_loop (pos 4) (pos 4) (pos 2) ∷ []) (form (pos 0) (pos 1 ∷ [])) (span (pos 4) (pos 4) 1)
one_turn = record { low = refl; high = refl; stride = (0, (each, (λ d h. dvd-zero d)), refl) }
  where
    each : All (λ n. 0 ∣ n) (0 ∷ [])
    each zero d below = dvd_refl 0
    each (suc k) d below = absurd (omega (arith, below))
