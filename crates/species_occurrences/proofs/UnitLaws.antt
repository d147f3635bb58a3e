-- The laws as the public function promises them.
use Rattle.std.proofs.Common.{refl, arith, zero, suc, List, [], ◌∷◌, All, ℤ, pos, None, false}
use Rattle.std.proofs.lemmas.Int.{ints}
use Rattle.species_ast.specs.Evaluation.{sense, sizes_of}
use Rattle.species_ast.specs.Run.{source_context, program_of}
use Rattle.species_ast.specs.Scope.Hulls.{Range}
use Rattle.species_ast.specs.Scope.Loops.{placed_loops}
use Rattle.species_ast.specs.Scope.WellMade.{outermost}
use Rattle.species_ast.proofs.Induction.{Each}
use Rattle.species_runs.specs.Every.{Anything}
use Rattle.species_runs.proofs.EveryLaws.{every_access, every_ended}
use Rattle.species_occurrences.specs.Iterators.{AreTaken}
use Rattle.species_occurrences.specs.Affine.{IsFormValue}
use Rattle.species_occurrences.specs.Made.{IsMadeInEach}
use Rattle.species_occurrences.specs.Regular.{as_marked}
use Rattle.species_occurrences.specs.Law.{AccessesAreMade, AffineHaveTheirForms}
use Rattle.species_occurrences.proofs.HeaderLaws.{bound_in}
use Rattle.species_occurrences.proofs.LocationLaws.{unit_located}
use Rattle.species_occurrences.proofs.NestLaws.{unconditional}
use Rattle.species_occurrences.proofs.RegularLaws.{list_regular}

pub all_of : {X : Type 0} (P : X → Type 0) (xs : List X) → Each P xs → All P xs
all_of P [] h j d below = absurd (omega (arith, below))
all_of P (x ∷ xs) h zero d below = h.0
all_of P (x ∷ xs) h (suc j) d below = all_of P xs h.1 j d (omega (arith, below))

pub accesses_are_made : AccessesAreMade
accesses_are_made join u m well_made =
    let P = IsMadeInEach as_marked (sizes_of (source_context u)) (placed_loops u) in
    all_of P _ (every_access join P Anything (program_of u) m (unit_located u as_marked (list_regular u.body (outermost u) well_made.body)))

-- ranges of one number each, from which these numbers are taken
abbrev points : List ℤ → List Range
points [] = []
points (i ∷ is) = record { low = i; high = i; step = pos 1; start = None; fixed = false } ∷ points is

points_taken : (is : List ℤ) → AreTaken (points is) is
points_taken [] = tt
points_taken (i ∷ is) = ((omega (arith, ints), omega (arith, ints), tt), points_taken is)

pub affine_have_their_forms : AffineHaveTheirForms
affine_have_their_forms join w x form s n f m v last is int ended =
    let g = unconditional s.statement (points f.iters) in
    (every_ended join Anything (IsFormValue form f.iters) ((sense w x).does s n f) m v last (bound_in w x form s n g f.iters f is refl (refl, points_taken f.iters, int) Anything) ended).0
