-- What is refused of a loop where it stands, and of an array.
use Rattle.std.specs.Prelude.{ℕ, ◌&&◌, not, List, [], ◌∷◌, ◌++◌, flat_map, Option}
use Rattle.species_ast.specs.declared.tree.Array.{Array}
use Rattle.species_ast.specs.declared.tree.Loop.{out-Loop}
use Rattle.species_ast.specs.Scope.Hulls.{passes_hull}
use Rattle.species_ast.specs.Scope.Magnitudes.{passes_bound}
use Rattle.species_ast.specs.Scope.Limits.{is_too_deep, is_too_far, has_too_many_dimensions, has_lawful_sizes}
use Rattle.species_ast.specs.Scope.Loops.{PlacedLoop}
use Rattle.species_ast.specs.Scope.Nests.{front_of, is_bad_mark}
use Rattle.species_ast.specs.Scope.Refusals.{Limit, Refusal, Finding}
use Rattle.species_names.specs.Kept.{kept, refused_if}

-- of a loop, at its `for`
abbrev pub found_at : PlacedLoop → List Finding
found_at x =
    refused_if (is_too_deep x.stands.around.level) (Refusal.LimitPassed Limit.Loops) (out-Loop x.head).place
    ++ (refused_if (not x.stands.passed && passes_hull x.stands.around.path (out-Loop x.head)) (Refusal.LimitPassed Limit.Hull) (out-Loop x.head).place
    ++ (refused_if (is_too_far (out-Loop x.head).step) (Refusal.LimitPassed Limit.Step) (out-Loop x.head).place
    ++ (refused_if (not x.stands.passed && passes_bound x.stands.around.path (out-Loop x.head)) (Refusal.LimitPassed Limit.Bound) (out-Loop x.head).place
    ++ refused_if (is_bad_mark x.stands.around.in_nest x.stands.around.level (out-Loop x.head).mark (front_of x.head)) Refusal.BadMark (out-Loop x.head).place)))

-- what is kept behind these loops
abbrev pub found_of : Option Finding → List PlacedLoop → Option Finding
found_of first loops = kept first (flat_map found_at loops)

-- of an array whose name stands at a place
abbrev pub array_found : Array → ℕ → List Finding
array_found a place =
    refused_if (has_too_many_dimensions a) (Refusal.LimitPassed Limit.Dims) place
    ++ refused_if (not (has_lawful_sizes a)) (Refusal.LimitPassed Limit.Elements) place

-- of arrays, each with the place of its name
abbrev pub arrays_found : List Array → List ℕ → List Finding
arrays_found [] places = []
arrays_found (a ∷ rest) [] = []
arrays_found (a ∷ rest) (p ∷ places) = array_found a p ++ arrays_found rest places
