-- The findings of loops, loop by loop or refusal by refusal.
use Rattle.std.proofs.Common.{◌≡◌, ap, ℕ, List, ◌++◌, Option, Bool}
use Rattle.std.specs.Prelude.{◌&&◌, not}
use Rattle.std.specs.List.{flat_map}
use Rattle.species_ast.specs.declared.tree.Loop.{out-Loop}
use Rattle.species_ast.specs.declared.tree.Unit.{Unit}
use Rattle.species_ast.specs.Scope.Hulls.{passes_hull}
use Rattle.species_ast.specs.Scope.Magnitudes.{passes_bound}
use Rattle.species_ast.specs.Scope.Limits.{is_too_deep, is_too_far}
use Rattle.species_ast.specs.Scope.Nests.{front_of, is_bad_mark}
use Rattle.species_ast.specs.Scope.Loops.{PlacedLoop, placed_loops}
use Rattle.species_ast.specs.Scope.Refusals.{Limit, Refusal, Finding, refused_at}
use Rattle.species_ast.specs.Scope.Conditions.{too_far, past_hull, past_bound, bad_mark, refused_loops}
use Rattle.species_names.specs.Kept.{kept, refused_if}
use Rattle.species_names.proofs.JoinLaws.{refused_where, apart}
use Rattle.species_limits.specs.Found.{found_of}

abbrev is_deep : PlacedLoop → Bool
is_deep x = is_too_deep x.stands.around.level

abbrev is_past_hull : PlacedLoop → Bool
is_past_hull x = not x.stands.passed && passes_hull x.stands.around.path (out-Loop x.head)

abbrev is_far : PlacedLoop → Bool
is_far x = is_too_far (out-Loop x.head).step

abbrev is_past_bound : PlacedLoop → Bool
is_past_bound x = not x.stands.passed && passes_bound x.stands.around.path (out-Loop x.head)

abbrev has_bad_mark : PlacedLoop → Bool
has_bad_mark x = is_bad_mark x.stands.around.in_nest x.stands.around.level (out-Loop x.head).mark (front_of x.head)

abbrev for_place : PlacedLoop → ℕ
for_place x = (out-Loop x.head).place

pub loops_apart : (m : Option Finding) (u : Unit) → found_of m (placed_loops u) ≡ kept m (refused_loops u)
loops_apart m u =
    let xs = placed_loops u in
    let at_mark : PlacedLoop → List Finding = λ x. refused_if (has_bad_mark x) Refusal.BadMark (for_place x) in
    let at_bound : PlacedLoop → List Finding = λ x. refused_if (is_past_bound x) (Refusal.LimitPassed Limit.Bound) (for_place x) ++ at_mark x in
    let at_step : PlacedLoop → List Finding = λ x. refused_if (is_far x) (Refusal.LimitPassed Limit.Step) (for_place x) ++ at_bound x in
    let at_hull : PlacedLoop → List Finding = λ x. refused_if (is_past_hull x) (Refusal.LimitPassed Limit.Hull) (for_place x) ++ at_step x in
    let marks = refused_at Refusal.BadMark (bad_mark u) in
    let bounds = refused_at (Refusal.LimitPassed Limit.Bound) (past_bound u) ++ marks in
    let steps = refused_at (Refusal.LimitPassed Limit.Step) (too_far u) ++ bounds in
    let hulls = refused_at (Refusal.LimitPassed Limit.Hull) (past_hull u) ++ steps in
    let a : (o : Option Finding) → kept o (flat_map at_mark xs) ≡ kept o marks = λ o. ap (kept o) (refused_where Refusal.BadMark has_bad_mark for_place xs) in
    let b : (o : Option Finding) → kept o (flat_map at_bound xs) ≡ kept o bounds = λ o. apart o (Refusal.LimitPassed Limit.Bound) is_past_bound for_place at_mark marks xs a in
    let c : (o : Option Finding) → kept o (flat_map at_step xs) ≡ kept o steps = λ o. apart o (Refusal.LimitPassed Limit.Step) is_far for_place at_bound bounds xs b in
    let d : (o : Option Finding) → kept o (flat_map at_hull xs) ≡ kept o hulls = λ o. apart o (Refusal.LimitPassed Limit.Hull) is_past_hull for_place at_step steps xs c in
    apart m (Refusal.LimitPassed Limit.Loops) is_deep for_place at_hull hulls xs d
