-- What the plan of a parallel nest has: the arcs of its band, whose bounds name iterators of the loops around the nest alone.
use Rattle.std.proofs.Common.{◌≡◌, refl, subst, arith, ℕ, suc, ◌+◌, ◌≤◌, true, [], length, All}
use Rattle.std.specs.Prelude.{nat_le}
use Rattle.std.proofs.lemmas.Bool.{and_parts}
use Rattle.std.proofs.lemmas.Bool.Decides.{nat_tests}
use Rattle.species_arcs.specs.declared.plans.Nest.{Nest}
use Rattle.species_ast.specs.Scope.Nests.{front_of}
use Rattle.species_ast.specs.Scope.WellMade.{outermost, IsWellMade}
use Rattle.species_ast.specs.declared.tree.Stmt.TheVariants as stmt
use Rattle.species_ast.specs.declared.tree.Unit.{Unit as Program}
use Rattle.species_classify.specs.Plans.{AreBandArcs}
use Rattle.species_classify.specs.declared.decide.Decision.{Decision}
use Rattle.species_lines.specs.Lines.{Standing, NamesOutside}
use Rattle.species_loops.specs.Bands.{IsLongestBand}
use Rattle.species_occurrences.specs.Iterators.{ranges_of}
use Rattle.species_plan_truth.specs.Truth.{IsPlanned}
use Rattle.species_plan_truth.proofs.BandChoices.{IsChosen, chosen}
use Rattle.species_plan_truth.proofs.BandNames.{HoldsIn, stands_in, band_names as band_names_outside}
use Rattle.species_plan_truth.proofs.LineBands.{ranges_length, BandArcs}

abbrev pub decision_of : Nest → Decision
decision_of nest = record { depth = nest.depth; mode = nest.mode; gathered = nest.gathered; reason = nest.reason }

-- the plan of a nest is parallel
pub record IsBand (u : Program) (s : Standing) (nest : Nest) : Type 0 where
  pub choice : IsChosen (length (ranges_of [] s.around)) s.head (decision_of nest)
  pub deep : suc s.below ≤ length (front_of s.head)
  pub within : suc s.below ≤ choice.front

pub is_band : (u : Program) (s : Standing) (nest : Nest) → IsPlanned u s nest → IsBand u s nest
is_band u s nest p =
    let c = chosen u s.head (ranges_of [] s.around) (decision_of nest) p.plan.decision (omega (arith, p.depth)) in
    let enough = longest_within (length (ranges_of [] s.around)) s c.front c.longest in
    let within : suc s.below ≤ c.front = omega (arith, c.within, p.depth) in
    record { choice = c; deep = omega (arith, within, enough); within = within }
  where
    longest_within : (level : ℕ) (s : Standing) (front : ℕ) → IsLongestBand level (front_of s.head) front → front ≤ length (front_of s.head)
    longest_within level s front longest = let test : nat_le front (length (front_of s.head)) ≡ true = (and_parts (nat_le front (length (front_of s.head))) _ longest.is_one).0 in grind (arith, nat_tests, test)

pub planned_arcs : (u : Program) (s : Standing) (nest : Nest) → IsPlanned u s nest → BandArcs u s nest.gathered nest.arcs
planned_arcs u s nest p = from (subst (λ d. AreBandArcs d u s.head (ranges_of [] s.around) nest.gathered nest.arcs) p.depth p.plan.arcs)
  where
    from : AreBandArcs (suc s.below) u s.head (ranges_of [] s.around) nest.gathered nest.arcs → BandArcs u s nest.gathered nest.arcs
    from (refs, bands, shown, bounds, merged) = record { deep = (is_band u s nest p).deep; refs = refs; bands = bands; shown = shown; bounds = bounds; merged = merged }

pub names_outside : (u : Program) (s : Standing) (nest : Nest) → IsWellMade u → (p : IsPlanned u s nest) → All (NamesOutside (length s.around)) (planned_arcs u s nest p).bands
names_outside u s nest well p =
    let b = is_band u s nest p in
    let has = planned_arcs u s nest p in
    let outer : length (ranges_of [] s.around) ≡ length s.around = omega (arith, ranges_length [] s.around) in
    let level : 0 + length s.around ≡ length s.around = omega arith in
    let holds : HoldsIn (length s.around) (stmt.For s.head) = subst (λ n. HoldsIn n (stmt.For s.head)) level (stands_in s.head s.around u.body p.stands 0 (outermost u, refl, well.body)) in
    band_names_outside (length s.around) s.below s.head b.choice.front has.bands holds (subst (λ n. IsLongestBand n (front_of s.head) b.choice.front) outer b.choice.longest) b.within has.bounds
