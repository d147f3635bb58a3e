-- The lines of planned nests are true.
use Rattle.std.proofs.Common.{◌≡◌, refl, sym, subst, suc, false, List, [], ◌∷◌, ◌++◌}
use Rattle.std.specs.Prelude.{IsTrue}
use Rattle.species_annotate.specs.Annotated.{band_names, names_in}
use Rattle.species_arcs.specs.declared.places.Arc.{Arc}
use Rattle.species_arcs.specs.declared.plans.Nest.{Nest}
use Rattle.species_ast.specs.Scope.WellMade.{IsWellMade}
use Rattle.species_ast.specs.Strip.{source_of}
use Rattle.species_ast.specs.declared.tree.Unit.{Unit as Program}
use Rattle.species_ast.proofs.StripKeeps.{strip-IsWellMade}
use Rattle.species_lines.specs.Lines.{Standing, LinesHold, DomainsAreOutside, AdditionsAreMarked}
use Rattle.species_merge.proofs.Folding.{Each, all_of}
use Rattle.species_notation.specs.Written.{line_text}
use Rattle.species_plan_truth.specs.Meetings.{PlannedNeverMeet}
use Rattle.species_plan_truth.specs.Said.{SaidArc, arc_as_said, said_for}
use Rattle.species_plan_truth.specs.Truth.{names_there, around_nest, IsPlanned, IsTrueLine, PlannedLinesAreTrue}
use Rattle.species_plan_truth.proofs.LineApart.{line_apart}
use Rattle.species_plan_truth.proofs.LineHolds.{each_said, line_holds}
use Rattle.species_plan_truth.proofs.LineNames.{AreNamedThere, UnitsAreNamed, nest_named}
use Rattle.species_plan_truth.proofs.LinePlans.{decision_of, is_band, planned_arcs, names_outside}
use Rattle.species_plan_truth.proofs.LineReadable.{ReferencesAreBounded, arcs_readable}
use Rattle.species_plan_truth.proofs.SaidLaws.{line_says}
use Rattle.species_plan_truth.proofs.TruthStands.{stands_placed}

line_true : (lines : LinesHold) (domains : DomainsAreOutside) (additions : AdditionsAreMarked) (never : PlannedNeverMeet) (bounded : ReferencesAreBounded)
    (u : Program) (s : Standing) (nest : Nest) → IsWellMade u → AreNamedThere u s → IsPlanned u s nest → IsTrueLine u s nest.gathered (line_text (names_there u s) nest)
line_true lines domains additions never bounded u s nest well names p =
    let b = is_band u s nest p in
    let has = planned_arcs u s nest p in
    record {
      said = said_for nest.arcs;
      reads = line_says (names_there u s) nest names.arrays names.iters names.different_arrays names.different_iters (arcs_readable bounded u s nest well names.dimensions p) b.choice.none;
      known = all_of (λ (x : SaidArc). IsTrue x.arc.known) (said_for nest.arcs) (each_said (λ (x : SaidArc). IsTrue x.arc.known) nest.arcs (each_known nest.arcs));
      holds = λ join r t here. line_holds lines domains additions join u s nest.gathered nest.arcs has (names_outside u s nest well p) r t here;
      apart = line_apart never additions u s (decision_of nest) well (stands_placed u s p.stands) p.plan.decision p.depth b.deep;
    }
  where
    each_known : (arcs : List Arc) → Each (λ a. IsTrue (arc_as_said a).arc.known) arcs
    each_known [] = tt
    each_known (a ∷ arcs) = (refl, each_known arcs)

pub lines_are_true : LinesHold → DomainsAreOutside → AdditionsAreMarked → PlannedNeverMeet → UnitsAreNamed → ReferencesAreBounded → PlannedLinesAreTrue
lines_are_true lines domains additions never units bounded bytes raw u s nest accepted is well p =
    let v = source_of u in
    let depth : suc s.below ≡ nest.depth = sym p.depth in
    subst (λ d. IsTrueLine v s nest.gathered (line_text (names_in v ((around_nest s).iters ++ band_names d s.head [])) nest)) depth
    (line_true lines domains additions never bounded v s nest (strip-IsWellMade false u well) (nest_named units bytes raw u s accepted is p.stands) p)
