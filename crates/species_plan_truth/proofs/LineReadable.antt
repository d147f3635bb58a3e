-- The arcs of a planned nest can be read back.
use Rattle.std.proofs.Common.{◌≡◌, refl, sym, ◌∙◌, subst, arith, ℕ, zero, suc, ◌+◌, ◌<◌, ◌≤◌, List, [], ◌∷◌, map, drop, length, All}
use Rattle.std.specs.Prelude.{slice_get, unwrap_or, option_map}
use Rattle.std.proofs.lemmas.List.{length-map, length-append}
use Rattle.species_annotate.specs.Annotated.{band_names}
use Rattle.species_arcs.specs.Pairwise.{Pairwise}
use Rattle.species_arcs.proofs.PairwiseLaws.{pairwise_length}
use Rattle.species_affine.specs.Subscript.{IsSubscript, HasFormNumbers}
use Rattle.species_arcs.specs.declared.plans.Nest.{Nest}
use Rattle.species_ast.specs.Evaluation.{sizes_of}
use Rattle.species_ast.specs.Run.{source_context}
use Rattle.species_ast.specs.Scope.Hulls.{Range}
use Rattle.species_ast.specs.Scope.Loops.{no_loops}
use Rattle.species_ast.specs.Scope.References.{Adding, Reference, references_of}
use Rattle.species_ast.specs.Scope.WellMade.{IsWellMade}
use Rattle.species_ast.specs.declared.tree.Array.{Array}
use Rattle.species_ast.specs.declared.tree.Loop.{Loop, out-Loop}
use Rattle.species_ast.specs.declared.tree.Unit.{Unit as Program}
use Rattle.species_ast.proofs.Induction.{Each}
use Rattle.species_classify.specs.Places.{StandsIn}
use Rattle.species_classify.proofs.PlaceLaws.{IsPlaced, standing_placed}
use Rattle.species_lines.specs.Lines.{Standing, NamesOutside}
use Rattle.species_merge.specs.Arcs.{AreArcsOf}
use Rattle.species_merge.specs.Bounds.{IsBoundOf}
use Rattle.species_merge.specs.declared.bands.BandBound.{BandBound}
use Rattle.species_merge.specs.Law.{AreSettled}
use Rattle.species_merge.specs.Sizes.{IsSmallBox}
use Rattle.species_merge.proofs.Folding.{each_of}
use Rattle.species_merge.proofs.SettledLaws.{references_are_settled}
use Rattle.species_nests.specs.Nests.{Placed, nest_of}
use Rattle.species_notation.specs.Law.{IsReadableArc}
use Rattle.species_occurrences.specs.Iterators.{ranges_of}
use Rattle.species_occurrences.proofs.PositionLaws.{each_weaker}
use Rattle.species_ranges.proofs.BoundedLaws.{IsSize, IsBounded}
use Rattle.species_ranges.proofs.MergeableLaws.{mergeable}
use Rattle.species_references.specs.Law.{HasTurns}
use Rattle.species_references.specs.References.{adds_of, IsReference}
use Rattle.species_references.specs.declared.nest.Reference.{Reference as Held}
use Rattle.species_references.proofs.TurnLaws.{references_have_turns}
use Rattle.species_truth.proofs.WholeBoxes.{Settles, boxes_whole}
use Rattle.species_plan_truth.specs.Truth.{names_there, around_nest, IsPlanned}
use Rattle.species_plan_truth.proofs.BandDeep.{stands_kept, nest_shallow}
use Rattle.species_plan_truth.proofs.BandNear.{bounds_near}
use Rattle.species_plan_truth.proofs.BandReadable.{IsGoodHeld, band_readable}
use Rattle.species_plan_truth.proofs.LineBands.{ranges_length}
use Rattle.species_plan_truth.proofs.LinePlans.{planned_arcs, names_outside}
use Rattle.species_plan_truth.proofs.TruthStands.{stands_placed}

-- each array has a dimension
abbrev pub HaveDimensions : Program → Type 0
HaveDimensions u = Each (λ (a : Array). 0 < length a.dims) u.arrays

-- Each reference of a nest, wherever its loop stands, names an array that is there, and stands in few loops with small ranges.
abbrev pub ReferencesAreBounded : Type 0
ReferencesAreBounded = (adds : Adding) (u : Program) (head : Loop) (path : List Range) (at : List ℕ) (depth : ℕ) → IsWellMade u → StandsIn u head path
    → Each (IsBounded u (length path + depth)) (references_of adds head at path depth)

-- ---- references

there : (arrays : List Array) (a : ℕ) → Each IsSize (unwrap_or (option_map (λ x. x.dims) (slice_get arrays a)) (0 ∷ [])) → Each (λ (x : Array). 0 < length x.dims) arrays
    → (a < length arrays) × (0 < length (unwrap_or (option_map (λ x. x.dims) (slice_get arrays a)) (0 ∷ [])))
there [] a h k = let one = h.0.0 in absurd (omega (arith, one))
there (x ∷ arrays) zero h k = (omega arith, k.0)
there (x ∷ arrays) (suc a) h k = let more = there arrays a h k.1 in (omega (arith, more.0), more.1)

held_good : (u : Program) (inner : ℕ) (r : Held) (q : Reference) → HaveDimensions u → IsReference (sizes_of (source_context u)) inner r q → IsBounded u inner q → HasTurns inner q → AreSettled inner q
    → IsGoodHeld (length (map (λ (a : Array). a.name) u.arrays)) r
held_good u inner r q dims shown bounded full settled =
    let sizes = sizes_of (source_context u) q.array in
    let array = there u.arrays q.array bounded.sizes.each dims in
    let small = each_of IsSmallBox r.boxes (mergeable u inner r q shown bounded full).boxes in
    let whole = boxes_whole inner q.path sizes q.subs r.boxes full (each_of Settles (drop inner q.path) settled) shown.boxes small in
    let named : length (map (λ (a : Array). a.name) u.arrays) ≡ length u.arrays = length-map u.arrays (λ (a : Array). a.name) in
    let subs : length r.subs ≡ length sizes = pairwise_length IsSubscript r.subs q.subs shown.subs ∙ sym bounded.sizes.count in
    record {
      array = omega (arith, shown.array, array.0, named);
      some = omega (arith, subs, array.1);
      numbers = each_of HasFormNumbers r.subs shown.numbers;
      boxes = λ k. ((whole k).small, (whole k).even);
    }

all_good : (u : Program) (inner : ℕ) (hs : List Held) (qs : List Reference) → HaveDimensions u → Pairwise (IsReference (sizes_of (source_context u)) inner) hs qs → Each (IsBounded u inner) qs → Each (HasTurns inner) qs
    → Each (AreSettled inner) qs → Each (IsGoodHeld (length (map (λ (a : Array). a.name) u.arrays))) hs
all_good u inner [] [] dims shown bounded full settled = tt
all_good u inner [] (q ∷ qs) dims shown bounded full settled = absurd shown
all_good u inner (r ∷ hs) [] dims shown bounded full settled = absurd shown
all_good u inner (r ∷ hs) (q ∷ qs) dims shown bounded full settled =
    (held_good u inner r q dims shown.0 bounded.0 full.0 settled.0, all_good u inner hs qs dims shown.1 bounded.1 full.1 settled.1)

-- ---- the law

pub arcs_readable : (bounded : ReferencesAreBounded) (u : Program) (s : Standing) (nest : Nest) → IsWellMade u → HaveDimensions u → IsPlanned u s nest → All (IsReadableArc (names_there u s)) nest.arcs
arcs_readable bounded u s nest well dims p =
    let has = planned_arcs u s nest p in
    let path = ranges_of [] s.around in
    let inner = length path + suc s.below in
    let qs = references_of (adds_of nest.gathered) s.head [] path (suc s.below) in
    let ps = (nest_of s.below s.head []).loops in
    let outer : length path ≡ length s.around = omega (arith, ranges_length [] s.around) in
    let near = bounds_near (length s.around) ps has.bands has.bounds (each_of (NamesOutside (length s.around)) has.bands (names_outside u s nest well p)) in
    let counted : length ps ≡ length has.bands = pairwise_length (λ (p : Placed) (b : BandBound). IsBoundOf (out-Loop p.loop) b) ps has.bands has.bounds in
    let level : 0 + length s.around ≡ length s.around = omega arith in
    let kept = subst (λ n. n + length ps ≤ 8) level (nest_shallow s.below s.head [] (0 + length s.around) (stands_kept s.head s.around u.body p.stands 0 (no_loops, refl, well.limits))) in
    let few : length s.around + length has.bands ≤ 16 = omega (arith, kept, counted) in
    let around : length (around_nest s).iters ≡ length s.around = length-map s.around (λ (l : Loop). (out-Loop l).iter) in
    let band : length (band_names (suc s.below) s.head []) ≡ length ps = length-map ps (λ p. (out-Loop p.loop).iter) in
    let names : length (names_there u s).iters ≡ length s.around + length has.bands = omega (arith, length-append (around_nest s).iters (band_names (suc s.below) s.head []), around, band, counted) in
    let good = all_good u inner has.refs qs dims has.shown (bounded (adds_of nest.gathered) u s.head path [] (suc s.below) well (stands_placed u s p.stands))
    (each_of (HasTurns inner) qs (references_have_turns (adds_of nest.gathered) s.head [] path (suc s.below))) (each_of (AreSettled inner) qs (references_are_settled (adds_of nest.gathered) s.head [] path (suc s.below))) in
    band_readable (length s.around) has.bands near (names_there u s) names few has.refs nest.arcs good (subst (λ n. AreArcsOf n has.bands has.refs nest.arcs) outer has.merged)

pub references_are_bounded : ReferencesAreBounded
references_are_bounded adds u head path at depth well stands =
    let inner = length path + depth in
    each_weaker (IsPlaced u inner) (IsBounded u inner) (λ q h. h.bounded) (references_of adds head at path depth) (standing_placed adds u head path at depth well stands)
