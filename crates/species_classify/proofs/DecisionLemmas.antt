-- The decision for a nest from its parts.
use Rattle.std.proofs.Common.{◌≡◌, refl, ap, sym, ◌∙◌, subst, arith, ℕ, ◌+◌, ◌<◌, ◌≤◌, min, List, [], ◌∷◌, length, Option, Some, None}
use Rattle.std.proofs.lemmas.List.{length-map}
use Rattle.std.specs.Prelude.{slice_get}
use Rattle.species_arcs.specs.Pairwise.{Pairwise}
use Rattle.species_arcs.specs.declared.plans.Reason.TheVariants as reason
use Rattle.species_ast.specs.declared.tree.Loop.{Loop, out-Loop}
use Rattle.species_ast.specs.declared.tree.Unit.{Unit as Program}
use Rattle.species_ast.specs.Evaluation.{sizes_of}
use Rattle.species_ast.specs.Run.{source_context}
use Rattle.species_ast.specs.Scope.Hulls.{Range}
use Rattle.species_ast.specs.Scope.Nests.{front_of}
use Rattle.species_ast.specs.Scope.References.{references_of}
use Rattle.species_ast.specs.Scope.WellMade.{IsWellMade}
use Rattle.species_depend.specs.Carried.{AreAsked}
use Rattle.species_gather.specs.Summed.{summed_arrays}
use Rattle.species_linear.specs.declared.loops.LoopRange.{LoopRange}
use Rattle.species_linear.specs.Box.{HasSmallPath}
use Rattle.species_linear.specs.Point.{IsShort}
use Rattle.species_loops.specs.Bands.{IsLongestBand}
use Rattle.species_references.specs.declared.nest.Reference.{Reference}
use Rattle.species_references.specs.Ranges.{range_seen, ranges_seen}
use Rattle.species_references.specs.References.{adds_of, IsReference, AreNumberedFrom}
use Rattle.species_runs.specs.Scopes.{outer_locals_set}
use Rattle.species_classify.specs.declared.bands.Band.{Band}
use Rattle.species_classify.specs.declared.bands.Band.TheVariants.{Free, Carried}
use Rattle.species_classify.specs.declared.decide.Decision.{Decision}
use Rattle.species_classify.specs.Bands.{IsBandOf}
use Rattle.species_classify.specs.Decisions.{sequential, IsSharedDecision, IsPlainDecision, IsDecidedBy, IsDecisionWith, IsDecision}
use Rattle.species_classify.specs.Places.{StandsIn, ArePlain}
use Rattle.species_classify.proofs.AskedLaws.{nest_asked, sound_path}
use Rattle.species_classify.proofs.BandLemmas.{some_band, band_within}
use Rattle.species_classify.proofs.StandLemmas.{stands_well, stands_shallow}

-- ---- locals of the outside

outer_with : (xs : List ℕ) (x : ℕ) (u : Program) (head : Loop) (path : List Range) → slice_get xs 0 ≡ Some x → IsDecisionWith xs u head path (sequential (reason.Outer x))
outer_with [] x u head path is = absurd cc
outer_with (y ∷ xs) x u head path is = let same : x ≡ y = cc in ap (λ z. sequential (reason.Outer z)) same

pub outer_decision : (u : Program) (head : Loop) (path : List Range) (x : ℕ) (o : Option ℕ) (d : Decision) → o ≡ slice_get (outer_locals_set (out-Loop head).body) 0 → o ≡ Some x → d ≡ sequential (reason.Outer x)
    → IsDecision u head path d
outer_decision u head path x o d found some is =
    subst (λ z. IsDecision u head path z) (sym is) (outer_with (outer_locals_set (out-Loop head).body) x u head path (sym found ∙ some))

none_first : (xs : List ℕ) → slice_get xs 0 ≡ None → xs ≡ []
none_first [] is = refl
none_first (x ∷ xs) is = absurd cc

-- ---- the ranges around

seen_length : (path : List LoopRange) → length (ranges_seen path) ≡ length path
seen_length path = length-map path range_seen

pub outer_fits : (u : Program) (head : Loop) (path : List LoopRange) → IsWellMade u → StandsIn u head (ranges_seen path) → length path ≤ 8
outer_fits u head path well stands = omega (arith, seen_length path, (stands_well u head (ranges_seen path) well stands).short)

pub path_short : (u : Program) (head : Loop) (path : List LoopRange) → IsWellMade u → StandsIn u head (ranges_seen path) → IsShort path
path_short u head path well stands = omega (arith, outer_fits u head path well stands)

pub path_small : (u : Program) (head : Loop) (path : List LoopRange) → IsWellMade u → StandsIn u head (ranges_seen path) → HasSmallPath path
path_small u head path well stands = sound_path path (stands_well u head (ranges_seen path) well stands).sound

-- ---- the longest band

-- 32 bits hold the number of loops of a band, and there is at least one
pub front_is : (u : Program) (head : Loop) (path : List LoopRange) (outer front n : ℕ) → IsWellMade u → StandsIn u head (ranges_seen path) → outer ≡ length path → IsLongestBand outer (front_of head) n
    → front ≡ min n 4294967295 → (front ≡ n) × (0 < front) × (front ≤ length (front_of head))
front_is u head path outer front n well stands same longest is =
    let here : IsLongestBand (length (ranges_seen path)) (front_of head) n = subst (λ (k : ℕ). IsLongestBand k (front_of head) n) (same ∙ sym (seen_length path)) longest in
    let within : n ≤ length (front_of head) = band_within (length (ranges_seen path)) n (front_of head) here in
    let few : front ≡ n = omega (arith, is, within, stands_shallow u head (ranges_seen path) well stands) in
    (few, omega (arith, few, some_band u head (ranges_seen path) n well stands here), omega (arith, few, within))

-- ---- the references

-- the references that are found, when they are kept by array
pub are_plain : (u : Program) (head : Loop) (path : List LoopRange) (found refs : List Reference) → refs ≡ found
    → ((at : List ℕ) → Pairwise (IsReference (sizes_of (source_context u)) (length path + 1)) found (references_of (adds_of []) head at (ranges_seen path) 1)) → AreNumberedFrom 0 found → ArePlain u head (ranges_seen path) refs
are_plain u head path found refs same listed numbered = subst (ArePlain u head (ranges_seen path)) (sym same) (record {
  shown = subst (λ (n : ℕ). Pairwise (IsReference (sizes_of (source_context u)) (n + 1)) found (references_of (adds_of []) head [] (ranges_seen path) 1)) (sym (seen_length path)) (listed []);
  numbered = numbered;
})

pub plain_asked : (u : Program) (head : Loop) (path : List LoopRange) (refs : List Reference) (outer front level : ℕ) → IsWellMade u → StandsIn u head (ranges_seen path) → outer ≡ length path
    → ArePlain u head (ranges_seen path) refs → front ≤ length (front_of head) → level < front → AreAsked refs outer level
plain_asked u head path refs outer front level well stands same plain within below =
    subst (λ (k : ℕ). AreAsked refs k level) (seen_length path ∙ sym same) (nest_asked u head (ranges_seen path) refs front level well stands plain.shown within below)

-- ---- the decision

pub plain_decision : (u : Program) (head : Loop) (path : List LoopRange) (refs : List Reference) (outer front n : ℕ) (o : Option ℕ) (d : Decision)
    → o ≡ slice_get (outer_locals_set (out-Loop head).body) 0 → o ≡ None → outer ≡ length path → front ≡ n → IsLongestBand outer (front_of head) n
    → ArePlain u head (ranges_seen path) refs → IsDecidedBy refs outer front (summed_arrays u head) d → IsDecision u head (ranges_seen path) d
plain_decision u head path refs outer front n o d found none same few longest plain decided =
    let level : outer ≡ length (ranges_seen path) = same ∙ sym (seen_length path) in
    let band : IsLongestBand (length (ranges_seen path)) (front_of head) front =
    subst (λ (k : ℕ). IsLongestBand k (front_of head) front) level (subst (λ (m : ℕ). IsLongestBand outer (front_of head) m) (sym few) longest) in
    let by : IsDecidedBy refs (length (ranges_seen path)) front (summed_arrays u head) d = subst (λ (k : ℕ). IsDecidedBy refs k front (summed_arrays u head) d) level decided in
    subst (λ xs. IsDecisionWith xs u head (ranges_seen path) d) (sym (none_first (outer_locals_set (out-Loop head).body) (sym found ∙ none)))
    (refs, front, plain, band, by)

-- ---- its depth

shared_within : (refs : List Reference) (outer front : ℕ) (gathered : List ℕ) (b : Band) (d : Decision) → IsBandOf refs outer front gathered b → IsSharedDecision refs gathered b d → d.depth ≤ front
shared_within refs outer front gathered (Free depth) d band is =
    let same : d.depth ≡ depth = ap (λ (z : Decision). z.depth) is in omega (arith, same, band.1.within)
shared_within refs outer front gathered (Carried first second) d band is =
    let same : d.depth ≡ 0 = ap (λ (z : Decision). z.depth) is.2 in omega (arith, same)

plain_within : (refs : List Reference) (outer front : ℕ) (gathered : List ℕ) (b : Band) (d : Decision) → IsBandOf refs outer front [] b → IsPlainDecision refs outer front gathered b d → d.depth ≤ front
plain_within refs outer front gathered (Free depth) d band is =
    let same : d.depth ≡ depth = ap (λ (z : Decision). z.depth) is in omega (arith, same, band.1.within)
plain_within refs outer front gathered (Carried first second) d band is = shared_within refs outer front gathered is.0 d is.1 is.2

-- as many loops at most as the front has
pub decided_within : (refs : List Reference) (outer front : ℕ) (gathered : List ℕ) (d : Decision) → IsDecidedBy refs outer front gathered d → d.depth ≤ front
decided_within refs outer front gathered d h = plain_within refs outer front gathered h.0 d h.1 h.2
