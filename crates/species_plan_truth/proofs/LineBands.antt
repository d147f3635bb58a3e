-- The arcs of a nest where it is planned are arcs of the nest as it is marked in a unit with the same source.
use Rattle.std.proofs.Common.{◌≡◌, refl, ap, sym, ◌∙◌, subst, arith, ℕ, zero, suc, ◌+◌, ◌<◌, ◌≤◌, false, List, [], ◌∷◌, ◌++◌, map, length, slice_index_or, inl, inr}
use Rattle.std.proofs.lemmas.List.{length-map, length-append, length-take-le}
use Rattle.species_arcs.specs.Pairwise.{Pairwise}
use Rattle.species_arcs.specs.declared.places.Arc.{Arc}
use Rattle.species_arcs.proofs.PairwiseLaws.{pairwise_length}
use Rattle.species_ast.specs.declared.tree.Loop.{Loop, out-Loop}
use Rattle.species_ast.specs.declared.tree.Unit.{Unit as Program}
use Rattle.species_ast.specs.Evaluation.{sizes_of}
use Rattle.species_ast.specs.Run.{source_context}
use Rattle.species_ast.specs.Scope.Hulls.{Range, range_of}
use Rattle.species_ast.specs.Scope.Nests.{front_of}
use Rattle.species_ast.specs.Scope.References.{Reference, references_of}
use Rattle.species_ast.specs.Strip.{source_of, strip_step, strip_layer}
use Rattle.species_ast.proofs.Folds.{fold_loop-out}
use Rattle.species_lines.specs.Lines.{Standing, standing_nest, band_loops, nest_references, AreNestArcs}
use Rattle.species_merge.specs.Arcs.{AreArcsOf}
use Rattle.species_merge.specs.Bounds.{IsBoundOf}
use Rattle.species_merge.specs.declared.bands.BandBound.{BandBound}
use Rattle.species_nests.specs.Nests.{Placed, nest_of}
use Rattle.species_nests.proofs.RunningLaws.{loops_of_nest}
use Rattle.species_occurrences.specs.Anywhere.{unplaced}
use Rattle.species_occurrences.specs.Iterators.{ranges_of}
use Rattle.species_occurrences.specs.Nesting.{bounds_in_nest}
use Rattle.species_occurrences.specs.Surely.{IsOneOf}
use Rattle.species_occurrences.proofs.AnywhereLaws.{nest_alike}
use Rattle.species_occurrences.proofs.FrontLaws.{nests_are_fronts}
use Rattle.species_references.specs.References.{adds_of, IsReference}
use Rattle.species_references.specs.declared.nest.Reference.{Reference as Held}
use Rattle.species_plan_truth.proofs.LineMarks.{plain_loop, same_ranges, same_nest}
use Rattle.species_plan_truth.proofs.MarkLaws.{unmarked_same}

-- ---- references at another position

moved : (sizes : ℕ → List ℕ) (inner : ℕ) (hs : List Held) (qs : List Reference) → Pairwise (IsReference sizes inner) hs qs → Pairwise (IsReference sizes inner) hs (map unplaced qs)
moved sizes inner [] [] h = tt
moved sizes inner [] (q ∷ qs) h = absurd h
moved sizes inner (r ∷ hs) [] h = absurd h
moved sizes inner (r ∷ hs) (q ∷ qs) h = (
  record { array = h.0.array; direction = h.0.direction; subs = h.0.subs; numbers = h.0.numbers; conditional = h.0.conditional; path = h.0.path; boxes = h.0.boxes },
  moved sizes inner hs qs h.1,
)

moved_back : (sizes : ℕ → List ℕ) (inner : ℕ) (hs : List Held) (qs : List Reference) → Pairwise (IsReference sizes inner) hs (map unplaced qs) → Pairwise (IsReference sizes inner) hs qs
moved_back sizes inner [] [] h = tt
moved_back sizes inner [] (q ∷ qs) h = absurd h
moved_back sizes inner (r ∷ hs) [] h = absurd h
moved_back sizes inner (r ∷ hs) (q ∷ qs) h = (
  record { array = h.0.array; direction = h.0.direction; subs = h.0.subs; numbers = h.0.numbers; conditional = h.0.conditional; path = h.0.path; boxes = h.0.boxes },
  moved_back sizes inner hs qs h.1,
)

shown_elsewhere : (sizes : ℕ → List ℕ) (inner : ℕ) (hs : List Held) (qs ps : List Reference) → map unplaced qs ≡ map unplaced ps → Pairwise (IsReference sizes inner) hs qs → Pairwise (IsReference sizes inner) hs ps
shown_elsewhere sizes inner hs qs ps e h = moved_back sizes inner hs ps (subst (Pairwise (IsReference sizes inner) hs) e (moved sizes inner hs qs h))

one_of_own : (qs : List Reference) (k : ℕ) (d : Reference) → k < length qs → IsOneOf (slice_index_or qs k d) qs
one_of_own [] k d l = absurd (omega (arith, l))
one_of_own (q ∷ qs) zero d l = inl refl
one_of_own (q ∷ qs) (suc k) d l = inr (one_of_own qs k d (omega (arith, l)))

-- ---- bounds

abbrev Bounds : Loop → BandBound → Type 0
Bounds l b = IsBoundOf (out-Loop l) b

bound_plain : (l : Loop) (b : BandBound) → Bounds l b → Bounds (plain_loop l) b
bound_plain l b h = subst (λ k. IsBoundOf (out-Loop k) b) (sym (fold_loop-out strip_step (strip_layer false) l)) (record { least = h.least; greatest = h.greatest; step = h.step })

bound_marked : (l : Loop) (b : BandBound) → Bounds (plain_loop l) b → Bounds l b
bound_marked l b h =
    let opened = subst (λ k. IsBoundOf (out-Loop k) b) (fold_loop-out strip_step (strip_layer false) l) h in
    record { least = opened.least; greatest = opened.greatest; step = opened.step }

bounds_same : (ls ks : List Loop) (bs : List BandBound) → map plain_loop ls ≡ map plain_loop ks → Pairwise Bounds ls bs → Pairwise Bounds ks bs
bounds_same [] [] [] e h = tt
bounds_same [] [] (b ∷ bs) e h = absurd h
bounds_same [] (k ∷ ks) bs e h = absurd cc
bounds_same (l ∷ ls) [] bs e h = absurd cc
bounds_same (l ∷ ls) (k ∷ ks) [] e h = absurd h
bounds_same (l ∷ ls) (k ∷ ks) (b ∷ bs) e h =
    let one : plain_loop l ≡ plain_loop k = cc in
    let more : map plain_loop ls ≡ map plain_loop ks = cc in
    (bound_marked k b (subst (λ z. Bounds z b) one (bound_plain l b h.0)), bounds_same ls ks bs more h.1)

bounds_of_loops : (ps : List Placed) (bs : List BandBound) → Pairwise (λ p b. IsBoundOf (out-Loop p.loop) b) ps bs → Pairwise Bounds (loops_of_nest ps) bs
bounds_of_loops [] [] h = tt
bounds_of_loops [] (b ∷ bs) h = absurd h
bounds_of_loops (p ∷ ps) [] h = absurd h
bounds_of_loops (p ∷ ps) (b ∷ bs) h = (h.0, bounds_of_loops ps bs h.1)

-- ---- how many loops

pub ranges_length : (path : List Range) (ls : List Loop) → length (ranges_of path ls) ≡ length path + length ls
ranges_length path [] = omega arith
ranges_length path (l ∷ ls) =
    let rest = ranges_length (path ++ range_of path (out-Loop l) ∷ []) ls in
    omega (arith, rest, length-append path (range_of path (out-Loop l) ∷ []))

same_length : (ls ks : List Loop) → map plain_loop ls ≡ map plain_loop ks → length ls ≡ length ks
same_length ls ks e = sym (length-map ls plain_loop) ∙ ap length e ∙ length-map ks plain_loop

-- a nest has the loops of its band, where so many are perfectly nested
pub nest_deep : (d : ℕ) (l : Loop) (at : List ℕ) → suc d ≤ length (front_of l) → length (nest_of d l at).loops ≡ suc d
nest_deep d l at enough = sym (length-map (nest_of d l at).loops bounds_in_nest) ∙ ap length (nests_are_fronts d l at) ∙ length-take-le (suc d) (front_of l) enough

-- ---- the arcs

-- What the plan of a nest has beside its decision: the references of the nest, in which a `+=` on a gathered array is one add, the
-- bounds of the band, and their arcs.
pub record BandArcs (u : Program) (s : Standing) (gathered : List ℕ) (arcs : List Arc) : Type 0 where
  pub deep : suc s.below ≤ length (front_of s.head)
  pub refs : List Held
  pub bands : List BandBound
  pub shown : Pairwise (IsReference (sizes_of (source_context u)) (length (ranges_of [] s.around) + suc s.below)) refs (references_of (adds_of gathered) s.head [] (ranges_of [] s.around) (suc s.below))
  pub bounds : Pairwise (λ p b. IsBoundOf (out-Loop p.loop) b) (nest_of s.below s.head []).loops bands
  pub merged : AreArcsOf (length (ranges_of [] s.around)) bands refs arcs

-- the other nest, in a unit with this source
pub record IsElsewhere (u v : Program) (s n : Standing) : Type 0 where
  pub source : source_of v ≡ u
  pub around : map plain_loop n.around ≡ map plain_loop s.around
  pub head : plain_loop n.head ≡ plain_loop s.head
  pub below : n.below ≡ s.below

pub same_sizes : (u v : Program) → source_of v ≡ u → sizes_of (source_context v) ≡ sizes_of (source_context u)
same_sizes u v e = ap (λ z. sizes_of (source_context z)) e

pub same_path : (u v : Program) (s n : Standing) → IsElsewhere u v s n → ranges_of [] n.around ≡ ranges_of [] s.around
same_path u v s n e = same_ranges n.around s.around e.around

pub band_plain : (u v : Program) (s n : Standing) → IsElsewhere u v s n → map plain_loop (band_loops n) ≡ map plain_loop (loops_of_nest (nest_of s.below s.head []).loops)
band_plain u v s n e = ap (λ d. map plain_loop (loops_of_nest (nest_of d n.head n.at).loops)) e.below ∙ same_nest s.below n.head s.head n.at [] e.head

pub band_deep : (u v : Program) (s n : Standing) → IsElsewhere u v s n → suc s.below ≤ length (front_of s.head) → length (standing_nest n).loops ≡ suc s.below
band_deep u v s n e deep =
    sym (length-map (standing_nest n).loops (λ p. p.loop))
    ∙ same_length (band_loops n) (loops_of_nest (nest_of s.below s.head []).loops) (band_plain u v s n e)
    ∙ length-map (nest_of s.below s.head []).loops (λ p. p.loop) ∙ nest_deep s.below s.head [] deep

pub outer_length : (u v : Program) (s n : Standing) → IsElsewhere u v s n → length (ranges_of [] s.around) ≡ length n.around
outer_length u v s n e = omega (arith, ranges_length [] s.around, same_length n.around s.around e.around)

pub band_arcs : (u v : Program) (s n : Standing) (gathered : List ℕ) (arcs : List Arc) → BandArcs u s gathered arcs → IsElsewhere u v s n
    → AreNestArcs (sizes_of (source_context v)) (adds_of gathered) n (nest_references (adds_of gathered) n) arcs
band_arcs u v s n gathered arcs has e =
    let adds = adds_of gathered in
    let path = ranges_of [] s.around in
    let sizes = same_sizes u v e.source in
    let qs = nest_references adds n in
    let count = band_deep u v s n e has.deep in
    let ranges = same_path u v s n e in
    let outer = outer_length u v s n e in
    let loops = bounds_same (loops_of_nest (nest_of s.below s.head []).loops) (band_loops n) has.bands (sym (band_plain u v s n e)) (bounds_of_loops (nest_of s.below s.head []).loops has.bands has.bounds) in
    let counted : length (band_loops n) ≡ length has.bands = pairwise_length Bounds (band_loops n) has.bands loops in
    let inner : length path + suc s.below ≡ length n.around + length has.bands = omega (arith, outer, counted, count, length-map (standing_nest n).loops (λ p. p.loop)) in
    let same : map unplaced (references_of adds s.head [] path (suc s.below)) ≡ map unplaced qs =
    nest_alike adds s.head [] n.at path (suc s.below)
    ∙ ap (map unplaced) (sym (unmarked_same gathered n.head s.head n.at path (suc s.below) e.head) ∙ (λ i. references_of adds n.head n.at (sym ranges i) (sym count i))) in
    let shown = shown_elsewhere (sizes_of (source_context u)) (length path + suc s.below) has.refs (references_of adds s.head [] path (suc s.below)) qs same has.shown in
    record {
      among = λ k d l. one_of_own qs k d l;
      bands = has.bands;
      bounds = loops;
      refs = has.refs;
      shown = subst (λ z. Pairwise (IsReference z (length n.around + length has.bands)) has.refs qs) (sym sizes) (subst (λ k. Pairwise (IsReference (sizes_of (source_context u)) k) has.refs qs) inner shown);
      merged = subst (λ k. AreArcsOf k has.bands has.refs arcs) outer has.merged;
    }
