-- A reference that is like an earlier one need not be tested again.
use Rattle.std.proofs.Common.{◌≡◌, refl, ap, sym, ◌∙◌, subst, arith, ℕ, ◌+◌, ◌<◌, ◌≤◌, List, length, ◌⊎◌, inl, inr, Option, Some, None, All, Contains, true, false}
use Rattle.std.specs.Prelude.{slice_index_or}
use Rattle.std.proofs.lemmas.List.{get_or_default}
use Rattle.species_affine.specs.declared.subscript.Subscript.{Subscript}
use Rattle.species_linear.specs.declared.loops.LoopRange.{LoopRange}
use Rattle.species_linear.specs.Box.{range_at}
use Rattle.species_references.specs.declared.nest.Reference.{Reference}
use Rattle.species_region.specs.Region.{IsEmptyRegion}
use Rattle.species_depend.specs.Refuted.{directed, SomeRulesOut, IsSmallReference, IsTestable}
use Rattle.species_depend.specs.Carried.{IsWritten, IsPossible, Carries, AreAsked, Precedes}
use Rattle.species_depend.specs.Alike.{IsAlike, HasTwin}
use Rattle.species_depend.proofs.LeastLemmas.{before_or_at, IsFirstBelow}

-- ---- what is carried with one is carried with the other

-- what the tests see of a reference
abbrev PossibleOf : ℕ → ℕ → (ps qs : List LoopRange) (ss ts : List Subscript) → Type 0
PossibleOf outer level ps qs ss ts =
    ¬ ((IsEmptyRegion (directed outer level true) ps qs ⊎ SomeRulesOut (directed outer level true) ps qs ss ts)
    × (IsEmptyRegion (directed outer level false) ps qs ⊎ SomeRulesOut (directed outer level false) ps qs ss ts))

possible_alike : (outer level : ℕ) (p q r u : Reference) → IsAlike r p → IsAlike u q → IsPossible outer level p q → IsPossible outer level r u
possible_alike outer level p q r u a b possible =
    subst (λ (ps : List LoopRange). PossibleOf outer level ps u.path r.subs u.subs) (sym a.path)
    (subst (λ (qs : List LoopRange). PossibleOf outer level p.path qs r.subs u.subs) (sym b.path)
    (subst (λ (ss : List Subscript). PossibleOf outer level p.path q.path ss u.subs) (sym a.subs)
    (subst (λ (ts : List Subscript). PossibleOf outer level p.path q.path p.subs ts) (sym b.subs) possible)))

written_alike : (p q r u : Reference) → IsAlike r p → IsAlike u q → IsWritten p ⊎ IsWritten q → IsWritten r ⊎ IsWritten u
written_alike p q r u a b (inl h) = inl (λ e. h (sym a.dir ∙ e))
written_alike p q r u a b (inr h) = inr (λ e. h (sym b.dir ∙ e))

pub carries_alike : (outer level : ℕ) (exempt : List ℕ) (p q r u : Reference) → IsAlike r p → IsAlike u q → r.number ≤ u.number → Carries outer level exempt p q → Carries outer level exempt r u
carries_alike outer level exempt p q r u a b order h = record {
  order = order;
  array = a.array ∙ (h.array ∙ sym b.array);
  written = written_alike p q r u a b h.written;
  counts = λ c. h.counts (subst (Contains exempt) a.array c);
  possible = possible_alike outer level p q r u a b h.possible;
}

pub alike_itself : (p : Reference) → IsAlike p p
alike_itself p = record { array = refl; dir = refl; subs = refl; path = refl }

-- ---- a twin that is found

pub twin_here : (refs : List Reference) (place at least : ℕ) (p q : Reference) → place < at → at < length refs → p ≡ slice_index_or refs place p → q ≡ slice_index_or refs at q
    → IsAlike p q → least ≤ p.number → p.number ≤ q.number → HasTwin refs at least
twin_here refs place at least p q before below is_p is_q same above under = record {
  place = place;
  earlier = before;
  alike = λ d. subst (λ (x : Reference). IsAlike (slice_index_or refs place d) x) (here_q d) (subst (λ (x : Reference). IsAlike x q) (here_p d) same);
  above = λ d. subst (λ (x : Reference). least ≤ x.number) (here_p d) above;
  below = λ d. subst (λ (x : Reference). (slice_index_or refs place d).number ≤ x.number) (here_q d) (subst (λ (x : Reference). x.number ≤ q.number) (here_p d) under);
}
  where
    here_p : (d : Reference) → p ≡ slice_index_or refs place d
    here_p d = is_p ∙ get_or_default refs place p d (omega (arith, before, below))

    here_q : (d : Reference) → q ≡ slice_index_or refs at d
    here_q d = is_q ∙ get_or_default refs at q d below

-- ---- the first of a pair is passed over

pub precedes_later : (f : ℕ × ℕ) (a b l : ℕ) → a ≤ b → Precedes f a l → Precedes f b l
precedes_later f a b l less h = (omega (arith, less, h.0), λ e. h.1 (omega (arith, e, less, h.0)))

-- what the level carries with the reference at a place, it carries with the twin
with_twin : (refs : List Reference) (outer level : ℕ) (exempt : List ℕ) (i least : ℕ) (d q : Reference) (twin : HasTwin refs i least)
    → Carries outer level exempt (slice_index_or refs i d) q → Carries outer level exempt (slice_index_or refs twin.place d) q
with_twin refs outer level exempt i least d q twin c =
    carries_alike outer level exempt (slice_index_or refs i d) q (slice_index_or refs twin.place d) q (twin.alike d) (alike_itself q) (omega (arith, twin.below d, c.order)) c

-- all pairs of the twin come at or after the one found, and so do those of the reference at the next place
pub skip_first : (refs : List Reference) (outer level : ℕ) (exempt : List ℕ) (i least : ℕ) (found : Option (ℕ × ℕ)) → HasTwin refs i least
    → IsFirstBelow (Carries outer level exempt) refs i found → IsFirstBelow (Carries outer level exempt) refs (i + 1) found
skip_first refs outer level exempt i least None twin before = λ k d h. elim (before_or_at k i h) [
  | inl less ↦ before k d less
  | inr same ↦ subst (λ (m : ℕ). All (λ q. ¬ Carries outer level exempt (slice_index_or refs m d) q) refs) (sym same)
      (λ j e under c. before twin.place d twin.earlier j e under (with_twin refs outer level exempt i least d (slice_index_or refs j e) twin c))
]
skip_first refs outer level exempt i least (Some f) twin before = (
  (before.0.0, before.0.1, omega (arith, before.0.2), before.0.3, before.0.4),
  (λ k d h. elim (before_or_at k i h) [
    | inl less ↦ before.1 k d less
    | inr same ↦ subst (λ (m : ℕ). All (λ q. Carries outer level exempt (slice_index_or refs m d) q → Precedes f (slice_index_or refs m d).number q.number) refs) (sym same)
        (λ j e under c. precedes_later f (slice_index_or refs twin.place d).number (slice_index_or refs i d).number (slice_index_or refs j e).number (twin.below d)
        (before.1 twin.place d twin.earlier j e under (with_twin refs outer level exempt i least d (slice_index_or refs j e) twin c)))
  ]),
)

-- ---- what may be tested, at a place

pub asked_here : (refs : List Reference) (outer level : ℕ) (i j : ℕ) (p q : Reference) → i < length refs → j < length refs → p ≡ slice_index_or refs i p → q ≡ slice_index_or refs j q
    → AreAsked refs outer level → p.array ≡ q.array → IsTestable (directed outer level true) p q
asked_here refs outer level i j p q below below_other is_p is_q asked =
    subst (λ (x : Reference). p.array ≡ x.array → IsTestable (directed outer level true) p x) (sym is_q)
    (subst (λ (y : Reference). (k : ℕ) (d : Reference) → k < length refs → y.array ≡ (slice_index_or refs k d).array → IsTestable (directed outer level true) y (slice_index_or refs k d)) (sym is_p)
    (asked i p below) j q below_other)

-- references in the same loops may be tested at each level of these
pub asked_of_one_path : (refs : List Reference) (path : List LoopRange) (outer level : ℕ) → outer + level < length path → All (λ r. (r.path ≡ path) × IsSmallReference r) refs → AreAsked refs outer level
asked_of_one_path refs path outer level inside each i d below j e under same =
    let a = each i d below in
    let b = each j e under in
    record {
      loops = record {
        first = subst (λ (p : List LoopRange). outer + level < length p) (sym a.0) inside;
        second = subst (λ (p : List LoopRange). outer + level < length p) (sym b.0) inside;
        same = λ k h. ap (λ (p : List LoopRange). range_at p k) (a.0 ∙ sym b.0);
      };
      first = a.1;
      second = b.1;
    }
