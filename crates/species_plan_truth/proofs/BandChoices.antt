-- What a decision says of the band of a nest that is parallel.
use Rattle.std.proofs.Common.{◌≡◌, refl, ap, sym, subst, arith, ℕ, ◌<◌, ◌≤◌, List, [], ◌∷◌, length, None, ◌⊎◌, inl, inr}
use Rattle.species_ast.specs.Scope.Hulls.{Range}
use Rattle.species_ast.specs.Scope.Nests.{front_of}
use Rattle.species_ast.specs.declared.tree.Loop.{Loop, out-Loop}
use Rattle.species_ast.specs.declared.tree.Unit.{Unit as Program}
use Rattle.species_classify.specs.Bands.{IsBandOf}
use Rattle.species_classify.specs.Decisions.{IsSharedDecision, IsPlainDecision, IsDecisionWith, IsDecision}
use Rattle.species_classify.specs.declared.bands.Band.{Band}
use Rattle.species_classify.specs.declared.bands.Band.TheVariants.{Free, Carried}
use Rattle.species_classify.specs.declared.decide.Decision.{Decision}
use Rattle.species_gather.specs.Summed.{summed_arrays}
use Rattle.species_loops.specs.Bands.{IsLongestBand}
use Rattle.species_references.specs.declared.nest.Reference.{Reference}
use Rattle.species_runs.specs.Scopes.{outer_locals_set}

-- its loops are the first of the longest band, and there is no reason
abbrev IsWithin : ℕ → Decision → Type 0
IsWithin front d = (d.depth ≤ front) × (d.reason ≡ None)

abbrev IsSettled : ℕ → Decision → Type 0
IsSettled front d = (d.depth ≡ 0) ⊎ IsWithin front d

by_shared : (refs : List Reference) (outer front : ℕ) (gathered : List ℕ) (shared : Band) (d : Decision) → IsBandOf refs outer front gathered shared → IsSharedDecision refs gathered shared d → IsSettled front d
by_shared refs outer front gathered (Free depth) d is same = subst (IsSettled front) (sym same) (inr (is.1.within, refl))
by_shared refs outer front gathered (Carried first second) d is found = subst (IsSettled front) (sym found.2) (inl refl)

by_plain : (refs : List Reference) (outer front : ℕ) (gathered : List ℕ) (plain : Band) (d : Decision) → IsBandOf refs outer front [] plain → IsPlainDecision refs outer front gathered plain d → IsSettled front d
by_plain refs outer front gathered (Free depth) d is same = subst (IsSettled front) (sym same) (inr (is.1.within, refl))
by_plain refs outer front gathered (Carried first second) d is (shared, band, decided) = by_shared refs outer front gathered shared d band decided

pub record IsChosen (level : ℕ) (head : Loop) (d : Decision) : Type 0 where
  pub front : ℕ
  pub longest : IsLongestBand level (front_of head) front
  pub within : d.depth ≤ front
  pub none : d.reason ≡ None

with_locals : (u : Program) (head : Loop) (path : List Range) (locals : List ℕ) (d : Decision) → IsDecisionWith locals u head path d → 0 < d.depth → IsChosen (length path) head d
with_locals u head path (x ∷ locals) d same some = let none : d.depth ≡ 0 = ap (λ (e : Decision). e.depth) same in absurd (omega (arith, none, some))
with_locals u head path [] d (refs, front, plain, longest, decided) some = go (by_plain refs (length path) front (summed_arrays u head) decided.0 d decided.1 decided.2)
  where
    go : IsSettled front d → IsChosen (length path) head d
    go (inl none) = absurd (omega (arith, none, some))
    go (inr is) = record { front = front; longest = longest; within = is.0; none = is.1 }

pub chosen : (u : Program) (head : Loop) (path : List Range) (d : Decision) → IsDecision u head path d → 0 < d.depth → IsChosen (length path) head d
chosen u head path d is some = with_locals u head path (outer_locals_set (out-Loop head).body) d is some
