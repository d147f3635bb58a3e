-- The depth of a band, level by level.
use Rattle.std.proofs.Common.{◌≡◌, subst, sym, arith, ℕ, ◌+◌, ◌<◌, ◌≤◌, List, length, ◌⊎◌, inl, inr, Option, Some, None}
use Rattle.std.specs.Prelude.{slice_index_or}
use Rattle.std.proofs.lemmas.Bool.{cases_lt}
use Rattle.species_references.specs.declared.nest.Reference.{Reference}
use Rattle.species_depend.specs.Carried.{Carries, CarriesNone, IsFirstOf}
use Rattle.species_classify.specs.Bands.{IsDepth}

-- a pair that is found is carried
pub found_carries : (refs : List Reference) (outer level : ℕ) (exempt : List ℕ) (o : Option (ℕ × ℕ)) (f : ℕ × ℕ) → o ≡ Some f → IsFirstOf (Carries outer level exempt) refs o → ¬ CarriesNone refs outer level exempt
found_carries refs outer level exempt o f is h none =
    let found = (subst (IsFirstOf (Carries outer level exempt) refs) is h).0 in
    let p = found.1 in
    let inner = found.4.1 in
    let q = inner.1 in
    let at_p : (k : ℕ) (d : Reference) → k < length refs → ¬ Carries outer level exempt p (slice_index_or refs k d) =
    subst (λ (r : Reference). (k : ℕ) (d : Reference) → k < length refs → ¬ Carries outer level exempt r (slice_index_or refs k d)) found.3 (none found.0 p found.2) in
    subst (λ (r : Reference). ¬ Carries outer level exempt p r) inner.3 (at_p inner.0 q inner.2) inner.4.0

pub none_carried : (refs : List Reference) (outer level : ℕ) (exempt : List ℕ) (o : Option (ℕ × ℕ)) → o ≡ None → IsFirstOf (Carries outer level exempt) refs o → CarriesNone refs outer level exempt
none_carried refs outer level exempt o is h = subst (IsFirstOf (Carries outer level exempt) refs) is h

abbrev pub FreeBelow : List Reference → ℕ → List ℕ → ℕ → Type 0
FreeBelow refs outer exempt n = (k : ℕ) → k < n → CarriesNone refs outer k exempt

before_or_at : (k i : ℕ) → k < i + 1 → (k < i) ⊎ (k ≡ i)
before_or_at k i h = elim (cases_lt k i) [
  | inl less ↦ inl less
  | inr more ↦ inr (omega (arith, h, more))
]

pub free_first : (refs : List Reference) (outer : ℕ) (exempt : List ℕ) → CarriesNone refs outer 0 exempt → FreeBelow refs outer exempt 1
free_first refs outer exempt here k h = let same : k ≡ 0 = omega (arith, h) in subst (λ (m : ℕ). CarriesNone refs outer m exempt) (sym same) here

pub free_next : (refs : List Reference) (outer : ℕ) (exempt : List ℕ) (n : ℕ) → FreeBelow refs outer exempt n → CarriesNone refs outer n exempt → FreeBelow refs outer exempt (n + 1)
free_next refs outer exempt n below here k h = elim (before_or_at k n h) [
  | inl less ↦ below k less
  | inr same ↦ subst (λ (m : ℕ). CarriesNone refs outer m exempt) (sym same) here
]

pub free_end : (refs : List Reference) (outer front : ℕ) (exempt : List ℕ) (n : ℕ) → front ≤ n → FreeBelow refs outer exempt n → IsDepth refs outer front exempt front
free_end refs outer front exempt n all below = record {
  within = omega arith;
  free = λ k h. below k (omega (arith, h, all));
  stopped = λ h. absurd (omega (arith, h));
}

pub stop_here : (refs : List Reference) (outer front : ℕ) (exempt : List ℕ) (n : ℕ) → n < front → FreeBelow refs outer exempt n → ¬ CarriesNone refs outer n exempt → IsDepth refs outer front exempt n
stop_here refs outer front exempt n h below not = record { within = omega (arith, h); free = below; stopped = λ less. not }
