-- The array that a reason names, and the decision that gives the reason.
use Rattle.std.proofs.Common.{◌≡◌, ◌≢◌, refl, ap, sym, ◌∙◌, subst, ℕ, ◌<◌, ◌≤◌, List, length, take, take_all, All}
use Rattle.std.specs.Prelude.{slice_index_or}
use Rattle.std.specs.List.{Any}
use Rattle.species_arcs.specs.declared.plans.Reason.TheVariants as reason
use Rattle.species_references.specs.declared.nest.Reference.{Reference}
use Rattle.species_classify.specs.declared.bands.Band.{Band}
use Rattle.species_classify.specs.declared.bands.Band.TheVariants.{Carried}
use Rattle.species_classify.specs.declared.decide.Decision.{Decision}
use Rattle.species_classify.specs.Bands.{IsBandOf}
use Rattle.species_classify.specs.Decisions.{sequential, IsSharedDecisionOf}

-- ---- the array of a reference

pub array_here : (refs items : List Reference) (number i : ℕ) (r : Reference) → items ≡ refs → i < length items → r ≡ slice_index_or items i r → r.number ≡ number
    → Any (λ p. (p.number ≡ number) × (p.array ≡ r.array)) refs
array_here refs items number i r same below at is =
    subst (λ (rs : List Reference). Any (λ (p : Reference). (p.number ≡ number) × (p.array ≡ r.array)) rs) same (i, r, below, sym at, (is, refl))

pub none_numbered : (refs items : List Reference) (number i : ℕ) → items ≡ refs → length items ≤ i → All (λ p. p.number ≢ number) (take i items) → Any (λ p. p.number ≡ number) refs → ⊥
none_numbered refs items number i same past others h =
    let all : All (λ (p : Reference). p.number ≢ number) refs = subst (λ (rs : List Reference). All (λ (p : Reference). p.number ≢ number) rs) (take_all i items past ∙ same) others in
    all h.0 h.1 h.2 (ap (λ (p : Reference). p.number) h.3 ∙ h.4)

-- ---- with the gathered arrays exempt

pub shared_carried : (refs : List Reference) (outer front : ℕ) (gathered exempt : List ℕ) (b : Band) (array first second : ℕ) (d : Decision) → exempt ≡ gathered → b ≡ Carried first second
    → IsBandOf refs outer front exempt b → Any (λ p. (p.number ≡ first) × (p.array ≡ array)) refs → d ≡ sequential (reason.Carried array first second) → IsSharedDecisionOf refs outer front gathered d
shared_carried refs outer front gathered exempt b array first second d same is h there e =
    (Carried first second, subst (λ (xs : List ℕ). IsBandOf refs outer front xs (Carried first second)) same (subst (IsBandOf refs outer front exempt) is h), (array, there, e))
