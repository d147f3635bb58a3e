-- The dependences that a level of a nest carries: pairs of references that may touch one place in different iterations of it.
use Rattle.std.specs.Prelude.{◌≡◌, ◌≢◌, ℕ, ◌<◌, ◌≤◌, true, false, List, Option, Some, None, ◌⊎◌, All, Contains}
use Rattle.std.specs.List.{Any}
use Rattle.species_arcs.specs.declared.places.Dir.TheVariants.{Read}
use Rattle.species_references.specs.declared.nest.Reference.{Reference}
use Rattle.species_depend.specs.Refuted.{directed, IsRefuted, IsTestable}

-- The reference changes its element: it writes it, or adds to it.
abbrev pub IsWritten : Reference → Type 0
IsWritten p = p.dir ≢ Read

-- The pair is not refuted in both directions.
abbrev pub IsPossible : ℕ → ℕ → Reference → Reference → Type 0
IsPossible outer level p q = ¬ (IsRefuted (directed outer level true) p q × IsRefuted (directed outer level false) p q)

-- The level carries the pair, where these arrays are exempt.
pub record Carries (outer level : ℕ) (exempt : List ℕ) (p q : Reference) : Type 0 where
  pub order : p.number ≤ q.number
  pub array : p.array ≡ q.array
  pub written : IsWritten p ⊎ IsWritten q
  pub counts : ¬ Contains exempt p.array
  pub possible : IsPossible outer level p q

-- It carries no pair of the list.
abbrev pub CarriesNone : List Reference → ℕ → ℕ → List ℕ → Type 0
CarriesNone refs outer level exempt = All (λ p. All (λ q. ¬ Carries outer level exempt p q) refs) refs

-- What the search asks: each two references to one array may be tested at the level, and so may each with itself.
abbrev pub AreAsked : List Reference → ℕ → ℕ → Type 0
AreAsked refs outer level = All (λ p. All (λ q. p.array ≡ q.array → IsTestable (directed outer level true) p q) refs) refs

-- ---- the first pair

-- the pair stands at or before (k, l): by the first numbers, and where these are equal by the second
abbrev pub Precedes : ℕ × ℕ → ℕ → ℕ → Type 0
Precedes found k l = (found.0 ≤ k) × (found.0 ≡ k → found.1 ≤ l)

-- The numbers of the first pair of the list that C holds of; or there is none.
abbrev pub IsFirstOf : (Reference → Reference → Type 0) → List Reference → Option (ℕ × ℕ) → Type 0
IsFirstOf C refs None = All (λ p. All (λ q. ¬ C p q) refs) refs
IsFirstOf C refs (Some found) =
    Any (λ p. (p.number ≡ found.0) × Any (λ q. C p q × (q.number ≡ found.1)) refs) refs
    × All (λ p. All (λ q. C p q → Precedes found p.number q.number) refs) refs

-- ---- on the way to it

-- some pair is found, and stands there
abbrev pub AtOrBefore : Option (ℕ × ℕ) → ℕ → ℕ → Type 0
AtOrBefore None k l = ⊥
AtOrBefore (Some found) k l = Precedes found k l

-- the number is below the one found, if any is
abbrev pub IsNear : ℕ → Option ℕ → Type 0
IsNear n None = Unit {0}
IsNear n (Some m) = n < m

-- of the list's references that P holds of, the least number; or it holds of none
abbrev pub IsLeastNumber : (Reference → Type 0) → List Reference → Option ℕ → Type 0
IsLeastNumber P refs None = All (λ q. ¬ P q) refs
IsLeastNumber P refs (Some n) = Any (λ q. P q × (q.number ≡ n)) refs × All (λ q. P q → n ≤ q.number) refs
