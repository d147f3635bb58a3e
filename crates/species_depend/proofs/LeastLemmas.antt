-- The least number so far, and the first pair so far.
use Rattle.std.proofs.Common.{◌≡◌, refl, sym, ◌∙◌, subst, arith, ℕ, ◌+◌, ◌<◌, ◌≤◌, List, length, ◌⊎◌, inl, inr, Option, Some, None, All}
use Rattle.std.specs.Prelude.{slice_index_or, IfNone, IfSome}
use Rattle.std.specs.List.{Any}
use Rattle.std.proofs.lemmas.List.{get_or_default}
use Rattle.std.proofs.lemmas.Bool.{cases_lt}
use Rattle.species_references.specs.declared.nest.Reference.{Reference}
use Rattle.species_depend.specs.Carried.{IsNear, IsLeastNumber, Precedes, AtOrBefore, IsFirstOf}

-- of the references before the place i that P allows, the least number; or none is allowed
abbrev pub IsLeastBelow : (Reference → Type 0) → List Reference → ℕ → Option ℕ → Type 0
IsLeastBelow P refs i None = (k : ℕ) (d : Reference) → k < i → ¬ P (slice_index_or refs k d)
IsLeastBelow P refs i (Some n) =
    ((k : ℕ) × (q : Reference) × (k < i) × (slice_index_or refs k q ≡ q) × (P q × (q.number ≡ n)))
    × ((k : ℕ) (d : Reference) → k < i → P (slice_index_or refs k d) → n ≤ (slice_index_or refs k d).number)

pub before_or_at : (k i : ℕ) → k < i + 1 → (k < i) ⊎ (k ≡ i)
before_or_at k i h = elim (cases_lt k i) [
  | inl less ↦ inl less
  | inr more ↦ inr (omega (arith, h, more))
]

-- the reference at the place i, whatever the default
pub at_place : (refs : List Reference) (i k : ℕ) (q d : Reference) → i < length refs → q ≡ slice_index_or refs i q → k ≡ i → slice_index_or refs k d ≡ q
at_place refs i k q d below is same = rw same (get_or_default refs i d q below ∙ sym is)

pub not_less : (k m : ℕ) → ¬ (k < m) → m ≤ k
not_less k m h = omega (arith, h)

pub keep_least : (P : Reference → Type 0) (refs : List Reference) (i : ℕ) (q : Reference) (least : Option ℕ) → i < length refs → q ≡ slice_index_or refs i q →
    IsLeastBelow P refs i least → ¬ (IsNear q.number least × P q) → IsLeastBelow P refs (i + 1) least
keep_least P refs i q None below is before not = λ k d h p. elim (before_or_at k i h) [
  | inl less ↦ before k d less p
  | inr same ↦ not (tt, subst P (at_place refs i k q d below is same) p)
]
keep_least P refs i q (Some n) below is before not = (
  (before.0.0, before.0.1, omega (arith, before.0.2), before.0.3, before.0.4),
  (λ k d h p. elim (before_or_at k i h) [
    | inl less ↦ before.1 k d less p
    | inr same ↦
        let here = at_place refs i k q d below is same in
        let far : n ≤ q.number = not_less q.number n (λ near. not (near, subst P here p)) in
        rw here far
  ]),
)

pub take_least : (P : Reference → Type 0) (refs : List Reference) (i : ℕ) (q : Reference) (least : Option ℕ) → i < length refs → q ≡ slice_index_or refs i q →
    IsLeastBelow P refs i least → IsNear q.number least → P q → IsLeastBelow P refs (i + 1) (Some q.number)
take_least P refs i q least below is before near p = (
  (i, q, omega arith, sym is, (p, refl)),
  (λ k d h pk. elim (before_or_at k i h) [
    | inl less ↦ earlier least before near k d less pk
    | inr same ↦ let here = at_place refs i k q d below is same in rw here (omega arith)
  ]),
)
  where
    earlier : (o : Option ℕ) → IsLeastBelow P refs i o → IsNear q.number o → (k : ℕ) (d : Reference) → k < i → P (slice_index_or refs k d) → q.number ≤ (slice_index_or refs k d).number
    earlier None none n k d h pk = absurd (none k d h pk)
    earlier (Some m) some n k d h pk = omega (arith, n, some.1 k d h pk)

pub least_end : (P : Reference → Type 0) (refs : List Reference) (i : ℕ) (least : Option ℕ) → length refs ≤ i → i ≤ length refs → IsLeastBelow P refs i least → IsLeastNumber P refs least
least_end P refs i None most few h = λ k d below. h k d (omega (arith, below, most))
least_end P refs i (Some n) most few h = ((h.0.0, h.0.1, omega (arith, h.0.2, few), h.0.3, h.0.4), (λ k d below. h.1 k d (omega (arith, below, most))))

-- ---- pairs

-- the first pair whose first reference stands before the place i
abbrev pub IsFirstBelow : (Reference → Reference → Type 0) → List Reference → ℕ → Option (ℕ × ℕ) → Type 0
IsFirstBelow C refs i None = (k : ℕ) (d : Reference) → k < i → All (λ q. ¬ C (slice_index_or refs k d) q) refs
IsFirstBelow C refs i (Some found) =
    ((k : ℕ) × (p : Reference) × (k < i) × (slice_index_or refs k p ≡ p) × ((p.number ≡ found.0) × Any (λ q. C p q × (q.number ≡ found.1)) refs))
    × ((k : ℕ) (d : Reference) → k < i → All (λ q. C (slice_index_or refs k d) q → Precedes found (slice_index_or refs k d).number q.number) refs)

pub keep_first : (C : Reference → Reference → Type 0) (refs : List Reference) (i : ℕ) (p : Reference) (found : Option (ℕ × ℕ)) → i < length refs → p ≡ slice_index_or refs i p →
    IsFirstBelow C refs i found → All (λ q. C p q → AtOrBefore found p.number q.number) refs → IsFirstBelow C refs (i + 1) found
keep_first C refs i p None below is before here = λ k d h. elim (before_or_at k i h) [
  | inl less ↦ before k d less
  | inr same ↦ rw (at_place refs i k p d below is same) here
]
keep_first C refs i p (Some f) below is before here = (
  (before.0.0, before.0.1, omega (arith, before.0.2), before.0.3, before.0.4),
  (λ k d h. elim (before_or_at k i h) [
    | inl less ↦ before.1 k d less
    | inr same ↦ rw (at_place refs i k p d below is same) here
  ]),
)

-- what comes before the found pair, as a new first one
passes_on : (f : ℕ × ℕ) (a b k l : ℕ) → ¬ Precedes f a b → Precedes f k l → Precedes (a, b) k l
passes_on f a b k l not old = (first, λ e. second e)
  where
    first : a ≤ k
    first = elim (cases_lt k a) [
      | inl less ↦ absurd (not (omega (arith, less, old.0), λ e. absurd (omega (arith, e, less, old.0))))
      | inr more ↦ more
    ]

    second : a ≡ k → b ≤ l
    second e = elim (cases_lt l b) [
      | inl less ↦ absurd (not (omega (arith, e, old.0), λ s. omega (arith, less, old.1 (s ∙ e))))
      | inr more ↦ more
    ]

pub take_first : (C : Reference → Reference → Type 0) (refs : List Reference) (i : ℕ) (p : Reference) (found : Option (ℕ × ℕ)) (n : ℕ) → i < length refs → p ≡ slice_index_or refs i p →
    IsFirstBelow C refs i found → IsLeastNumber (C p) refs (Some n) → ¬ AtOrBefore found p.number n → IsFirstBelow C refs (i + 1) (Some (p.number, n))
take_first C refs i p found n below is before least not = (
  (i, p, omega arith, sym is, (refl, least.0)),
  (λ k d h. elim (before_or_at k i h) [
    | inl less ↦ earlier found before not k d less
    | inr same ↦ rw (at_place refs i k p d below is same) (λ j e under c. (omega arith, λ s. least.1 j e under c))
  ]),
)
  where
    earlier : (o : Option (ℕ × ℕ)) → IsFirstBelow C refs i o → ¬ AtOrBefore o p.number n → (k : ℕ) (d : Reference) → k < i →
        All (λ q. C (slice_index_or refs k d) q → Precedes (p.number, n) (slice_index_or refs k d).number q.number) refs
    earlier None none not k d h j e under c = absurd (none k d h j e under c)
    earlier (Some f) some not k d h j e under c = passes_on f p.number n _ _ not (some.1 k d h j e under c)

pub first_end : (C : Reference → Reference → Type 0) (refs : List Reference) (i : ℕ) (found : Option (ℕ × ℕ)) → length refs ≤ i → i ≤ length refs → IsFirstBelow C refs i found → IsFirstOf C refs found
first_end C refs i None most few h = λ k d below. h k d (omega (arith, below, most))
first_end C refs i (Some f) most few h = ((h.0.0, h.0.1, omega (arith, h.0.2, few), h.0.3, h.0.4), (λ k d below. h.1 k d (omega (arith, below, most))))

-- ---- what an answer of the search over one reference says

pub if_some : (P : ℕ → Type 0) (o : Option ℕ) (n : ℕ) → o ≡ Some n → IfSome o P → P n
if_some P o n is h = subst (λ (x : Option ℕ). IfSome x P) is h

pub if_none : (P : Type 0) (o : Option ℕ) → o ≡ None → IfNone o P → P
if_none P o is h = subst (λ (x : Option ℕ). IfNone x P) is h

-- no pair of the reference at the place i comes before the one found
pub keep_there : (C : Reference → Reference → Type 0) (refs : List Reference) (i : ℕ) (found : Option (ℕ × ℕ)) → IsFirstBelow C refs i found
    → ((d : Reference) → All (λ q. C (slice_index_or refs i d) q → AtOrBefore found (slice_index_or refs i d).number q.number) refs) → IsFirstBelow C refs (i + 1) found
keep_there C refs i None before here = λ k d h. elim (before_or_at k i h) [
  | inl less ↦ before k d less
  | inr same ↦ subst (λ (m : ℕ). All (λ q. ¬ C (slice_index_or refs m d) q) refs) (sym same) (here d)
]
keep_there C refs i (Some f) before here = (
  (before.0.0, before.0.1, omega (arith, before.0.2), before.0.3, before.0.4),
  (λ k d h. elim (before_or_at k i h) [
    | inl less ↦ before.1 k d less
    | inr same ↦ subst (λ (m : ℕ). All (λ q. C (slice_index_or refs m d) q → Precedes f (slice_index_or refs m d).number q.number) refs) (sym same) (here d)
  ]),
)

-- the least pair of the reference at the place i comes before the one found
pub take_there : (C : Reference → Reference → Type 0) (refs list : List Reference) (i : ℕ) (p : Reference) (found : Option (ℕ × ℕ)) (n : ℕ) → list ≡ refs → i < length refs → IsFirstBelow C refs i found
    → IsLeastNumber (C (slice_index_or refs i p)) refs (Some n) × ¬ AtOrBefore found (slice_index_or refs i p).number n → IsFirstBelow C refs (i + 1) (Some ((slice_index_or list i p).number, n))
take_there C refs list i p found n same below before one =
    subst (λ (xs : List Reference). IsFirstBelow C refs (i + 1) (Some ((slice_index_or xs i p).number, n))) (sym same)
    (take_first C refs i (slice_index_or refs i p) found n below (get_or_default refs i p (slice_index_or refs i p) below) before one.0 one.1)
