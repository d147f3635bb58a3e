-- The places of the references to one array, and the least number among them.
use Rattle.std.proofs.Common.{◌≡◌, refl, sym, ◌∙◌, subst, arith, ℕ, zero, suc, ◌+◌, ◌<◌, ◌≤◌, Bool, true, false, nat_eq, if◌then◌else◌, List, [], ◌∷◌, length, inl, inr, Option, Some, None, All}
use Rattle.std.specs.Prelude.{slice_index_or}
use Rattle.std.proofs.lemmas.List.{get_or_default}
use Rattle.std.proofs.lemmas.Bool.{cases_lt}
use Rattle.std.proofs.lemmas.Bool.Decides.{nat_tests}
use Rattle.species_references.specs.declared.nest.Reference.{Reference}
use Rattle.species_references.specs.Groups.{places_from, places_of}
use Rattle.species_depend.specs.Refuted.{directed, IsTestable}
use Rattle.species_depend.specs.Carried.{IsNear, IsLeastNumber, Carries, AtOrBefore, AreAsked}
use Rattle.species_depend.specs.Alike.{IsAlike, HasTwin}
use Rattle.species_depend.proofs.LeastLemmas.{before_or_at, not_less}
use Rattle.species_depend.proofs.AlikeLemmas.{carries_alike, alike_itself, asked_here}

-- ---- places rise, and are those of the list

abbrev put : Bool → ℕ → List ℕ → List ℕ
put t n ks = if t then n ∷ ks else ks

least_put : (t : Bool) (n : ℕ) (ks : List ℕ) → ((i : ℕ) → i < length ks → n + 1 ≤ slice_index_or ks i 0) → (i : ℕ) → i < length (put t n ks) → n ≤ slice_index_or (put t n ks) i 0
least_put true n ks rest zero h = omega arith
least_put true n ks rest (suc i) h = omega (arith, rest i (omega (arith, h)))
least_put false n ks rest i h = omega (arith, rest i h)

pub place_least : (n array : ℕ) (refs : List Reference) (i : ℕ) → i < length (places_from n array refs) → n ≤ slice_index_or (places_from n array refs) i 0
place_least n array [] i h = absurd (omega (arith, h))
place_least n array (r ∷ refs) i h = least_put (nat_eq r.array array) n (places_from (n + 1) array refs) (place_least (n + 1) array refs) i h

below_put : (t : Bool) (n m : ℕ) (ks : List ℕ) → ((i : ℕ) → i < length ks → slice_index_or ks i 0 < n + 1 + m) → (i : ℕ) → i < length (put t n ks) → slice_index_or (put t n ks) i 0 < n + suc m
below_put true n m ks rest zero h = omega arith
below_put true n m ks rest (suc i) h = omega (arith, rest i (omega (arith, h)))
below_put false n m ks rest i h = omega (arith, rest i h)

pub place_below : (n array : ℕ) (refs : List Reference) (i : ℕ) → i < length (places_from n array refs) → slice_index_or (places_from n array refs) i 0 < n + length refs
place_below n array [] i h = absurd (omega (arith, h))
place_below n array (r ∷ refs) i h = below_put (nat_eq r.array array) n (length refs) (places_from (n + 1) array refs) (place_below (n + 1) array refs) i h

rise_put : (t : Bool) (n : ℕ) (ks : List ℕ) → ((i : ℕ) → i < length ks → n + 1 ≤ slice_index_or ks i 0) → ((i j : ℕ) → i < j → j < length ks → slice_index_or ks i 0 < slice_index_or ks j 0)
    → (i j : ℕ) → i < j → j < length (put t n ks) → slice_index_or (put t n ks) i 0 < slice_index_or (put t n ks) j 0
rise_put true n ks least rest zero zero less h = absurd (omega (arith, less))
rise_put true n ks least rest zero (suc j) less h = omega (arith, least j (omega (arith, h)))
rise_put true n ks least rest (suc i) zero less h = absurd (omega (arith, less))
rise_put true n ks least rest (suc i) (suc j) less h = rest i j (omega (arith, less)) (omega (arith, h))
rise_put false n ks least rest i j less h = rest i j less h

pub places_rise : (n array : ℕ) (refs : List Reference) (i j : ℕ) → i < j → j < length (places_from n array refs) → slice_index_or (places_from n array refs) i 0 < slice_index_or (places_from n array refs) j 0
places_rise n array [] i j less h = absurd (omega (arith, h))
places_rise n array (r ∷ refs) i j less h = rise_put (nat_eq r.array array) n (places_from (n + 1) array refs) (place_least (n + 1) array refs) (places_rise (n + 1) array refs) i j less h

-- each place of a reference to the array is among them
abbrev IsPlace : List ℕ → ℕ → Type 0
IsPlace ks k = (i : ℕ) × (i < length ks) × (slice_index_or ks i 0 ≡ k)

behind_put : (t : Bool) (n k : ℕ) (ks : List ℕ) → IsPlace ks k → IsPlace (put t n ks) k
behind_put true n k ks h = (suc h.0, omega (arith, h.1), h.2)
behind_put false n k ks h = h

pub place_found : (n array : ℕ) (refs : List Reference) (k : ℕ) (d : Reference) → k < length refs → (slice_index_or refs k d).array ≡ array → IsPlace (places_from n array refs) (n + k)
place_found n array [] k d below same = absurd (omega (arith, below))
place_found n array (r ∷ refs) zero d below same =
    let test : nat_eq r.array array ≡ true = grind (arith, nat_tests) in
    rw test (zero, omega arith, omega arith)
place_found n array (r ∷ refs) (suc k) d below same =
    let rest = place_found (n + 1) array refs k d (omega (arith, below)) same in
    behind_put (nat_eq r.array array) n (n + suc k) (places_from (n + 1) array refs) (rest.0, rest.1, omega (arith, rest.2))

-- ---- the least number among the first of these places

-- of the references at the first g places, the least number of those that P allows; or it allows none
abbrev pub IsLeastAmong : (Reference → Type 0) → List Reference → List ℕ → ℕ → Option ℕ → Type 0
IsLeastAmong P refs ks g None = (i : ℕ) (d : Reference) → i < g → ¬ P (slice_index_or refs (slice_index_or ks i 0) d)
IsLeastAmong P refs ks g (Some n) =
    ((k : ℕ) × (q : Reference) × (k < length refs) × (slice_index_or refs k q ≡ q) × (P q × (q.number ≡ n)))
    × ((i : ℕ) (d : Reference) → i < g → P (slice_index_or refs (slice_index_or ks i 0) d) → n ≤ (slice_index_or refs (slice_index_or ks i 0) d).number)

-- the reference at the place of the number g, whatever the default
there : (refs : List Reference) (ks : List ℕ) (g i k : ℕ) (q d : Reference) → k < length refs → k ≡ slice_index_or ks g 0 → q ≡ slice_index_or refs k q → i ≡ g → slice_index_or refs (slice_index_or ks i 0) d ≡ q
there refs ks g i k q d below at is same = rw (same, ← at) (get_or_default refs k d q below ∙ sym is)

pub keep_among : (P : Reference → Type 0) (refs : List Reference) (ks : List ℕ) (g k : ℕ) (q : Reference) (least : Option ℕ) → k < length refs → k ≡ slice_index_or ks g 0 → q ≡ slice_index_or refs k q
    → IsLeastAmong P refs ks g least → ¬ (IsNear q.number least × P q) → IsLeastAmong P refs ks (g + 1) least
keep_among P refs ks g k q None below at is before not = λ i d h p. elim (before_or_at i g h) [
  | inl less ↦ before i d less p
  | inr same ↦ not (tt, subst P (there refs ks g i k q d below at is same) p)
]
keep_among P refs ks g k q (Some n) below at is before not = (
  before.0,
  (λ i d h p. elim (before_or_at i g h) [
    | inl less ↦ before.1 i d less p
    | inr same ↦
        let here = there refs ks g i k q d below at is same in
        let far : n ≤ q.number = not_less q.number n (λ near. not (near, subst P here p)) in
        rw here far
  ]),
)

pub take_among : (P : Reference → Type 0) (refs : List Reference) (ks : List ℕ) (g k : ℕ) (q : Reference) (least : Option ℕ) → k < length refs → k ≡ slice_index_or ks g 0 → q ≡ slice_index_or refs k q
    → IsLeastAmong P refs ks g least → IsNear q.number least → P q → IsLeastAmong P refs ks (g + 1) (Some q.number)
take_among P refs ks g k q least below at is before near p = (
  (k, q, below, sym is, (p, refl)),
  (λ i d h pk. elim (before_or_at i g h) [
    | inl less ↦ earlier least before near i d less pk
    | inr same ↦ let here = there refs ks g i k q d below at is same in rw here (omega arith)
  ]),
)
  where
    earlier : (o : Option ℕ) → IsLeastAmong P refs ks g o → IsNear q.number o → (i : ℕ) (d : Reference) → i < g → P (slice_index_or refs (slice_index_or ks i 0) d) → q.number ≤ (slice_index_or refs (slice_index_or ks i 0) d).number
    earlier None none n i d h pk = absurd (none i d h pk)
    earlier (Some m) some n i d h pk = omega (arith, n, some.1 i d h pk)

-- The reference at the next place has a twin among those passed, with which the level carries p if it does with this one.
pub skip_among : (refs : List Reference) (outer level : ℕ) (exempt : List ℕ) (array g k : ℕ) (p q : Reference) (least : Option ℕ) → g < length (places_of array refs) → k < length refs
    → k ≡ slice_index_or (places_of array refs) g 0 → q ≡ slice_index_or refs k q → p.array ≡ array → HasTwin refs k p.number
    → IsLeastAmong (Carries outer level exempt p) refs (places_of array refs) g least → IsLeastAmong (Carries outer level exempt p) refs (places_of array refs) (g + 1) least
skip_among refs outer level exempt array g k p q least inside below at is named twin before =
    keep_among (Carries outer level exempt p) refs (places_of array refs) g k q least below at is before (λ h. passed least before h.0 h.1)
  where
    t : Reference
    t = slice_index_or refs twin.place q

    with_twin : Carries outer level exempt p q → Carries outer level exempt p t
    with_twin c =
        let same : IsAlike t q = subst (λ (x : Reference). IsAlike t x) (sym is) (twin.alike q) in
        carries_alike outer level exempt p q p t (alike_itself p) same (twin.above q) c

    late : (i : ℕ) → i < length (places_of array refs) → slice_index_or (places_of array refs) i 0 ≡ twin.place → g ≤ i → ⊥
    late i under place more = elim (cases_lt g i) [
      | inl less ↦ omega (arith, places_rise 0 array refs g i less under, place, at, twin.earlier)
      | inr most ↦
          let same : i ≡ g = omega (arith, more, most) in
          let here : slice_index_or (places_of array refs) i 0 ≡ k = subst (λ (m : ℕ). slice_index_or (places_of array refs) m 0 ≡ k) (sym same) (sym at) in
          omega (arith, here, place, twin.earlier)
    ]

    first : (i : ℕ) → i < length (places_of array refs) → slice_index_or (places_of array refs) i 0 ≡ twin.place → i < g
    first i under place = elim (cases_lt i g) [
      | inl less ↦ less
      | inr more ↦ absurd (late i under place more)
    ]

    -- the twin's place is one of those before g
    early : Carries outer level exempt p q → (i : ℕ) × (i < g) × (slice_index_or (places_of array refs) i 0 ≡ twin.place)
    early c =
        let of_array : t.array ≡ array = sym (with_twin c).array ∙ named in
        let found = place_found 0 array refs twin.place q (omega (arith, twin.earlier, below)) of_array in
        let place : slice_index_or (places_of array refs) found.0 0 ≡ twin.place = omega (arith, found.2) in
        (found.0, first found.0 found.1 place, place)

    passed : (o : Option ℕ) → IsLeastAmong (Carries outer level exempt p) refs (places_of array refs) g o → IsNear q.number o → ¬ Carries outer level exempt p q
    passed None none near c =
        let e = early c in
        none e.0 q e.1 (subst (λ (n : ℕ). Carries outer level exempt p (slice_index_or refs n q)) (sym e.2) (with_twin c))
    passed (Some n) some near c =
        let e = early c in
        let least = some.1 e.0 q e.1 (subst (λ (m : ℕ). Carries outer level exempt p (slice_index_or refs m q)) (sym e.2) (with_twin c)) in
        let number : t.number ≤ q.number = subst (λ (x : Reference). t.number ≤ x.number) (sym is) (twin.below q) in
        let found : n ≤ t.number = subst (λ (m : ℕ). n ≤ (slice_index_or refs m q).number) e.2 least in
        absurd (omega (arith, near, number, found))

-- all places of the array are passed; a reference to another array is carried with none
pub among_end : (refs : List Reference) (outer level : ℕ) (exempt : List ℕ) (array g : ℕ) (p : Reference) (least : Option ℕ) → length (places_of array refs) ≤ g → p.array ≡ array
    → IsLeastAmong (Carries outer level exempt p) refs (places_of array refs) g least → IsLeastNumber (Carries outer level exempt p) refs least
among_end refs outer level exempt array g p None all named h = λ k d below c.
    let place = place_found 0 array refs k d below (sym c.array ∙ named) in
    let there : slice_index_or (places_of array refs) place.0 0 ≡ k = omega (arith, place.2) in
    h place.0 d (omega (arith, place.1, all)) (subst (λ (n : ℕ). Carries outer level exempt p (slice_index_or refs n d)) (sym there) c)
among_end refs outer level exempt array g p (Some n) all named h = (
  (h.0.0, h.0.1, h.0.2, h.0.3, h.0.4),
  (λ k d below c.
      let place = place_found 0 array refs k d below (sym c.array ∙ named) in
      let there : slice_index_or (places_of array refs) place.0 0 ≡ k = omega (arith, place.2) in
      subst (λ (m : ℕ). n ≤ (slice_index_or refs m d).number) there
      (h.1 place.0 d (omega (arith, place.1, all)) (subst (λ (m : ℕ). Carries outer level exempt p (slice_index_or refs m d)) (sym there) c))),
)

-- ---- the same, over the list and the places that the code holds

pub place_inside : (refs list : List Reference) (ks : List ℕ) (array g : ℕ) → list ≡ refs → ks ≡ places_of array refs → g < length ks → slice_index_or ks g 0 < length list
place_inside refs list ks array g same named inside =
    let below : slice_index_or ks g 0 < 0 + length refs = subst (λ (xs : List ℕ). g < length xs → slice_index_or xs g 0 < 0 + length refs) (sym named) (place_below 0 array refs g) inside in
    subst (λ (xs : List Reference). slice_index_or ks g 0 < length xs) (sym same) (omega (arith, below))

-- a reference that the code reads is that of the list, whatever the default
pub read_there : (refs list : List Reference) (i : ℕ) (p d : Reference) → list ≡ refs → i < length refs → p ≡ slice_index_or list i p → p ≡ slice_index_or refs i d
read_there refs list i p d same below is = subst (λ (xs : List Reference). p ≡ slice_index_or xs i p) same is ∙ get_or_default refs i p d below

pub asked_there : (refs list : List Reference) (outer level i j : ℕ) (p q : Reference) → list ≡ refs → i < length refs → j < length list → p ≡ slice_index_or list i p → q ≡ slice_index_or list j q
    → AreAsked refs outer level → p.array ≡ q.array → IsTestable (directed outer level true) p q
asked_there refs list outer level i j p q same below below_list is_p is_q asked =
    let below_other : j < length refs = subst (λ (xs : List Reference). j < length xs) same below_list in
    asked_here refs outer level i j p q below below_other (read_there refs list i p p same below is_p) (read_there refs list j q q same below_other is_q) asked

pub skip_place : (refs list : List Reference) (ks : List ℕ) (outer level : ℕ) (exempt : List ℕ) (g : ℕ) (p : Reference) (least : Option ℕ) → list ≡ refs → ks ≡ places_of p.array refs → g < length ks
    → HasTwin list (slice_index_or ks g 0) p.number → IsLeastAmong (Carries outer level exempt p) refs (places_of p.array refs) g least
    → IsLeastAmong (Carries outer level exempt p) refs (places_of p.array refs) (g + 1) least
skip_place refs list ks outer level exempt g p least same named inside twin before =
    let k = slice_index_or (places_of p.array refs) g 0 in
    let here : g < length (places_of p.array refs) = subst (λ (xs : List ℕ). g < length xs) named inside in
    let below : k < length refs = omega (arith, place_below 0 p.array refs g here) in
    let found : HasTwin refs k p.number = subst (λ (xs : List ℕ). HasTwin refs (slice_index_or xs g 0) p.number) named (subst (λ (xs : List Reference). HasTwin xs (slice_index_or ks g 0) p.number) same twin) in
    skip_among refs outer level exempt p.array g k p (slice_index_or refs k p) least here below refl (get_or_default refs k p (slice_index_or refs k p) below) refl found before

-- the reference at the next place, as the code reads it
abbrev IsRead : List Reference → List ℕ → ℕ → Reference → Type 0
IsRead refs ks g q = (slice_index_or ks g 0 < length refs) × (q ≡ slice_index_or refs (slice_index_or ks g 0) q)

read_next : (refs list : List Reference) (ks : List ℕ) (array g : ℕ) (q : Reference) → list ≡ refs → ks ≡ places_of array refs → g < length ks → q ≡ slice_index_or list (slice_index_or ks g 0) q
    → IsRead refs (places_of array refs) g q
read_next refs list ks array g q same named inside is =
    let below : slice_index_or ks g 0 < length refs = subst (λ (xs : List Reference). slice_index_or ks g 0 < length xs) same (place_inside refs list ks array g same named inside) in
    subst (λ (xs : List ℕ). IsRead refs xs g q) named (below, subst (λ (xs : List Reference). q ≡ slice_index_or xs (slice_index_or ks g 0) q) same is)

pub take_place : (refs list : List Reference) (ks : List ℕ) (outer level : ℕ) (exempt : List ℕ) (g : ℕ) (p q : Reference) (least : Option ℕ) → list ≡ refs → ks ≡ places_of p.array refs → g < length ks
    → q ≡ slice_index_or list (slice_index_or ks g 0) q → IsLeastAmong (Carries outer level exempt p) refs (places_of p.array refs) g least → IsNear q.number least → Carries outer level exempt p q
    → IsLeastAmong (Carries outer level exempt p) refs (places_of p.array refs) (g + 1) (Some q.number)
take_place refs list ks outer level exempt g p q least same named inside is before near carries =
    let read = read_next refs list ks p.array g q same named inside is in
    take_among (Carries outer level exempt p) refs (places_of p.array refs) g (slice_index_or (places_of p.array refs) g 0) q least read.0 refl read.1 before near carries

pub keep_place : (refs list : List Reference) (ks : List ℕ) (outer level : ℕ) (exempt : List ℕ) (g : ℕ) (p q : Reference) (least : Option ℕ) → list ≡ refs → ks ≡ places_of p.array refs → g < length ks
    → q ≡ slice_index_or list (slice_index_or ks g 0) q → IsLeastAmong (Carries outer level exempt p) refs (places_of p.array refs) g least → ¬ (IsNear q.number least × Carries outer level exempt p q)
    → IsLeastAmong (Carries outer level exempt p) refs (places_of p.array refs) (g + 1) least
keep_place refs list ks outer level exempt g p q least same named inside is before not =
    let read = read_next refs list ks p.array g q same named inside is in
    keep_among (Carries outer level exempt p) refs (places_of p.array refs) g (slice_index_or (places_of p.array refs) g 0) q least read.0 refl read.1 before not

pub least_there : (refs list : List Reference) (ks : List ℕ) (outer level : ℕ) (exempt : List ℕ) (first g : ℕ) (p : Reference) (least : Option ℕ) → list ≡ refs → ks ≡ places_of p.array refs → length ks ≤ g
    → first < length refs → p ≡ slice_index_or list first p → IsLeastAmong (Carries outer level exempt p) refs (places_of p.array refs) g least
    → (d : Reference) → IsLeastNumber (Carries outer level exempt (slice_index_or refs first d)) refs least
least_there refs list ks outer level exempt first g p least same named all below is before d =
    subst (λ (x : Reference). IsLeastNumber (Carries outer level exempt x) refs least) (read_there refs list first p d same below is)
    (among_end refs outer level exempt p.array g p least (subst (λ (xs : List ℕ). length xs ≤ g) named all) refl before)

-- ---- whether the least pair of a reference comes before the one found

later : (found : Option (ℕ × ℕ)) (k l m : ℕ) → AtOrBefore found k l → l ≤ m → AtOrBefore found k m
later None k l m h more = absurd h
later (Some f) k l m h more = (h.0, λ e. omega (arith, more, h.1 e))

pub none_before : (refs list : List Reference) (outer level : ℕ) (exempt : List ℕ) (found : Option (ℕ × ℕ)) (first n : ℕ) (p : Reference) → list ≡ refs → first < length refs → p ≡ slice_index_or list first p
    → ((d : Reference) → IsLeastNumber (Carries outer level exempt (slice_index_or refs first d)) refs (Some n)) → AtOrBefore found p.number n
    → (d : Reference) → All (λ q. Carries outer level exempt (slice_index_or refs first d) q → AtOrBefore found (slice_index_or refs first d).number q.number) refs
none_before refs list outer level exempt found first n p same below is least at d k e under c =
    subst (λ (x : Reference). AtOrBefore found x.number (slice_index_or refs k e).number) (read_there refs list first p d same below is)
    (later found p.number n (slice_index_or refs k e).number at ((least d).1 k e under c))

pub one_before : (refs list : List Reference) (outer level : ℕ) (exempt : List ℕ) (found : Option (ℕ × ℕ)) (first n : ℕ) (p : Reference) → list ≡ refs → first < length refs → p ≡ slice_index_or list first p
    → ((d : Reference) → IsLeastNumber (Carries outer level exempt (slice_index_or refs first d)) refs (Some n)) → ¬ AtOrBefore found p.number n
    → (d : Reference) → IsLeastNumber (Carries outer level exempt (slice_index_or refs first d)) refs (Some n) × ¬ AtOrBefore found (slice_index_or refs first d).number n
one_before refs list outer level exempt found first n p same below is least not d =
    (least d, λ at. not (subst (λ (x : Reference). AtOrBefore found x.number n) (sym (read_there refs list first p d same below is)) at))
