-- What a decision says of a nest: its leading loops carry no pair, but on gathered arrays, which the nest only adds to.
use Rattle.std.proofs.Common.{◌≡◌, refl, ap, sym, subst, arith, ℕ, zero, suc, ◌+◌, ◌<◌, ◌≤◌, Bool, true, false, ◌||◌, nat_eq, nat_le, List, [], ◌∷◌, map, length, ◌⊎◌, inl, inr}
use Rattle.std.specs.Prelude.{slice_index_or}
use Rattle.std.specs.List.{Contains, list_any}
use Rattle.std.proofs.lemmas.Bool.{and_parts, cases_eq}
use Rattle.std.proofs.lemmas.Bool.Decides.{nat_tests}
use Rattle.species_arcs.specs.Pairwise.{Pairwise}
use Rattle.species_ast.specs.Accesses.{Access}
use Rattle.species_ast.specs.Evaluation.{sizes_of}
use Rattle.species_ast.specs.Run.{source_context}
use Rattle.species_ast.specs.declared.tree.Loop.{Loop, out-Loop}
use Rattle.species_ast.specs.declared.tree.Unit.{Unit as Program}
use Rattle.species_ast.specs.Scope.Hulls.{Range}
use Rattle.species_ast.specs.Scope.Nests.{Bounds, front_of}
use Rattle.species_ast.specs.Scope.References as text
use Rattle.species_ast.specs.Scope.WellMade.{IsWellMade}
use Rattle.species_classify.specs.Bands.{IsBandOf}
use Rattle.species_classify.specs.Decisions.{IsSharedDecision, IsPlainDecision, IsDecisionWith, IsDecision}
use Rattle.species_classify.specs.Places.{StandsIn, ArePlain}
use Rattle.species_classify.specs.declared.bands.Band.{Band}
use Rattle.species_classify.specs.declared.bands.Band.TheVariants.{Free, Carried}
use Rattle.species_classify.specs.declared.decide.Decision.{Decision}
use Rattle.species_depend.specs.Carried.{AreAsked, CarriesNone}
use Rattle.species_depend.specs.Law.{IsMadeByOne}
use Rattle.species_gather.specs.Summed.{used_in, summed_arrays}
use Rattle.species_loops.specs.Bands.{IsLongestBand}
use Rattle.species_occurrences.specs.Anywhere.{unplaced}
use Rattle.species_occurrences.specs.Made.{IsMadeAmong}
use Rattle.species_occurrences.proofs.AnywhereLaws.{nest_alike}
use Rattle.species_references.specs.declared.nest.Reference.{Reference}
use Rattle.species_references.specs.References.{adds_of, IsReference}
use Rattle.species_runs.specs.Scopes.{outer_locals_set}
use Rattle.species_plan_truth.proofs.AddOnlyLemmas.{IsAbsent, summed_spared}

-- ---- lists of numbers

or_right : (b t : Bool) → t ≡ true → (b || t) ≡ true
or_right true t h = refl
or_right false t h = h

-- what a list has, the test finds
pub found : (c : ℕ) (xs : List ℕ) → Contains xs c → list_any (nat_eq c) xs ≡ true
found c [] h = absurd (omega (arith, h.1))
found c (x ∷ xs) (zero, below, same) = let test : nat_eq c x ≡ true = grind (arith, nat_tests, same) in rw test refl
found c (x ∷ xs) (suc k, below, same) = or_right (nat_eq c x) (list_any (nat_eq c) xs) (found c xs (k, omega (arith, below), same))

-- and what it finds, the list has
pub listed : (c : ℕ) (xs : List ℕ) → list_any (nat_eq c) xs ≡ true → Contains xs c
listed c [] h = absurd cc
listed c (x ∷ xs) h = go (listed c xs) (nat_eq c x) refl h
  where
    go : (list_any (nat_eq c) xs ≡ true → Contains xs c) → (t : Bool) → nat_eq c x ≡ t → (t || list_any (nat_eq c) xs) ≡ true → Contains (x ∷ xs) c
    go rest true is k = let same : x ≡ c = grind (arith, nat_tests, is) in (0, omega arith, same)
    go rest false is k = let one = rest k in (suc one.0, omega (arith, one.1), one.2)

pub has_or_not : (c : ℕ) (xs : List ℕ) → Contains xs c ⊎ ¬ Contains xs c
has_or_not c [] = inr (λ h. omega (arith, h.1))
has_or_not c (x ∷ xs) = elim (cases_eq x c) [
  | inl same ↦ inl (0, omega arith, same)
  | inr apart ↦ elim (has_or_not c xs) [
    | inl one ↦ inl (suc one.0, omega (arith, one.1), one.2)
    | inr none ↦ inr (λ h. nowhere apart none h.0 h.1 h.2)
  ]
]
  where
    nowhere : ¬ (x ≡ c) → ¬ Contains xs c → (k : ℕ) → k < length (x ∷ xs) → slice_index_or (x ∷ xs) k c ≡ c → ⊥
    nowhere apart none zero below is = apart is
    nowhere apart none (suc k) below is = none (k, omega (arith, below), is)

-- ---- the references that the analysis holds, wherever the nest stands

abbrev first_of : text.Reference → List text.Reference → text.Reference
first_of d [] = d
first_of d (r ∷ rs) = r

abbrev rest_of : List text.Reference → List text.Reference
rest_of [] = []
rest_of (r ∷ rs) = rs

-- a reference at another position is held as well
moved : (sizes : ℕ → List ℕ) (inner : ℕ) (h : Reference) (q r : text.Reference) → unplaced r ≡ unplaced q → IsReference sizes inner h q → IsReference sizes inner h r
moved sizes inner h q r same shown = there (subst (IsReference sizes inner h) (sym same) here)
  where
    here : IsReference sizes inner h (unplaced q)
    here = record { array = shown.array; direction = shown.direction; subs = shown.subs; numbers = shown.numbers; conditional = shown.conditional; path = shown.path; boxes = shown.boxes }

    there : IsReference sizes inner h (unplaced r) → IsReference sizes inner h r
    there s = record { array = s.array; direction = s.direction; subs = s.subs; numbers = s.numbers; conditional = s.conditional; path = s.path; boxes = s.boxes }

held_elsewhere : (sizes : ℕ → List ℕ) (inner : ℕ) (refs : List Reference) (qs rs : List text.Reference) (a : Access) → Pairwise (IsReference sizes inner) refs qs → map unplaced rs ≡ map unplaced qs
    → IsMadeAmong sizes rs a → IsMadeByOne sizes inner refs a
held_elsewhere sizes inner refs qs [] a shown same made = absurd made
held_elsewhere sizes inner refs [] (r ∷ rs) a shown same made = absurd cc
held_elsewhere sizes inner [] (q ∷ qs) (r ∷ rs) a shown same made = absurd shown
held_elsewhere sizes inner (h ∷ refs) (q ∷ qs) (r ∷ rs) a shown same (inl made) =
    (0, h, omega arith, refl, (r, moved sizes inner h q r (ap (first_of (unplaced q)) same) shown.0, made))
held_elsewhere sizes inner (h ∷ refs) (q ∷ qs) (r ∷ rs) a shown same (inr made) =
    let rest = held_elsewhere sizes inner refs qs rs a shown.1 (ap rest_of same) made in
    (suc rest.0, rest.1, omega (arith, rest.2), rest.3, rest.4)

-- an access that a plain reference of the nest makes, at any position, is made by one that the list shows
pub held_by_one : (u : Program) (head : Loop) (path : List Range) (refs : List Reference) (at : List ℕ) (a : Access) → ArePlain u head path refs
    → IsMadeAmong (sizes_of (source_context u)) (text.references_of (adds_of []) head at path 1) a → IsMadeByOne (sizes_of (source_context u)) (length path + 1) refs a
held_by_one u head path refs at a plain made =
    held_elsewhere (sizes_of (source_context u)) (length path + 1) refs (text.references_of (adds_of []) head [] path 1) (text.references_of (adds_of []) head at path 1) a plain.shown
    (nest_alike (adds_of []) head at [] path 1) made

-- ---- decisions

-- The nest is parallel, by these references and a band of so many loops.
pub record IsParallel (u : Program) (head : Loop) (path : List Range) (d : Decision) : Type 0 where
  pub refs : List Reference
  pub front : ℕ
  pub plain : ArePlain u head path refs
  pub deep : front ≤ length (front_of head)
  pub within : d.depth ≤ front
  pub free : (level : ℕ) → level < d.depth → CarriesNone refs (length path) level d.gathered
  pub spared : (c : ℕ) → Contains d.gathered c → IsAbsent c (used_in (out-Loop head).body)

-- what the references decide
abbrev IsFree : List Reference → (outer front : ℕ) → List ℕ → Decision → Type 0
IsFree refs outer front gathered d =
    (d.depth ≤ front) × ((level : ℕ) → level < d.depth → CarriesNone refs outer level d.gathered) × ((d.gathered ≡ []) ⊎ (d.gathered ≡ gathered))

abbrev IsSettled : List Reference → (outer front : ℕ) → List ℕ → Decision → Type 0
IsSettled refs outer front gathered d = (d.depth ≡ 0) ⊎ IsFree refs outer front gathered d

by_shared : (refs : List Reference) (outer front : ℕ) (gathered : List ℕ) (shared : Band) (d : Decision) → IsBandOf refs outer front gathered shared → IsSharedDecision refs gathered shared d
    → IsSettled refs outer front gathered d
by_shared refs outer front gathered (Free depth) d is same = subst (IsSettled refs outer front gathered) (sym same) (inr (is.1.within, is.1.free, inr refl))
by_shared refs outer front gathered (Carried first second) d is found = subst (IsSettled refs outer front gathered) (sym found.2) (inl refl)

by_plain : (refs : List Reference) (outer front : ℕ) (gathered : List ℕ) (plain : Band) (d : Decision) → IsBandOf refs outer front [] plain → IsPlainDecision refs outer front gathered plain d
    → IsSettled refs outer front gathered d
by_plain refs outer front gathered (Free depth) d is same = subst (IsSettled refs outer front gathered) (sym same) (inr (is.1.within, is.1.free, inl refl))
by_plain refs outer front gathered (Carried first second) d is found = by_shared refs outer front gathered found.0 d found.1 found.2

-- the arrays that are gathered are only added to
spared_by : (u : Program) (head : Loop) (gathered : List ℕ) → (gathered ≡ []) ⊎ (gathered ≡ summed_arrays u head) → (c : ℕ) → Contains gathered c → IsAbsent c (used_in (out-Loop head).body)
spared_by u head gathered (inl none) c h = let empty : Contains [] c = subst (λ (xs : List ℕ). Contains xs c) none h in absurd (omega (arith, empty.1))
spared_by u head gathered (inr all) c h = summed_spared (out-Loop head).body 0 u.arrays c (subst (λ (xs : List ℕ). Contains xs c) all h)

band_within : (level n : ℕ) (front : List Bounds) → IsLongestBand level front n → n ≤ length front
band_within level n front longest =
    let test : nat_le n (length front) ≡ true = (and_parts (nat_le n (length front)) _ longest.is_one).0 in
    grind (arith, nat_tests, test)

with_locals : (u : Program) (head : Loop) (path : List Range) (locals : List ℕ) (d : Decision) → IsDecisionWith locals u head path d → (d.depth ≡ 0) ⊎ IsParallel u head path d
with_locals u head path (x ∷ locals) d same = inl (ap (λ (e : Decision). e.depth) same)
with_locals u head path [] d (refs, front, plain, longest, decided) =
    elim (by_plain refs (length path) front (summed_arrays u head) decided.0 d decided.1 decided.2) [
      | inl none ↦ inl none
      | inr free ↦ inr (record {
        refs = refs;
        front = front;
        plain = plain;
        deep = band_within (length path) front (front_of head) longest;
        within = free.0;
        free = free.1;
        spared = spared_by u head d.gathered free.2;
      })
    ]

-- a nest is sequential or parallel
pub sequential_or_parallel : (u : Program) (head : Loop) (path : List Range) (d : Decision) → IsDecision u head path d → (d.depth ≡ 0) ⊎ IsParallel u head path d
sequential_or_parallel u head path d is = with_locals u head path (outer_locals_set (out-Loop head).body) d is

-- ---- what the search asks

-- each two references of a nest may be tested at each level of its front
abbrev pub NestsAreAsked : Type 0
NestsAreAsked = (u : Program) (head : Loop) (path : List Range) (refs : List Reference) (front level : ℕ) → IsWellMade u → StandsIn u head path
    → Pairwise (IsReference (sizes_of (source_context u)) (length path + 1)) refs (text.references_of (adds_of []) head [] path 1)
    → front ≤ length (front_of head) → level < front → AreAsked refs (length path) level
