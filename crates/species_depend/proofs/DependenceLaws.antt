-- Refuted pairs, and iterations of a band with no carried pair, do not meet.
use Rattle.std.proofs.Common.{◌≡◌, ◌≢◌, refl, ap, sym, ◌∙◌, subst, arith, ℕ, zero, suc, ◌+◌, ◌<◌, ◌≤◌, List, length, ℤ, ◌≤ℤ◌, Bool, true, false, ◌⊎◌, inl, inr, Contains}
use Rattle.std.specs.Prelude.{slice_index_or}
use Rattle.std.proofs.lemmas.Int.{ints, by_lt_z}
use Rattle.std.proofs.lemmas.Bool.{cases_lt}
use Rattle.species_affine.specs.declared.subscript.Subscript.TheVariants.{Other}
use Rattle.species_arcs.specs.declared.places.Dir.{Dir}
use Rattle.species_arcs.specs.declared.places.Dir.TheVariants as dir
use Rattle.species_ast.specs.Accesses.{Access, Element, Reads}
use Rattle.species_ast.specs.Evaluation.{row_order}
use Rattle.species_ast.specs.Scope.References as text
use Rattle.species_linear.specs.Point.{point_of}
use Rattle.species_occurrences.specs.Iterators.{AreTaken}
use Rattle.species_occurrences.specs.Made.{IsMadeBy}
use Rattle.species_references.specs.declared.nest.Reference.{Reference}
use Rattle.species_references.specs.Ranges.{ranges_seen}
use Rattle.species_references.specs.References.{IsReference, direction_of}
use Rattle.species_runs.specs.Indices.{AreIndices}
use Rattle.species_runs.proofs.IndexLaws.{row_injective}
use Rattle.species_depend.specs.Refuted.{directed, IsRefuted, IsTestable}
use Rattle.species_depend.specs.Carried.{IsWritten, IsPossible, Carries, CarriesNone, AreAsked}
use Rattle.species_depend.specs.Law.{RefutedNeverMeet, FreeBandsNeverMeet, DifferInBand}
use Rattle.species_depend.proofs.LeastLemmas.{before_or_at}
use Rattle.species_depend.proofs.CoordinateLemmas.{in_region}
use Rattle.species_depend.proofs.UnmetLemmas.{HasIndices, rising_of, value_of, subs_at, indices_at, refuted_unmet}

-- ---- accesses of references

-- an access of a reference: at iterators that its loops may take, with these indices
pub record IsAccess (p : Reference) (is : List ℤ) (a : List ℕ) : Type 0 where
  pub taken : AreTaken (ranges_seen p.path) is
  pub has : HasIndices p is a

pub made_access : (sizes : ℕ → List ℕ) (inner : ℕ) (p : Reference) (q : text.Reference) (a : Access) → IsReference sizes inner p q → IsMadeBy sizes q a → IsAccess p a.site.iters a.site.indices
made_access sizes inner p q a shown made = record {
  taken = subst (λ path. AreTaken path a.site.iters) (sym shown.path) made.iterators;
  has = record {
    rising = λ k. rising_of (slice_index_or p.subs k Other) _ (subs_at p.subs q.subs shown.subs k);
    values = λ k. value_of (slice_index_or p.subs k Other) _ (slice_index_or a.site.indices k 0) a.site.iters (subs_at p.subs q.subs shown.subs k) (indices_at q.subs a.site.iters a.site.indices made.forms k);
  };
}

-- two accesses to one element have one array and the same indices
indices_same : (sizes : ℕ → List ℕ) (p q : text.Reference) (a b : Access) → IsMadeBy sizes p a → IsMadeBy sizes q b → a.element ≡ b.element → (p.array ≡ q.array) × (a.site.indices ≡ b.site.indices)
indices_same sizes p q a b first second same =
    let one : a.element.array ≡ p.array = ap (λ (x : Element). x.array) first.element in
    let other : b.element.array ≡ q.array = ap (λ (x : Element). x.array) second.element in
    let array : p.array ≡ q.array = sym one ∙ (ap (λ (x : Element). x.array) same ∙ other) in
    let at_one : a.element.at ≡ row_order (sizes p.array) a.site.indices = ap (λ (x : Element). x.at) first.element in
    let at_other : b.element.at ≡ row_order (sizes q.array) b.site.indices = ap (λ (x : Element). x.at) second.element in
    let places : row_order (sizes q.array) a.site.indices ≡ row_order (sizes q.array) b.site.indices =
    ap (λ (n : ℕ). row_order (sizes n) a.site.indices) (sym array) ∙ (sym at_one ∙ (ap (λ (x : Element). x.at) same ∙ at_other)) in
    (array, row_injective (sizes q.array) a.site.indices b.site.indices (subst (λ (n : ℕ). AreIndices (sizes n) a.site.indices) array first.indices) second.indices places)

-- ---- refuted pairs

pub refuted_never_meet : RefutedNeverMeet
refuted_never_meet at p q sizes inner a b x y asked refuted first second region same =
    let one = indices_same sizes first.reference second.reference a b first.made second.made same in
    let here = made_access sizes inner p first.reference a first.shown first.made in
    let there = subst (λ (is : List ℕ). IsAccess q b.site.iters is) (sym one.1) (made_access sizes inner q second.reference b second.shown second.made) in
    refuted_unmet at p q a.site.iters b.site.iters a.site.indices x y asked here.has there.has region first.coordinates second.coordinates refuted

-- a test in the one direction may be done in the other
turned : (outer level : ℕ) (less : Bool) (p q : Reference) → IsTestable (directed outer level true) p q → IsTestable (directed outer level less) p q
turned outer level less p q asked = record { loops = record { first = asked.loops.first; second = asked.loops.second; same = asked.loops.same }; first = asked.first; second = asked.second }

-- two accesses with the same indices, at iterators that are the same before a level and differ there: the level may carry the pair
pub is_possible : (outer level : ℕ) (p q : Reference) (is js : List ℤ) (a : List ℕ) → IsTestable (directed outer level true) p q → IsAccess p is a → IsAccess q js a →
    ((k : ℕ) → k < outer + level → point_of is k ≡ point_of js k) → point_of is (outer + level) ≢ point_of js (outer + level) → IsPossible outer level p q
is_possible outer level p q is js a asked first second same differ refuted =
    let found = in_region outer level p.path q.path is js first.taken second.taken asked.loops same differ in
    refuted_unmet (directed outer level found.0) p q is js a found.1 found.2 (turned outer level found.0 p q asked) first.has second.has found.3 found.4.at found.5.at (either found.0)
  where
    either : (less : Bool) → IsRefuted (directed outer level less) p q
    either true = refuted.0
    either false = refuted.1

-- ---- the first level of the band at which two lists of iterators differ

abbrev SameBelow : ℕ → List ℤ → List ℤ → Type 0
SameBelow n is js = (k : ℕ) → k < n → point_of is k ≡ point_of js k

abbrev IsFirstLevel : (outer m : ℕ) → List ℤ → List ℤ → Type 0
IsFirstLevel outer m is js = SameBelow (outer + m) is js × (point_of is (outer + m) ≢ point_of js (outer + m))

same_or_not : (u v : ℤ) → (u ≡ v) ⊎ (u ≢ v)
same_or_not u v = by_lt_z {P = (u ≡ v) ⊎ (u ≢ v)} u v (λ h. inr (λ e. omega (arith, ints, h, e))) from
  where
    from : v ≤ℤ u → (u ≡ v) ⊎ (u ≢ v)
    from h = by_lt_z {P = (u ≡ v) ⊎ (u ≢ v)} v u (λ g. inr (λ e. omega (arith, ints, g, e))) (λ g. inl (omega (arith, ints, h, g)))

scan : (outer n : ℕ) (is js : List ℤ) → SameBelow outer is js → SameBelow (outer + n) is js ⊎ ((m : ℕ) × (m < n) × IsFirstLevel outer m is js)
scan outer zero is js same = inl (λ k h. same k (omega (arith, h)))
scan outer (suc n) is js same = elim (scan outer n is js same) [
  | inr found ↦ inr (found.0, omega (arith, found.1), found.2)
  | inl all ↦ elim (same_or_not (point_of is (outer + n)) (point_of js (outer + n))) [
    | inr apart ↦ inr (n, omega arith, (all, apart))
    | inl e ↦ inl (λ k h. elim (before_or_at k (outer + n) (omega (arith, h))) [
      | inl less ↦ all k less
      | inr here ↦ rw here e
    ])
  ]
]

first_level : (outer depth : ℕ) (is js : List ℤ) → DifferInBand outer depth is js → (m : ℕ) × (m < depth) × IsFirstLevel outer m is js
first_level outer depth is js apart = elim (scan outer depth is js apart.same) [
  | inr found ↦ found
  | inl all ↦ absurd (apart.differ (all (outer + apart.level) (omega (arith, apart.below))))
]

-- ---- what a list of references says of two of them

none_at : (refs : List Reference) (outer level : ℕ) (exempt : List ℕ) (r u : Reference) (j k : ℕ) → j < length refs → slice_index_or refs j r ≡ r → k < length refs → slice_index_or refs k u ≡ u →
    CarriesNone refs outer level exempt → ¬ Carries outer level exempt r u
none_at refs outer level exempt r u j k below is below_other is_other none =
    subst (λ (x : Reference). ¬ Carries outer level exempt r x) is_other
    (subst (λ (x : Reference). (i : ℕ) (d : Reference) → i < length refs → ¬ Carries outer level exempt x (slice_index_or refs i d)) is (none j r below) k u below_other)

asked_at : (refs : List Reference) (outer level : ℕ) (r u : Reference) (j k : ℕ) → j < length refs → slice_index_or refs j r ≡ r → k < length refs → slice_index_or refs k u ≡ u →
    AreAsked refs outer level → r.array ≡ u.array → IsTestable (directed outer level true) r u
asked_at refs outer level r u j k below is below_other is_other asked =
    subst (λ (x : Reference). r.array ≡ x.array → IsTestable (directed outer level true) r x) is_other
    (subst (λ (y : Reference). (i : ℕ) (d : Reference) → i < length refs → y.array ≡ (slice_index_or refs i d).array → IsTestable (directed outer level true) y (slice_index_or refs i d)) is
    (asked j r below) k u below_other)

reads_or_writes : (r : Reference) → (r.dir ≡ dir.Read) ⊎ IsWritten r
reads_or_writes r = go r.dir
  where
    not_write : dir.Write ≡ dir.Read → ⊥
    not_write h = cc

    not_add : dir.Add ≡ dir.Read → ⊥
    not_add h = cc

    go : (x : Dir) → (x ≡ dir.Read) ⊎ (x ≢ dir.Read)
    go dir.Read = inl refl
    go dir.Write = inr not_write
    go dir.Add = inr not_add

-- two references in the order of their numbers: the level would carry them
unmet_at : (refs : List Reference) (outer level : ℕ) (exempt : List ℕ) (r u : Reference) (j k : ℕ) (is js : List ℤ) (a : List ℕ) →
    j < length refs → slice_index_or refs j r ≡ r → k < length refs → slice_index_or refs k u ≡ u → AreAsked refs outer level → CarriesNone refs outer level exempt →
    r.array ≡ u.array → ¬ Contains exempt r.array → IsWritten r ⊎ IsWritten u → IsAccess r is a → IsAccess u js a → IsFirstLevel outer level is js → r.number ≤ u.number → ⊥
unmet_at refs outer level exempt r u j k is js a below is_r below_other is_u asked none array counts written first second differ order =
    none_at refs outer level exempt r u j k below is_r below_other is_u none (record {
      order = order;
      array = array;
      written = written;
      counts = counts;
      possible = is_possible outer level r u is js a (asked_at refs outer level r u j k below is_r below_other is_u asked array) first second differ.0 differ.1;
    })

turned_level : (outer level : ℕ) (is js : List ℤ) → IsFirstLevel outer level is js → IsFirstLevel outer level js is
turned_level outer level is js h = ((λ k below. sym (h.0 k below)), (λ e. h.1 (sym e)))

turned_written : (r u : Reference) → IsWritten r ⊎ IsWritten u → IsWritten u ⊎ IsWritten r
turned_written r u (inl h) = inr h
turned_written r u (inr h) = inl h

-- ---- bands

pub free_bands_never_meet : FreeBandsNeverMeet
free_bands_never_meet refs outer depth exempt sizes inner a b asked free listed listed_other apart same counts =
    let j = listed.0 in
    let r = listed.1 in
    let p = listed.4.0 in
    let shown : IsReference sizes inner r p = listed.4.1 in
    let made : IsMadeBy sizes p a = listed.4.2 in
    let k = listed_other.0 in
    let u = listed_other.1 in
    let q = listed_other.4.0 in
    let shown_other : IsReference sizes inner u q = listed_other.4.1 in
    let made_other : IsMadeBy sizes q b = listed_other.4.2 in
    let level = first_level outer depth a.site.iters b.site.iters apart in
    let m = level.0 in
    let one = indices_same sizes p q a b made made_other same in
    let array : r.array ≡ u.array = shown.array ∙ (one.0 ∙ sym shown_other.array) in
    let here : ¬ Contains exempt r.array = subst (λ (n : ℕ). ¬ Contains exempt n) (ap (λ (x : Element). x.array) made.element ∙ sym shown.array) counts in
    let first : IsAccess r a.site.iters a.site.indices = made_access sizes inner r p a shown made in
    let second : IsAccess u b.site.iters a.site.indices = subst (λ (x : List ℕ). IsAccess u b.site.iters x) (sym one.1) (made_access sizes inner u q b shown_other made_other) in
    let unmet : IsWritten r ⊎ IsWritten u → ⊥ = λ written. elim (cases_lt u.number r.number) [
      | inl less ↦ unmet_at refs outer m exempt u r k j b.site.iters a.site.iters a.site.indices listed_other.2 listed_other.3 listed.2 listed.3 (asked m level.1) (free m level.1) (sym array)
          (subst (λ (n : ℕ). ¬ Contains exempt n) array here) (turned_written r u written) second first (turned_level outer m a.site.iters b.site.iters level.2) (omega (arith, less))
      | inr more ↦ unmet_at refs outer m exempt r u j k a.site.iters b.site.iters a.site.indices listed.2 listed.3 listed_other.2 listed_other.3 (asked m level.1) (free m level.1) array here written first second level.2 more
    ] in
    let reads : (x : Reference) (o : text.Reference) (c : Access) → IsReference sizes inner x o → IsMadeBy sizes o c → x.dir ≡ dir.Read → c.direction ≡ Reads =
    λ x o c is made_c read. made_c.direction ∙ (sym is.direction ∙ ap direction_of read) in (
      elim (reads_or_writes r) [
        | inl read ↦ reads r p a shown made read
        | inr write ↦ absurd (unmet (inl write))
      ],
      elim (reads_or_writes u) [
        | inl read ↦ reads u q b shown_other made_other read
        | inr write ↦ absurd (unmet (inr write))
      ],
    )
