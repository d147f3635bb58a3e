-- Groups of references by array.
use Rattle.std.proofs.Common.{◌≡◌, ◌≢◌, refl, ap, sym, ◌∙◌, subst, arith, ℕ, zero, suc, ◌+◌, ◌<◌, ◌≤◌, Bool, true, false, nat_eq, if◌then◌else◌, List, [], ◌∷◌, ◌++◌, length, length-append, take, drop, take_all, append_assoc, append-nil, get_or, All}
use Rattle.std.specs.Prelude.{slice_index_or}
use Rattle.std.proofs.lemmas.List.{take_more, at_drop_more, at_drop_all}
use Rattle.std.proofs.lemmas.List.Quantifiers.{Any-push}
use Rattle.std.proofs.lemmas.Bool.Decides.{nat_tests}
use Rattle.species_references.specs.declared.groups.ArrayPlaces.{ArrayPlaces}
use Rattle.species_references.specs.declared.nest.Reference.{Reference}
use Rattle.species_references.specs.Groups.{places_from, places_of, IsGroupOf, HasGroup, AreGroups}

-- ---- places

pub place_more : (refs : List Reference) (i array : ℕ) (d : Reference) (places more : List ℕ) → i < length refs → (get_or refs i d).array ≡ array → more ≡ places ++ i ∷ []
    → places ++ places_from i array (drop i refs) ≡ places_of array refs → more ++ places_from (i + 1) array (drop (i + 1) refs) ≡ places_of array refs
place_more refs i array d places more below same is so =
    let test : nat_eq (get_or refs i d).array array ≡ true = grind (arith, nat_tests) in
    let first : places_from i array (drop i refs) ≡ i ∷ places_from (i + 1) array (drop (i + 1) refs) =
    at_drop_more (places_from i array) refs i d below ∙ ap (λ (t : Bool). if t then i ∷ places_from (i + 1) array (drop (i + 1) refs) else places_from (i + 1) array (drop (i + 1) refs)) test
    in
    ap (λ l. l ++ places_from (i + 1) array (drop (i + 1) refs)) is ∙ append_assoc places (i ∷ []) (places_from (i + 1) array (drop (i + 1) refs)) ∙ ap (λ l. places ++ l) (sym first) ∙ so

pub place_other : (refs : List Reference) (i array : ℕ) (d : Reference) (places : List ℕ) → i < length refs → (get_or refs i d).array ≢ array
    → places ++ places_from i array (drop i refs) ≡ places_of array refs → places ++ places_from (i + 1) array (drop (i + 1) refs) ≡ places_of array refs
place_other refs i array d places below other so =
    let test : nat_eq (get_or refs i d).array array ≡ false = grind (arith, nat_tests) in
    let first : places_from i array (drop i refs) ≡ places_from (i + 1) array (drop (i + 1) refs) =
    at_drop_more (places_from i array) refs i d below ∙ ap (λ (t : Bool). if t then i ∷ places_from (i + 1) array (drop (i + 1) refs) else places_from (i + 1) array (drop (i + 1) refs)) test
    in
    ap (λ l. places ++ l) (sym first) ∙ so

pub places_all : (refs : List Reference) (i array : ℕ) (places : List ℕ) → length refs ≤ i → places ++ places_from i array (drop i refs) ≡ places_of array refs → places ≡ places_of array refs
places_all refs i array places past so = sym (append-nil places) ∙ ap (λ l. places ++ l) (sym (at_drop_all (places_from i array) refs i past)) ∙ so

-- ---- groups

all_more : {X : Type 0} (P : X → Type 0) (xs : List X) (x : X) → All P xs → P x → All P (xs ++ x ∷ [])
all_more P [] x h p zero d below = p
all_more P [] x h p (suc k) d below = absurd (omega (arith, below))
all_more P (y ∷ ys) x h p zero d below = h 0 d (omega arith)
all_more P (y ∷ ys) x h p (suc k) d below = all_more P ys x (λ j e l. h (suc j) e (omega (arith, l))) p k d (omega (arith, below))

-- the groups of the first i references
pub record AreGroupsOf (refs : List Reference) (i : ℕ) (groups : List ArrayPlaces) : Type 0 where
  pub each : All (IsGroupOf refs) groups
  pub has : All (λ r. HasGroup groups r.array) (take i refs)

pub no_groups : (refs : List Reference) (groups : List ArrayPlaces) → groups ≡ [] → AreGroupsOf refs 0 groups
no_groups refs groups h = record { each = subst (λ gs. All (IsGroupOf refs) gs) (sym h) (λ k d below. absurd (omega (arith, below))); has = λ k d below. absurd (omega (arith, below)) }

-- a reference whose array has a group
pub group_there : (refs : List Reference) (i : ℕ) (d : Reference) (groups : List ArrayPlaces) → i < length refs → HasGroup groups (get_or refs i d).array → AreGroupsOf refs i groups → AreGroupsOf refs (i + 1) groups
group_there refs i d groups below h so = record {
  each = so.each;
  has = subst (λ rs. All (λ r. HasGroup groups r.array) rs) (sym (take_more refs i d below)) (all_more (λ r. HasGroup groups r.array) (take i refs) (get_or refs i d) so.has h);
}

-- and one whose array gets a group
pub group_more : (refs : List Reference) (i : ℕ) (d : Reference) (groups more : List ArrayPlaces) (g : ArrayPlaces) → i < length refs → more ≡ groups ++ g ∷ [] → g.array ≡ (get_or refs i d).array → IsGroupOf refs g
    → AreGroupsOf refs i groups → AreGroupsOf refs (i + 1) more
group_more refs i d groups more g below is array own so =
    group_there refs i d more below (subst (λ gs. HasGroup gs (get_or refs i d).array) (sym is) (any_last groups array)) (record {
      each = subst (λ gs. All (IsGroupOf refs) gs) (sym is) (all_more (IsGroupOf refs) groups g so.each own);
      has = λ k e l. subst (λ gs. HasGroup gs (slice_index_or (take i refs) k e).array) (sym is) (any_front groups (slice_index_or (take i refs) k e).array (so.has k e l));
    })
  where
    any_last : (gs : List ArrayPlaces) {a : ℕ} → g.array ≡ a → HasGroup (gs ++ g ∷ []) a
    any_last gs {a} h = Any-push (λ (q : ArrayPlaces). q.array ≡ a) gs g h

    at_front : (gs : List ArrayPlaces) (k : ℕ) (x : ArrayPlaces) → k < length gs → slice_index_or (gs ++ g ∷ []) k x ≡ slice_index_or gs k x
    at_front [] k x h = absurd (omega (arith, h))
    at_front (q ∷ gs) zero x h = refl
    at_front (q ∷ gs) (suc k) x h = at_front gs k x (omega (arith, h))

    any_front : (gs : List ArrayPlaces) (a : ℕ) → HasGroup gs a → HasGroup (gs ++ g ∷ []) a
    any_front gs a h = (h.0, h.1, omega (arith, length-append gs (g ∷ []), h.2), at_front gs h.0 h.1 h.2 ∙ h.3, h.4)

pub all_groups : (refs : List Reference) (i : ℕ) (groups : List ArrayPlaces) → length refs ≤ i → AreGroupsOf refs i groups → AreGroups refs groups
all_groups refs i groups past so = (so.each, subst (λ rs. All (λ r. HasGroup groups r.array) rs) (take_all i refs past) so.has)

-- ---- arrays without a group

none_from : (refs : List Reference) (array n : ℕ) → All (λ r. r.array ≢ array) refs → places_from n array refs ≡ []
none_from [] array n h = refl
none_from (r ∷ refs) array n h =
    let other : r.array ≢ array = h 0 r (omega arith) in
    let test : nat_eq r.array array ≡ false = grind (arith, nat_tests) in
    rw test (none_from refs array (n + 1) (λ k d below. h (suc k) d (omega (arith, below))))

-- no group has the array
pub places_none : (refs : List Reference) (groups : List ArrayPlaces) (array i : ℕ) → length groups ≤ i → All (λ g. g.array ≢ array) (take i groups) → AreGroups refs groups → places_of array refs ≡ []
places_none refs groups array i past others so = none_from refs array 0 (λ k d below same.
    let h = so.1 k d below in
    let other : All (λ g. g.array ≢ array) groups = subst (λ gs. All (λ (g : ArrayPlaces). g.array ≢ array) gs) (take_all i groups past) others in
    other h.0 h.1 h.2 (ap (λ (g : ArrayPlaces). g.array) h.3 ∙ h.4 ∙ same))

-- one more group that has another array
pub other_more : (groups : List ArrayPlaces) (array i : ℕ) (d : ArrayPlaces) → i < length groups → (slice_index_or groups i d).array ≢ array → All (λ g. g.array ≢ array) (take i groups)
    → All (λ g. g.array ≢ array) (take (i + 1) groups)
other_more groups array i d below other h =
    subst (λ gs. All (λ (g : ArrayPlaces). g.array ≢ array) gs) (sym (take_more groups i d below)) (all_more (λ g. g.array ≢ array) (take i groups) (slice_index_or groups i d) h other)

pub group_found : (refs : List Reference) (groups : List ArrayPlaces) (array i : ℕ) (d : ArrayPlaces) → i < length groups → (slice_index_or groups i d).array ≡ array → AreGroups refs groups
    → (slice_index_or groups i d).places.items ≡ places_of array refs
group_found refs groups array i d below same so = so.0 i d below ∙ ap (λ n. places_of n refs) same

pub has_at : (groups : List ArrayPlaces) (array i : ℕ) (g : ArrayPlaces) → i < length groups → g ≡ slice_index_or groups i g → g.array ≡ array → HasGroup groups array
has_at groups array i g below at same = (i, g, below, sym at, same)

pub has_none : (groups : List ArrayPlaces) (array i : ℕ) → length groups ≤ i → All (λ g. g.array ≢ array) (take i groups) → HasGroup groups array → ⊥
has_none groups array i past others h =
    let all : All (λ g. g.array ≢ array) groups = subst (λ gs. All (λ (g : ArrayPlaces). g.array ≢ array) gs) (take_all i groups past) others in
    all h.0 h.1 h.2 (ap (λ (g : ArrayPlaces). g.array) h.3 ∙ h.4)

-- a reference, as an item of the list
pub there_more : (refs : List Reference) (i : ℕ) (e : Reference) (groups now : List ArrayPlaces) → i < length refs → e ≡ get_or refs i e → now ≡ groups → HasGroup now e.array → AreGroupsOf refs i groups → AreGroupsOf refs (i + 1) groups
there_more refs i e groups now below at same h so = group_there refs i e groups below (subst (λ gs. HasGroup gs (get_or refs i e).array) same (subst (λ (z : Reference). HasGroup now z.array) at h)) so

pub push_more : (refs : List Reference) (i : ℕ) (e : Reference) (groups more : List ArrayPlaces) (g : ArrayPlaces) → i < length refs → e ≡ get_or refs i e → more ≡ groups ++ g ∷ [] → g.array ≡ e.array → IsGroupOf refs g
    → AreGroupsOf refs i groups → AreGroupsOf refs (i + 1) more
push_more refs i e groups more g below at is array own so = group_more refs i e groups more g below is (array ∙ ap (λ (z : Reference). z.array) at) own so
