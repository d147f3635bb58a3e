-- The region as one fact for each level: the entries of the direction vector, <=> `IsInRegion`.
use Rattle.std.proofs.Common.{◌≡◌, ℕ, zero, suc, ◌+◌, ◌<◌, ◌≤◌, ℤ, pos, arith, refl, subst, List, [], ◌∷◌, length, Bool, true, false, nat_lt, nat_eq, if◌then◌else◌, IsTrue, ◌↔◌, ◌⊎◌, inl, inr}
use Rattle.std.proofs.Math.Bool.{not}
use Rattle.std.proofs.lemmas.Int.{ints}
use Rattle.std.proofs.lemmas.Bool.{eq-eqb}
use Rattle.std.proofs.lemmas.Bool.Decides.{nat_tests}
use Rattle.species_linear.specs.declared.forms.Form.{Form}
use Rattle.species_linear.specs.declared.loops.LoopRange.{LoopRange}
use Rattle.species_linear.specs.declared.loops.Direction.{Direction}
use Rattle.species_linear.specs.Point.{Point}
use Rattle.species_linear.specs.Value.{form_at, NamesOnly}
use Rattle.species_linear.specs.Box.{zero_range, range_at}
use Rattle.species_linear.proofs.Agree.{form_at-agree_below}
use Rattle.species_region.specs.Coordinate.{iterators_at, IsCoordinate, IsInSpace}
use Rattle.species_region.specs.Region.{level_of, Differ, IsInRegion, IsEmptyRegion}
use Rattle.species_region.specs.Asked.{ShareLoops, IsSmallPath}
use Rattle.species_region.proofs.Levels.{step_nonzero, small_ends}
use Rattle.species_banerjee.specs.declared.pairs.Entry.{Entry}
use Rattle.species_banerjee.specs.declared.pairs.Entry.TheVariants.{Equal, Less, Greater, Any}
use Rattle.species_banerjee.specs.Entry.{entry_at, Relates, SharesLoop}
use Rattle.species_banerjee.specs.LoopPair.{loop_pair_at, Allows, IsOpen, IsUsable}

-- ---- the entries
below_or_not : (k n : ℕ) → (nat_lt k n ≡ true) × (k < n) ⊎ ((nat_lt k n ≡ false) × (n ≤ k))
below_or_not k n = grind (arith, nat_tests)

pub entry_before : (at : Direction) (k : ℕ) → k < level_of at → entry_at at k ≡ Equal
entry_before at k h = let t : nat_lt k (level_of at) ≡ true = grind (arith, nat_tests) in rw t refl

pub entry_here : (at : Direction) → entry_at at (level_of at) ≡ (if at.less then Less else Greater)
entry_here at =
    let t : nat_lt (level_of at) (level_of at) ≡ false = grind (arith, nat_tests) in
    rw (t, eq-eqb (level_of at) (level_of at) refl) refl

pub entry_after : (at : Direction) (k : ℕ) → level_of at < k → entry_at at k ≡ Any
entry_after at k h =
    let t : nat_lt k (level_of at) ≡ false = grind (arith, nat_tests) in
    let e : nat_eq k (level_of at) ≡ false = grind (arith, nat_tests) in
    rw (t, e) refl

-- what an entry of the level of the direction asks is what the direction asks, and back
differ_relates : (less : Bool) (u v : ℤ) → Differ less u v → Relates (if less then Less else Greater) u v
differ_relates true u v h = h
differ_relates false u v h = h

relates_differ : (less : Bool) (u v : ℤ) → Relates (if less then Less else Greater) u v → Differ less u v
relates_differ true u v h = h
relates_differ false u v h = h

before_here_after : (k n : ℕ) → (k < n) ⊎ ((n ≡ k) ⊎ (n < k))
before_here_after k n = grind arith

-- ---- points that are 0 beyond the path
abbrev pub clipped : List LoopRange → Point → Point
clipped path x k = if nat_lt k (length path) then x k else pos 0

pub clipped_within : (path : List LoopRange) (x : Point) (k : ℕ) → k < length path → clipped path x k ≡ x k
clipped_within path x k h = let t : nat_lt k (length path) ≡ true = grind (arith, nat_tests) in rw t refl

range_past : (path : List LoopRange) (k : ℕ) → length path ≤ k → range_at path k ≡ zero_range
range_past [] k h = refl
range_past (r ∷ rs) zero h = absurd (omega (arith, h))
range_past (r ∷ rs) (suc k) h = range_past rs k (omega (arith, h))

zero_coordinate : IsCoordinate zero_range (pos 0)
zero_coordinate = ((omega (arith, ints), omega (arith, ints)), λ counted. omega (arith, ints))

pub clipped_coordinate : (path : List LoopRange) (x : Point) (k : ℕ) → IsInSpace path x → IsCoordinate (range_at path k) (clipped path x k)
clipped_coordinate path x k inside = elim (below_or_not k (length path)) [
  | inl t ↦ rw t.0 (inside k t.1)
  | inr t ↦ rw (t.0, range_past path k t.1) zero_coordinate
]

pub clipped_value : (f : Form) (path : List LoopRange) (x : Point) → NamesOnly f (length path) → form_at f (iterators_at path (clipped path x)) ≡ form_at f (iterators_at path x)
clipped_value f path x named =
    form_at-agree_below f (length path) (iterators_at path (clipped path x)) (iterators_at path x) named (λ k h. rw (clipped_within path x k h) refl)

-- ---- the region, level by level
related_in_region : (at : Direction) (ps qs : List LoopRange) (x y : Point) (k : ℕ) → ShareLoops at ps qs → IsInRegion at ps qs x y →
    Relates (entry_at at k) (clipped ps x k) (clipped qs y k)
related_in_region at ps qs x y k loops region = elim (before_here_after k (level_of at)) [
  | inl h ↦ rw (entry_before at k h, clipped_within ps x k (omega (arith, h, loops.first)), clipped_within qs y k (omega (arith, h, loops.second))) (region.agree k h)
  | inr (inl e) ↦ subst (λ (j : ℕ). Relates (entry_at at j) (clipped ps x j) (clipped qs y j)) e
      (rw (entry_here at, clipped_within ps x (level_of at) loops.first, clipped_within qs y (level_of at) loops.second)
      (differ_relates at.less (x (level_of at)) (y (level_of at)) region.differ))
  | inr (inr h) ↦ rw (entry_after at k h) tt
]

pub region_allowed : (at : Direction) (ps qs : List LoopRange) (x y : Point) → ShareLoops at ps qs → IsInRegion at ps qs x y →
    (k : ℕ) → Allows (loop_pair_at at ps qs k) (clipped ps x k, clipped qs y k)
region_allowed at ps qs x y loops region k =
    (clipped_coordinate ps x k region.first, clipped_coordinate qs y k region.second, related_in_region at ps qs x y k loops region)

pub allowed_region : (at : Direction) (ps qs : List LoopRange) (x y : Point) → ((k : ℕ) → Allows (loop_pair_at at ps qs k) (x k, y k)) → IsInRegion at ps qs x y
allowed_region at ps qs x y each = record {
  first = λ k h. (each k).0;
  second = λ k h. (each k).1;
  agree = λ k h. subst (λ (e : Entry). Relates e (x k) (y k)) (entry_before at k h) (each k).2;
  differ = relates_differ at.less (x (level_of at)) (y (level_of at))
      (subst (λ (e : Entry). Relates e (x (level_of at)) (y (level_of at))) (entry_here at) (each (level_of at)).2);
}

-- ---- emptiness
pub region_open : (at : Direction) (ps qs : List LoopRange) (x y : Point) → ShareLoops at ps qs → IsInRegion at ps qs x y → (k : ℕ) → IsOpen (loop_pair_at at ps qs k)
region_open at ps qs x y loops region k = ((clipped ps x k, clipped qs y k), region_allowed at ps qs x y loops region k)

pub open_not_empty : (at : Direction) (ps qs : List LoopRange) → ((k : ℕ) → IsOpen (loop_pair_at at ps qs k)) → ¬ IsEmptyRegion at ps qs
open_not_empty at ps qs each empty =
    empty (λ k. (each k).0.0) (λ k. (each k).0.1) (allowed_region at ps qs (λ k. (each k).0.0) (λ k. (each k).0.1) (λ k. (each k).1))

pub not_open_empty : (at : Direction) (ps qs : List LoopRange) → ShareLoops at ps qs → ¬ ((k : ℕ) → IsOpen (loop_pair_at at ps qs k)) → IsEmptyRegion at ps qs
not_open_empty at ps qs loops not_open x y region = not_open (region_open at ps qs x y loops region)

-- ---- what the code asks of a level
shares_loop : (at : Direction) (ps qs : List LoopRange) (k : ℕ) → ShareLoops at ps qs → SharesLoop (entry_at at k) (range_at ps k) (range_at qs k)
shares_loop at ps qs k loops = elim (before_here_after k (level_of at)) [
  | inl h ↦ rw (entry_before at k h) (loops.same k (omega (arith, h)))
  | inr (inl e) ↦ subst (λ (j : ℕ). SharesLoop (entry_at at j) (range_at ps j) (range_at qs j)) e
      (rw (entry_here at) (shared at.less (range_at ps (level_of at)) (range_at qs (level_of at)) (loops.same (level_of at) (omega arith))))
  | inr (inr h) ↦ rw (entry_after at k h) tt
]
  where
    shared : (less : Bool) (r s : LoopRange) → r ≡ s → SharesLoop (if less then Less else Greater) r s
    shared true r s h = h
    shared false r s h = h

pub usable : (at : Direction) (ps qs : List LoopRange) (k : ℕ) → ShareLoops at ps qs → IsSmallPath ps → IsSmallPath qs → IsUsable (loop_pair_at at ps qs k)
usable at ps qs k loops small_ps small_qs = record {
  same = shares_loop at ps qs k loops;
  first_moves = step_nonzero ps k small_ps;
  second_moves = step_nonzero qs k small_qs;
  first_small = small_ends ps k small_ps;
  second_small = small_ends qs k small_qs;
}

-- beyond 16 levels each is open
pub open_past : (at : Direction) (ps qs : List LoopRange) (k : ℕ) → ShareLoops at ps qs → IsSmallPath ps → IsSmallPath qs → 16 ≤ k → IsOpen (loop_pair_at at ps qs k)
open_past at ps qs k loops small_ps small_qs h =
    let past_ps : length ps ≤ k = omega (arith, h, small_ps.short) in
    let past_qs : length qs ≤ k = omega (arith, h, small_qs.short) in
    let after : level_of at < k = omega (arith, loops.first, past_ps) in
    ((pos 0, pos 0), (rw (range_past ps k past_ps) zero_coordinate, rw (range_past qs k past_qs) zero_coordinate, rw (entry_after at k after) tt))

-- ---- tests
pub never_both : (b : Bool) → b ≡ true → b ≡ false → ⊥
never_both true h k = cc
never_both false h k = cc

from_not_true : (b : Bool) → not b ≡ true → b ≡ false
from_not_true true h = cc
from_not_true false h = refl

pub before_or_here : (k n : ℕ) → k < n + 1 → (k < n) ⊎ (k ≡ n)
before_or_here k n h = grind arith

pub all_from_16 : (n : ℕ) (at : Direction) (ps qs : List LoopRange) → ShareLoops at ps qs → IsSmallPath ps → IsSmallPath qs → 16 ≤ n →
    ((k : ℕ) → k < n → IsOpen (loop_pair_at at ps qs k)) → (k : ℕ) → IsOpen (loop_pair_at at ps qs k)
all_from_16 n at ps qs loops small_ps small_qs all below k = elim (below_or_not k n) [
  | inl t ↦ below k t.1
  | inr t ↦ open_past at ps qs k loops small_ps small_qs (omega (arith, all, t.1))
]

pub open_decides_empty : (b : Bool) (at : Direction) (ps qs : List LoopRange) → ShareLoops at ps qs → IsTrue b ↔ ((k : ℕ) → IsOpen (loop_pair_at at ps qs k)) →
    IsTrue (not b) ↔ IsEmptyRegion at ps qs
open_decides_empty true at ps qs loops decide = ((λ t. absurd (never_both true refl (from_not_true true t))), (λ empty. absurd (open_not_empty at ps qs (decide.0 refl) empty)))
open_decides_empty false at ps qs loops decide = ((λ t. not_open_empty at ps qs loops (λ each. never_both false (decide.1 each) refl)), (λ empty. refl))
