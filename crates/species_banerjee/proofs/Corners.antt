-- The corners of the pairs of coordinates that an entry allows.
use Rattle.std.proofs.Common.{◌≡◌, ℤ, pos, ◌+ℤ◌, ◌-ℤ◌, ◌*ℤ◌, ◌≤ℤ◌, ◌<ℤ◌, arith, subst, refl, ◌↔◌}
use Rattle.std.proofs.lemmas.Int.{ints}
use Rattle.species_integers.proofs.Products.{mul_plus, mul_assoc}
use Rattle.species_linear.specs.declared.loops.LoopRange.{LoopRange}
use Rattle.species_region.specs.Coordinate.{origin_of, unit_of, IsCoordinate}
use Rattle.species_banerjee.specs.declared.pairs.Entry.{Entry}
use Rattle.species_banerjee.specs.declared.pairs.Entry.TheVariants.{Equal, Less, Greater, Any}
use Rattle.species_banerjee.specs.declared.pairs.LoopPair.{LoopPair}
use Rattle.species_banerjee.specs.Entry.{Relates, SharesLoop}
use Rattle.species_banerjee.specs.LoopPair.{Allows, IsOpen, gap_of, AreCorners}
use Rattle.species_banerjee.proofs.Slopes.{slope, equal_bound, less_bound, greater_bound, any_bound}

-- the coordinates of the loop are those from first to last
abbrev pub IsSpanOf : LoopRange → ℤ → ℤ → Type 0
IsSpanOf r first last = (v : ℤ) → IsCoordinate r v ↔ ((first ≤ℤ v) × (v ≤ℤ last))

-- a gap is a slope, but for a constant
abbrev pub base_of : LoopPair → ℤ → ℤ → ℤ
base_of l a b = (a *ℤ origin_of l.first) -ℤ (b *ℤ origin_of l.second)

abbrev pub slope_of : LoopPair → ℤ → ℤ → ℤ → ℤ → ℤ
slope_of l a b u v = slope (a *ℤ unit_of l.first) (b *ℤ unit_of l.second) u v

pub gap_is : (l : LoopPair) (a b u v : ℤ) → gap_of l a b (u, v) ≡ base_of l a b +ℤ slope_of l a b u v
gap_is l a b u v =
    omega (
      arith,
      ints,
      mul_plus a (origin_of l.first) (unit_of l.first *ℤ u),
      mul_plus b (origin_of l.second) (unit_of l.second *ℤ v),
      mul_assoc a (unit_of l.first) u,
      mul_assoc b (unit_of l.second) v,
    )

-- a bound of the gap is one of the slope, and back
to_slope : (l : LoopPair) (a b m u v : ℤ) → m ≤ℤ gap_of l a b (u, v) → (m -ℤ base_of l a b) ≤ℤ slope_of l a b u v
to_slope l a b m u v h = omega (arith, ints, h, gap_is l a b u v)

from_slope : (l : LoopPair) (a b m u v : ℤ) → (m -ℤ base_of l a b) ≤ℤ slope_of l a b u v → m ≤ℤ gap_of l a b (u, v)
from_slope l a b m u v h = omega (arith, ints, h, gap_is l a b u v)

-- what the entry asks of an allowed pair, and back
pub related : (l : LoopPair) (e : Entry) (z : ℤ × ℤ) → l.entry ≡ e → Allows l z → Relates e z.0 z.1
related l e z is h = subst (λ (x : Entry). Relates x z.0 z.1) is h.2

pub allowed_at : (l : LoopPair) (e : Entry) (u v : ℤ) → l.entry ≡ e → IsCoordinate l.first u → IsCoordinate l.second v → Relates e u v → Allows l (u, v)
allowed_at l e u v is first second h = (first, second, rw is h)

-- ---- one loop
one_loop : (l : LoopPair) (e : Entry) (first last u v : ℤ) → l.entry ≡ e → l.first ≡ l.second → IsSpanOf l.first first last →
    first ≤ℤ u → u ≤ℤ last → first ≤ℤ v → v ≤ℤ last → Relates e u v → Allows l (u, v)
one_loop l e first last u v is same span u_above u_below v_above v_below h =
    allowed_at l e u v is ((span u).1 (u_above, u_below)) (subst (λ (r : LoopRange). IsCoordinate r v) same ((span v).1 (v_above, v_below))) h

second_in : (l : LoopPair) (first last : ℤ) (z : ℤ × ℤ) → l.first ≡ l.second → IsSpanOf l.first first last → Allows l z → (first ≤ℤ z.1) × (z.1 ≤ℤ last)
second_in l first last z same span h = (span z.1).0 (rw same h.1)

pub corners_equal : (l : LoopPair) (first last : ℤ) → l.entry ≡ Equal → l.first ≡ l.second → IsSpanOf l.first first last → first ≤ℤ last →
    AreCorners l (first, first) (first, first) (last, last) (last, last)
corners_equal l first last is same span full =
    let near = one_loop l Equal first last first first is same span (omega (arith, ints)) full (omega (arith, ints)) full refl in
    let far = one_loop l Equal first last last last is same span full (omega (arith, ints)) full (omega (arith, ints)) refl in
    record {
      allowed = (near, near, far, far);
      below = λ a b m at_near at_low at_high at_far z h.
          let within = (span z.0).0 h.0 in
          from_slope l a b m z.0 z.1
          (rw (← related l Equal z is h) (equal_bound (a *ℤ unit_of l.first) (b *ℤ unit_of l.second) first last (m -ℤ base_of l a b) z.0 within.0 within.1
          (to_slope l a b m first first at_near) (to_slope l a b m last last at_far)));
    }

pub corners_less : (l : LoopPair) (first last : ℤ) → l.entry ≡ Less → l.first ≡ l.second → IsSpanOf l.first first last → first <ℤ last →
    AreCorners l (first, first +ℤ pos 1) (first, last) (first, last) (last -ℤ pos 1, last)
corners_less l first last is same span room =
    let near = one_loop l Less first last first (first +ℤ pos 1) is same span (omega (arith, ints)) (omega (arith, ints, room)) (omega (arith, ints)) (omega (arith, ints, room)) (omega (arith, ints)) in
    let wide = one_loop l Less first last first last is same span (omega (arith, ints)) (omega (arith, ints, room)) (omega (arith, ints, room)) (omega (arith, ints)) room in
    let far = one_loop l Less first last (last -ℤ pos 1) last is same span (omega (arith, ints, room)) (omega (arith, ints)) (omega (arith, ints, room)) (omega (arith, ints)) (omega (arith, ints)) in
    record {
      allowed = (near, wide, wide, far);
      below = λ a b m at_near at_low at_high at_far z h.
          from_slope l a b m z.0 z.1
          (less_bound (a *ℤ unit_of l.first) (b *ℤ unit_of l.second) first last (m -ℤ base_of l a b) z.0 z.1
          ((span z.0).0 h.0).0 (related l Less z is h) (second_in l first last z same span h).1
          (to_slope l a b m first (first +ℤ pos 1) at_near) (to_slope l a b m first last at_low) (to_slope l a b m (last -ℤ pos 1) last at_far));
    }

pub corners_greater : (l : LoopPair) (first last : ℤ) → l.entry ≡ Greater → l.first ≡ l.second → IsSpanOf l.first first last → first <ℤ last →
    AreCorners l (first +ℤ pos 1, first) (last, first) (last, first) (last, last -ℤ pos 1)
corners_greater l first last is same span room =
    let near = one_loop l Greater first last (first +ℤ pos 1) first is same span (omega (arith, ints)) (omega (arith, ints, room)) (omega (arith, ints)) (omega (arith, ints, room)) (omega (arith, ints)) in
    let wide = one_loop l Greater first last last first is same span (omega (arith, ints, room)) (omega (arith, ints)) (omega (arith, ints)) (omega (arith, ints, room)) room in
    let far = one_loop l Greater first last last (last -ℤ pos 1) is same span (omega (arith, ints, room)) (omega (arith, ints)) (omega (arith, ints, room)) (omega (arith, ints)) (omega (arith, ints)) in
    record {
      allowed = (near, wide, wide, far);
      below = λ a b m at_near at_low at_high at_far z h.
          from_slope l a b m z.0 z.1
          (greater_bound (a *ℤ unit_of l.first) (b *ℤ unit_of l.second) first last (m -ℤ base_of l a b) z.0 z.1
          ((span z.0).0 h.0).1 (related l Greater z is h) (second_in l first last z same span h).0
          (to_slope l a b m (first +ℤ pos 1) first at_near) (to_slope l a b m last first at_low) (to_slope l a b m last (last -ℤ pos 1) at_far));
    }

-- ---- two loops
pub corners_any : (l : LoopPair) (first last left right : ℤ) → l.entry ≡ Any → IsSpanOf l.first first last → IsSpanOf l.second left right → first ≤ℤ last → left ≤ℤ right →
    AreCorners l (first, left) (first, right) (last, left) (last, right)
corners_any l first last left right is span other full other_full =
    let at_first = (span first).1 (omega (arith, ints), full) in
    let at_last = (span last).1 (full, omega (arith, ints)) in
    let at_left = (other left).1 (omega (arith, ints), other_full) in
    let at_right = (other right).1 (other_full, omega (arith, ints)) in
    record {
      allowed = (
        allowed_at l Any first left is at_first at_left tt,
        allowed_at l Any first right is at_first at_right tt,
        allowed_at l Any last left is at_last at_left tt,
        allowed_at l Any last right is at_last at_right tt,
      );
      below = λ a b m at_near at_low at_high at_far z h.
          let within = (span z.0).0 h.0 in
          let within_other = (other z.1).0 h.1 in
          from_slope l a b m z.0 z.1
          (any_bound (a *ℤ unit_of l.first) (b *ℤ unit_of l.second) first last left right (m -ℤ base_of l a b) z.0 z.1 within.0 within.1 within_other.0 within_other.1
          (to_slope l a b m first left at_near) (to_slope l a b m first right at_low) (to_slope l a b m last left at_high) (to_slope l a b m last right at_far));
    }

-- ---- whether there is a pair
pub open_equal : (l : LoopPair) (first last : ℤ) → l.entry ≡ Equal → l.first ≡ l.second → IsSpanOf l.first first last → IsOpen l ↔ (first ≤ℤ last)
open_equal l first last is same span = (
  (λ open_at. omega (arith, ints, (span open_at.0.0).0 open_at.1.0)),
  (λ full. ((first, first), (corners_equal l first last is same span full).allowed.0)),
)

pub open_less : (l : LoopPair) (first last : ℤ) → l.entry ≡ Less → l.first ≡ l.second → IsSpanOf l.first first last → IsOpen l ↔ (first <ℤ last)
open_less l first last is same span = (
  (λ open_at. omega (arith, ints, ((span open_at.0.0).0 open_at.1.0).0, related l Less open_at.0 is open_at.1, (second_in l first last open_at.0 same span open_at.1).1)),
  (λ room. ((first, last), (corners_less l first last is same span room).allowed.1)),
)

pub open_greater : (l : LoopPair) (first last : ℤ) → l.entry ≡ Greater → l.first ≡ l.second → IsSpanOf l.first first last → IsOpen l ↔ (first <ℤ last)
open_greater l first last is same span = (
  (λ open_at. omega (arith, ints, ((span open_at.0.0).0 open_at.1.0).1, related l Greater open_at.0 is open_at.1, (second_in l first last open_at.0 same span open_at.1).0)),
  (λ room. ((last, first), (corners_greater l first last is same span room).allowed.1)),
)

pub open_any : (l : LoopPair) (first last left right : ℤ) → l.entry ≡ Any → IsSpanOf l.first first last → IsSpanOf l.second left right →
    IsOpen l ↔ ((first ≤ℤ last) × (left ≤ℤ right))
open_any l first last left right is span other = (
  (λ open_at. (omega (arith, ints, (span open_at.0.0).0 open_at.1.0), omega (arith, ints, (other open_at.0.1).0 open_at.1.1))),
  (λ full. ((first, left), (corners_any l first last left right is span other full.0 full.1).allowed.0)),
)

-- one loop, where the entry asks something
pub shared_by : (l : LoopPair) (e : Entry) → l.entry ≡ e → SharesLoop l.entry l.first l.second → SharesLoop e l.first l.second
shared_by l e is h = subst (λ (x : Entry). SharesLoop x l.first l.second) is h
