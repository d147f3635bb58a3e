-- The range of a loop, from what is known of its bounds.
use Rattle.std.proofs.Common.{◌≡◌, ◌∙◌, refl, ap, sym, arith, ℕ, zero, suc, ◌+◌, ◌*◌, ◌^◌, ◌/◌, ◌≤◌, ◌<◌, Bool, true, false, ◌&&◌, ◌||◌, not, if◌then◌else◌, nat_le, List, [], ◌∷◌, map, drop, length, ℤ, pos, negsuc, ◌+ℤ◌, ◌-ℤ◌, ◌*ℤ◌, ◌≤ℤ◌, ◌<ℤ◌, Option, Some, None, FitsSigned, to_z, of_z, subst}
use Rattle.std.specs.Prelude.{slice_index_or, is_some}
use Rattle.std.specs.Int.{w64, w128}
use Rattle.std.specs.Int.RustNames.{unsigned_abs, int_lt, int_le}
use Rattle.std.proofs.lemmas.Int.{ints, to_z-of_z, fits_signed_from_abs, unsigned_abs-mul}
use Rattle.std.proofs.Math.IntN.{*ℤ_comm}
use Rattle.species_integers.proofs.Products.{mul_zero}
use Rattle.std.proofs.lemmas.Bool.{and_parts}
use Rattle.std.proofs.lemmas.Bool.Decides.{nat_tests}
use Rattle.species_integers.proofs.Sizes.{abs_sum, abs_difference}
use Rattle.species_ast.specs.Scope.Forms.{Form, is_constant}
use Rattle.species_ast.specs.Scope.Hulls.{Range, is_empty, has_empty, least_of, greatest_of, last_value, start_constant, fixed_range, wide_range, no_range, most_end, is_end, has_ends}
use Rattle.species_linear.specs.declared.loops.LoopRange.{LoopRange}
use Rattle.species_loops.specs.declared.header.Header.{Header}
use Rattle.species_loops.specs.Ranges.{range_seen, ranges_seen}
use Rattle.species_loops.specs.Headers.{passes_hull, range_in, loose_range, far_end, is_taken}

-- ---- constants

constant_there : (f : Form) → is_constant f ≡ true → start_constant f ≡ Some f.constant
constant_there f h = ap (λ (b : Bool). if b then Some f.constant else None) h

constant_gone : (f : Form) → is_constant f ≡ false → start_constant f ≡ None
constant_gone f h = ap (λ (b : Bool). if b then Some f.constant else None) h

abbrev other_range : List Range → Header → Option ℤ → Bool → Range
other_range path h s b = if has_empty path then record (no_range h.step h.start h.last) { start = s; fixed = b } else loose_range path h s b

abbrev range_from : List Range → Header → Option ℤ → Option ℤ → Range
range_from path h (Some a) (Some b) = fixed_range h.step a b
range_from path h (Some a) None = other_range path h (Some a) false
range_from path h None t = other_range path h None (is_some t)

as_it_was : (path : List Range) (h : Header) → (if has_empty path then no_range h.step h.start h.last else wide_range path h.step h.start h.last) ≡ other_range path h (start_constant h.start) (is_constant h.last)
as_it_was path h = ap (λ (r : Range). if has_empty path then no_range h.step h.start h.last else r) (wide h.step)
  where
    wide : (step : ℤ) → wide_range path step h.start h.last ≡ record (wide_range path step h.start h.last) { start = start_constant h.start; fixed = is_constant h.last }
    wide (pos n) = refl
    wide (negsuc n) = refl

by_constants : (path : List Range) (h : Header) → range_in path h ≡ range_from path h (start_constant h.start) (start_constant h.last)
by_constants path h = go (is_constant h.start) (is_constant h.last) refl refl
  where
    go : (a b : Bool) → is_constant h.start ≡ a → is_constant h.last ≡ b → range_in path h ≡ range_from path h (start_constant h.start) (start_constant h.last)
    go true true e k =
        (λ i. if e i && k i then fixed_range h.step h.start.constant h.last.constant else (if has_empty path then no_range h.step h.start h.last else wide_range path h.step h.start h.last))
        ∙ (λ i. range_from path h (sym (constant_there h.start e) i) (sym (constant_there h.last k) i))
    go true false e k =
        (λ i. if e i && k i then fixed_range h.step h.start.constant h.last.constant else (if has_empty path then no_range h.step h.start h.last else wide_range path h.step h.start h.last))
        ∙ as_it_was path h ∙ (λ i. other_range path h (constant_there h.start e i) (k i))
        ∙ (λ i. range_from path h (sym (constant_there h.start e) i) (sym (constant_gone h.last k) i))
    go false true e k =
        (λ i. if e i && k i then fixed_range h.step h.start.constant h.last.constant else (if has_empty path then no_range h.step h.start h.last else wide_range path h.step h.start h.last))
        ∙ as_it_was path h ∙ (λ i. other_range path h (constant_gone h.start e i) (k i))
        ∙ (λ i. range_from path h (sym (constant_gone h.start e) i) (sym (constant_there h.last k) i))
    go false false e k =
        (λ i. if e i && k i then fixed_range h.step h.start.constant h.last.constant else (if has_empty path then no_range h.step h.start h.last else wide_range path h.step h.start h.last))
        ∙ as_it_was path h ∙ (λ i. other_range path h (constant_gone h.start e i) (k i))
        ∙ (λ i. range_from path h (sym (constant_gone h.start e) i) (sym (constant_gone h.last k) i))

pub range_of_constants : (path : List Range) (h : Header) (a b : ℤ) (r : Range) → Some a ≡ start_constant h.start → Some b ≡ start_constant h.last →
    r ≡ fixed_range h.step a b → r ≡ range_in path h
range_of_constants path h a b r e k is = is ∙ (λ i. range_from path h (e i) (k i)) ∙ sym (by_constants path h)

others : (path : List Range) (h : Header) (s : Option ℤ) (b : Bool) (r : Range) →
    (has_empty path ≡ true → r ≡ record (no_range h.step h.start h.last) { start = s; fixed = b }) →
    (has_empty path ≡ false → r ≡ loose_range path h s b) → r ≡ other_range path h s b
others path h s b r empty full = go (has_empty path) refl
  where
    go : (x : Bool) → has_empty path ≡ x → r ≡ (if has_empty path then record (no_range h.step h.start h.last) { start = s; fixed = b } else loose_range path h s b)
    go true e = empty e ∙ sym (ap (λ (x : Bool). if x then record (no_range h.step h.start h.last) { start = s; fixed = b } else loose_range path h s b) e)
    go false e = full e ∙ sym (ap (λ (x : Bool). if x then record (no_range h.step h.start h.last) { start = s; fixed = b } else loose_range path h s b) e)

pub range_of_start : (path : List Range) (h : Header) (a : ℤ) (r : Range) → Some a ≡ start_constant h.start → None ≡ start_constant h.last →
    (has_empty path ≡ true → r ≡ record (no_range h.step h.start h.last) { start = Some a; fixed = false }) →
    (has_empty path ≡ false → r ≡ loose_range path h (Some a) false) → r ≡ range_in path h
range_of_start path h a r e k empty full = others path h (Some a) false r empty full ∙ (λ i. range_from path h (e i) (k i)) ∙ sym (by_constants path h)

pub range_of_others : (path : List Range) (h : Header) (t : Option ℤ) (r : Range) → None ≡ start_constant h.start → t ≡ start_constant h.last →
    (has_empty path ≡ true → r ≡ record (no_range h.step h.start h.last) { start = None; fixed = is_some t }) →
    (has_empty path ≡ false → r ≡ loose_range path h None (is_some t)) → r ≡ range_in path h
range_of_others path h t r e k empty full = others path h None (is_some t) r empty full ∙ (λ i. range_from path h (e i) (k i)) ∙ sym (by_constants path h)

-- ---- wide ranges

pub wide_low_up : (path : List Range) (step : ℤ) (f g : Form) → pos 0 ≤ℤ step → (wide_range path step f g).low ≡ least_of path f
wide_low_up path (pos n) f g h = refl
wide_low_up path (negsuc n) f g h = absurd (omega (arith, ints, h))

pub wide_low_down : (path : List Range) (step : ℤ) (f g : Form) → step <ℤ pos 0 → (wide_range path step f g).low ≡ least_of path g
wide_low_down path (pos n) f g h = absurd (omega (arith, ints, h))
wide_low_down path (negsuc n) f g h = refl

pub wide_high_up : (path : List Range) (step : ℤ) (f g : Form) → pos 0 ≤ℤ step → (wide_range path step f g).high ≡ greatest_of path g
wide_high_up path (pos n) f g h = refl
wide_high_up path (negsuc n) f g h = absurd (omega (arith, ints, h))

pub wide_high_down : (path : List Range) (step : ℤ) (f g : Form) → step <ℤ pos 0 → (wide_range path step f g).high ≡ greatest_of path f
wide_high_down path (pos n) f g h = absurd (omega (arith, ints, h))
wide_high_down path (negsuc n) f g h = refl

pub wide_step : (path : List Range) (step : ℤ) (f g : Form) → (wide_range path step f g).step ≡ step
wide_step path (pos n) f g = refl
wide_step path (negsuc n) f g = refl

pub ends_within : (path : List Range) (f : Form) → has_ends path f ≡ true → (unsigned_abs (least_of path f) ≤ most_end) × (unsigned_abs (greatest_of path f) ≤ most_end)
ends_within path f h =
    let parts = and_parts (is_end (least_of path f)) (is_end (greatest_of path f)) h in
    (grind (arith, nat_tests, parts.0), grind (arith, nat_tests, parts.1))

pub not_passed : (path : List Range) (h : Header) → passes_hull path h ≡ false → has_empty path ≡ false → (has_ends path h.start ≡ true) × (has_ends path h.last ≡ true)
not_passed path h e full = go (has_ends path h.start) (has_ends path h.last) (ap (λ (b : Bool). not b && not (has_ends path h.start && has_ends path h.last)) (sym full) ∙ e)
  where
    go : (a b : Bool) → not (a && b) ≡ false → (a ≡ true) × (b ≡ true)
    go true true h = (refl, refl)
    go true false h = absurd cc
    go false b h = absurd cc

-- ---- the far end

pub taken_up : (step first last : ℤ) → pos 0 ≤ℤ step → is_taken step first last ≡ int_le first last
taken_up (pos n) first last h = refl
taken_up (negsuc n) first last h = absurd (omega (arith, ints, h))

pub taken_down : (step first last : ℤ) → step <ℤ pos 0 → is_taken step first last ≡ int_le last first
taken_down (pos n) first last h = absurd (omega (arith, ints, h))
taken_down (negsuc n) first last h = refl

pub fixed_up : (step first last : ℤ) → pos 0 ≤ℤ step → fixed_range step first last ≡ record { low = first; high = far_end step first last; step = step; start = Some first; fixed = true }
fixed_up (pos n) first last h = refl
fixed_up (negsuc n) first last h = absurd (omega (arith, ints, h))

pub fixed_down : (step first last : ℤ) → step <ℤ pos 0 → fixed_range step first last ≡ record { low = far_end step first last; high = first; step = step; start = Some first; fixed = true }
fixed_down (pos n) first last h = absurd (omega (arith, ints, h))
fixed_down (negsuc n) first last h = refl

-- whole steps are no longer than the way
pub steps_within : (step : ℤ) (way : ℕ) → 0 < unsigned_abs step → unsigned_abs (pos (way / unsigned_abs step) *ℤ step) ≤ way
steps_within step way h =
    let whole : unsigned_abs (pos (way / unsigned_abs step) *ℤ step) ≡ (way / unsigned_abs step) * unsigned_abs step = unsigned_abs-mul (pos (way / unsigned_abs step)) step in
    omega (arith, whole, div_le way (unsigned_abs step) h)
  where
    div_le : (x n : ℕ) → 0 < n → (x / n) * n ≤ x
    div_le x n h = grind arith

pub no_steps : (step : ℤ) (n : ℕ) → unsigned_abs step ≡ 0 → pos n *ℤ step ≡ pos 0
no_steps (pos zero) n h = *ℤ_comm (pos n) (pos 0) ∙ mul_zero (pos n)
no_steps (pos (suc m)) n h = absurd (omega (arith, h))
no_steps (negsuc m) n h = absurd (omega (arith, ints, h))

-- ---- ends as words

pub end_small : (x z : ℤ) → x ≡ z → unsigned_abs z ≤ most_end → unsigned_abs (to_z w128 (of_z w128 x)) ≤ most_end
end_small x z h small =
    let fits : FitsSigned w128 z = fits_signed_from_abs w128 z (omega (arith, small)) in
    subst (λ y. unsigned_abs y ≤ most_end) (sym (ap (λ y. to_z w128 (of_z w128 y)) h ∙ to_z-of_z w128 z fits)) small

pub end_value : (r x z : ℤ) → x ≡ z → r ≡ to_z w128 (of_z w128 x) → unsigned_abs z ≤ most_end → to_z w64 (of_z w64 r) ≡ z
end_value r x z h k small =
    let wide : FitsSigned w128 z = fits_signed_from_abs w128 z (omega (arith, small)) in
    let fits : FitsSigned w64 z = fits_signed_from_abs w64 z (omega (arith, small)) in
    ap (λ y. to_z w64 (of_z w64 y)) (k ∙ ap (λ y. to_z w128 (of_z w128 y)) h ∙ to_z-of_z w128 z wide) ∙ to_z-of_z w64 z fits

pub loose_is : (path : List Range) (h : Header) (s : Option ℤ) (b : Bool) (low high step : ℤ) → low ≡ (wide_range path h.step h.start h.last).low →
    high ≡ (wide_range path h.step h.start h.last).high → step ≡ h.step → record { low = low; high = high; step = step; start = s; fixed = b } ≡ loose_range path h s b
loose_is path h s b low high step e k t =
    let same = t ∙ sym (wide_step path h.step h.start h.last) in
    λ i. record { low = e i; high = k i; step = same i; start = s; fixed = b }

-- ---- empty ranges

pub empty_next : (path : List LoopRange) (k : ℕ) (d : LoopRange) → k < length path → is_empty (range_seen (slice_index_or path k d)) ≡ false →
    has_empty (ranges_seen (drop (suc k) path)) ≡ has_empty (ranges_seen (drop k path))
empty_next [] k d h e = absurd (omega (arith, h))
empty_next (r ∷ path) zero d h e = sym (ap (λ (b : Bool). b || has_empty (ranges_seen path)) e)
empty_next (r ∷ path) (suc k) d h e = empty_next path k d (omega (arith, h)) e

pub empty_here : (path : List LoopRange) (k : ℕ) (d : LoopRange) → k < length path → is_empty (range_seen (slice_index_or path k d)) ≡ true →
    has_empty (ranges_seen (drop k path)) ≡ true
empty_here [] k d h e = absurd (omega (arith, h))
empty_here (r ∷ path) zero d h e = ap (λ (b : Bool). b || has_empty (ranges_seen path)) e
empty_here (r ∷ path) (suc k) d h e = empty_here path k d (omega (arith, h)) e
