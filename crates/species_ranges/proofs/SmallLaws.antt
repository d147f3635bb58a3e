-- The range of a loop that keeps the limits is small, where the loops around it have turns.
use Rattle.std.proofs.Common.{◌≡◌, refl, ap, sym, ◌∙◌, subst, arith, ℕ, zero, suc, ◌+◌, ◌*◌, ◌/◌, ◌<◌, ◌≤◌, ◌^◌, Bool, true, false, ◌&&◌, not, if◌then◌else◌, List, [], ◌∷◌, ℤ, pos, negsuc, ◌+ℤ◌, ◌-ℤ◌, ◌*ℤ◌, ◌≤ℤ◌}
use Rattle.std.specs.Prelude.{int_le}
use Rattle.std.specs.Int.RustNames.{unsigned_abs}
use Rattle.std.specs.List.{list_all}
use Rattle.std.specs.Ordering.{int_eq}
use Rattle.std.proofs.lemmas.Bool.{and_parts}
use Rattle.std.proofs.lemmas.Bool.Decides.{nat_tests}
use Rattle.std.proofs.lemmas.Int.{ints, unsigned_abs-mul}
use Rattle.species_integers.proofs.Products.{mul_zero}
use Rattle.species_integers.proofs.Sizes.{abs_sum, abs_difference}
use Rattle.species_ast.specs.declared.tree.Stmt.{Stmt}
use Rattle.species_ast.specs.declared.tree.Stmt.TheOpen.{Loop-F}
use Rattle.species_ast.specs.declared.tree.Loop.{Loop}
use Rattle.species_ast.specs.Scope.Forms.{Form, is_constant}
use Rattle.species_ast.specs.Scope.Hulls.{Range, has_empty, least_product, least_sum, least_of, greatest_of, last_value, bound_form, last_form, fixed_range, no_range, wide_range, range_of, most_end, is_end, has_ends, passes_hull}
use Rattle.species_ast.specs.Scope.Limits.{is_too_far}

-- both ends are at most 2^32 in size, and the step is at most 65,536
pub record IsSmallRange (r : Range) : Type 0 where
  pub low : unsigned_abs r.low ≤ 2 ^ 32
  pub high : unsigned_abs r.high ≤ 2 ^ 32
  pub step : unsigned_abs r.step ≤ 65536

-- ---- ends

-- the extremes of a form are small
pub record HasEnds (path : List Range) (f : Form) : Type 0 where
  pub least : unsigned_abs (least_of path f) ≤ most_end
  pub greatest : unsigned_abs (greatest_of path f) ≤ most_end

ends_of : (path : List Range) (f : Form) → has_ends path f ≡ true → HasEnds path f
ends_of path f h =
    let parts = and_parts (is_end (least_of path f)) (is_end (greatest_of path f)) h in
    record { least = grind (arith, nat_tests, parts.0); greatest = grind (arith, nat_tests, parts.1) }

not_passed : (path : List Range) (first last : Form) → has_empty path ≡ false → (not (has_empty path) && not (has_ends path first && has_ends path last)) ≡ false
    → (has_ends path first ≡ true) × (has_ends path last ≡ true)
not_passed path first last full h =
    go (has_ends path first) (has_ends path last) (ap (λ (b : Bool). not b && not (has_ends path first && has_ends path last)) (sym full) ∙ h)
  where
    go : (a b : Bool) → not (a && b) ≡ false → (a ≡ true) × (b ≡ true)
    go true true h = (refl, refl)
    go true false h = absurd cc
    go false b h = absurd cc

-- ---- constants

zero_product : (c : ℤ) (r : Range) → c ≡ pos 0 → least_product c r ≡ pos 0
zero_product (pos zero) r h = mul_zero r.low
zero_product (pos (suc n)) r h = absurd (omega (arith, ints, h))
zero_product (negsuc n) r h = absurd (omega (arith, ints, h))

zero_sum : (cs : List ℤ) (path : List Range) → list_all (λ c. int_eq c (pos 0)) cs ≡ true → least_sum cs path ≡ pos 0
zero_sum [] path h = refl
zero_sum (c ∷ cs) [] h = refl
zero_sum (c ∷ cs) (r ∷ path) h =
    let parts = and_parts (int_eq c (pos 0)) (list_all (λ c. int_eq c (pos 0)) cs) h in
    let none : c ≡ pos 0 = grind (arith, ints, parts.0) in
    omega (arith, ints, zero_product c r none, zero_sum cs path parts.1)

constant_small : (path : List Range) (f : Form) → is_constant f ≡ true → HasEnds path f → unsigned_abs f.constant ≤ most_end
constant_small path f h ends =
    let same : least_of path f ≡ f.constant = omega (arith, ints, zero_sum f.coefficients path h) in
    subst (λ z. unsigned_abs z ≤ most_end) same ends.least

-- ---- from a constant to a constant

-- whole steps are no longer than the way
steps_within : (step : ℤ) (way : ℕ) → unsigned_abs (pos (way / unsigned_abs step) *ℤ step) ≤ way
steps_within step way =
    let whole : unsigned_abs (pos (way / unsigned_abs step) *ℤ step) ≡ (way / unsigned_abs step) * unsigned_abs step = unsigned_abs-mul (pos (way / unsigned_abs step)) step in
    omega (arith, whole, div_le way (unsigned_abs step))
  where
    div_le : (x n : ℕ) → (x / n) * n ≤ x
    div_le x zero = omega arith
    div_le x (suc n) = grind arith

last_small : (step a b : ℤ) → unsigned_abs a ≤ most_end → unsigned_abs b ≤ most_end → unsigned_abs (last_value step a b) ≤ 2 ^ 32
last_small step a b h k =
    let way = unsigned_abs (b -ℤ a) in
    let sum = abs_sum a (pos (way / unsigned_abs step) *ℤ step) in
    omega (arith, sum, steps_within step way, abs_difference b a, h, k)

far_small : (t : Bool) (step a b : ℤ) → unsigned_abs a ≤ most_end → unsigned_abs b ≤ most_end → unsigned_abs (if t then last_value step a b else b) ≤ 2 ^ 32
far_small true step a b h k = last_small step a b h k
far_small false step a b h k = omega (arith, k)

fixed_small : (step a b : ℤ) → unsigned_abs a ≤ most_end → unsigned_abs b ≤ most_end → unsigned_abs step ≤ 65536 → IsSmallRange (fixed_range step a b)
fixed_small (pos n) a b h k near = record { low = omega (arith, h); high = far_small (int_le a b) (pos n) a b h k; step = near }
fixed_small (negsuc n) a b h k near = record { low = far_small (int_le b a) (negsuc n) a b h k; high = omega (arith, h); step = near }

-- ---- over the ranges around

wide_small : (path : List Range) (step : ℤ) (first last : Form) → HasEnds path first → HasEnds path last → unsigned_abs step ≤ 65536 → IsSmallRange (wide_range path step first last)
wide_small path (pos n) first last h k near = record { low = omega (arith, h.least); high = omega (arith, k.greatest); step = near }
wide_small path (negsuc n) first last h k near = record { low = omega (arith, k.least); high = omega (arith, h.greatest); step = near }

-- ---- the law

near_step : (step : ℤ) → is_too_far step ≡ false → unsigned_abs step ≤ 65536
near_step step h = grind (arith, nat_tests, h)

range_small : (path : List Range) (step : ℤ) (first last : Form) → has_empty path ≡ false → HasEnds path first → HasEnds path last → unsigned_abs step ≤ 65536
    → IsSmallRange (if is_constant first && is_constant last then fixed_range step first.constant last.constant
    else (if has_empty path then no_range step first last else wide_range path step first last))
range_small path step first last full h k near = go (is_constant first && is_constant last) (has_empty path) refl full
  where
    go : (t e : Bool) → (is_constant first && is_constant last) ≡ t → e ≡ false
        → IsSmallRange (if t then fixed_range step first.constant last.constant else (if e then no_range step first last else wide_range path step first last))
    go true e is none =
        let parts = and_parts (is_constant first) (is_constant last) is in
        fixed_small step first.constant last.constant (constant_small path first parts.0 h) (constant_small path last parts.1 k) near
    go false true is none = absurd cc
    go false false is none = wide_small path step first last h k near

pub small_range : (path : List Range) (l : Loop-F Stmt Loop) → has_empty path ≡ false → passes_hull path l ≡ false → is_too_far l.step ≡ false → IsSmallRange (range_of path l)
small_range path l full hull near =
    let first = bound_form l.start in
    let last = last_form l.test (bound_form l.limit) in
    let ends = not_passed path first last full hull in
    range_small path l.step first last full (ends_of path first ends.0) (ends_of path last ends.1) (near_step l.step near)
