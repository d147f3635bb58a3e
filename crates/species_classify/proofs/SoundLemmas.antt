-- The range of a loop of a well made unit has small ends and a step, also where the loops around it have no turns.
use Rattle.std.proofs.Common.{◌≡◌, ◌≢◌, refl, ap, sym, ◌∙◌, arith, ℕ, zero, suc, ◌*◌, ◌/◌, ◌≤◌, ◌^◌, Bool, true, false, ◌&&◌, if◌then◌else◌, List, ℤ, pos, negsuc, ◌-ℤ◌, ◌*ℤ◌, Option, Some, None}
use Rattle.std.specs.Prelude.{int_le}
use Rattle.std.specs.Int.RustNames.{unsigned_abs}
use Rattle.std.proofs.lemmas.Bool.{and_parts}
use Rattle.std.proofs.lemmas.Int.{unsigned_abs-mul}
use Rattle.species_integers.proofs.Sizes.{abs_sum, abs_difference}
use Rattle.species_ast.specs.declared.tree.Expr.{Expr}
use Rattle.species_ast.specs.declared.tree.Loop.{Loop}
use Rattle.species_ast.specs.declared.tree.Stmt.{Stmt}
use Rattle.species_ast.specs.declared.tree.Stmt.TheOpen.{Loop-F}
use Rattle.species_ast.specs.declared.tree.Test.{Test}
use Rattle.species_ast.specs.declared.tree.Test.TheVariants.{Lt, Le, Gt, Ge}
use Rattle.species_ast.specs.Scope.Forms.{Form, form_of, form_limit, is_constant}
use Rattle.species_ast.specs.Scope.Hulls.{Range, has_empty, last_value, form_or_zero, bound_form, last_form, fixed_range, no_range, wide_range, range_between, range_of, passes_hull}
use Rattle.species_ast.specs.Scope.Limits.{goes, is_too_far}
use Rattle.species_ast.specs.Scope.Loops.{Nesting}
use Rattle.species_ast.specs.Scope.WellMade.{Around, is_made_bound, has_depth, head_holds}
use Rattle.species_ranges.proofs.KeepLaws.{KeepsHead}
use Rattle.species_ranges.proofs.SmallLaws.{small_range}
use Rattle.species_classify.proofs.FormLemmas.{form_constant}

-- both ends are at most 2^40 in size, and there is a step
pub record IsSound (r : Range) : Type 0 where
  pub low : unsigned_abs r.low ≤ 2 ^ 40
  pub high : unsigned_abs r.high ≤ 2 ^ 40
  pub step : r.step ≢ pos 0

-- ---- steps

goes_on : (test : Test) (step : ℤ) → goes test step ≡ true → step ≢ pos 0
goes_on Lt step h none = let e = ap (goes Lt) (sym none) ∙ h in absurd cc
goes_on Le step h none = let e = ap (goes Le) (sym none) ∙ h in absurd cc
goes_on Gt step h none = let e = ap (goes Gt) (sym none) ∙ h in absurd cc
goes_on Ge step h none = let e = ap (goes Ge) (sym none) ∙ h in absurd cc

fixed_step : (step a b : ℤ) → (fixed_range step a b).step ≡ step
fixed_step (pos n) a b = refl
fixed_step (negsuc n) a b = refl

wide_step : (path : List Range) (step : ℤ) (first last : Form) → (wide_range path step first last).step ≡ step
wide_step path (pos n) first last = refl
wide_step path (negsuc n) first last = refl

step_is : (path : List Range) (step : ℤ) (first last : Form) → (range_between path step first last).step ≡ step
step_is path step first last = go (is_constant first && is_constant last) (has_empty path)
  where
    go : (t e : Bool) → (if t then fixed_range step first.constant last.constant else (if e then no_range step first last else wide_range path step first last)).step ≡ step
    go true e = fixed_step step first.constant last.constant
    go false true = refl
    go false false = wide_step path step first last

-- ---- constants

bound_constant : (x : Expr) → unsigned_abs (bound_form x).constant ≤ form_limit
bound_constant x = go (form_of x) (form_constant x)
  where
    go : (o : Option Form) → ((f : Form) → o ≡ Some f → unsigned_abs f.constant ≤ form_limit) → unsigned_abs (form_or_zero o).constant ≤ form_limit
    go (Some f) h = h f refl
    go None h = omega arith

last_constant : (test : Test) (f : Form) → unsigned_abs f.constant ≤ form_limit → unsigned_abs (last_form test f).constant ≤ 2 ^ 32
last_constant Lt f h = omega (arith, h, abs_difference f.constant (pos 1))
last_constant Le f h = omega (arith, h)
last_constant Gt f h = omega (arith, h, abs_sum f.constant (pos 1))
last_constant Ge f h = omega (arith, h)

-- ---- from a constant to a constant

steps_within : (step : ℤ) (way : ℕ) → unsigned_abs (pos (way / unsigned_abs step) *ℤ step) ≤ way
steps_within step way =
    let whole : unsigned_abs (pos (way / unsigned_abs step) *ℤ step) ≡ (way / unsigned_abs step) * unsigned_abs step = unsigned_abs-mul (pos (way / unsigned_abs step)) step in
    omega (arith, whole, div_le way (unsigned_abs step))
  where
    div_le : (x n : ℕ) → (x / n) * n ≤ x
    div_le x zero = omega arith
    div_le x (suc n) = grind arith

far_small : (t : Bool) (step a b : ℤ) → unsigned_abs a ≤ 2 ^ 32 → unsigned_abs b ≤ 2 ^ 32 → unsigned_abs (if t then last_value step a b else b) ≤ 2 ^ 40
far_small true step a b h k =
    let way = unsigned_abs (b -ℤ a) in
    omega (arith, abs_sum a (pos (way / unsigned_abs step) *ℤ step), steps_within step way, abs_difference b a, h, k)
far_small false step a b h k = omega (arith, k)

record HasSmallEnds (r : Range) : Type 0 where
  low : unsigned_abs r.low ≤ 2 ^ 40
  high : unsigned_abs r.high ≤ 2 ^ 40

fixed_small : (step a b : ℤ) → unsigned_abs a ≤ 2 ^ 32 → unsigned_abs b ≤ 2 ^ 32 → HasSmallEnds (fixed_range step a b)
fixed_small (pos n) a b h k = record { low = omega (arith, h); high = far_small (int_le a b) (pos n) a b h k }
fixed_small (negsuc n) a b h k = record { low = far_small (int_le b a) (negsuc n) a b h k; high = omega (arith, h) }

loose_small : (path : List Range) (step : ℤ) (first last : Form) → has_empty path ≡ true → unsigned_abs first.constant ≤ 2 ^ 32 → unsigned_abs last.constant ≤ 2 ^ 32 → HasSmallEnds (range_between path step first last)
loose_small path step first last empty h k = go (is_constant first && is_constant last) (has_empty path) empty
  where
    go : (t e : Bool) → e ≡ true → HasSmallEnds (if t then fixed_range step first.constant last.constant else (if e then no_range step first last else wide_range path step first last))
    go true e is = fixed_small step first.constant last.constant h k
    go false true is = record { low = omega arith; high = omega arith }
    go false false is = absurd cc

-- ---- the law

pub sound_range : (path : List Range) (l : Loop-F Stmt Loop) → goes l.test l.step ≡ true → passes_hull path l ≡ false → is_too_far l.step ≡ false → IsSound (range_of path l)
sound_range path l way hull near = go (has_empty path) refl
  where
    first : Form
    first = bound_form l.start

    last : Form
    last = last_form l.test (bound_form l.limit)

    stepped : (range_of path l).step ≢ pos 0
    stepped none = goes_on l.test l.step way (sym (step_is path l.step first last) ∙ none)

    go : (t : Bool) → has_empty path ≡ t → IsSound (range_of path l)
    go false full = let small = small_range path l full hull near in record { low = omega (arith, small.low); high = omega (arith, small.high); step = stepped }
    go true empty =
        let first_small : unsigned_abs first.constant ≤ 2 ^ 32 = omega (arith, bound_constant l.start) in
        let ends = loose_small path l.step first last empty first_small (last_constant l.test (bound_form l.limit) (bound_constant l.limit)) in
        record { low = ends.low; high = ends.high; step = stepped }

pub sound_head : (l : Loop-F Stmt Loop) (w : Around) (n : Nesting) → head_holds l w ≡ true → KeepsHead l n → IsSound (range_of n.path l)
sound_head l w n holds kept =
    let start = and_parts (is_made_bound w.level l.start) (is_made_bound w.level l.limit && (goes l.test l.step && has_depth l.mark)) holds in
    let limit = and_parts (is_made_bound w.level l.limit) (goes l.test l.step && has_depth l.mark) start.1 in
    let step = and_parts (goes l.test l.step) (has_depth l.mark) limit.1 in
    sound_range n.path l step.0 kept.hull kept.near
