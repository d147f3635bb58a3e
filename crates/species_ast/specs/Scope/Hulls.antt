-- Hulls: the ranges in which the iterators of loops lie, each from the ranges of the loops around it.
use Rattle.std.specs.Prelude.{ℕ, ◌/◌, Bool, true, ◌&&◌, not, nat_le, if◌then◌else◌, List, [], ◌∷◌, ℤ, pos, negsuc, ◌+ℤ◌, ◌-ℤ◌, ◌*ℤ◌, ◌≤ℤ◌, int_lt, int_le, unsigned_abs, Option, Some, None}
use Rattle.std.specs.List.{list_any}
use Rattle.species_ast.specs.declared.tree.Test.{Test}
use Rattle.species_ast.specs.declared.tree.Test.TheVariants.{Lt, Le, Gt, Ge}
use Rattle.species_ast.specs.declared.tree.Expr.{Expr}
use Rattle.species_ast.specs.declared.tree.Stmt.TheOpen.{Loop-F}
use Rattle.species_ast.specs.Scope.Forms.{Form, form_of, is_constant, constant_form}

-- The iterator of a loop lies from `low` to `high`.
pub record Range : Type 0 where
  pub low : ℤ
  pub high : ℤ
  -- what each turn adds to it
  pub step : ℤ
  -- its first value, if that is constant, and whether the bound on its last is
  pub start : Option ℤ
  pub fixed : Bool

abbrev pub is_empty : Range → Bool
is_empty r = int_lt r.high r.low

-- a loop of these, one in the other, has no turn
abbrev pub has_empty : List Range → Bool
has_empty path = list_any is_empty path

-- the iterators of loops, one in the other, lie in these ranges
abbrev pub AreIn : List Range → List ℤ → Type 0
AreIn [] [] = Unit {0}
AreIn [] (i ∷ is) = ⊥
AreIn (r ∷ path) [] = ⊥
AreIn (r ∷ path) (i ∷ is) = (r.low ≤ℤ i) × (i ≤ℤ r.high) × AreIn path is

-- ---- extremes

-- the least and the greatest product of a coefficient and an iterator: at an end of its range
abbrev pub least_product : ℤ → Range → ℤ
least_product (pos n) r = pos n *ℤ r.low
least_product (negsuc n) r = negsuc n *ℤ r.high

abbrev pub greatest_product : ℤ → Range → ℤ
greatest_product (pos n) r = pos n *ℤ r.high
greatest_product (negsuc n) r = negsuc n *ℤ r.low

abbrev pub least_sum : List ℤ → List Range → ℤ
least_sum [] path = pos 0
least_sum (c ∷ cs) [] = pos 0
least_sum (c ∷ cs) (r ∷ path) = least_product c r +ℤ least_sum cs path

abbrev pub greatest_sum : List ℤ → List Range → ℤ
greatest_sum [] path = pos 0
greatest_sum (c ∷ cs) [] = pos 0
greatest_sum (c ∷ cs) (r ∷ path) = greatest_product c r +ℤ greatest_sum cs path

-- the least and the greatest value of a form over all points of these ranges, none of which is empty; the first is that of level 0
abbrev pub least_of : List Range → Form → ℤ
least_of path f = f.constant +ℤ least_sum f.coefficients path

abbrev pub greatest_of : List Range → Form → ℤ
greatest_of path f = f.constant +ℤ greatest_sum f.coefficients path

-- ---- the range of a loop

-- the last number that passes a test against a limit
abbrev pub last_form : Test → Form → Form
last_form Lt limit = record limit { constant = limit.constant -ℤ pos 1 }
last_form Le limit = limit
last_form Gt limit = record limit { constant = limit.constant +ℤ pos 1 }
last_form Ge limit = limit

-- the last of first, first plus step and so on that is not past a number, where the first is not
abbrev pub last_value : ℤ → ℤ → ℤ → ℤ
last_value step first last = first +ℤ pos (unsigned_abs (last -ℤ first) / unsigned_abs step) *ℤ step

abbrev pub start_constant : Form → Option ℤ
start_constant f = if is_constant f then Some f.constant else None

-- from a constant to a constant: its far end becomes the last value taken, if there is one
abbrev pub fixed_range : ℤ → ℤ → ℤ → Range
fixed_range (pos n) first last =
    record { low = first; high = if int_le first last then last_value (pos n) first last else last; step = pos n; start = Some first; fixed = true }
fixed_range (negsuc n) first last =
    record { low = if int_le last first then last_value (negsuc n) first last else last; high = first; step = negsuc n; start = Some first; fixed = true }

-- from the least value to the greatest over the ranges around
abbrev pub wide_range : List Range → ℤ → Form → Form → Range
wide_range path (pos n) first last =
    record { low = least_of path first; high = greatest_of path last; step = pos n; start = start_constant first; fixed = is_constant last }
wide_range path (negsuc n) first last =
    record { low = least_of path last; high = greatest_of path first; step = negsuc n; start = start_constant first; fixed = is_constant last }

-- where a range around is empty, over which no form has a value: from 1 to 0
abbrev pub no_range : ℤ → Form → Form → Range
no_range step first last = record { low = pos 1; high = pos 0; step = step; start = start_constant first; fixed = is_constant last }

abbrev pub range_between : List Range → ℤ → Form → Form → Range
range_between path step first last =
    if is_constant first && is_constant last then fixed_range step first.constant last.constant
    else (if has_empty path then no_range step first last else wide_range path step first last)

-- the form of a bound; one that is not affine, which no lawful loop has, counts as 0
abbrev pub form_or_zero : Option Form → Form
form_or_zero (Some f) = f
form_or_zero None = constant_form (pos 0)

abbrev pub bound_form : Expr → Form
bound_form e = form_or_zero (form_of e)

-- The range of the iterator of a loop in loops with these ranges. The hull of a loop is empty where this range or one around it is.
abbrev pub range_of : {X Y : Type 0} → List Range → Loop-F X Y → Range
range_of path l = range_between path l.step (bound_form l.start) (last_form l.test (bound_form l.limit))

-- ---- the limit on the ends of hulls

abbrev pub most_end : ℕ
most_end = 1073741824

abbrev pub is_end : ℤ → Bool
is_end n = nat_le (unsigned_abs n) most_end

-- the extremes of a form are such ends
abbrev pub has_ends : List Range → Form → Bool
has_ends path f = is_end (least_of path f) && is_end (greatest_of path f)

-- LimitPassed(Hull): the start or the last form of a loop has another extreme; where a range around is empty they have none
abbrev pub passes_hull : {X Y : Type 0} → List Range → Loop-F X Y → Bool
passes_hull path l =
    not (has_empty path) && not (has_ends path (bound_form l.start) && has_ends path (last_form l.test (bound_form l.limit)))
