-- What the header of a loop says of its values.
use Rattle.std.specs.Prelude.{ℤ, pos, negsuc, int_le, Bool, ◌&&◌, not, if◌then◌else◌, List, Option}
use Rattle.species_ast.specs.declared.tree.Stmt.TheOpen.{Loop-F}
use Rattle.species_ast.specs.Scope.Hulls.{Range, bound_form, last_form, has_empty, has_ends, wide_range, range_between, last_value}
use Rattle.species_loops.specs.declared.header.Header.{Header}

abbrev pub header_of : {X Y : Type 0} → Loop-F X Y → Header
header_of l = record { start = bound_form l.start; last = last_form l.test (bound_form l.limit); step = l.step }

-- an extreme of the start or of the last form is past the limit
abbrev pub passes_hull : List Range → Header → Bool
passes_hull path h = not (has_empty path) && not (has_ends path h.start && has_ends path h.last)

-- its range in loops with these ranges
abbrev pub range_in : List Range → Header → Range
range_in path h = range_between path h.step h.start h.last

-- its range where it is no constant one, of which this is known
abbrev pub loose_range : List Range → Header → Option ℤ → Bool → Range
loose_range path h start fixed = record (wide_range path h.step h.start h.last) { start = start; fixed = fixed }

-- the first number is not past the last, in the direction of the step
abbrev pub is_taken : ℤ → ℤ → ℤ → Bool
is_taken (pos n) first last = int_le first last
is_taken (negsuc n) first last = int_le last first

-- the end of a constant range that the loop goes to
abbrev pub far_end : ℤ → ℤ → ℤ → ℤ
far_end step first last = if is_taken step first last then last_value step first last else last
