-- The least and the greatest value of a loop's iterator, as forms of the iterators of the loops around it.
use Rattle.std.specs.Prelude.{◌≡◌, ◌&&◌, if◌then◌else◌, ℤ, pos, negsuc}
use Rattle.species_affine.specs.Subscript.{IsSameForm}
use Rattle.species_ast.specs.declared.tree.Stmt.TheOpen.{Loop-F}
use Rattle.species_ast.specs.Scope.Forms.{Form, is_constant, constant_form}
use Rattle.species_ast.specs.Scope.Hulls.{Range, bound_form, last_form, fixed_range}
use Rattle.species_merge.specs.declared.bands.BandBound.{BandBound}

pub record Ends : Type 0 where
  pub least : Form
  pub greatest : Form

abbrev pub range_ends : Range → Ends
range_ends r = record { least = constant_form r.low; greatest = constant_form r.high }

-- from a first value to a last, in steps of this sign
abbrev pub ends_by : ℤ → Form → Form → Ends
ends_by (pos n) first last = record { least = first; greatest = last }
ends_by (negsuc n) first last = record { least = last; greatest = first }

-- A loop goes from its first value to the last number that passes its test. From a constant to a constant it goes to the last value
-- that it takes, if there is one.
abbrev pub ends_between : ℤ → Form → Form → Ends
ends_between step first last =
    if is_constant first && is_constant last then range_ends (fixed_range step first.constant last.constant) else ends_by step first last

abbrev pub ends_of : {X Y : Type 0} → Loop-F X Y → Ends
ends_of l = ends_between l.step (bound_form l.start) (last_form l.test (bound_form l.limit))

-- the bound shows these ends of a loop
pub record IsBoundOf {X Y : Type 0} (l : Loop-F X Y) (b : BandBound) : Type 0 where
  pub least : IsSameForm b.least (ends_of l).least
  pub greatest : IsSameForm b.greatest (ends_of l).greatest
  pub step : b.step ≡ l.step
