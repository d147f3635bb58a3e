-- The corners of a box where a form is least and greatest.
use Rattle.std.specs.Prelude.{if◌then◌else◌, ℤ, pos, Bool, true, false, List}
use Rattle.std.specs.Int.RustNames.{int_lt}
use Rattle.species_linear.specs.declared.forms.Form.{Form}
use Rattle.species_linear.specs.declared.loops.LoopRange.{LoopRange}
use Rattle.species_linear.specs.Point.{Point}
use Rattle.species_linear.specs.Value.{coefficient_at}
use Rattle.species_linear.specs.Box.{range_at}

-- The end of a range at which a product with c is least (true), or greatest (false).
abbrev pub end_of : Bool → ℤ → LoopRange → ℤ
end_of true c r = if int_lt c (pos 0) then r.high else r.low
end_of false c r = if int_lt c (pos 0) then r.low else r.high

-- The point of these ends.
abbrev pub corner_of : Bool → Form → List LoopRange → Point
corner_of lower f path k = end_of lower (coefficient_at f.terms k) (range_at path k)
