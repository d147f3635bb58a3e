-- Forms whose numbers are within the limit of a form.
use Rattle.std.specs.Prelude.{◌≤◌, ◌^◌, ℤ, length, All}
use Rattle.std.specs.Int.RustNames.{unsigned_abs}
use Rattle.species_ast.specs.Scope.Forms.{Form, form_limit}

-- The size of the number is at most that of a number in a form.
abbrev pub IsWithin : ℤ → Type 0
IsWithin n = unsigned_abs n ≤ form_limit

-- Each number of the form is within the limit, and each level is a u32.
abbrev pub IsLimited : Form → Type 0
IsLimited f = IsWithin f.constant × All IsWithin f.coefficients × (length f.coefficients ≤ 2 ^ 32)
