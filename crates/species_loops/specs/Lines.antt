-- What a form is at one level.
use Rattle.std.specs.Prelude.{◌≡◌, ℕ, Option, Some, None}
use Rattle.species_affine.specs.Limited.{IsWithin}
use Rattle.species_ast.specs.Scope.Forms.{Form, coefficient_at}
use Rattle.species_loops.specs.declared.line.Line.{Line}

-- the constant of a form, and its coefficient of a level
abbrev pub IsLineOf : Line → ℕ → Form → Type 0
IsLineOf l level f = (l.constant ≡ f.constant) × (l.slope ≡ coefficient_at f level)

-- those of the form, if there is one
abbrev pub IsLine : Line → ℕ → Option Form → Type 0
IsLine l level (Some f) = IsLineOf l level f
IsLine l level None = Unit {0}

-- both numbers are such as a form may have
abbrev pub HasFormNumbers : Line → Type 0
HasFormNumbers l = IsWithin l.constant × IsWithin l.slope
