-- The form that the analysis holds, beside the form that an expression has by definition.
use Rattle.std.specs.Prelude.{◌≡◌, ℕ, Option, Some, None, All}
use Rattle.species_ast.specs.Scope.Forms as text
use Rattle.species_linear.specs.declared.forms.Form.{Form}
use Rattle.species_linear.specs.Rising.{IsRising}
use Rattle.species_linear.specs.Value.{coefficient_at}
use Rattle.species_affine.specs.declared.subscript.Subscript.{Subscript}
use Rattle.species_affine.specs.declared.subscript.Subscript.TheVariants.{Affine, Other}
use Rattle.species_affine.specs.Limited.{IsWithin}

-- One form in two spellings: equal constants, and equal coefficients at each level. The terms rise, and none is 0.
pub record IsSameForm (f : Form) (g : text.Form) : Type 0 where
  pub constant : f.constant ≡ g.constant
  pub coefficients : (level : ℕ) → coefficient_at f.terms level ≡ text.coefficient_at g level
  pub rising : IsRising f.terms

-- The subscript shows the form of an expression, or that it has none.
abbrev pub IsSubscript : Subscript → Option text.Form → Type 0
IsSubscript (Affine f) (Some g) = IsSameForm f g
IsSubscript (Affine f) None = ⊥
IsSubscript Other (Some g) = ⊥
IsSubscript Other None = Unit {0}

-- The constant and each coefficient are within the limit of a form.
abbrev pub HasFormNumbers : Subscript → Type 0
HasFormNumbers (Affine f) = IsWithin f.constant × All (λ t. IsWithin t.coefficient) f.terms
HasFormNumbers Other = Unit {0}
