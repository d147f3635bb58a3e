-- Bounds as forms.
use Rattle.std.specs.Prelude.{◌≡◌, ◌≤◌, ◌^◌, ◌+ℤ◌, ℤ, pos, Option, Some, None, IsTrue, is_some}
use Rattle.std.specs.Int.RustNames.{unsigned_abs}
use Rattle.species_ast.specs.declared.tree.Expr.{Expr}
use Rattle.species_ast.specs.Scope.Forms.{Form, form_of, constant_form}
use Rattle.species_ast.specs.Scope.Hulls.{bound_form}
use denote.Ref.{Bor}

-- the expression has a form
abbrev pub IsAffine : Expr → Type 0
IsAffine e = IsTrue (is_some (form_of e))

-- the form of an expression that is affine; none counts as 0
abbrev pub form_in : Option (Bor Expr) → Form
form_in (Some e) = bound_form e.now
form_in None = constant_form (pos 0)

abbrev pub HasForm : Option (Bor Expr) → Type 0
HasForm (Some e) = IsAffine e.now
HasForm None = Unit {0}

-- a number more
abbrev pub moved : ℤ → Form → Form
moved n f = record f { constant = f.constant +ℤ n }

-- at most one more or less than an affine expression
abbrev pub IsBound : Option (Bor Expr) → ℤ → Type 0
IsBound e n = HasForm e × (unsigned_abs n ≤ 1)
