-- Forms and their values.
use Rattle.std.specs.Prelude.{nat_eq, if◌then◌else◌, ℕ, ◌<◌, ◌^◌, ℤ, pos, ◌+ℤ◌, ◌*ℤ◌, List, [], ◌∷◌, All}
use Rattle.std.specs.Int.RustNames.{unsigned_abs}
use Rattle.species_linear.specs.declared.forms.Term.{Term}
use Rattle.species_linear.specs.declared.forms.Form.{Form}
use Rattle.species_linear.specs.Point.{Point}

-- The sum of the terms at a point.
abbrev pub sum_at : List Term → Point → ℤ
sum_at [] p = pos 0
sum_at (t ∷ ts) p = t.coefficient *ℤ p t.level +ℤ sum_at ts p

-- The value of a form at a point.
abbrev pub form_at : Form → Point → ℤ
form_at f p = f.constant +ℤ sum_at f.terms p

-- The coefficient of a level, 0 where no term names it.
abbrev pub coefficient_at : List Term → ℕ → ℤ
coefficient_at [] k = pos 0
coefficient_at (t ∷ ts) k = if nat_eq t.level k then t.coefficient else coefficient_at ts k

-- Each level that the form names is below n.
abbrev pub NamesOnly : Form → ℕ → Type 0
NamesOnly f n = All (λ t. t.level < n) f.terms

-- The constant and each coefficient are below 2^70 in size.
abbrev pub HasSmallForm : Form → Type 0
HasSmallForm f = (unsigned_abs f.constant < 2 ^ 70) × All (λ t. unsigned_abs t.coefficient < 2 ^ 70) f.terms
