-- What affine expressions give: the value of their form at the iterators in force.
use Rattle.std.specs.Prelude.{◌≡◌, ℕ, List, [], ◌∷◌, ℤ, pos, Option, Some, None}
use Rattle.species_ast.specs.declared.tree.Value.{Value}
use Rattle.species_ast.specs.declared.tree.Value.TheVariants.{Int}
use Rattle.species_ast.specs.Scope.Forms.{Form, form_value}
use Rattle.species_occurrences.specs.Iterators.{IsInt}

-- of an expression that has this form
abbrev pub IsFormValue : Form → List ℤ → Value → Type 0
IsFormValue f iters v = (v ≡ Int (form_value f iters)) × IsInt (form_value f iters)

-- of an expression that has this form, or none
abbrev pub IsValueOf : Option Form → List ℤ → Value → Type 0
IsValueOf (Some f) iters v = IsFormValue f iters v
IsValueOf None iters v = Unit {0}

abbrev pub AreValuesOf : List (Option Form) → List ℤ → List Value → Type 0
AreValuesOf [] iters [] = Unit {0}
AreValuesOf [] iters (v ∷ vs) = ⊥
AreValuesOf (o ∷ os) iters [] = ⊥
AreValuesOf (o ∷ os) iters (v ∷ vs) = IsValueOf o iters v × AreValuesOf os iters vs

-- an index is the value of the form of its subscript, where that is affine
abbrev pub IsIndexOf : Option Form → List ℤ → ℕ → Type 0
IsIndexOf (Some f) iters i = pos i ≡ form_value f iters
IsIndexOf None iters i = Unit {0}

-- one index for each subscript
abbrev pub AreIndicesOf : List (Option Form) → List ℤ → List ℕ → Type 0
AreIndicesOf [] iters [] = Unit {0}
AreIndicesOf [] iters (i ∷ is) = ⊥
AreIndicesOf (o ∷ os) iters [] = ⊥
AreIndicesOf (o ∷ os) iters (i ∷ is) = IsIndexOf o iters i × AreIndicesOf os iters is
