-- What holds of some access on each way through a piece of program that comes to its end.
use Rattle.std.specs.Prelude.{◌≡◌, ◌⊎◌, ℕ, List, [], ◌∷◌, true, ℤ, is_some}
use Rattle.species_ast.specs.declared.tree.Value.{Value}
use Rattle.species_ast.specs.Accesses.{Tree, Ret, Stop, Read, Write, Add, Access, access, Reads, Writes, Adds}
use Rattle.species_ast.specs.Scope.Hulls.{Range}
use Rattle.species_ast.specs.Scope.References.{Reference}
use Rattle.species_occurrences.specs.Made.{IsMadeBy}

-- P holds of one of the accesses
abbrev pub Surely : {X : Type 0} → (Access → Type 0) → Tree X → Type 0
Surely P (Ret x) = ⊥
Surely P (Stop s why) = Unit {0}
Surely P (Read s e more) = (v : Value) → P (access s Reads e v) ⊎ Surely P (more v)
Surely P (Write s e v more) = P (access s Writes e v) ⊎ Surely P more
Surely P (Add s e v more) = P (access s Adds e v) ⊎ Surely P more

-- it is made by the reference, while the iterators have these values
abbrev pub IsDoneAt : (ℕ → List ℕ) → List ℤ → Reference → Access → Type 0
IsDoneAt sizes iters r a = IsMadeBy sizes r a × (a.site.iters ≡ iters)

abbrev pub IsOneOf : Reference → List Reference → Type 0
IsOneOf r [] = ⊥
IsOneOf r (q ∷ rs) = (r ≡ q) ⊎ IsOneOf r rs

-- the bounds of loops with these ranges are constant
abbrev pub AreConstant : List Range → Type 0
AreConstant [] = Unit {0}
AreConstant (r ∷ rs) = (is_some r.start ≡ true) × (r.fixed ≡ true) × AreConstant rs
