-- Values of a kind, and joins that give them.
use Rattle.std.specs.Prelude.{◌≡◌, ℕ}
use Rattle.species_ast.specs.declared.tree.Kind.{Kind}
use Rattle.species_ast.specs.declared.tree.Value.{Value}
use Rattle.species_ast.specs.Operators.{kind_of, IsValue}
use Rattle.species_ast.specs.Accesses.{Joins}

-- a value of the kind
abbrev pub IsOf : Kind → Value → Type 0
IsOf k v = (kind_of v ≡ k) × IsValue v

-- joined to a value of a kind, a value of the kind gives one
abbrev pub KeepsValues : Joins → Type 0
KeepsValues join = (a : ℕ) (k : Kind) (c v : Value) → IsOf k c → IsOf k v → IsOf k (join a c v)
