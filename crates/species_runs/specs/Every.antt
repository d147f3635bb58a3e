-- What holds of every access of a piece of program and of all that it computes, whatever its reads give.
use Rattle.std.specs.Prelude.{◌≡◌}
use Rattle.species_ast.specs.declared.tree.Value.{Value}
use Rattle.species_ast.specs.Accesses.{Tree, Ret, Stop, Read, Write, Add, Access, access, Reads, Writes, Adds}

-- nothing is said
abbrev pub Anything : {X : Type 0} → X → Type 0
Anything x = Unit {0}

-- P holds of each access, and Q of what is computed
abbrev pub Every : {X : Type 0} → (Access → Type 0) → (X → Type 0) → Tree X → Type 0
Every P Q (Ret x) = Q x
Every P Q (Stop s why) = Unit {0}
Every P Q (Read s e more) = (v : Value) → P (access s Reads e v) × Every P Q (more v)
Every P Q (Write s e v more) = P (access s Writes e v) × Every P Q more
Every P Q (Add s e v more) = P (access s Adds e v) × Every P Q more

-- Q holds of what is computed
abbrev pub Gives : {X : Type 0} → (X → Type 0) → Tree X → Type 0
Gives Q t = Every Anything Q t

abbrev pub IsRead : Access → Type 0
IsRead a = a.direction ≡ Reads

-- each access is a read
abbrev pub OnlyReads : {X : Type 0} → Tree X → Type 0
OnlyReads t = Every IsRead Anything t

-- there is no access
abbrev pub IsQuiet : {X : Type 0} → Tree X → Type 0
IsQuiet t = Every (λ a. ⊥) Anything t
