-- What a name means where it stands (C17 6.2.1).
use Rattle.std.specs.Prelude.{ℕ, zero, suc, Bool, nat_eq, if◌then◌else◌, bytes_eq, List, [], ◌∷◌, Option, Some, None}
use Rattle.std.specs.List.{list_any}
use Rattle.species_ast.specs.Spelling.{Spelling}
use Rattle.species_ast.specs.declared.tree.Kind.{Kind}

-- A local: its number among all locals that the program declares, in the order of the text, its kind, and whether it is
-- declared with an initialiser.
pub record Local : Type 0 where
  pub serial : ℕ
  pub kind : Kind
  pub initialised : Bool

pub data Meaning : Type 0 where
  -- the array of this number, of so many dimensions
  Array : ℕ → ℕ → Meaning
  Variable : Local → Meaning
  -- the iterator of the loop of this level
  Iterator : ℕ → Meaning
  -- the program's one function
  Function : Meaning

-- Where something stands.
pub record Scope : Type 0 where
  -- the names that are declared there, the last one first
  pub names : List (List ℕ × Meaning)
  -- how many loops stand around it
  pub level : ℕ
  -- how many locals are declared before it, in this scope or another
  pub serials : ℕ
  -- the serial numbers of the locals that loops without `int` have as their iterators; these do not change from place to place
  pub iterators : List ℕ

abbrev pub meaning_in : List (List ℕ × Meaning) → List ℕ → Option Meaning
meaning_in [] name = None
meaning_in (n ∷ names) name = if bytes_eq n.0 name then Some n.1 else meaning_in names name

-- what a name means: what it was last declared as
abbrev pub meaning_of : Scope → Spelling → Option Meaning
meaning_of s name = meaning_in s.names name.text

-- ---- declarations

abbrev pub scope_with : Spelling → Meaning → Scope → Scope
scope_with name m s = record s { names = (name.text, m) ∷ s.names }

-- behind the declarator of a local
abbrev pub scope_with_local : Spelling → Local → Scope → Scope
scope_with_local name x s = record s { names = (name.text, Variable x) ∷ s.names; serials = suc s.serials }

-- in the limit, the step and the body of a loop (C17 6.8.5)
abbrev pub in_loop : Spelling → Scope → Scope
in_loop iter s = record s { names = (iter.text, Iterator s.level) ∷ s.names; level = suc s.level }

-- behind a scope that ends: what was declared in it is gone
abbrev pub behind : Scope → Scope → Scope
behind outer inner = record outer { serials = inner.serials }

-- ---- the numbers of locals

abbrev pub is_among : List ℕ → ℕ → Bool
is_among xs x = list_any (nat_eq x) xs

-- how many of the first n locals are not the iterators of loops
abbrev pub count_before : List ℕ → ℕ → ℕ
count_before iterators zero = 0
count_before iterators (suc n) = if is_among iterators n then count_before iterators n else suc (count_before iterators n)

-- the number of a local: those that are the iterators of loops have none, and are not counted
abbrev pub local_number : Scope → ℕ → ℕ
local_number s serial = count_before s.iterators serial

-- ---- occurrences

-- What a name is used for where it stands.
pub data Role : Type 0 where
  Declared : Role
  -- its value is taken, or it is assigned to, with so many subscripts
  Taken : ℕ → Role
  Assigned : ℕ → Role
  -- a loop without `int` has it as its iterator
  Iterates : Role
  -- it stands before a loop's comparison or in its step, where the iterator should
  InHeader : Role

-- A name where it stands, and what it means there; of a declaration, what the name meant before.
pub record Occurrence : Type 0 where
  pub name : Spelling
  pub role : Role
  pub means : Option Meaning

abbrev pub occurrence : Role → Scope → Spelling → Occurrence
occurrence role s name = record { name = name; role = role; means = meaning_of s name }
