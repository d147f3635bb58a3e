-- Scopes inside scopes.
use Rattle.std.specs.Prelude.{◌≡◌, List, ◌++◌, length}
use Rattle.species_ast.specs.Scope.Meanings.{Scope, behind}
use Rattle.species_names.specs.Naming.{Naming}
use Rattle.species_names.specs.declared.place.ScopeMark.{ScopeMark}

-- what the mark of a scope says
pub record Marks (m : ScopeMark) (s : Scope) : Type 0 where
  pub depth : m.depth ≡ length s.names
  pub level : m.level ≡ s.level

-- only names are declared between the two
pub record IsInside (outer inner : Scope) : Type 0 where
  pub more : List Naming
  pub names : inner.names ≡ more ++ outer.names
  pub iterators : inner.iterators ≡ outer.iterators

-- the scope that a mark was set in ends
abbrev pub Within : ScopeMark → Scope → Scope → Type 0
Within m old new = (outer : Scope) → Marks m outer → IsInside outer old → new ≡ behind outer old
