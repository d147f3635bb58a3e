-- The law of written programs: each tree that is read from a text within the limit is one that a text can write.
use Rattle.std.specs.Prelude.{ℕ, ◌≤◌, List, length}
use Rattle.species_ast.specs.declared.raw.RawUnit.{RawUnit}
use Rattle.species_ast.specs.Limits.{most_bytes}
use Rattle.species_ast.specs.Reading.{Reads}
use Rattle.species_ast.specs.Scope.Written.{IsWritten}

pub record ReadsWrittenTrees : Type 0 where
  pub written : (text : List ℕ) (u : RawUnit) → length text ≤ most_bytes → Reads text u → IsWritten u
