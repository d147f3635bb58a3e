-- What holds of each tree that is read from a text, and is asked of one that is made otherwise.
use Rattle.std.specs.Prelude.{ℕ, suc, ◌+◌, ◌≤◌, Bool, true, ◌&&◌, nat_le, map, length, sum, Option, Some, None, IsTrue}
use Rattle.std.specs.List.{list_all}
use Rattle.species_ast.specs.declared.tree.Schedule.{Schedule}
use Rattle.species_ast.specs.declared.raw.RawStmt.{RawStmt, fold-RawStmt}
use Rattle.species_ast.specs.declared.raw.RawWhat.TheOpen.{RawWhat-F}
use Rattle.species_ast.specs.declared.raw.RawUnit.{RawUnit}
use Rattle.species_ast.specs.Limits.{most_bytes}
use Rattle.species_ast.specs.Marks.{all_true}
use Rattle.species_ast.specs.Scope.Programs.{program_of}

-- ---- how many statements are written

abbrev pub count_or_none : Option ℕ → ℕ
count_or_none (Some n) = n
count_or_none None = 0

abbrev pub count_at : RawWhat-F ℕ ℕ ℕ → ℕ
count_at (RawWhat-F.Block counts) = sum counts
count_at (RawWhat-F.If test body otherwise) = body + count_or_none otherwise
count_at (RawWhat-F.Loop count) = count
count_at w = 0

-- a statement, with those inside it
abbrev pub statements_in : RawStmt → ℕ
statements_in = fold-RawStmt ℕ ℕ ℕ count_at (λ l. l.body) (λ s. suc s.what)

-- ---- the depths of parallel marks

abbrev pub has_depth : Option (ℕ × Schedule) → Bool
has_depth (Some m) = nat_le 1 m.0
has_depth None = true

abbrev pub holds_or_none : Option Bool → Bool
holds_or_none (Some b) = b
holds_or_none None = true

abbrev pub depths_at : RawWhat-F Bool Bool Bool → Bool
depths_at (RawWhat-F.Block all) = all_true all
depths_at (RawWhat-F.If test body otherwise) = body && holds_or_none otherwise
depths_at (RawWhat-F.Loop l) = l
depths_at w = true

-- the depth of no parallel mark in a statement is 0
abbrev pub has_depths : RawStmt → Bool
has_depths = fold-RawStmt Bool Bool Bool depths_at (λ l. has_depth l.parallel && l.body) (λ s. s.what)

-- ---- programs

-- A program is no larger than a text can write it, and its parallel marks have depths.
pub record IsWritten (u : RawUnit) : Type 0 where
  pub small : length (program_of u).names + sum (map statements_in u.body) ≤ most_bytes
  pub depths : IsTrue (list_all has_depths u.body)
