-- Statements whose accesses are those of their references: the bounds of loops are affine, their steps go in the direction of the
-- test, and additions are counted as they are marked.
use Rattle.std.specs.Prelude.{Bool, true, ◌&&◌, not, if◌then◌else◌, is_some}
use Rattle.species_ast.specs.declared.tree.Stmt.{Stmt, fold-Stmt}
use Rattle.species_ast.specs.declared.tree.Stmt.TheOpen.{Stmt-F, Loop-F}
use Rattle.species_ast.specs.Marks.{all_true}
use Rattle.species_ast.specs.Scope.Forms.{form_of}
use Rattle.species_ast.specs.Scope.Limits.{goes}
use Rattle.species_ast.specs.Scope.References.{Adding}

-- each `+=` that is atomic is an add, and no other
abbrev pub as_marked : Adding
as_marked a atomic = atomic

abbrev pub agree : Bool → Bool → Bool
agree a b = if a then b else not b

abbrev pub regular_at : Adding → Stmt-F Bool Bool → Bool
regular_at adds (Stmt-F.AddTo place a subs value atomic) = agree (adds a atomic) atomic
regular_at adds (Stmt-F.If place test body otherwise) = all_true body && all_true otherwise
regular_at adds (Stmt-F.For l) = l
regular_at adds (Stmt-F.Block body) = all_true body
regular_at adds s = true

abbrev pub regular_loop : Loop-F Bool Bool → Bool
regular_loop l = is_some (form_of l.start) && (is_some (form_of l.limit) && (goes l.test l.step && all_true l.body))

abbrev pub is_regular : Adding → Stmt → Bool
is_regular adds = fold-Stmt Bool Bool (regular_at adds) regular_loop
