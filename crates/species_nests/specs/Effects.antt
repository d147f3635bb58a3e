-- What the statements of a unit do to their surroundings: the arrays to which they add atomically, and headers that touch no array.
use Rattle.std.specs.Prelude.{◌≡◌, ℕ, List, map, ◌&&◌, Bool, true, false}
use Rattle.std.specs.List.{Contains}
use Rattle.species_ast.specs.declared.tree.Loop.{Loop}
use Rattle.species_ast.specs.declared.tree.Stmt.{Stmt, fold-Stmt}
use Rattle.species_ast.specs.declared.tree.Stmt.TheOpen.{Stmt-F}
use Rattle.species_ast.specs.declared.tree.Unit.{Unit as Program}
use Rattle.species_ast.specs.Marks.{all_true}
use Rattle.species_ast.specs.Evaluation.{Frame, Context, array_kind}
use Rattle.species_ast.specs.Run.{Takes, source_context}
use Rattle.species_runs.specs.Every.{IsQuiet}
use Rattle.species_nests.specs.Arrivals.{header}
use Rattle.species_nests.specs.Nests.{loops_in}

-- ---- atomic additions

-- each atomic addition in a statement is to an array that takes it
abbrev pub adds_at : Takes → Context → Stmt-F Bool Bool → Bool
adds_at takes w (Stmt-F.Assign place a subs value) = true
adds_at takes w (Stmt-F.AddTo place a subs value true) = takes a (array_kind w a)
adds_at takes w (Stmt-F.AddTo place a subs value false) = true
adds_at takes w (Stmt-F.Declare place x init) = true
adds_at takes w (Stmt-F.SetLocal place x value) = true
adds_at takes w (Stmt-F.If place test body otherwise) = all_true body && all_true otherwise
adds_at takes w (Stmt-F.For l) = l
adds_at takes w (Stmt-F.Block body) = all_true body

abbrev pub adds_taken : Takes → Context → Stmt → Bool
adds_taken takes w = fold-Stmt Bool Bool (adds_at takes w) (λ l. all_true l.body)

-- in the whole unit
abbrev pub AddsTaken : Takes → Program → Type 0
AddsTaken takes u = all_true (map (adds_taken takes (source_context u)) u.body) ≡ true

-- ---- headers

-- the header of a loop touches no array, wherever it stands; that of a lawful loop does not, since its bounds are affine
abbrev pub HasQuietHeader : Context → Loop → Type 0
HasQuietHeader w l = (at : List ℕ) (f : Frame) → IsQuiet (header w l at f)

abbrev pub HasQuietHeaders : Program → Type 0
HasQuietHeaders u = (l : Loop) → Contains (loops_in u.body) l → HasQuietHeader (source_context u) l
