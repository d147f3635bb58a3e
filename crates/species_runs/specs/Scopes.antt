-- Locals in and out of scope, and what a statement leaves of the frame.
use Rattle.std.specs.Prelude.{◌≡◌, ℕ, Bool, true, false, not, List, [], ◌∷◌, ◌++◌, map, filter, flat_map, length, None}
use Rattle.species_ast.specs.declared.tree.Stmt.{Stmt, fold-Stmt}
use Rattle.species_ast.specs.declared.tree.Stmt.TheOpen.{Stmt-F}
use Rattle.species_ast.specs.Evaluation.{Frame, local_of}
use Rattle.species_ast.specs.Run.{locals_in}
use Rattle.species_ast.specs.Scope.Meanings.{is_among}
use Rattle.species_ast.specs.Scope.WellMade.{Around, list_holds, made}

-- a list without what is in another
abbrev pub without : List ℕ → List ℕ → List ℕ
without xs ys = filter (λ x. not (is_among ys x)) xs

-- ---- locals that are set

-- the locals that a statement sets, at any depth, in the order of the text
abbrev pub sets_at : Stmt-F (List ℕ) (List ℕ) → List ℕ
sets_at (Stmt-F.SetLocal place x value) = x ∷ []
sets_at (Stmt-F.If place test body otherwise) = flat_map (λ xs. xs) body ++ flat_map (λ xs. xs) otherwise
sets_at (Stmt-F.For l) = l
sets_at (Stmt-F.Block body) = flat_map (λ xs. xs) body
sets_at s = []

abbrev pub sets_of : Stmt → List ℕ
sets_of = fold-Stmt (List ℕ) (List ℕ) sets_at (λ l. flat_map (λ xs. xs) l.body)

abbrev pub sets_in : List Stmt → List ℕ
sets_in ss = flat_map (λ xs. xs) (map sets_of ss)

-- the locals that these statements set and do not declare, at any depth, in the order of the text
abbrev pub outer_locals_set : List Stmt → List ℕ
outer_locals_set ss = without (sets_in ss) (locals_in ss)

-- ---- frames

-- a local that is not among these has no value
abbrev pub HasOnly : List ℕ → Frame → Type 0
HasOnly scope f = (x : ℕ) → is_among scope x ≡ false → local_of f x ≡ None

-- the frame g is f but for the locals of which `may` is true
pub record IsBut (may : ℕ → Bool) (f g : Frame) : Type 0 where
  pub iters : g.iters ≡ f.iters
  pub size : length g.locals ≡ length f.locals
  pub rest : (y : ℕ) → may y ≡ false → local_of g y ≡ local_of f y

-- no local is in both lists
abbrev pub AreApart : List ℕ → List ℕ → Type 0
AreApart xs ys = (y : ℕ) → is_among xs y ≡ true → is_among ys y ≡ false

-- These statements fit where they stand: what they name is there, they declare no local that is in scope there, and in the
-- frame a local out of scope has no value.
pub record FitIn (body : List Stmt) (f : Frame) : Type 0 where
  pub around : Around
  pub holds : list_holds (map made body) around ≡ true
  pub apart : AreApart (locals_in body) around.locals
  pub only : HasOnly around.locals f
