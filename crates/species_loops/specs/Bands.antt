-- Bands: leading loops of a perfect nest whose bounds name none of their iterators.
use Rattle.std.specs.Prelude.{◌≡◌, ℕ, ◌+◌, ◌≤◌, Bool, true, ◌&&◌, not, nat_le, nat_lt, List, map, flat_map, take, length}
use Rattle.std.specs.List.{list_any}
use Rattle.species_ast.specs.declared.tree.Expr.{Expr}
use Rattle.species_ast.specs.declared.tree.Stmt.{Stmt, fold-Stmt}
use Rattle.species_ast.specs.Scope.Forms.{iterators_in}
use Rattle.species_ast.specs.Scope.Nests.{Bounds, front_step, front_layer, named_in}

-- the perfectly nested loops with which a statement begins
abbrev pub front_in : Stmt → List Bounds
front_in = fold-Stmt (List Bounds) (List Bounds) front_step front_layer

abbrev pub iterators_of_all : List Expr → List ℕ
iterators_of_all es = flat_map (λ is. is) (map iterators_in es)

-- the iterator of one of so many loops from a level on
abbrev pub is_of_band : ℕ → ℕ → ℕ → Bool
is_of_band first size i = nat_le first i && nat_lt i (first + size)

abbrev pub names_band : ℕ → ℕ → List ℕ → Bool
names_band first size is = list_any (is_of_band first size) is

-- so many leading loops of a front are there, and their bounds name no iterator of the band
abbrev pub keeps_out : ℕ → ℕ → ℕ → List Bounds → Bool
keeps_out first size n front = nat_le n (length front) && not (names_band first size (named_in (take n front)))

-- so many leading loops of a front, of which the first has this level, may be a band
abbrev pub is_band : ℕ → List Bounds → ℕ → Bool
is_band level front n = keeps_out level n n front

-- the greatest band that a front begins with
pub record IsLongestBand (level : ℕ) (front : List Bounds) (n : ℕ) : Type 0 where
  pub is_one : is_band level front n ≡ true
  pub longest : (m : ℕ) → is_band level front m ≡ true → m ≤ n
