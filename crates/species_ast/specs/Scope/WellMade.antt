-- Well made units: those that passes take and give. A lawful program that is written by its
-- definition becomes one, which also has the size of one that is read.
use Rattle.std.specs.Prelude.{◌≡◌, ℕ, zero, suc, ◌^◌, ◌<◌, Bool, true, false, ◌&&◌, not, nat_eq, nat_lt, nat_le, List, [], ◌∷◌, ◌++◌, map, length, Option, Some, None, option_map, unwrap_or, is_some, slice_get, IsTrue}
use Rattle.std.specs.List.{list_all, filter}
use Rattle.species_ast.specs.declared.tree.Array.{Array}
use Rattle.species_ast.specs.declared.tree.Mark.{Mark}
use Rattle.species_ast.specs.declared.tree.Mark.TheVariants.{Plain, Parallel}
use Rattle.species_ast.specs.declared.tree.Expr.{Expr, fold-Expr}
use Rattle.species_ast.specs.declared.tree.Expr.TheOpen.{Expr-F}
use Rattle.species_ast.specs.declared.tree.Stmt.{Stmt, fold-Stmt}
use Rattle.species_ast.specs.declared.tree.Stmt.TheOpen.{Stmt-F, Loop-F}
use Rattle.species_ast.specs.declared.tree.Unit.{Unit}
use Rattle.species_ast.specs.Marks.{all_true}
use Rattle.species_ast.specs.Run.{locals_in}
use Rattle.species_ast.specs.Scope.Forms.{form_of, iterators_in}
use Rattle.species_ast.specs.Scope.Hulls.{passes_hull}
use Rattle.species_ast.specs.Scope.Magnitudes.{passes_bound}
use Rattle.species_ast.specs.Scope.Limits.{most_references_made, has_too_many_dimensions, has_lawful_sizes, goes, is_too_deep, is_too_far}
use Rattle.species_ast.specs.Scope.Loops.{Nesting, no_loops, entered}
use Rattle.species_ast.specs.Scope.References.{larger_than}
use Rattle.species_ast.specs.Scope.Meanings.{is_among}
use Rattle.species_ast.specs.Scope.Nests.{Bounds, only_loops, front_with, is_bad_mark}

-- What a place in a unit may name: the arrays, the locals that are declared there, and how many loops stand around it.
pub record Around : Type 0 where
  pub arrays : List Array
  pub locals : List ℕ
  pub level : ℕ

-- ---- expressions

-- there is an array of this number, with so many dimensions
abbrev pub is_array : Around → ℕ → ℕ → Bool
is_array w a dimensions = unwrap_or (option_map (λ x. nat_eq (length x.dims) dimensions) (slice_get w.arrays a)) false

abbrev pub is_made_at : Around → Expr-F Bool → Bool
is_made_at w (Expr-F.Literal v) = true
is_made_at w (Expr-F.Iter level) = nat_lt level w.level
is_made_at w (Expr-F.Local x) = is_among w.locals x
is_made_at w (Expr-F.Elem a subs) = is_array w a (length subs) && all_true subs
is_made_at w (Expr-F.Unary op a) = a
is_made_at w (Expr-F.Binary op a b) = a && b
is_made_at w (Expr-F.And a b) = a && b
is_made_at w (Expr-F.Or a b) = a && b
is_made_at w (Expr-F.Cond c a b) = c && (a && b)
is_made_at w (Expr-F.Cast k a) = a

-- what an expression names is there: its arrays, locals and iterators; and each element has one subscript for each dimension
-- of its array
abbrev pub is_made : Around → Expr → Bool
is_made w = fold-Expr Bool (is_made_at w)

abbrev pub is_made_target : Around → ℕ → List Expr → Bool
is_made_target w a subs = is_array w a (length subs) && list_all (is_made w) subs

-- a bound is affine, and names only iterators of loops around its own
abbrev pub is_made_bound : ℕ → Expr → Bool
is_made_bound level e = is_some (form_of e) && list_all (λ i. nat_lt i level) (iterators_in e)

-- ---- statements

-- A statement: the locals that it declares for those behind it, the loops that are perfectly nested in it, whether what it names
-- is there and its loops have bounds and steps, and whether its loops keep the limits and their marks fit.
pub record Made : Type 0 where
  pub declares : List ℕ
  pub front : List Bounds
  pub holds : Around → Bool
  pub keeps : Nesting → Bool

-- a list of statements, each of which sees the locals that those before it declare
abbrev pub list_holds : List Made → Around → Bool
list_holds [] w = true
list_holds (s ∷ ss) w = s.holds w && list_holds ss (record w { locals = s.declares ++ w.locals })

abbrev pub list_keeps : List Made → Nesting → Bool
list_keeps ss n = list_all (λ s. s.keeps n) ss

abbrev pub fronts_of : List Made → List (List Bounds)
fronts_of ss = map (λ s. s.front) ss

abbrev pub simple : (Around → Bool) → Made
simple holds = record { declares = []; front = []; holds = holds; keeps = λ n. true }

abbrev pub init_holds : Around → Option Expr → Bool
init_holds w (Some e) = is_made w e
init_holds w None = true

abbrev pub made_at : Stmt-F Made Made → Made
made_at (Stmt-F.Assign place a subs value) = simple (λ w. is_made_target w a subs && is_made w value)
made_at (Stmt-F.AddTo place a subs value atomic) = simple (λ w. is_made_target w a subs && is_made w value)
made_at (Stmt-F.Declare place x init) = record (simple (λ w. init_holds (record w { locals = x ∷ w.locals }) init)) { declares = x ∷ [] }
made_at (Stmt-F.SetLocal place x value) = simple (λ w. is_among w.locals x && is_made w value)
made_at (Stmt-F.If place test body otherwise) = record {
  declares = [];
  front = [];
  holds = λ w. is_made w test && (list_holds body w && list_holds otherwise w);
  keeps = λ n. list_keeps body n && list_keeps otherwise n;
}
made_at (Stmt-F.For l) = l
made_at (Stmt-F.Block body) =
    record { declares = []; front = only_loops (fronts_of body); holds = list_holds body; keeps = list_keeps body }

-- the depth of a parallel mark is not 0
abbrev pub has_depth : Mark → Bool
has_depth Plain = true
has_depth (Parallel depth schedule) = nat_le 1 depth

-- the bounds and the step of a loop, and the depth of its mark
abbrev pub head_holds : {X Y : Type 0} → Loop-F X Y → Around → Bool
head_holds l w =
    is_made_bound w.level l.start && (is_made_bound w.level l.limit && (goes l.test l.step && has_depth l.mark))

-- a loop with this front, in these loops, keeps the limits Loops, Step, Hull and Bound, and its mark fits
abbrev pub head_keeps : {X Y : Type 0} → List Bounds → Loop-F X Y → Nesting → Bool
head_keeps front l n =
    not (is_too_deep n.level) && (not (is_too_far l.step) && (not (passes_hull n.path l) && (not (passes_bound n.path l)
    && not (is_bad_mark n.in_nest n.level l.mark front))))

abbrev pub made_loop : Loop-F Made Made → Made
made_loop l =
    let front = front_with l.start l.limit (fronts_of l.body) in
    record {
      declares = [];
      front = front;
      holds = λ w. head_holds l w && list_holds l.body (record w { level = suc w.level });
      keeps = λ n. head_keeps front l n && list_keeps l.body (entered l n);
    }

abbrev pub made : Stmt → Made
made = fold-Stmt Made Made made_at made_loop

-- ---- units

-- so many numbers from 0
abbrev pub below : ℕ → List ℕ
below zero = []
below (suc n) = n ∷ below n

-- each local of the unit has one declaration, and nothing else is declared
abbrev pub is_declared_once : ℕ → List ℕ → Bool
is_declared_once n declared =
    list_all (λ x. nat_eq (length (filter (nat_eq x) declared)) 1) (below n) && list_all (λ x. nat_lt x n) declared

-- an array keeps the limits on dimensions and elements
abbrev pub is_made_array : Array → Bool
is_made_array a = not (has_too_many_dimensions a) && has_lawful_sizes a

abbrev pub outermost : Unit → Around
outermost u = record { arrays = u.arrays; locals = []; level = 0 }

-- A unit is well made.
pub record IsWellMade (u : Unit) : Type 0 where
  pub few_arrays : length u.arrays < 2 ^ 32
  pub few_locals : length u.locals < 2 ^ 32
  pub arrays : IsTrue (list_all is_made_array u.arrays)
  pub locals : IsTrue (is_declared_once (length u.locals) (locals_in u.body))
  pub body : IsTrue (list_holds (map made u.body) (outermost u))
  pub limits : IsTrue (list_keeps (map made u.body) no_loops)
  pub references : larger_than most_references_made u ≡ []
