-- The conditions under which a program is refused, each with the places where it holds.
use Rattle.std.specs.Prelude.{◌≡◌, ℕ, Bool, true, false, ◌&&◌, not, nat_eq, List, [], ◌∷◌, ◌++◌, flat_map, ℤ, Option, Some, None, is_some, is_none, Result, Ok, Err}
use Rattle.species_ast.specs.declared.tree.Kind.{Kind}
use Rattle.species_ast.specs.declared.tree.Kind.TheVariants as kind
use Rattle.species_ast.specs.declared.tree.Test.{Test}
use Rattle.species_ast.specs.declared.tree.Expr.{Expr}
use Rattle.species_ast.specs.declared.tree.Loop.{out-Loop}
use Rattle.species_ast.specs.declared.tree.Unit.{Unit}
use Rattle.species_ast.specs.declared.raw.RawUnit.{RawUnit}
use Rattle.species_ast.specs.Scope.Forms.{form_of, iterators_in}
use Rattle.species_ast.specs.Scope.Meanings.{Meaning, is_among, Role, Declared, Taken, Assigned, Iterates, InHeader, Occurrence}
use Rattle.species_ast.specs.Scope.Hulls.{passes_hull}
use Rattle.species_ast.specs.Scope.Magnitudes.{passes_bound}
use Rattle.species_ast.specs.Scope.Limits.{most_references, has_too_many_dimensions, has_lawful_sizes, goes, is_too_deep, is_too_far}
use Rattle.species_ast.specs.Scope.Nests.{front_of, is_bad_mark}
use Rattle.species_ast.specs.Scope.Loops.{PlacedLoop, placed_loops}
use Rattle.species_ast.specs.Scope.References.{larger_than}
use Rattle.species_ast.specs.Scope.Programs.{Program, iterators_of, program_of}
use Rattle.species_ast.specs.Scope.Refusals.{Limit, Refusal, Finding, first_of_groups, refused_at, places_where}

-- ---- names

-- what a name means where it is used: the function's name means nothing there
abbrev pub usable : Option Meaning → Option Meaning
usable (Some Meaning.Function) = None
usable m = m

abbrev pub is_declaration : Role → Bool
is_declaration Declared = true
is_declaration role = false

-- Unknown: a name is used that has no declaration in scope
abbrev pub is_unknown : Occurrence → Bool
is_unknown o = not (is_declaration o.role) && is_none (usable o.means)

-- Duplicate: a name is declared where it already has a meaning; the function's name has one in its body
abbrev pub is_duplicate : Occurrence → Bool
is_duplicate o = is_declaration o.role && is_some o.means

-- how many subscripts a name takes: an array as many as it has dimensions, a local or an iterator none
abbrev pub takes : Meaning → ℕ → Bool
takes (Meaning.Array a dimensions) n = nat_eq n dimensions
takes m n = nat_eq n 0

-- DimensionCount: a name has another number of subscripts than it takes
abbrev pub is_miscounted_as : Role → Option Meaning → Bool
is_miscounted_as (Taken n) (Some m) = not (takes m n)
is_miscounted_as (Assigned n) (Some m) = not (takes m n)
is_miscounted_as role means = false

abbrev pub is_miscounted : Occurrence → Bool
is_miscounted o = is_miscounted_as o.role (usable o.means)

abbrev pub is_int : Kind → Bool
is_int kind.Int = true
is_int k = false

-- a loop without `int` may have a name as its iterator that is an `int` local without an initialiser, and not already
-- the iterator of a loop around it
abbrev pub is_free : Meaning → Bool
is_free (Meaning.Variable x) = is_int x.kind && not x.initialised
is_free m = false

-- IteratorAssigned: an iterator is assigned to in its loop, or a loop without `int` has a name that is not free
abbrev pub is_assigned_as : Role → Option Meaning → Bool
is_assigned_as (Assigned n) (Some (Meaning.Iterator level)) = true
is_assigned_as Iterates (Some m) = not (is_free m)
is_assigned_as role means = false

abbrev pub is_assigned_iterator : Occurrence → Bool
is_assigned_iterator o = is_assigned_as o.role (usable o.means)

-- IteratorOutside: a local that some loop has as its iterator is used outside such loops; inside them its name means the
-- iterator
abbrev pub is_outside_as : List ℕ → Role → Option Meaning → Bool
is_outside_as iterators (Taken n) (Some (Meaning.Variable x)) = is_among iterators x.serial
is_outside_as iterators (Assigned n) (Some (Meaning.Variable x)) = is_among iterators x.serial
is_outside_as iterators InHeader (Some (Meaning.Variable x)) = is_among iterators x.serial
is_outside_as iterators role means = false

abbrev pub is_outside : List ℕ → Occurrence → Bool
is_outside iterators o = is_outside_as iterators o.role o.means

abbrev pub named : (Occurrence → Bool) → Program → List ℕ
named holds p = places_where holds (λ o. o.name.place) p.names

abbrev pub refused_names : Program → List Finding
refused_names p =
    refused_at Refusal.Unknown (named is_unknown p)
    ++ (refused_at Refusal.Duplicate (named is_duplicate p)
    ++ (refused_at Refusal.DimensionCount (named is_miscounted p)
    ++ (refused_at Refusal.IteratorAssigned (named is_assigned_iterator p)
    ++ refused_at Refusal.IteratorOutside (named (is_outside (iterators_of p.names)) p))))

-- ---- bounds, sizes and steps

-- a bound of a loop of this level is an affine form and does not name the loop's own iterator
abbrev pub is_static : ℕ → Expr → Bool
is_static level e = is_some (form_of e) && not (is_among (iterators_in e) level)

-- NotStatic: a bound is not so, or the size of an array is no constant; at the first token of the expression
abbrev pub not_static : Program → List ℕ
not_static p =
    places_where (λ x. not (is_static x.level (out-Loop x.loop).start)) (λ x. x.start) p.loops
    ++ (places_where (λ x. not (is_static x.level (out-Loop x.loop).limit)) (λ x. x.limit) p.loops
    ++ flat_map (λ a. places_where (λ x. is_none x.number) (λ x. x.place) a.sizes) p.arrays)

abbrev pub is_good_step : Test → Option ℤ → Bool
is_good_step t (Some n) = goes t n
is_good_step t None = false

-- BadStep: a header names two variables, or its step is no constant, or 0, or goes in the other direction; at the `for`
abbrev pub bad_step : Program → List ℕ
bad_step p =
    places_where (λ x. not (x.one_variable && is_good_step (out-Loop x.loop).test x.step)) (λ x. x.place) p.loops

abbrev pub refused_forms : Program → List Finding
refused_forms p = refused_at Refusal.NotStatic (not_static p) ++ refused_at Refusal.BadStep (bad_step p)

-- ---- limits and marks

-- LimitPassed(Dims): at the array's name
abbrev pub too_many_dimensions : Program → List ℕ
too_many_dimensions p = places_where (λ a. has_too_many_dimensions a.array) (λ a. a.name.place) p.arrays

-- LimitPassed(Elements): at the array's name
abbrev pub too_many_elements : Program → List ℕ
too_many_elements p = places_where (λ a. not (has_lawful_sizes a.array)) (λ a. a.name.place) p.arrays

-- the `for` of each loop of a unit of which a condition holds
abbrev pub loops_where : (PlacedLoop → Bool) → Unit → List ℕ
loops_where holds u = places_where holds (λ x. (out-Loop x.head).place) (placed_loops u)

-- LimitPassed(Loops): a loop stands inside eight others
abbrev pub too_deep : Unit → List ℕ
too_deep u = loops_where (λ x. is_too_deep x.stands.around.level) u

-- LimitPassed(Step)
abbrev pub too_far : Unit → List ℕ
too_far u = loops_where (λ x. is_too_far (out-Loop x.head).step) u

-- LimitPassed(Hull) and LimitPassed(Bound): asked of no loop that stands within one which passes these or Loops
abbrev pub past_hull : Unit → List ℕ
past_hull u = loops_where (λ x. not x.stands.passed && passes_hull x.stands.around.path (out-Loop x.head)) u

abbrev pub past_bound : Unit → List ℕ
past_bound u = loops_where (λ x. not x.stands.passed && passes_bound x.stands.around.path (out-Loop x.head)) u

-- BadMark: a mark does not fit, or it is a parallel one within a parallel nest
abbrev pub bad_mark : Unit → List ℕ
bad_mark u = loops_where (λ x. is_bad_mark x.stands.around.in_nest x.stands.around.level (out-Loop x.head).mark (front_of x.head)) u

-- what is refused of the arrays of a program, and of the loops of its unit
abbrev pub refused_arrays : Program → List Finding
refused_arrays p =
    refused_at (Refusal.LimitPassed Limit.Dims) (too_many_dimensions p) ++ refused_at (Refusal.LimitPassed Limit.Elements) (too_many_elements p)

abbrev pub refused_loops : Unit → List Finding
refused_loops u =
    refused_at (Refusal.LimitPassed Limit.Loops) (too_deep u)
    ++ (refused_at (Refusal.LimitPassed Limit.Hull) (past_hull u)
    ++ (refused_at (Refusal.LimitPassed Limit.Step) (too_far u)
    ++ (refused_at (Refusal.LimitPassed Limit.Bound) (past_bound u)
    ++ refused_at Refusal.BadMark (bad_mark u))))

abbrev pub refused_limits : Program → List Finding
refused_limits p = refused_arrays p ++ refused_loops p.unit

abbrev pub refused_references : Unit → List Finding
refused_references u = refused_at (Refusal.LimitPassed Limit.References) (larger_than most_references u)

-- ---- the answer

-- the refusal of a program that is reported: its names are looked at first, then its bounds, sizes and steps, then limits and
-- marks, and then references
abbrev pub refusal_of : Program → Option Finding
refusal_of p = first_of_groups (refused_names p ∷ refused_forms p ∷ refused_limits p ∷ refused_references p.unit ∷ [])

-- Nothing in a program is refused.
abbrev pub IsLawful : RawUnit → Type 0
IsLawful u = refusal_of (program_of u) ≡ None

abbrev pub unless_refused : Option Finding → Unit → Result Unit Finding
unless_refused (Some f) u = Err f
unless_refused None u = Ok u

-- the unit of a program, or the refusal that is reported
abbrev pub resolution_of : Program → Result Unit Finding
resolution_of p = unless_refused (refusal_of p) p.unit

-- The unit of a lawful program, and of any other the refusal that is reported.
abbrev pub resolved : RawUnit → Result Unit Finding
resolved u = resolution_of (program_of u)
