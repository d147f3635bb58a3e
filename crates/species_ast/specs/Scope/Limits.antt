-- The limits of programs on loops, arrays and steps, and how a step has to go.
use Rattle.std.specs.Prelude.{ℕ, Bool, ◌&&◌, nat_le, nat_lt, length, ℤ, pos, int_lt, unsigned_abs}
use Rattle.std.specs.List.{list_all}
use Rattle.species_ast.specs.declared.tree.Test.{Test}
use Rattle.species_ast.specs.declared.tree.Test.TheVariants as test
use Rattle.species_ast.specs.declared.tree.Array.{Array}
use Rattle.species_ast.specs.Evaluation.{product}

-- loops inside one another
abbrev pub most_loops : ℕ
most_loops = 8

-- LimitPassed(Loops): so many stand around a loop
abbrev pub is_too_deep : ℕ → Bool
is_too_deep level = nat_le most_loops level

-- dimensions and elements of an array
abbrev pub most_dimensions : ℕ
most_dimensions = 4

-- LimitPassed(Dims)
abbrev pub has_too_many_dimensions : Array → Bool
has_too_many_dimensions a = nat_lt most_dimensions (length a.dims)

abbrev pub most_elements : ℕ
most_elements = 16777216

-- each size of an array is at least 1, and the number of its elements is not too great, so that no size is
abbrev pub has_lawful_sizes : Array → Bool
has_lawful_sizes a = list_all (nat_le 1) a.dims && nat_le (product a.dims) most_elements

-- the size of a step
abbrev pub most_step : ℕ
most_step = 65536

-- LimitPassed(Step)
abbrev pub is_too_far : ℤ → Bool
is_too_far step = nat_lt most_step (unsigned_abs step)

-- array references of an outermost loop: in a program that is read, and in one that a pass made
abbrev pub most_references : ℕ
most_references = 512

abbrev pub most_references_made : ℕ
most_references_made = 1024

-- a step goes in the direction of the test, and so is not 0
abbrev pub goes : Test → ℤ → Bool
goes test.Lt step = int_lt (pos 0) step
goes test.Le step = int_lt (pos 0) step
goes test.Gt step = int_lt step (pos 0)
goes test.Ge step = int_lt step (pos 0)
