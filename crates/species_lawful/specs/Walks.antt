-- The walks over a program, of which the first tells the second which locals are the iterators of loops.
use Rattle.std.specs.Prelude.{ℕ, List, [], map, flat_map}
use Rattle.std.specs.List.{filter_map}
use Rattle.species_ast.specs.declared.raw.RawUnit.{RawUnit}
use Rattle.species_ast.specs.Scope.Statements.{stmt_fragment}
use Rattle.species_ast.specs.Scope.Programs.{Program, header_of, arrays_of, program_with, iterators_of}

-- a walk over a program, where these locals are the iterators of loops
abbrev pub walk_of : RawUnit → List ℕ → Program
walk_of u = program_with (filter_map header_of u.items) (flat_map arrays_of u.items) u.function (map stmt_fragment u.body)

-- the locals that loops without a type have as their iterators
abbrev pub taken_in : RawUnit → List ℕ
taken_in u = iterators_of (walk_of u []).names
